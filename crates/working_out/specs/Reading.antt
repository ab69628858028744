-- Document 01, "Reading nets": which slots read their past trit, which nets are sources, which Voids are replaced, and
-- which flip-flops are joined. Every slot that is no source belongs to a node: an asserted cell, or a replaced Void.
use Rattle.std.specs.Prelude.{◌≡◌, Bool, true, false, not, cond, ◌&&◌, List, [], ◌∷◌, ℕ, eqb, ltb}
use Rattle.std.proofs.Math.Option.{Option, none, some}
use Rattle.logic.specs.Trit.{trit_number}
use Rattle.logic.specs.Net.{Net, constant, slot}
use Rattle.cell.specs.Cell.{Cell, output_len}
use Rattle.cell.specs.Design.{Design, NetPair, cell_of}
use Rattle.cell.specs.Role.{Role, void, given, dff, other, role, is_void, is_dff}
use Rattle.cell.specs.Each.{Each}
use Rattle.rules.specs.CellRule.{Trits, of_net}

-- ---- A slot of a base Dff, of width 0 too, reads its past trit; every other slot its current one.
abbrev pub reads_past : Design → ℕ → Bool
reads_past d i = ltb i d.base && is_dff (role (cell_of d i).cell)

-- ---- Net replacements. A replacement of equal nets counts as none.
abbrev pub same_net : Net → Net → Bool
same_net (constant t) (constant u) = eqb (trit_number t) (trit_number u)
same_net (constant t) (slot j) = false
same_net (slot i) (constant u) = false
same_net (slot i) (slot j) = eqb i j

-- What replaces a slot's net.
unfoldable pub replacement_in : List NetPair → ℕ → Option Net
replacement_in [] i = none
replacement_in (p ∷ pairs) i =
    cond (same_net p.from (slot i) && not (same_net p.from p.to)) (some p.to) (replacement_in pairs i)

abbrev pub replacement : Design → ℕ → Option Net
replacement d = replacement_in d.net_reps

abbrev pub is_none : {A : Type 0} → Option A → Bool
is_none none = true
is_none (some x) = false

-- ---- Sources: outputs of Input and IoBuf, of width 0 too, Voids without replacement, slots of other cells of output
-- width 0. (And all past nets.)
abbrev pub source_by : Role → ℕ → Option Net → Bool
source_by void width to = is_none to
source_by given width to = true
source_by dff width to = eqb width 0
source_by other width to = eqb width 0

abbrev pub source : Design → ℕ → Bool
source d i = source_by (role (cell_of d i).cell) (output_len (cell_of d i).cell) (replacement d i)

-- A cell is asserted unless it is skipped (output width 0), or its outputs are given.
abbrev pub asserted_by : Role → ℕ → Bool
asserted_by void width = false
asserted_by given width = false
asserted_by dff width = not (eqb width 0)
asserted_by other width = not (eqb width 0)

abbrev pub asserted : Cell → Bool
asserted a = asserted_by (role a) (output_len a)

-- The node that a slot belongs to, named by its first slot: an asserted cell, or a replaced Void; none for a source.
unfoldable pub node_of : Design → ℕ → Option ℕ
node_of d i = cond (source d i) none (some (cell_of d i).slot)

-- ---- What a net replacement is: of equal nets, of a Void's, of a Dff's by a Dff's (base or added), or any other.
-- Cell replacements do not count: a net is of the old cell.
pub data Pair : Type 0 where
  equal of_void of_dffs ordinary : Pair

abbrev pub net_role : Design → Net → Role
net_role d (constant t) = other
net_role d (slot i) = role (cell_of d i).cell

abbrev pub pair_of : Design → NetPair → Pair
pair_of d p =
    cond (same_net p.from p.to) equal
    (cond (is_void (net_role d p.from)) of_void
    (cond (is_dff (net_role d p.from) && is_dff (net_role d p.to)) of_dffs ordinary))

-- A Dff's net replaced by a Dff's joins just those two past nets. Given trits are alike on joined flip-flops.
abbrev pub Joined : Design → NetPair → Type 0
Joined d p = pair_of d p ≡ of_dffs

abbrev pub Alike : Design → Trits → Type 0
Alike d g = Each (λ p. Joined d p → of_net g.was p.from ≡ of_net g.was p.to) d.net_reps
