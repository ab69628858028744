-- The nodes in the order of a design's list are its nodes by number, so that the flags put along the list are those of
-- the design.
use mathlib.Core.Path.{◌≡◌, refl, sym, ap, ◌∙◌}
use mathlib.Core.Bool.{Bool, true, false, not, cond, ◌&&◌, ◌||◌, true≢false}
use mathlib.Core.Option.{Option, none, some}
use mathlib.Core.List.{List, [], ◌∷◌, ◌++◌}
use Prim.Native.Nat.{ℕ, ◌+◌, ◌≤◌, ◌<◌}
use native.Mathlib.Omega.{arith}
use native.Mathlib.Decide.{dec_lt}
use lib.Dec.{eqb}
use lib.ListN.{length, get_or, set, replicate, length-set, length-replicate, get_or-replicate}
use lib.Seq.{get_or-set_same, get_or-set_other}
use borrow.Author.Tests.{eqb-true, eqb-false, eq-eqb, ne_eqb, lt-ltb, le-ltb, le-leb}
use Rattle.logic.specs.Net.{Net, constant, slot, driver_of_net}
use Rattle.logic.specs.declared.Trit.{Trit}
use Rattle.logic.specs.declared.Driver.TheVariants.{Constant, Output}
use Rattle.logic.proofs.TableLaws.{as_tab, tab_ext}
use Rattle.cell.specs.Cell.{output_len, slots_of}
use Rattle.cell.specs.Design.{Design, Placed, NetPair, total, cell_in, cell_of}
use Rattle.cell.specs.Role.{Role, void, given, dff, other, role, is_void, is_dff}
use Rattle.right.specs.Laid.{Run, Laid}
use Rattle.working_out.specs.Order.{option}
use Rattle.working_out.specs.System.{any, owns, is_node}
use Rattle.working_out.specs.Reading.{Pair, equal, of_void, of_dffs, ordinary, same_net, replacement_in, replacement}
use Rattle.working_out.specs.Reading.{is_none, source_by, asserted_by, asserted, node_of, net_role, pair_of}
use Rattle.working_out.proofs.LayoutLaws.{at, void-one}
use Rattle.loops.specs.Graph.{node_flags}
use Rattle.reads_table.specs.Nodes.{cell_nodes, void_by, slots_in, pair_nodes, flag_all}

-- ---- a list of nodes that is flagged

or-false : (b : Bool) → (b || false) ≡ b
or-false true = refl
or-false false = refl

-- Does a number stand in a list?
abbrev among : ℕ → List ℕ → Bool
among a = any (λ x. eqb x a)

among_append : (a : ℕ) (l m : List ℕ) → among a (l ++ m) ≡ (among a l || among a m)
unfolding any
among_append a [] m = refl
among_append a (x ∷ l) m = rw (among_append a l m) (go (eqb x a) (among a l) (among a m))
  where
    go : (p q r : Bool) → (p || (q || r)) ≡ ((p || q) || r)
    go true q r = refl
    go false q r = refl

-- Nodes flagged one list after another.
pub flag_append : (flags a b : List ℕ) → flag_all flags (a ++ b) ≡ flag_all (flag_all flags a) b
unfolding flag_all
flag_append flags [] b = refl
flag_append flags (x ∷ a) b = flag_append (set flags x 1) a b

flag_length : (flags l : List ℕ) → length (flag_all flags l) ≡ length flags
unfolding flag_all
flag_length flags [] = refl
flag_length flags (x ∷ l) = flag_length (set flags x 1) l ∙ length-set flags x 1

-- The flag of a number that stands in the list is 1, any other is left.
flag_at : (flags l : List ℕ) (a : ℕ) → a < length flags
    → get_or (flag_all flags l) a 0 ≡ cond (among a l) 1 (get_or flags a 0)
unfolding flag_all any
flag_at flags [] a low = refl
flag_at flags (x ∷ l) a low =
    flag_at (set flags x 1) l a (rw (length-set flags x 1) low) ∙ go (eqb x a) refl (among a l)
  where
    go : (b : Bool) → eqb x a ≡ b → (rest : Bool)
        → cond rest 1 (get_or (set flags x 1) a 0) ≡ cond (b || rest) 1 (get_or flags a 0)
    go b e true = go_true b
      where
        go_true : (b : Bool) → 1 ≡ cond (b || true) 1 (get_or flags a 0)
        go_true true = refl
        go_true false = refl
    go true e false = rw (eqb-true x a e) (get_or-set_same flags a 1 0 low)
    go false e false = get_or-set_other flags x a 1 0 (λ same. eqb-false x a e (sym same))

-- ---- the asserted cells

-- No cell heads a slot before the first.
none_before : (cells : List Placed) (s e a : ℕ) → Run s cells e → a < s → among a (cell_nodes cells) ≡ false
unfolding cell_nodes any
none_before [] s e a run low = refl
none_before (p ∷ cells) s e a run low =
    among_append a (cond (asserted p.cell) (p.slot ∷ []) []) (cell_nodes cells)
    ∙ rw (none_before cells (s + slots_of p.cell) e a run.1 (omega arith)) (go (asserted p.cell))
  where
    go : (b : Bool) → (among a (cond b (p.slot ∷ []) []) || false) ≡ false
    go true = let start = run.0 in rw (ne_eqb p.slot a (λ same. omega arith))
    go false = refl

-- A number stands among the asserted cells where it is the first slot of one.
cell-among : (cells : List Placed) (s e a : ℕ) → Run s cells e → s ≤ a → a < e
    → among a (cell_nodes cells) ≡ (asserted (cell_in cells a).cell && eqb (cell_in cells a).slot a)
unfolding cell_nodes cell_in any
cell-among [] s e a run low high = absurd (omega arith)
cell-among (p ∷ cells) s e a run low high =
    among_append a (cond (asserted p.cell) (p.slot ∷ []) []) (cell_nodes cells)
    ∙ go (dec_lt a (s + slots_of p.cell)) (λ past. cell-among cells (s + slots_of p.cell) e a run.1 past high)
  where
    first : (b : Bool) → (among a (cond b (p.slot ∷ []) []) || false) ≡ (b && eqb p.slot a)
    first true = or-false (eqb p.slot a || false) ∙ or-false (eqb p.slot a)
    first false = refl

    later : (b : Bool) → eqb p.slot a ≡ false → among a (cond b (p.slot ∷ []) []) ≡ false
    later true apart = rw apart
    later false apart = refl

    go : Dec (a < s + slots_of p.cell)
        → (s + slots_of p.cell ≤ a
        → among a (cell_nodes cells) ≡ (asserted (cell_in cells a).cell && eqb (cell_in cells a).slot a))
        → (among a (cond (asserted p.cell) (p.slot ∷ []) []) || among a (cell_nodes cells))
        ≡ (asserted (cell_in (p ∷ cells) a).cell && eqb (cell_in (p ∷ cells) a).slot a)
    go (yes y) rest =
        let start = run.0 in
        rw (
          le-leb p.slot a (omega arith),
          lt-ltb a (p.slot + slots_of p.cell) (omega arith),
          none_before cells (s + slots_of p.cell) e a run.1 y,
        ) (first (asserted p.cell))
    go (no n) rest =
        let start = run.0 in
        let apart : eqb p.slot a ≡ false = ne_eqb p.slot a (λ same. omega arith) in
        rw (
          le-leb p.slot a (omega arith),
          le-ltb a (p.slot + slots_of p.cell) (omega arith),
          later (asserted p.cell) apart,
        ) (rest (omega arith))

-- ---- the replaced Voids

-- A constant is no Void.
constant-none : (t : Trit) (kind : Pair) → slots_in (void_by (Constant t) kind) ≡ []
constant-none t equal = refl
constant-none t of_void = refl
constant-none t of_dffs = refl
constant-none t ordinary = refl

-- A net replacement of slot i: it replaces slot a where i is a, unless its nets are equal.
of_slot : (i a : ℕ) (same : Bool) → eqb i a ≡ same → (alike void-i void-a dffs : Bool)
    → (same ≡ true → void-i ≡ void-a) → (rest : Option Net) (to : Net)
    → (among a (slots_in (void_by (Output (record { 0 = i }))
    (cond alike equal (cond void-i of_void (cond dffs of_dffs ordinary))))) || (void-a && not (is_none rest)))
    ≡ (void-a && not (is_none (cond (same && not alike) (some to) rest)))
unfolding any
of_slot i a true e true void-i void-a dffs voids rest to = refl
of_slot i a true e false true true dffs voids rest to = rw e
of_slot i a true e false true false dffs voids rest to = absurd (true≢false (voids refl))
of_slot i a true e false false true dffs voids rest to = absurd (true≢false (sym (voids refl)))
of_slot i a true e false false false true voids rest to = refl
of_slot i a true e false false false false voids rest to = refl
of_slot i a false e true void-i void-a dffs voids rest to = refl
of_slot i a false e false true void-a dffs voids rest to = rw e
of_slot i a false e false false void-a true voids rest to = refl
of_slot i a false e false false void-a false voids rest to = refl

-- The same of any net replacement, before those in the rest of the list.
of_pair_lem : (d : Design) (from to : Net) (a : ℕ) (rest : Option Net)
    → (among a (slots_in (void_by (driver_of_net from) (pair_of d (record { from = from; to = to }))))
    || (is_void (role (cell_of d a).cell) && not (is_none rest)))
    ≡ (is_void (role (cell_of d a).cell)
    && not (is_none (cond (same_net from (slot a) && not (same_net from to)) (some to) rest)))
unfolding any
of_pair_lem d (constant t) to a rest = rw (constant-none t (pair_of d (record { from = constant t; to = to })))
of_pair_lem d (slot i) to a rest =
    of_slot i a (eqb i a) refl (same_net (slot i) to) (is_void (role (cell_of d i).cell))
    (is_void (role (cell_of d a).cell)) (is_dff (role (cell_of d i).cell) && is_dff (net_role d to))
    (λ e. ap (λ (k : ℕ). is_void (role (cell_of d k).cell)) (eqb-true i a e)) rest to

-- A number stands among the replaced Voids where it is a Void's slot with a replacement.
pair-among : (d : Design) (pairs : List NetPair) (a : ℕ)
    → among a (pair_nodes d pairs) ≡ (is_void (role (cell_of d a).cell) && not (is_none (replacement_in pairs a)))
unfolding pair_nodes replacement_in any
pair-among d [] a = go (is_void (role (cell_of d a).cell))
  where
    go : (b : Bool) → false ≡ (b && false)
    go true = refl
    go false = refl
pair-among d (p ∷ pairs) a =
    among_append a (slots_in (void_by (driver_of_net p.from) (pair_of d p))) (pair_nodes d pairs)
    ∙ rw (pair-among d pairs a) (of_pair_lem d p.from p.to a (replacement_in pairs a))

-- ---- the nodes

-- A cell that has a rule is a node where its width is not 0.
node_wide : (s a : ℕ) (narrow : Bool) → option (cond narrow none (some s)) false (λ b. eqb b a)
    ≡ ((not narrow && eqb s a) || false)
node_wide s a true = refl
node_wide s a false = sym (or-false (eqb s a))

-- A number is a node as an asserted cell's first slot or as a replaced Void, whose only slot is its first.
node_by : (r : Role) (w : ℕ) (o : Option Net) (s a : ℕ) → (is_void r ≡ true → eqb s a ≡ true)
    → option (cond (source_by r w o) none (some s)) false (λ b. eqb b a)
    ≡ ((asserted_by r w && eqb s a) || (is_void r && not (is_none o)))
node_by void w none s a first = refl
node_by void w (some to) s a first = first refl
node_by given w o s a first = refl
node_by dff w o s a first = node_wide s a (eqb w 0)
node_by other w o s a first = node_wide s a (eqb w 0)

module _ (d : Design) (laid : Laid d) where
  -- The nodes in the order of the list are those by number.
  node_among : (a : ℕ) → a < total d → among a (cell_nodes d.cells ++ pair_nodes d d.net_reps) ≡ is_node (node_of d) a
  unfolding owns node_of
  node_among a low =
      among_append a (cell_nodes d.cells) (pair_nodes d d.net_reps)
      ∙ rw (cell-among d.cells 0 (total d) a laid.run (omega arith) low, pair-among d d.net_reps a)
      (sym (node_by (role (cell_of d a).cell) (output_len (cell_of d a).cell) (replacement d a) (cell_of d a).slot a
      first))
    where
      first : is_void (role (cell_of d a).cell) ≡ true → eqb (cell_of d a).slot a ≡ true
      first is =
          let here = at d laid a low in
          let one = void-one (cell_of d a).cell is in
          let starts = here.low in
          let ends = here.high in
          eq-eqb (cell_of d a).slot a (omega arith)

  -- The flags put along the list, where all were 0, are those of the nodes.
  pub flags_are : flag_all (flag_all (replicate (total d) 0) (cell_nodes d.cells)) (pair_nodes d d.net_reps)
      ≡ node_flags d
  unfolding node_flags
  flags_are =
      let zeros : List ℕ = replicate (total d) 0 in
      let nodes = cell_nodes d.cells ++ pair_nodes d d.net_reps in
      let size : length zeros ≡ total d = length-replicate {A = ℕ} (total d) 0 in
      sym (flag_append zeros (cell_nodes d.cells) (pair_nodes d d.net_reps))
      ∙ as_tab (total d) (flag_all zeros nodes) 0 (flag_length zeros nodes ∙ size)
      ∙ tab_ext (total d) _ _ (λ a low.
      flag_at zeros nodes a (omega arith) ∙ rw (node_among a low, get_or-replicate {A = ℕ} (total d) a 0 0 low))
