-- Laws of nodes: each is an asserted cell or a replaced Void, its slots are those of its outputs, and all its slots
-- have one rule.
use mathlib.Core.Path.{◌≡◌, refl, sym, ap, ◌∙◌}
use mathlib.Core.Bool.{Bool, true, false, not, false≢true, true≢false}
use mathlib.Core.Option.{Option, none, some}
use Prim.Native.Nat.{ℕ, ◌+◌, ◌≤◌, ◌<◌}
use native.Mathlib.Omega.{arith}
use lib.Dec.{eqb}
use Rattle.logic.specs.Net.{Net}
use Rattle.cell.specs.Cell.{output_len, slots_of}
use Rattle.cell.specs.Design.{Design, Placed, total, cell_of}
use Rattle.cell.specs.Role.{Role, void, given, dff, other, role, is_void}
use Rattle.right.specs.Shape.{Shaped}
use Rattle.right.specs.Laid.{Laid, CellLaid}
use Rattle.working_out.proofs.OrderLaws.{eqb-false}
use Rattle.working_out.specs.Reading.{replacement, source_by, source, asserted_by, asserted, node_of}
use Rattle.working_out.proofs.LayoutLaws.{Located, belongs, belongs_low, at, void-one, node_first}
use Rattle.working_out.proofs.LayoutLaws.{source-some, source-same, each_at}
use Rattle.working_out.specs.Loop.{buf_of, rule_cell, node_cell}

-- ---- Roles.
asserted_plain : (r : Role) (w : ℕ) (o : Option Net) → is_void r ≡ false → source_by r w o ≡ false → asserted_by r w ≡ true
asserted_plain void w o v e = absurd (true≢false v)
asserted_plain given w o v e = absurd (true≢false e)
asserted_plain dff w o v e = rw e
asserted_plain other w o v e = rw e

-- A Void that is no source has a replacement.
pub replaced : (r : Role) (w : ℕ) (o : Option Net) → is_void r ≡ true → source_by r w o ≡ false
    → (to : Net) × (o ≡ some to)
replaced void w none v e = absurd (true≢false e)
replaced void w (some to) v e = (to, refl)
replaced given w o v e = absurd (false≢true v)
replaced dff w o v e = absurd (false≢true v)
replaced other w o v e = absurd (false≢true v)

-- A Void with a replacement is no source.
pub void_node : (r : Role) (w : ℕ) (to : Net) → is_void r ≡ true → source_by r w (some to) ≡ false
void_node void w to v = refl
void_node given w to v = absurd (false≢true v)
void_node dff w to v = absurd (false≢true v)
void_node other w to v = absurd (false≢true v)

wide_of : (w : ℕ) → not (eqb w 0) ≡ true → (eqb w 0 ≡ false) × (0 < w)
wide_of w e = go (eqb w 0) refl e
  where
    go : (b : Bool) → eqb w 0 ≡ b → not b ≡ true → (eqb w 0 ≡ false) × (0 < w)
    go true q f = absurd (false≢true f)
    go false q f = let ne = eqb-false w 0 q in (q, omega arith)

-- An asserted cell is no Void, is not of width 0, and no source.
pub record Asserted (r : Role) (w : ℕ) : Type 0 where
  pub plain : is_void r ≡ false
  pub wide : 0 < w
  pub node : (o : Option Net) → source_by r w o ≡ false

pub asserted-is : (r : Role) (w : ℕ) → asserted_by r w ≡ true → Asserted r w
asserted-is void w e = absurd (false≢true e)
asserted-is given w e = absurd (false≢true e)
asserted-is dff w e = let h = wide_of w e in record { plain = refl; wide = h.1; node = λ o. h.0 }
asserted-is other w e = let h = wide_of w e in record { plain = refl; wide = h.1; node = λ o. h.0 }

-- ---- The cell of a node's rule.
module _ (d : Design) (i : ℕ) where
  pub node_plain : is_void (role (cell_of d i).cell) ≡ false → node_cell d i ≡ (cell_of d i).cell
  unfolding node_cell
  node_plain v = go (replacement d i)
    where
      go : (o : Option Net) → rule_cell (cell_of d i).cell o ≡ (cell_of d i).cell
      go none = refl
      go (some to) = rw v

  pub node_void : (to : Net) → is_void (role (cell_of d i).cell) ≡ true → replacement d i ≡ some to
      → node_cell d i ≡ buf_of to
  unfolding node_cell
  node_void to v r = rw (r, v)

  -- A node is an asserted cell, or a replaced Void.
  pub data Kind : Type 0 where
    of_cell : is_void (role (cell_of d i).cell) ≡ false → asserted (cell_of d i).cell ≡ true
        → node_cell d i ≡ (cell_of d i).cell → Kind
    of_replaced : (to : Net) → is_void (role (cell_of d i).cell) ≡ true → replacement d i ≡ some to
        → node_cell d i ≡ buf_of to → Kind

  pub kind : source d i ≡ false → Kind
  kind node = go (is_void (role (cell_of d i).cell)) refl
    where
      go : (b : Bool) → is_void (role (cell_of d i).cell) ≡ b → Kind
      go true v =
          let to = replaced (role (cell_of d i).cell) (output_len (cell_of d i).cell) (replacement d i) v node in
          of_replaced to.0 v to.1 (node_void to.0 v to.1)
      go false v =
          of_cell v (asserted_plain (role (cell_of d i).cell) (output_len (cell_of d i).cell) (replacement d i) v node)
          (node_plain v)

  pub node_asserted : source d i ≡ false → asserted (node_cell d i) ≡ true
  node_asserted node = go (kind node)
    where
      go : Kind → asserted (node_cell d i) ≡ true
      go (of_cell v a e) = rw e a
      go (of_replaced to v r e) = rw e

  -- Its outputs take the slots of its cell.
  pub node_slots : source d i ≡ false → output_len (node_cell d i) ≡ slots_of (cell_of d i).cell
  node_slots node = go (kind node)
    where
      go : Kind → output_len (node_cell d i) ≡ slots_of (cell_of d i).cell
      go (of_cell v a e) =
          let wide = (asserted-is (role (cell_of d i).cell) (output_len (cell_of d i).cell) a).wide in
          rw e (omega arith)
      go (of_replaced to v r e) = rw e (sym (void-one (cell_of d i).cell v))

module _ (d : Design) (laid : Laid d) where
  pub node_shaped : (i : ℕ) → i < total d → source d i ≡ false → Shaped (node_cell d i)
  node_shaped i l node = go (kind d i node)
    where
      go : Kind d i → Shaped (node_cell d i)
      go (of_cell v a e) =
          rw e (each_at (CellLaid d) d.cells 0 (total d) i laid.run (omega arith) l laid.cells).shaped
      go (of_replaced to v r e) = rw e tt

  -- Slot i of node a.
  module _ (i a : ℕ) (e : node_of d i ≡ some a) where
    abbrev p : Located 0 (total d) d.cells i (cell_of d i)
    p = at d laid i (belongs_low d laid i a e)

    same-cell : cell_of d a ≡ cell_of d i
    same-cell =
        let name = (belongs d i a e).named in
        let low = p.low in
        let high = p.high in
        p.whole a (omega arith) (omega arith)

    pub same_node : node_cell d a ≡ node_cell d i
    same_node = go (is_void (role (cell_of d i).cell)) refl
      where
        go : (b : Bool) → is_void (role (cell_of d i).cell) ≡ b → node_cell d a ≡ node_cell d i
        go true v =
            let name = (belongs d i a e).named in
            let one = void-one (cell_of d i).cell v in
            let low = p.low in
            let high = p.high in
            let same : a ≡ i = omega arith in
            ap (node_cell d) same
        go false v = node_plain d a (rw same-cell v) ∙ ap (λ (q : Placed). q.cell) same-cell ∙ sym (node_plain d i v)

    -- It is one of the node's outputs.
    pub inside : (a ≤ i) × (i < a + output_len (node_cell d i))
    inside =
        let name = (belongs d i a e).named in
        let low = p.low in
        let high = p.high in
        let wide = node_slots d i (belongs d i a e).node in
        omega arith

    -- And every output of the node belongs to the node.
    pub outputs_belong : (o : ℕ) → o < output_len (node_cell d i) → node_of d (a + o) ≡ some a
    outputs_belong o l =
        let b = belongs d i a e in
        let name = b.named in
        let wide = node_slots d i b.node in
        let same : cell_of d (a + o) ≡ cell_of d i = p.whole (a + o) (omega arith) (omega arith) in
        let low = belongs_low d laid i a e in
        let node = source-same d laid i (a + o) low (omega arith) (omega arith) ∙ b.node in
        source-some d (a + o) node ∙ ap some (ap (λ (q : Placed). q.slot) same ∙ name)

  -- An asserted cell is the node of its first slot.
  pub cell_node : (i : ℕ) → i < total d → asserted (cell_of d i).cell ≡ true
      → (node_of d (cell_of d i).slot ≡ some (cell_of d i).slot) × (node_cell d (cell_of d i).slot ≡ (cell_of d i).cell)
  cell_node i l a =
      let h = asserted-is (role (cell_of d i).cell) (output_len (cell_of d i).cell) a in
      let e = source-some d i (h.node (replacement d i)) in
      (node_first d laid i (cell_of d i).slot e, same_node i (cell_of d i).slot e ∙ node_plain d i h.plain)

  -- A replaced Void is the node of its slot.
  pub void-is_node : (i : ℕ) (to : Net) → is_void (role (cell_of d i).cell) ≡ true → replacement d i ≡ some to
      → node_of d i ≡ some i
  void-is_node i to v r =
      let node : source d i ≡ false = rw r (void_node (role (cell_of d i).cell) (output_len (cell_of d i).cell) to v) in
      let e = source-some d i node in
      let p = at d laid i (belongs_low d laid i (cell_of d i).slot e) in
      let one = void-one (cell_of d i).cell v in
      let low = p.low in
      let high = p.high in
      let here : (cell_of d i).slot ≡ i = omega arith in
      e ∙ ap some here
