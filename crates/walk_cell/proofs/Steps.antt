-- The steps of a cell: none at output width 0, else those of the cell and, where one is given, of the new cell. Assumes
-- nothing.
use mathlib.Core.Path.{◌≡◌, refl}
use mathlib.Core.Bool.{Bool, true, false, cond}
use mathlib.Core.Option.{Option, none, some}
use mathlib.Core.List.{List, [], ◌∷◌}
use Prim.Native.Nat.{ℕ}
use borrow.Author.Tests.{eq-eqb, ne_eqb}
use Rattle.cell.specs.Cell.{Cell}
use Rattle.smt.specs.Prog.{Prog, TritVec}
use Rattle.order.specs.Verify.{declared, asserted, obliged, is_input, add_cell, new_cell}
use Rattle.net_pairs.specs.declared.Walked.{Walked}
use Rattle.net_pairs.specs.Does.{obliged_in, Does}
use Rattle.net_pairs.proofs.Does.{does_none, does_append}
use Rattle.walk_cell.specs.Steps.{steps_at}

module _ (past : ℕ → Bool) (slot : ℕ) (a : Cell) where
  -- A cell that is added obliges nothing.
  pub added_none : (width : ℕ) → obliged_in (add_cell past slot width a ∷ []) ≡ 0
  unfolding obliged_in
  added_none width = go (is_input a) _ _
    where
      go : (b : Bool) (m : Prog TritVec) (n : Prog ℕ) → obliged_in (cond b (declared m) (asserted n) ∷ []) ≡ 0
      go true m n = refl
      go false m n = refl

  pub does_skip : (width : ℕ) (new : Option Cell) (calls names marks eqs : List ℕ) (s : Walked) → width ≡ 0
      → Does (steps_at past slot width a new) calls names marks eqs s calls names marks eqs s
  does_skip width new calls names marks eqs s empty = rw (eq-eqb width 0 empty) (does_none calls names marks eqs s)

  -- A cell without a new one, and one with.
  pub does_old : (width : ℕ) {calls names marks eqs calls' names' marks' : List ℕ} {s s' : Walked} → (width ≡ 0 → ⊥)
      → Does (add_cell past slot width a ∷ []) calls names marks eqs s calls' names' marks' eqs s'
      → Does (steps_at past slot width a none) calls names marks eqs s calls' names' marks' eqs s'
  does_old width wide old = rw (ne_eqb width 0 wide) old

  pub does_both : (width : ℕ) (b : Cell) {calls names marks eqs calls₁ names₁ marks₁ calls₂ names₂ marks₂ eqs₂ : List ℕ}
      {s s₁ s₂ : Walked} → (width ≡ 0 → ⊥)
      → Does (add_cell past slot width a ∷ []) calls names marks eqs s calls₁ names₁ marks₁ eqs s₁
      → Does (obliged (new_cell past slot width b) ∷ []) calls₁ names₁ marks₁ eqs s₁ calls₂ names₂ marks₂ eqs₂ s₂
      → Does (steps_at past slot width a (some b)) calls names marks eqs s calls₂ names₂ marks₂ eqs₂ s₂
  does_both width b wide old new =
      rw (ne_eqb width 0 wide)
      (does_append (add_cell past slot width a ∷ []) (obliged (new_cell past slot width b) ∷ []) old new)
