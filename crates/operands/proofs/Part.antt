-- The cell of a record, read from the part of the list that begins at the record's first field: every number, net,
-- control, constant and pattern of the part is that of the list so many places on. Assumes nothing.
use mathlib.Core.Path.{◌≡◌, refl, ap, ap₂, ◌∙◌}
use mathlib.Core.Bool.{Bool}
use mathlib.Core.List.{List, ◌∷◌}
use Prim.Native.Nat.{ℕ, zero, suc, ◌+◌, ◌*◌, ◌-◌}
use native.Mathlib.Omega.{arith}
use lib.Dec.{eqb}
use lib.ListN.{get_or, drop, take, length, length-drop}
use lib.Seq.{get_or-drop, take_all}
use Rattle.logic.specs.Net.{Net}
use Rattle.logic.proofs.TableLaws.{tab_ext}
use Rattle.logic.specs.declared.Trit.{Trit}
use Rattle.cell.specs.Cell as C
use Rattle.cell.specs.Cell.{Cell, Control}
use Rattle.cell.specs.declared.Operation.{Operation}
use Rattle.cell.specs.declared.Operation.TheVariants as O
use Rattle.cell_reader.specs.Parse.{number_in, net_in, control_in, nets_in, trits_in, patterns_in, cell_in}

-- A part up to the end of the list.
pub part_all : (w : List ℕ) (at : ℕ) → take (length w - at) (drop at w) ≡ drop at w
part_all w at = take_all (length w - at) (drop at w) (rw (length-drop at w) (omega arith))

-- A function of three or four arguments, at equal ones.
ap₃ : {A B C D : Type 0} (f : A → B → C → D) {a a' : A} {b b' : B} {c c' : C} → a ≡ a' → b ≡ b' → c ≡ c' → f a b c
    ≡ f a' b' c'
ap₃ f a b c = cc

ap₄ : {A B C D E : Type 0} (f : A → B → C → D → E) {a a' : A} {b b' : B} {c c' : C} {d d' : D}
    → a ≡ a' → b ≡ b' → c ≡ c' → d ≡ d' → f a b c d ≡ f a' b' c' d'
ap₄ f a b c d = cc

-- A flip-flop from its fields, and that it is known by them.
abbrev dff_of : Bool → Control → Control → Control → Control → List Net → List Trit → List Trit → Cell
dff_of over clock clear reset enable dat clear_value reset_value =
    C.dff record {
      reset_over_enable = over;
      clock = clock;
      clear = clear;
      reset = reset;
      enable = enable;
      dat = dat;
      clear_value = clear_value;
      reset_value = reset_value;
    }

dff-same : {o o' : Bool} {c c' l l' r r' e e' : Control} {d d' : List Net} {u u' v v' : List Trit}
    → o ≡ o' → c ≡ c' → l ≡ l' → r ≡ r' → e ≡ e' → d ≡ d' → u ≡ u' → v ≡ v' → dff_of o c l r e d u v
    ≡ dff_of o' c' l' r' e' d' u' v'
dff-same over clock clear reset enable dat clear-value reset-value = cc

module _ (w : List ℕ) (at : ℕ) where
  abbrev part : List ℕ
  part = drop at w

  -- ---- what stands at place k of the part stands at `place` of the list

  word_in : (k place : ℕ) → at + k ≡ place → get_or part k 0 ≡ get_or w place 0
  word_in k place e = get_or-drop at w k 0 ∙ ap (λ (p : ℕ). get_or w p 0) e

  pub number_in_lem : (k place : ℕ) → at + k ≡ place → number_in part k ≡ number_in w place
  number_in_lem k place e = rw (word_in k place e)

  pub net_in_lem : (k place : ℕ) → at + k ≡ place → net_in part k ≡ net_in w place
  net_in_lem k place e = rw (word_in k place e)

  pub control_in_lem : (k place : ℕ) → at + k ≡ place → control_in part k ≡ control_in w place
  control_in_lem k place e = rw (word_in k place e)

  pub nets_in_lem : (n k place : ℕ) → at + k ≡ place → nets_in part n k ≡ nets_in w n place
  nets_in_lem n k place e = tab_ext n _ _ (λ i l. net_in_lem (k + i) (place + i) (omega arith))

  pub trits_in_lem : (n k place : ℕ) → at + k ≡ place → trits_in part n k ≡ trits_in w n place
  trits_in_lem n k place e = tab_ext n _ _ (λ i l. rw (word_in (k + i) (place + i) (omega arith)))

  pub patterns_in_lem : (n count k place : ℕ) → at + k ≡ place → patterns_in part n count k ≡ patterns_in w n count place
  unfolding patterns_in
  patterns_in_lem n zero k place e = refl
  patterns_in_lem n (suc count) k place e =
      let m = number_in w place in
      rw (number_in_lem k place e) (ap₂ (λ (p : List (List Trit)) (ps : List (List (List Trit))). p ∷ ps)
      (tab_ext m _ _ (λ i l. trits_in_lem n (k + 1 + i * n) (place + 1 + i * n) (omega arith)))
      (patterns_in_lem n count (k + 1 + m * n) (place + 1 + m * n) (omega arith)))

  -- ---- by layout

  pub first_in : number_in part 0 ≡ number_in w at
  first_in = number_in_lem 0 at (omega arith)

  pub cell_in_lem : (op : Operation) → cell_in part op 0 ≡ cell_in w op at
  cell_in_lem O.Void = refl
  cell_in_lem O.Note = refl
  cell_in_lem O.IoBuf = ap C.io_buf first_in
  cell_in_lem O.Input = ap C.input first_in
  cell_in_lem (O.Unary o) = rw first_in (ap (C.unary o) (nets_in_lem (number_in w at) 1 (at + 1) refl))
  cell_in_lem (O.Binary o) =
      let n = number_in w at in
      rw first_in (ap₂ (C.binary o) (nets_in_lem n 1 (at + 1) refl) (nets_in_lem n (1 + n) (at + 1 + n) (omega arith)))
  cell_in_lem O.Mux =
      let n = number_in w at in
      rw first_in
      (ap₃ C.mux (net_in_lem 1 (at + 1) refl) (nets_in_lem n 2 (at + 2) refl)
      (nets_in_lem n (2 + n) (at + 2 + n) (omega arith)))
  cell_in_lem O.Adc =
      let n = number_in w at in
      rw first_in (ap₃ C.adc (nets_in_lem n 1 (at + 1) refl) (nets_in_lem n (1 + n) (at + 1 + n) (omega arith))
      (net_in_lem (1 + n + n) (at + 1 + n + n) (omega arith)))
  cell_in_lem O.Aig = ap₂ C.aig (control_in_lem 0 at (omega arith)) (control_in_lem 1 (at + 1) refl)
  cell_in_lem (O.Shift o) =
      let n = number_in w at in
      let m = number_in w (at + 1) in
      rw (first_in, number_in_lem 1 (at + 1) refl) (ap₃ (C.shift o) (nets_in_lem n 3 (at + 3) refl)
      (nets_in_lem m (3 + n) (at + 3 + n) (omega arith)) (number_in_lem 2 (at + 2) refl))
  cell_in_lem O.Match =
      let n = number_in w at in
      let k = number_in w (at + 1) in
      rw (first_in, number_in_lem 1 (at + 1) refl) (ap₃ C.match (nets_in_lem n 3 (at + 3) refl) (net_in_lem 2 (at + 2) refl)
      (patterns_in_lem n k (3 + n) (at + 3 + n) (omega arith)))
  cell_in_lem O.Assign =
      let n = number_in w at in
      let u = number_in w (at + 1) in
      rw (first_in, number_in_lem 1 (at + 1) refl) (ap₄ C.assign (nets_in_lem n 4 (at + 4) refl) (net_in_lem 3 (at + 3) refl)
      (nets_in_lem u (4 + n) (at + 4 + n) (omega arith)) (number_in_lem 2 (at + 2) refl))
  cell_in_lem O.Dff =
      let n = number_in w at in
      rw first_in
      (dff-same (ap (λ (m : ℕ). eqb m 1) (number_in_lem 1 (at + 1) refl)) (control_in_lem 2 (at + 2) refl)
      (control_in_lem 3 (at + 3) refl)
      (control_in_lem 4 (at + 4) refl) (control_in_lem 5 (at + 5) refl) (nets_in_lem n 6 (at + 6) refl)
      (trits_in_lem n (6 + n) (at + 6 + n) (omega arith)) (trits_in_lem n (6 + n + n) (at + 6 + n + n) (omega arith)))
