-- Laws of obligations: one is not broken where its from refines its to, and from and to are of one width.
use mathlib.Core.Path.{◌≡◌, refl, sym, ◌∙◌}
use mathlib.Core.Logic.{◌↔◌}
use mathlib.Core.Bool.{Bool, true, false, cond, ◌&&◌, false≢true}
use mathlib.Core.List.{List, [], ◌∷◌}
use Prim.Native.Nat.{ℕ, ◌+◌}
use lib.Dec.{T, eqb}
use lib.ListN.{length, length-map}
use Rattle.logic.proofs.TableLaws.{length-tab}
use Rattle.logic.specs.declared.Trit.{Trit}
use Rattle.cell.specs.declared.Mode.{Mode}
use Rattle.cell.specs.Cell.{Cell, output_len}
use Rattle.cell.specs.Cell as c
use Rattle.cell.specs.Design.{Design, Placed, NetPair}
use Rattle.cell.specs.Each.{Each}
use Rattle.cell.proofs.EachLaws.{each_append, each_ported}
use Rattle.right.specs.Laid.{Laid, CellLaid, Replaces, MayReplace}
use Rattle.rules.specs.Trits.{refines}
use Rattle.rules.specs.Refine.{Refine, empty, both}
use Rattle.rules.specs.CellRule.{Trits, outputs}
use Rattle.rules.proofs.CellRuleLaws.{cell_rule-length}
use Rattle.working_out.proofs.OrderLaws.{true_of, not-false}
use Rattle.working_out.specs.Reading.{reads_past, Pair, equal, of_void, of_dffs, ordinary, pair_of}
use Rattle.working_out.specs.Obligations.{Obligation, cell, cell_obligations, of_pair, net_obligations, obligations}
use Rattle.working_out.specs.Obligations.{as_read, from_of, to_of, all_refine, broken}

both_true : (a b : Bool) → (a && b) ≡ true → T a × (b ≡ true)
both_true true b e = (tt, e)
both_true false b e = absurd (false≢true e)

refine_of : (a b : List Trit) → all_refine a b ≡ true → Refine a b
unfolding all_refine
refine_of [] [] e = empty
refine_of [] (y ∷ b) e = absurd (false≢true e)
refine_of (x ∷ a) [] e = absurd (false≢true e)
refine_of (x ∷ a) (y ∷ b) e = let h = both_true (refines x y) (all_refine a b) e in both h.0 (refine_of a b h.1)

of_refine : {a b : List Trit} → Refine a b → all_refine a b ≡ true
unfolding all_refine
of_refine empty = refl
of_refine (both {x = x} {y = y} h r) = rw (true_of (refines x y) h) (of_refine r)

-- An obligation is not broken where its from refines its to.
pub unbroken : (d : Design) (θ : Trits) (o : Obligation) → (broken d θ o ≡ false) ↔ Refine (from_of θ o) (to_of d θ o)
unbroken d θ o = (holds, λ r. rw (of_refine r))
  where
    holds : broken d θ o ≡ false → Refine (from_of θ o) (to_of d θ o)
    holds e = refine_of (from_of θ o) (to_of d θ o) (not-false (all_refine (from_of θ o) (to_of d θ o)) e)

-- From and to are of one width.
abbrev pub Fits : Design → Trits → Obligation → Type 0
Fits d θ o = length (from_of θ o) ≡ length (to_of d θ o)

module _ (d : Design) (θ : Trits) where
  cells_fit : (reps : List Placed) → Each (CellLaid d) reps → Each (Replaces d) reps
      → Each (Fits d θ) (cell_obligations reps)
  unfolding cell_obligations
  cells_fit [] laid new = tt
  cells_fit (p ∷ reps) laid new =
      each_append (Fits d θ) (cond (eqb (output_len p.cell) 0) [] (cell p ∷ [])) (cell_obligations reps)
      (here (eqb (output_len p.cell) 0)) (cells_fit reps laid.1 new.1)
    where
      out : length (outputs p.slot (output_len p.cell)) ≡ output_len p.cell
      out = length-tab (output_len p.cell) (λ o. p.slot + o)

      never_input : (a : Cell) → MayReplace a → (n : ℕ) → a ≡ c.input n → ⊥
      never_input a may n e = rw e at may

      new-width : length (to_of d θ (cell p)) ≡ output_len p.cell
      new-width =
          cell_rule-length (reads_past d) θ (outputs p.slot (output_len p.cell)) p.cell laid.0.shaped
          (never_input p.cell new.0.new) out

      here : (b : Bool) → Each (Fits d θ) (cond b [] (cell p ∷ []))
      here true = tt
      here false = (length-map (outputs p.slot (output_len p.cell)) θ.now ∙ out ∙ sym new-width, tt)

  nets_fit : (pairs : List NetPair) → Each (Fits d θ) (net_obligations d pairs)
  unfolding net_obligations
  nets_fit [] = tt
  nets_fit (p ∷ pairs) =
      each_append (Fits d θ) (of_pair d.mode (pair_of d p) p) (net_obligations d pairs) (here d.mode (pair_of d p))
      (nets_fit pairs)
    where
      here : (mode : Mode) (k : Pair) → Each (Fits d θ) (of_pair mode k p)
      here mode equal = tt
      here mode of_void = tt
      here mode of_dffs = (refl, each_ported (Fits d θ) mode (as_read p ∷ []) (refl, tt))
      here mode ordinary = (refl, tt)

  pub obligations_fit : Laid d → Each (Fits d θ) (obligations d)
  obligations_fit laid =
      each_append (Fits d θ) (cell_obligations d.cell_reps) (net_obligations d d.net_reps)
      (cells_fit d.cell_reps laid.new_cells laid.replaces) (nets_fit d.net_reps)
