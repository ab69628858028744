-- prepare_shift is made at the width that the code works out from the counts of the nets. Assumes nothing.
use mathlib.Core.Path.{◌≡◌, sym, ap₂, subst, ◌∙◌}
use mathlib.Core.Bool.{Bool}
use mathlib.Core.List.{List}
use Prim.Native.Nat.{ℕ}
use lib.ListN.{length}
use Rattle.logic.specs.Net.{Net}
use Rattle.logic.proofs.TableLaws.{length-tab}
use Rattle.cell_reader.specs.Parse.{nets_in}
use Rattle.smt.specs.Prog.{Prog}
use Rattle.smt.specs.Builder.{Prepared, shift_width, extended, zext, prepare_at, prepare_shift}
use Rattle.builder.specs.declared.Counts.{Counts}
use Rattle.builder.specs.Ran.{Ran}

-- A value of n nets of some words, an amount of m nets of others.
module _ (past : ℕ → Bool) (words : List ℕ) (n at : ℕ) (fields : List ℕ) (m place stride : ℕ) (signed : Bool) where
  abbrev nets : List Net
  nets = nets_in words n at

  abbrev amount : List Net
  amount = nets_in fields m place

  -- prepare_shift at a width.
  abbrev prepared : ℕ → Prog Prepared
  prepared w = prepare_at past w (extended signed nets w) (zext amount w) stride

  pub ran_prepared : (width : ℕ) → width ≡ shift_width n m stride
      → {calls names marks calls' names' marks' : List ℕ} {c c' : Counts} {p : Prepared}
      → Ran (prepared width) calls names marks c calls' names' marks' c' p
      → Ran (prepare_shift past nets amount stride signed) calls names marks c calls' names' marks' c' p
  ran_prepared width exact {calls} {names} {marks} {calls'} {names'} {marks'} {c} {c'} {p} ran =
      let same : width ≡ shift_width (length nets) (length amount) stride =
      exact ∙ sym (ap₂ (λ (i j : ℕ). shift_width i j stride) (length-tab n _) (length-tab m _)) in
      subst (λ (w : ℕ). Ran (prepared w) calls names marks c calls' names' marks' c' p) same ran
