-- For an accepted list without a current loop: working out ends with a trit on every node, solves the design's
-- equations, is the only solution, and turning given Xs into 0 or 1 changes no trit that was 0 or 1.
use mathlib.Core.Path.{◌≡◌, refl}
use mathlib.Core.Bool.{true, false, false≢true}
use mathlib.Core.List.{[], ◌∷◌}
use Prim.Native.Nat.{ℕ, ◌+◌}
use Rattle.logic.specs.Net.{slot}
use Rattle.logic.proofs.TableLaws.{length-tab}
use Rattle.logic.specs.declared.Trit.{Trit}
use Rattle.logic.specs.declared.Trit.TheVariants.{Undef}
use Rattle.cell.specs.Cell.{Cell, output_len}
use Rattle.cell.specs.Cell as c
use Rattle.cell.specs.Design.{Design, NetPair}
use Rattle.cell.specs.Each.{Each}
use Rattle.cell.proofs.EachLaws.{each_map}
use Rattle.right.specs.Laid.{Laid}
use Rattle.rules.specs.CellRule.{Trits, outputs, read}
use Rattle.rules.specs.Refine.{Refines}
use Rattle.rules.proofs.RefineLaws.{refine_at}
use Rattle.rules.proofs.CellRuleLaws.{cell_rule-length}
use Rattle.rules.proofs.LocalLaws.{cell_rule-monotone, cell_rule_local}
use Rattle.working_out.specs.Reading.{reads_past, source, asserted, of_void, pair_of}
use Rattle.working_out.specs.Loop.{has_loop}
use Rattle.working_out.proofs.EquationsLaws.{FullWidth, CellKeeps, CellLocal}
use Rattle.working_out.proofs.Solutions.{related_by, worked_out_by_lem, only_by}
use Rattle.working_out.specs.WorkingOut.{trit_rule, worked_out, whole, Solves}

-- An asserted cell is no Input and no IoBuf.
never_input : (a : Cell) → asserted a ≡ true → (n : ℕ) → a ≡ c.input n → ⊥
never_input a h n e = false≢true (rw e at h)

never_io_buf : (a : Cell) → asserted a ≡ true → (n : ℕ) → a ≡ c.io_buf n → ⊥
never_io_buf a h n e = false≢true (rw e at h)

-- ---- The rules of cells, on trits: their widths, what they look at, and that they keep refinement.
pub trit_wide : (d : Design) (was : ℕ → Trit) → FullWidth (trit_rule d was) d
trit_wide d was s a shaped h now =
    cell_rule-length (reads_past d) (record { now = now; was = was }) (outputs s (output_len a)) a shaped (never_input a h)
    (length-tab (output_len a) (λ o. s + o))

pub trit_local : (d : Design) (was : ℕ → Trit) → CellLocal d (trit_rule d was)
trit_local d was s a shaped h σ τ k =
    cell_rule_local (reads_past d) (record { now = σ; was = was }) (record { now = τ; was = was })
    (outputs s (output_len a)) a (record { now = k; was = λ i. refl }) (λ n e. absurd (never_io_buf a h n e))

pub trit_keeps : (d : Design) (was was' : ℕ → Trit) → ((i : ℕ) → Refines (was i) (was' i))
    → CellKeeps d Undef Undef (trit_rule d was) (trit_rule d was') Refines
trit_keeps d was was' refined s a shaped h σ τ k o =
    let refine = cell_rule-monotone (reads_past d) (record { now = σ; was = was }) (record { now = τ; was = was' }) in
    refine_at
    (refine (outputs s (output_len a)) a (record { now = k; was = refined }) (λ n e. absurd (never_io_buf a h n e)))
    o Undef Undef tt

-- ---- The theorems.
module _ (d : Design) (laid : Laid d) (no_loop : has_loop d ≡ false) where
  -- Working out solves the equations.
  pub worked_out_lem : (g : Trits) → Solves d g (worked_out d g)
  worked_out_lem g =
      worked_out_by_lem d laid no_loop (trit_rule d g.was) Undef (trit_wide d g.was) (trit_local d g.was) g.now

  -- A replaced Void gets its replacement's `to` as read.
  pub voids_as_read : (g : Trits) → Each (λ (p : NetPair). pair_of d p ≡ of_void → (i : ℕ) → p.from ≡ slot i
      → worked_out d g i ≡ read (reads_past d) (whole d g) p.to) d.net_reps
  voids_as_read g = each_map d.net_reps (λ p h v i from. first (h v i from)) (worked_out_lem g).voids
    where
      first : {t u : Trit} → t ∷ [] ≡ u ∷ [] → t ≡ u
      first {t} {u} e = cc

  -- It is the only solution.
  pub only : (g : Trits) (now : ℕ → Trit) → Solves d g now → (i : ℕ) → now i ≡ worked_out d g i
  only g now =
      only_by d laid no_loop (trit_rule d g.was) Undef (trit_wide d g.was) (trit_local d g.was) g.now now

  -- Turning given Xs into 0 or 1 changes no current trit that was 0 or 1, be joined flip-flops alike or not.
  pub monotone : (g g' : Trits) → ((i : ℕ) → source d i ≡ true → Refines (g.now i) (g'.now i))
      → ((i : ℕ) → Refines (g.was i) (g'.was i)) → (i : ℕ) → Refines (worked_out d g i) (worked_out d g' i)
  monotone g g' now was =
      related_by d laid (trit_rule d g.was) (trit_rule d g'.was) Undef Undef Refines no_loop
      (trit_wide d g.was) (trit_wide d g'.was) (trit_keeps d g.was g'.was was)
      g.now (worked_out d g) g'.now (worked_out d g') (worked_out_lem g) (worked_out_lem g') now
