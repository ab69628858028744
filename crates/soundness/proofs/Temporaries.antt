-- The assertions on temporaries, for a run from the builder's first state: whatever bits the nets have, some
-- assignment with these bits satisfies them, and only one does, as far as the run's names go. So the temporaries
-- leave nothing to choice.
use mathlib.Core.Path.{◌≡◌, refl, sym, ◌∙◌}
use mathlib.Core.Bool.{false}
use mathlib.Core.List.{List, [], ◌∷◌, append-nil}
use Prim.Native.Nat.{ℕ, suc, ◌*◌}
use native.Mathlib.Omega.{arith}
use lib.ListN.{get_or, replicate}
use Rattle.engine.specs.Call.{Call}
use Rattle.engine.specs.Meaning.{Value, bool, Assignment, value_at, run, Earlier, Holds, Sat}
use Rattle.engine.proofs.Laws.{holds_sat, sat_holds}
use Rattle.engine.specs.Sorts.{Sort}
use Rattle.smt.specs.Prog.{Prog, Age, Half}
use Rattle.smt.specs.Emit.{St, net_name, place, emit}
use Rattle.smt.specs.Formula.{NetBits}
use Rattle.soundness.proofs.Safe.{safe}
use Rattle.smt.proofs.ShowsShift.{get_d_pad}
use Rattle.soundness.proofs.Solve.{extends_refl, no_temp, assigned, assigned-net, exec, Met, meets, sorts}
use Rattle.soundness.proofs.Solve.{sorted_earlier}
use Rattle.soundness.proofs.Unique.{Agree, temporaries_unique}

-- Nothing is made and nothing is known.
abbrev pub first : ℕ → St
first slots = record { next = 0; temp = 0; names = replicate (4 * slots) 0; marks = replicate slots 0 }

none-known : (n j k : ℕ) → get_or (replicate n 0) j 0 ≡ suc k → ⊥
none-known n j k e = let z : ◌≡◌ {A = ℕ} 0 (suc k) = sym (get_d_pad [] n 0 j) ∙ e in omega arith

module _ (slots : ℕ) (b : NetBits) {A : Type 0} (m : Prog A) (Q : ℕ → A → Type 0)
    (ok : (σ : ℕ → Sort) → safe slots σ 0 m Q) where
  abbrev calls : List Call
  calls = (emit m (first slots)).calls

  abbrev values : List Value
  values = (exec b m (first slots) [] []).values

  -- The assignment that running the calls gives.
  abbrev pub chosen : Assignment
  chosen = assigned b (exec b m (first slots) [] []).temps

  met : Met slots b values (exec b m (first slots) [] []).temps 0 calls (emit m (first slots)).st
      (emit m (first slots)).res
      (exec b m (first slots) [] []) Q
  met =
      meets slots b values _ m (first slots) [] [] Q
      (record { terms = refl; temps = refl; names = λ a i h k e. absurd (none-known (4 * slots) (place a i h) k e) })
      (extends_refl (bool false) values) (extends_refl no_temp _) (ok (sorts (value_at values)))

  holds : Holds chosen (value_at values) 0 calls
  holds = rw (append-nil calls) at (met.holds [] tt)

  earlier : Earlier 0 calls
  earlier = sorted_earlier (sorts (value_at values)) 0 calls (rw (append-nil calls) at (met.sorted [] tt))

  pub temporaries_exist : Sat chosen calls
  temporaries_exist = holds_sat chosen (value_at values) calls earlier holds

  pub temporaries-only : (η : Assignment) → Sat η calls → ((a : Age) (i : ℕ) (h : Half) → η (net_name a i h)
      ≡ b a i h ∷ []) → Agree chosen η calls
  temporaries-only η sat nets =
      rw (append-nil calls)
      at (temporaries_unique slots chosen η (value_at values) (value_at (run η [] calls))
      (λ a i h. assigned-net b (exec b m (first slots) [] []).temps a i h ∙ sym (nets a i h)) m (first slots) [] Q
      (λ a i h k e. absurd (none-known (4 * slots) (place a i h) k e)) (λ k l. absurd (omega arith))
      (ok (sorts (value_at values)))
      (met.holds [] tt) (rw (append-nil calls) (sat_holds η calls earlier sat)) tt)
