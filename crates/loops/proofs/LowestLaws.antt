-- Laws of the lowest number that passes a test, and of an element of a table.
use mathlib.Core.Path.{◌≡◌, refl, sym, ◌∙◌}
use mathlib.Core.Bool.{Bool, true, false, cond, true≢false}
use mathlib.Core.Option.{Option, none, some}
use Prim.Native.Nat.{ℕ, zero, suc, ◌≤◌, ◌<◌}
use native.Mathlib.Omega.{arith}
use native.Mathlib.Decide.{ℕ_discrete, dec_lt}
use lib.ListN.{get_or}
use Rattle.logic.specs.Table.{tab}
use Rattle.working_out.specs.Order.{option, is_some, lowest}
use Rattle.working_out.proofs.OrderLaws.{none≢some, some_inj, lowest-none}

-- An element of a table.
pub get_d_tab : (n i : ℕ) (f : ℕ → ℕ) → i < n → get_or (tab n f) i 0 ≡ f i
unfolding tab
get_d_tab zero i f l = absurd (omega arith)
get_d_tab (suc n) zero f l = refl
get_d_tab (suc n) (suc i) f l = get_d_tab n i (λ j. f (suc j)) (omega arith)

-- What is below the lowest does not pass.
pub lowest_below : (n : ℕ) (p : ℕ → Bool) (i : ℕ) → lowest n p ≡ some i → (j : ℕ) → j < i → p j ≡ false
unfolding lowest
lowest_below zero p i e j l = absurd (none≢some e)
lowest_below (suc n) p i e j l = go (λ d. lowest_below n p i d j l) (lowest n p) refl (p n) refl e
  where
    go : (lowest n p ≡ some i → p j ≡ false) → (o : Option ℕ) → lowest n p ≡ o → (b : Bool) → p n ≡ b
        → option o (cond b (some n) none) some ≡ some i → p j ≡ false
    go rec none d true q f = let same : n ≡ i = some_inj f in lowest-none n p d j (omega arith)
    go rec none d false q f = absurd (none≢some f)
    go rec (some k) d b q f = rec (d ∙ f)

-- The lowest is no higher than any that passes.
pub lowest_le : (n : ℕ) (p : ℕ → Bool) (i : ℕ) → lowest n p ≡ some i → (j : ℕ) → p j ≡ true → i ≤ j
lowest_le n p i e j t = go (dec_lt j i)
  where
    go : Dec (j < i) → i ≤ j
    go (yes l) = absurd (true≢false (sym t ∙ lowest_below n p i e j l))
    go (no l) = omega arith

-- Where one passes there is a lowest.
pub lowest-there : (n : ℕ) (p : ℕ → Bool) (j : ℕ) → j < n → p j ≡ true → is_some (lowest n p) ≡ true
lowest-there n p j l t = go (lowest n p) refl
  where
    go : (o : Option ℕ) → lowest n p ≡ o → is_some o ≡ true
    go none e = absurd (true≢false (sym t ∙ lowest-none n p e j l))
    go (some i) e = refl

-- An optional number that is there, with what it is.
pub is-some : (o : Option ℕ) → is_some o ≡ true → (i : ℕ) × (o ≡ some i)
is-some none e = absurd (true≢false (sym e))
is-some (some i) e = (i, refl)

-- Tests that agree below a bound have the same lowest.
pub lowest_ext : (n : ℕ) (p q : ℕ → Bool) → ((i : ℕ) → i < n → p i ≡ q i) → lowest n p ≡ lowest n q
unfolding lowest
lowest_ext zero p q h = refl
lowest_ext (suc n) p q h = rw (h n (omega arith), lowest_ext n p q (λ i l. h i (omega arith)))

-- None passes.
pub lowest-is-none : (n : ℕ) (p : ℕ → Bool) → ((j : ℕ) → j < n → p j ≡ false) → lowest n p ≡ none
unfolding lowest
lowest-is-none zero p fails = refl
lowest-is-none (suc n) p fails =
    rw (lowest-is-none n p (λ j h. fails j (omega arith)), fails n (omega arith))

-- The number i passes and none below it.
pub lowest-is : (n : ℕ) (p : ℕ → Bool) (i : ℕ) → i < n → p i ≡ true → ((j : ℕ) → j < i → p j ≡ false)
    → lowest n p ≡ some i
unfolding lowest
lowest-is zero p i h passes fails = absurd (omega arith)
lowest-is (suc n) p i h passes fails = go (ℕ_discrete i n) (λ l. lowest-is n p i l passes fails)
  where
    go : Dec (i ≡ n) → (i < n → lowest n p ≡ some i) → option (lowest n p) (cond (p n) (some n) none) some ≡ some i
    go (yes e) rec = rw (← e, lowest-is-none i p fails, passes)
    go (no ne) rec = rw (rec (omega arith))
