-- Laws of the nets that a Match compares and reads: those of the first position, alternate or pattern and those of the
-- rest, and how few they are. Assumes nothing.
use mathlib.Core.Path.{◌≡◌, refl}
use mathlib.Core.Bool.{Bool}
use mathlib.Core.List.{List, [], ◌∷◌, ◌++◌}
use Prim.Native.Nat.{ℕ, zero, suc, ◌+◌, ◌*◌, ◌-◌, ◌<◌, ◌≤◌}
use native.Mathlib.Omega.{arith}
use lib.ListN.{length, length-append}
use Rattle.logic.specs.Net.{Net}
use Rattle.logic.specs.Table.{tab}
use Rattle.logic.specs.declared.Trit.{Trit}
use Rattle.logic.specs.declared.Trit.TheVariants.{Zero, One, Undef}
use Rattle.logic.proofs.TableLaws.{length-tab}
use Rattle.rules.specs.Reads.{current_nets, compared, compared_by_any, compared_nets}
use Rattle.cell_reader.specs.Parse.{number_in, net_in, nets_in, trit_in, trits_in, patterns_in}
use Rattle.cell_reads.specs.Reads.{Few}
use Rattle.cell_reads.proofs.Runs.{run-first, stride_first, tab-none, current_append, few_of_nets}

-- The first position, and the rest.
compared-first : (v : Net) (value : List Net) (t : Trit) (pattern : List Trit)
    → compared (v ∷ value) (t ∷ pattern) ≡ compared (v ∷ []) (t ∷ []) ++ compared value pattern
unfolding compared
compared-first v value Undef pattern = refl
compared-first v value Zero pattern = refl
compared-first v value One pattern = refl

-- An alternate compares at most as many nets as it has constants.
pub few-compared : (value : List Net) (pattern : List Trit) → length (compared value pattern) ≤ length pattern
unfolding compared
few-compared [] pattern = omega arith
few-compared (v ∷ value) [] = omega arith
few-compared (v ∷ value) (Undef ∷ pattern) = omega (arith, few-compared value pattern)
few-compared (v ∷ value) (Zero ∷ pattern) = omega (arith, few-compared value pattern)
few-compared (v ∷ value) (One ∷ pattern) = omega (arith, few-compared value pattern)

module _ (past : ℕ → Bool) (w : List ℕ) where
  -- ---- the positions of an alternate

  pub position_first : (n net at : ℕ) → 0 < n
      → current_nets past (compared (nets_in w n net) (trits_in w n at))
      ≡ current_nets past (compared (net_in w net ∷ []) (trit_in w at ∷ []))
      ++ current_nets past (compared (nets_in w (n - 1) (net + 1)) (trits_in w (n - 1) (at + 1)))
  position_first n net at some =
      rw (run-first n net (net_in w) some, run-first n at (trit_in w) some, compared-first, current_append)

  pub position-none : (n net at : ℕ) → n ≤ 0 → current_nets past (compared (nets_in w n net) (trits_in w n at)) ≡ []
  unfolding current_nets compared
  position-none n net at none = rw (tab-none n (λ i. net_in w (net + i)) none)

  pub few_of_position : (v : Net) (t : Trit) → length (current_nets past (compared (v ∷ []) (t ∷ []))) ≤ 1
  few_of_position v t = omega (arith, few_of_nets past (compared (v ∷ []) (t ∷ [])), few-compared (v ∷ []) (t ∷ []))

  -- ---- the alternates of a pattern

  module _ (value : List Net) (n : ℕ) where
    pub alternate-first : (a at : ℕ) → 0 < a
        → current_nets past (compared_by_any value (tab a (λ i. trits_in w n (at + i * n))))
        ≡ current_nets past (compared value (trits_in w n at))
        ++ current_nets past (compared_by_any value (tab (a - 1) (λ i. trits_in w n (at + n + i * n))))
    unfolding compared_by_any
    alternate-first a at some = rw (stride_first a n at (trits_in w n) some, current_append)

    pub alternate-none : (a at : ℕ) → a ≤ 0
        → current_nets past (compared_by_any value (tab a (λ i. trits_in w n (at + i * n)))) ≡ []
    unfolding current_nets compared_by_any
    alternate-none a at none = rw (tab-none a (λ i. trits_in w n (at + i * n)) none)

    pub few_of_alternate : (at : ℕ) → length (current_nets past (compared value (trits_in w n at))) ≤ n
    few_of_alternate at =
        let size : length (trits_in w n at) ≡ n = length-tab n _ in
        omega
        (arith, few_of_nets past (compared value (trits_in w n at)), few-compared value (trits_in w n at))

    few_by_any : (a : ℕ) (f : ℕ → ℕ) → length (compared_by_any value (tab a (λ i. trits_in w n (f i)))) ≤ a * n
    unfolding compared_by_any tab
    few_by_any zero f = omega arith
    few_by_any (suc a) f =
        let first = few-compared value (trits_in w n (f 0)) in
        let size : length (trits_in w n (f 0)) ≡ n = length-tab n _ in
        let rest = few_by_any a (λ i. f (suc i)) in
        omega (
          arith,
          length-append (compared value (trits_in w n (f 0)))
              (compared_by_any value (tab a (λ i. trits_in w n (f (suc i))))),
        )

    pub few_of_pattern : (a : ℕ) (f : ℕ → ℕ)
        → length (current_nets past (compared_by_any value (tab a (λ i. trits_in w n (f i))))) ≤ a * n
    few_of_pattern a f =
        omega
        (arith, few_of_nets past (compared_by_any value (tab a (λ i. trits_in w n (f i)))), few_by_any a f)

    -- ---- the patterns

    pub pattern_first : (k at : ℕ) → 0 < k
        → current_nets past (compared_nets value (patterns_in w n k at))
        ≡ current_nets past (compared_by_any value (tab (number_in w at) (λ i. trits_in w n (at + 1 + i * n))))
        ++ current_nets past (compared_nets value (patterns_in w n (k - 1) (at + 1 + number_in w at * n)))
    unfolding compared_nets patterns_in
    pattern_first zero at some = absurd (omega arith)
    pattern_first (suc k) at some = let one : suc k - 1 ≡ k = omega arith in rw (one, current_append)

    pub pattern_none : (k at : ℕ) → k ≤ 0 → current_nets past (compared_nets value (patterns_in w n k at)) ≡ []
    unfolding current_nets compared_nets patterns_in
    pattern_none zero at none = refl
    pattern_none (suc k) at none = absurd (omega arith)

    -- Each pattern has few alternates: the first has, and the rest have.
    pub few-first : (k at : ℕ) → 0 < k → Few (patterns_in w n k at)
        → (number_in w at ≤ 64) × Few (patterns_in w n (k - 1) (at + 1 + number_in w at * n))
    unfolding patterns_in
    few-first zero at some few = absurd (omega arith)
    few-first (suc k) at some few =
        let one : suc k - 1 ≡ k = omega arith in
        let size = length-tab (number_in w at) (λ i. trits_in w n (at + 1 + i * n)) in
        rw one (omega (arith, few.0), few.1)
