-- Laws of `scan_many`: what a loop that counts down needs at its end, at a turn and at a fault; and the same for the
-- three loops over patterns.
use Prim.Native.Nat.{ℕ, zero, suc, ◌+◌, ◌-◌, ◌<◌, ◌≤◌}
use mathlib.Core.Path.{◌≡◌, refl, ap, ◌∙◌}
use mathlib.Core.List.{List}
use native.Mathlib.Numerals.{sub-one}
use native.Mathlib.Omega.{arith}
use Rattle.std.specs.Prelude.{Result, Ok, Err, Some, None}
use Rattle.logic.specs.declared.Fault.{Fault}
use Rattle.fields.specs.Field.{fault, on_read, scan_many, number_at, bit_at, constant_at}
use Rattle.fields.specs.Pattern.{alternate_at, pattern_at, patterns_at}

module _ (step : ℕ → Result ℕ Fault) where
  pub many-none : (n at : ℕ) → n ≤ 0 → scan_many step n at ≡ Ok at
  unfolding scan_many
  many-none zero at none = refl
  many-none (suc n) at none = absurd (omega arith)

  pub many-step : (n at : ℕ) → 0 < n → scan_many step n at ≡ on_read (step at) Err (scan_many step (n - 1))
  unfolding scan_many
  many-step zero at some = absurd (omega arith)
  many-step (suc n) at some = rw sub-one

  pub many_turn : (n at : ℕ) {next : ℕ} → 0 < n → step at ≡ Ok next → scan_many step n at ≡ scan_many step (n - 1) next
  many_turn n at some clean = many-step n at some ∙ rw clean

  pub many-fault : (n at : ℕ) {e : Fault} → 0 < n → step at ≡ Err e → scan_many step n at ≡ Err e
  many-fault n at some refused = many-step n at some ∙ rw refused

  -- The same for a loop that counts up to n: before turn i, n - i are left.
  pub many_all : (n i at : ℕ) → n ≤ i → scan_many step (n - i) at ≡ Ok at
  many_all n i at all = many-none (n - i) at (omega arith)

  pub many_next : (n i at : ℕ) {next : ℕ} → i < n → step at ≡ Ok next →
      scan_many step (n - i) at ≡ scan_many step (n - (i + 1)) next
  many_next n i at {next} more clean =
      let one : n - i - 1 ≡ n - (i + 1) = omega arith in rw (← one) (many_turn (n - i) at (omega arith) clean)

  pub many_err : (n i at : ℕ) {e : Fault} → i < n → step at ≡ Err e → scan_many step (n - i) at ≡ Err e
  many_err n i at more refused = many-fault (n - i) at (omega arith) refused

-- What a loop over `scan_many` that counts up asks for.
pub ruleset scans = (many_all, many_next, many_err)

-- What is left to scan before `alternate` alternates of the first of `pattern` patterns.
abbrev pub in_pattern : List ℕ → ℕ → ℕ → ℕ → ℕ → ℕ → Result ℕ Fault
in_pattern w n end pattern alternate at =
    on_read (scan_many (alternate_at w n end) alternate at) Err (patterns_at w n end (pattern - 1))

-- The same before `word` words of the first of these alternates.
abbrev pub in_alternate : List ℕ → ℕ → ℕ → ℕ → ℕ → ℕ → ℕ → Result ℕ Fault
in_alternate w n end pattern alternate word at =
    on_read (on_read (scan_many (constant_at w end) word at) Err (scan_many (alternate_at w n end) (alternate - 1)))
    Err (patterns_at w n end (pattern - 1))

module _ (w : List ℕ) (n end : ℕ) where
  pub no_pattern : (k at : ℕ) → k ≡ 0 → patterns_at w n end k at ≡ Ok at
  unfolding patterns_at
  no_pattern k at none = many-none _ k at (omega arith)

  pub pattern_fault : (k at : ℕ) {e : Fault} → (k ≡ 0 → ⊥) → number_at w 64 end at ≡ Err e → patterns_at w n end k
      at ≡ Err e
  unfolding patterns_at pattern_at
  pattern_fault k at some refused = many-step _ k at (omega arith) ∙ rw refused

  pub pattern_begins :
      (k at : ℕ) {alternates next : ℕ} → (k ≡ 0 → ⊥) → number_at w 64 end at ≡ Ok (alternates, next) →
      patterns_at w n end k at ≡ in_pattern w n end k alternates next
  unfolding patterns_at pattern_at
  pattern_begins k at some counted = many-step _ k at (omega arith) ∙ rw counted

  pub pattern_ends : (k a at : ℕ) → a ≤ 0 → in_pattern w n end k a at ≡ patterns_at w n end (k - 1) at
  pattern_ends k a at none = rw (many-none (alternate_at w n end) a at)

  pub alternate_begins : (k a at : ℕ) → 0 < a → in_pattern w n end k a at ≡ in_alternate w n end k a n at
  unfolding alternate_at
  alternate_begins k a at some =
      ap (λ (s : Result ℕ Fault). on_read s Err (patterns_at w n end (k - 1))) (many-step _ a at some)

  pub alternate-ends : (k a j at : ℕ) → j ≤ 0 → in_alternate w n end k a j at ≡ in_pattern w n end k (a - 1) at
  alternate-ends k a j at none = rw (many-none (constant_at w end) j at)

  pub word_turn :
      (k a j at : ℕ) {next : ℕ} → 0 < j → bit_at w end at ≡ Ok (Some next) → in_alternate w n end k a j at
      ≡ in_alternate w n end k a (j - 1) next
  unfolding constant_at
  word_turn k a j at {next} some constant =
      let clean : constant_at w end at ≡ Ok next = rw constant in
      rw (many_turn (constant_at w end) j at some clean)

  pub word_other : (k a j at : ℕ) → 0 < j → bit_at w end at ≡ (Ok None) → in_alternate w n end k a j at
      ≡ Err (fault 8 at)
  unfolding constant_at
  word_other k a j at some other =
      let refused : constant_at w end at ≡ Err (fault 8 at) = rw other in
      rw (many-fault (constant_at w end) j at some refused)

  pub word_fault : (k a j at : ℕ) {e : Fault} → 0 < j → bit_at w end at ≡ Err e → in_alternate w n end k a j at
      ≡ Err e
  unfolding constant_at
  word_fault k a j at {e} some faulty =
      let refused : constant_at w end at ≡ Err e = rw faulty in
      rw (many-fault (constant_at w end) j at some refused)

-- What the three loops over patterns ask for.
pub ruleset pattern_steps =
    (no_pattern, pattern_fault, pattern_begins, pattern_ends, alternate_begins, alternate-ends, word_turn, word_other, word_fault)
