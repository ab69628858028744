-- Laws that the loops over the replacements go by, and what is known of a number and of a header that was read.
use Prim.Native.Nat.{ℕ, zero, suc, ◌+◌, ◌-◌, ◌^◌, ◌<◌, ◌≤◌}
use mathlib.Core.Path.{◌≡◌, refl}
use mathlib.Core.Bool.{Bool, true, false, cond, not, ◌&&◌, false≢true}
use mathlib.Core.List.{List}
use native.Mathlib.Numerals.{sub-one}
use native.Mathlib.Omega.{arith}
use lib.ListN.{length}
use lib.Dec.{ltb, leb, eqb}
use borrow.Author.Tests.{ltb-true, leb-true, eqb-true}
use Rattle.std.specs.Prelude.{Result, Ok, Err}
use Rattle.logic.specs.declared.Fault.{Fault}
use Rattle.cell.specs.Operation.{may_replace}
use Rattle.cell.specs.declared.Operation.{Operation}
use Rattle.fields.specs.Field.{fault, on_number, number_at}
use Rattle.fields.proofs.AcceptedLaws.{number_read}
use Rattle.items.specs.declared.Header.{Header}
use Rattle.items.proofs.StepLaws.{cell-read, cell-refused, net-read, net-refused}
use Rattle.items.specs.Items.{counts_at, header_at, listed_number_at, AtSlot, replaces, ascending}

-- A run of replacements at its end, at a turn and at a fault.
module _ {A : Type 0} (step : ℕ → ℕ → Result (ℕ × ℕ) Fault) (item : ℕ → A) where
  pub ascending-none : (k least at : ℕ) → k ≤ 0 → (ascending step item k least at).scan ≡ Ok at
  unfolding ascending
  ascending-none zero least at none = refl
  ascending-none (suc k) least at none = absurd (omega arith)

  pub ascending_turn :
      (k least at : ℕ) {above next : ℕ} → 0 < k → step least at ≡ Ok (above, next) →
      (ascending step item k least at).scan ≡ (ascending step item (k - 1) above next).scan
  unfolding ascending
  ascending_turn zero least at some read = absurd (omega arith)
  ascending_turn (suc k) least at some read = rw (read, sub-one)

  pub ascending-fault :
      (k least at : ℕ) {e : Fault} → 0 < k → step least at ≡ Err e → (ascending step item k least at).scan
      ≡ Err e
  unfolding ascending
  ascending-fault zero least at some refused = absurd (omega arith)
  ascending-fault (suc k) least at some refused = rw refused

  -- The same for a loop that counts up to k: before turn i, k - i are left.
  pub ascending_all : (k i least at : ℕ) → k ≤ i → (ascending step item (k - i) least at).scan ≡ Ok at
  ascending_all k i least at all = ascending-none (k - i) least at (omega arith)

  pub ascending_next :
      (k i least at : ℕ) {above next : ℕ} → i < k → step least at ≡ Ok (above, next) →
      (ascending step item (k - i) least at).scan ≡ (ascending step item (k - (i + 1)) above next).scan
  ascending_next k i least at more read =
      let one : k - i - 1 ≡ k - (i + 1) = omega arith in
      rw (← one) (ascending_turn (k - i) least at (omega arith) read)

  pub ascending_err :
      (k i least at : ℕ) {e : Fault} → i < k → step least at ≡ Err e →
      (ascending step item (k - i) least at).scan ≡ Err e
  ascending_err k i least at more refused = ascending-fault (k - i) least at (omega arith) refused

-- What the loops over the replacements ask for.
pub ruleset replacements =
    (ascending_all, ascending_next, ascending_err, cell-read, cell-refused, net-read, net-refused)

-- A replacement with none of the reasons of fault 12.
pub record IsReplaced (stands : ℕ → AtSlot) (base least slot : ℕ) (op : Operation) (width : ℕ) : Type 0 where
  pub low : slot < base
  pub first : (stands slot).first ≡ slot
  pub old : (stands slot).void ≡ false
  pub ascends : least ≤ slot
  pub wide : (stands slot).width ≡ width
  pub may : may_replace op ≡ true

pub replaces-read :
    (stands : ℕ → AtSlot) (base least slot : ℕ) (op : Operation) (width : ℕ) →
    replaces stands base least slot op width ≡ true → IsReplaced stands base least slot op width
unfolding replaces
replaces-read stands base least slot op width =
    go (ltb slot base) (eqb (stands slot).first slot) (stands slot).void (leb least slot)
    (eqb (stands slot).width width) (may_replace op) refl refl refl refl refl refl
  where
    go :
        (a b c d e f : Bool) → ltb slot base ≡ a → eqb (stands slot).first slot ≡ b → (stands slot).void ≡ c →
        leb least slot ≡ d → eqb (stands slot).width width ≡ e → may_replace op ≡ f →
        ((a && b) && not c && d && e && f) ≡ true → IsReplaced stands base least slot op width
    go true true false true true true a b c d e f r = record {
      low = ltb-true _ _ a;
      first = eqb-true _ _ b;
      old = c;
      ascends = leb-true _ _ d;
      wide = eqb-true _ _ e;
      may = f;
    }
    go true true false true true false a b c d e f r = absurd (false≢true r)
    go true true false true false z a b c d e f r = absurd (false≢true r)
    go true true false false y z a b c d e f r = absurd (false≢true r)
    go true true true x y z a b c d e f r = absurd (false≢true r)
    go true false v x y z a b c d e f r = absurd (false≢true r)
    go false u v x y z a b c d e f r = absurd (false≢true r)

-- A number outside the records is a payload.
pub listed-low : (w : List ℕ) (at : ℕ) {n next : ℕ} → listed_number_at w at ≡ Ok (n, next) → n < 2 ^ 29
unfolding listed_number_at
listed-low w at {n} {next} read = go (ltb at (length w)) read
  where
    go : (inside : Bool) → cond inside (number_at w (2 ^ 29 - 1) (length w) at) (Err (fault 1 (length w)))
        ≡ Ok (n, next) → n < 2 ^ 29
    go true e = omega (arith, (number_read w (2 ^ 29 - 1) (length w) at e).bounded)
    go false e = let z : ◌≡◌ {A = ℕ} 0 1 = cc in absurd (omega arith)

-- A header that was read has at most 4,096 slots.
pub header_read : (w : List ℕ) {h : Header} → header_at w ≡ Ok h → h.base + h.added ≤ 4096
unfolding header_at counts_at
header_read w {h} read = base_read (number_at w 4096 4 0) refl read
  where
    counts : (base added : ℕ) → added ≤ 4096 - base → base ≤ 4096 → (c₁ c₂ : Result (ℕ × ℕ) Fault) →
        on_number c₁ Err (λ (cellreps _ : ℕ). on_number c₂ Err (λ (netreps _ : ℕ).
        Ok record { base = base; added = added; cellreps = cellreps; netreps = netreps })) ≡ Ok h →
        h.base + h.added ≤ 4096
    counts base added low top (Err f) c₂ e = let z : ◌≡◌ {A = ℕ} 0 1 = cc in absurd (omega arith)
    counts base added low top (Ok (a, b)) (Err f) e = let z : ◌≡◌ {A = ℕ} 0 1 = cc in absurd (omega arith)
    counts base added low top (Ok (a, b)) (Ok (c, d)) e =
        let same : record { base = base; added = added; cellreps = a; netreps = c } ≡ h = cc in
        rw (← same) (omega arith)

    added-read : (base : ℕ) → base ≤ 4096 → (n : Result (ℕ × ℕ) Fault) → number_at w (4096 - base) 4 1 ≡ n →
        on_number n Err (λ (added _ : ℕ). counts_at w base added) ≡ Ok h → h.base + h.added ≤ 4096
    added-read base top (Err f) n e = let z : ◌≡◌ {A = ℕ} 0 1 = cc in absurd (omega arith)
    added-read base top (Ok (added, next)) n e =
        counts base added (number_read w (4096 - base) 4 1 n).bounded top (number_at w 4096 4 2) (number_at w 4096 4 3) e

    base_read : (n : Result (ℕ × ℕ) Fault) → number_at w 4096 4 0 ≡ n →
        on_number n Err (λ (base _ : ℕ).
        on_number (number_at w (4096 - base) 4 1) Err (λ (added _ : ℕ). counts_at w base added))
        ≡ Ok h →
        h.base + h.added ≤ 4096
    base_read (Err f) n e = let z : ◌≡◌ {A = ℕ} 0 1 = cc in absurd (omega arith)
    base_read (Ok (base, next)) n e =
        added-read base (number_read w 4096 4 0 n).bounded (number_at w (4096 - base) 4 1) refl e
