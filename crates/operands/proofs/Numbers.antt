-- The width of a shift, and constants packed into numbers. Assumes nothing.
use mathlib.Core.Path.{◌≡◌, refl, sym, ap, ap₂, ◌∙◌}
use mathlib.Core.Bool.{Bool, true, false}
use mathlib.Core.List.{List, map}
use Prim.Native.Nat.{ℕ, suc, ◌+◌, ◌*◌, ◌-◌, ◌^◌, ◌<◌, ◌≤◌, min, max}
use native.Mathlib.Nat.{add-zero, pow-suc}
use native.Mathlib.Numerals.{add-one}
use native.Mathlib.Omega.{arith}
use borrow.Author.Tests.{lt-ltb}
use lib.ListN.{length, length-map}
use lib.Pow.{pow_mono}
use Rattle.logic.specs.Table.{tab}
use Rattle.logic.proofs.TableLaws.{tab_ext, length-tab}
use Rattle.logic.specs.Trit.{x_of, y_of}
use Rattle.logic.specs.Net.{Net, constant, slot, net_of, driver_of, driver_of_net}
use Rattle.logic.specs.Word.{payload_of}
use Rattle.logic.specs.declared.Trit.{Trit}
use Rattle.logic.specs.declared.Trit.TheVariants.{Undef}
use Rattle.logic.specs.declared.Driver.{Driver}
use Rattle.logic.specs.declared.Driver.TheVariants.{Constant, Output, NoNet}
use Rattle.bitvec.specs.Bits.{bit, bv2nat, nat2bv}
use Rattle.bitvec.proofs.Laws.{bv2nat_lt, nat2bv_of}
use Rattle.cell_reader.specs.Parse.{trit_of, trit_in, trits_in}
use Rattle.smt.specs.Builder.{ilog2, shift_width}
use Rattle.smt.proofs.ShowsShift.{shift_width-narrow}
use Rattle.operands.specs.Words.{ShiftFits, packed, Packed}

-- ---- prepare_shift

pub wide : (n m stride r : ℕ) → r ≡ min (shift_width n m stride) 4294967295 → n ≤ 64 → m ≤ 32 → stride < 2 ^ 29
    → ShiftFits n m stride r
unfolding shift_width
wide n m stride r e hn hm hs =
    let low = shift_width-narrow n m stride hn hm hs in
    record { exact = omega arith; narrow = omega arith; value = omega arith; amount = omega arith }

-- The width by the number of places l that the stride takes.
module _ (n m stride l : ℕ) (places : l ≡ ilog2 (max stride 1)) where
  pub width-value : m + l + 1 ≤ n → n < 2 ^ 32 → n ≡ min (shift_width n m stride) 4294967295
  unfolding shift_width
  width-value more low = omega arith

  pub width-amount : n < m + l + 1 → m + l + 1 < 2 ^ 32 → m + l + 1 ≡ min (shift_width n m stride) 4294967295
  unfolding shift_width
  width-amount more low = omega arith

  pub width-last : 2 ^ 32 ≤ m + l + 1 → 4294967295 ≡ min (shift_width n m stride) 4294967295
  unfolding shift_width
  width-last high = omega arith

-- ---- constants

-- The trit that a driver gives as a constant.
abbrev driven_trit : Driver → Trit
driven_trit (Constant t) = t
driven_trit (Output i) = Undef
driven_trit NoNet = Undef

-- Of the driver d of a word's payload that a match tells to be d'.
pub driven : (word p : ℕ) (d d' : Driver) → p ≡ payload_of word → d ≡ driver_of p → d ≡ d'
    → driven_trit d' ≡ trit_of (net_of (payload_of word))
driven word p d d' paid drove told = rw (← paid) (ap driven_trit (sym told ∙ drove ∙ drives) ∙ of_net_lem (net_of p))
  where
    drives : driver_of p ≡ driver_of_net (net_of p)
    drives = rw (lt-ltb p (2 ^ 29) (omega arith))

    of_net_lem : (n : Net) → driven_trit (driver_of_net n) ≡ trit_of n
    of_net_lem (constant t) = refl
    of_net_lem (slot i) = refl

pub bit-low : (b : Bool) → bit b ≤ 1
bit-low true = omega arith
bit-low false = omega arith

module _ (f : Trit → Bool) (w : List ℕ) where
  packed_cons : (n at : ℕ) → packed f w (suc n) at ≡ bit (f (trit_in w at)) + 2 * packed f w n (at + 1)
  unfolding tab bv2nat
  packed_cons n at =
      ap₂ (λ (t : Trit) (ts : List Trit). bit (f t) + 2 * bv2nat (map f ts)) (ap (trit_in w) (add-zero at))
      (tab_ext n (λ i. trit_in w (at + suc i)) (λ i. trit_in w (at + 1 + i))
      (λ i l. ap (trit_in w) (let same : at + suc i ≡ at + 1 + i = omega arith in same)))

  -- One constant more, below the others.
  pub packed_turn : (k at i : ℕ) → 0 < i → i ≤ k
      → packed f w (k - (i - 1)) (at + (i - 1)) ≡ 2 * packed f w (k - i) (at + i) + bit (f (trit_in w (at + (i - 1))))
  packed_turn k at i some within =
      let more : k - (i - 1) ≡ suc (k - i) = omega arith in
      let place : at + (i - 1) + 1 ≡ at + i = omega arith in
      rw more (packed_cons (k - i) (at + (i - 1)) ∙ rw place (omega arith))

  packed-low : (n at : ℕ) → n ≤ 63 → packed f w n at < 2 ^ 63
  packed-low n at few =
      let long : length (map f (trits_in w n at)) ≡ n = length-map (trits_in w n at) f ∙ length-tab n _ in
      let low : packed f w n at < 2 ^ n = rw long at (bv2nat_lt (map f (trits_in w n at))) in
      let up : 2 ^ n ≤ 2 ^ 63 = pow_mono few in omega arith

  pub packed_none : (k at i : ℕ) → k ≤ i → packed f w (k - i) at ≡ 0
  unfolding tab bv2nat
  packed_none k at i past = let none : k - i ≡ 0 = omega arith in rw none

  pub packed_all : (k at i x : ℕ) → i ≤ 0 → x ≡ packed f w (k - i) (at + i) → x ≡ packed f w k at
  packed_all k at i x done e =
      let all : k - i ≡ k = omega arith in
      let place : at + i ≡ at = omega arith in e ∙ rw (all, place)

  -- While a constant is left to pack there is room for it.
  pub packed-room : (n at i : ℕ) → 0 < i → packed f w (min n 64 - i) (at + i) < 2 ^ 63
  packed-room n at i some = packed-low (min n 64 - i) (at + i) (omega arith)

  pub packed-bits : (n at : ℕ) → n ≤ 64 → nat2bv (min n 64) (packed f w (min n 64) at) ≡ map f (trits_in w n at)
  packed-bits n at few =
      let all : min n 64 ≡ n = omega arith in
      rw all (nat2bv_of n (map f (trits_in w n at)) (length-map (trits_in w n at) f ∙ length-tab n _))

-- The two numbers of some constants are their literal's.
pub packed_literal : (w : List ℕ) (n at x y : ℕ) → x ≡ packed x_of w (min n 64) at → y ≡ packed y_of w (min n 64) at →
    n ≤ 64
    → Packed w n at x y
packed_literal w n at x y is_x is_y few =
    record { is_undef = rw is_x (packed-bits x_of w n at few); is_one = rw is_y (packed-bits y_of w n at few) }
