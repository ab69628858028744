-- An asserted cell has an output, is neither Input nor IoBuf, and is claimed.
use mathlib.Core.Path.{◌≡◌, refl}
use mathlib.Core.Bool.{Bool, true, false, not, false≢true}
use Prim.Native.Nat.{ℕ, ◌+◌, ◌<◌}
use native.Mathlib.Omega.{arith}
use lib.Dec.{eqb}
use lib.ListN.{length}
use borrow.Author.Tests.{eqb-false}
use Rattle.cell.specs.Cell.{Cell, output_len}
use Rattle.cell.specs.Cell as c
use Rattle.working_out.specs.Reading.{asserted}
use Rattle.smt.specs.CellBits.{NotInput}
use Rattle.order.specs.Verify.{is_input}

pub asserted-not-input : (a : Cell) → asserted a ≡ true → NotInput a
asserted-not-input a h n e = false≢true (rw e at h)

pub asserted-not_iobuf : (a : Cell) → asserted a ≡ true → (n : ℕ) → a ≡ c.io_buf n → ⊥
asserted-not_iobuf a h n e = false≢true (rw e at h)

some_of : (w : ℕ) → not (eqb w 0) ≡ true → 0 < w
some_of w h = go (eqb w 0) refl h
  where
    go : (b : Bool) → eqb w 0 ≡ b → not b ≡ true → 0 < w
    go true e t = absurd (false≢true t)
    go false e t = let ne = eqb-false w 0 e in positive w ne
      where
        positive : (w : ℕ) → (w ≡ 0 → ⊥) → 0 < w
        positive w ne = omega arith

pub asserted-some : (a : Cell) → asserted a ≡ true → 0 < output_len a
asserted-some c.void h = absurd (false≢true h)
asserted-some c.note h = absurd (false≢true h)
asserted-some (c.input n) h = absurd (false≢true h)
asserted-some (c.io_buf n) h = absurd (false≢true h)
asserted-some (c.unary op a) h = some_of (length a) h
asserted-some (c.binary op a b) h = some_of (c.binary_width op (length a)) h
asserted-some (c.mux s a b) h = some_of (length a) h
asserted-some (c.adc a b carry) h = some_of (length a + 1) h
asserted-some (c.aig a b) h = some_of 1 h
asserted-some (c.shift op value amount stride) h = some_of (length value) h
asserted-some (c.match value enable patterns) h = some_of (length patterns) h
asserted-some (c.assign value enable update offset) h = some_of (length value) h
asserted-some (c.dff f) h = some_of (length f.dat) h

-- An asserted cell is claimed.
pub asserted_claimed : (a : Cell) → asserted a ≡ true → is_input a ≡ false
asserted_claimed c.void h = refl
asserted_claimed c.note h = refl
asserted_claimed (c.input n) h = absurd (false≢true h)
asserted_claimed (c.io_buf n) h = refl
asserted_claimed (c.unary op a) h = refl
asserted_claimed (c.binary op a b) h = refl
asserted_claimed (c.mux s a b) h = refl
asserted_claimed (c.adc a b carry) h = refl
asserted_claimed (c.aig a b) h = refl
asserted_claimed (c.shift op value amount stride) h = refl
asserted_claimed (c.match value enable patterns) h = refl
asserted_claimed (c.assign value enable update offset) h = refl
asserted_claimed (c.dff f) h = refl
