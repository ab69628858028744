-- UDiv, UMod, SDivTrunc and SModTrunc show their rules: where no operand's trit is X and the divisor is not zero, the
-- numbers of y are those of the trits, and SMT-LIB's operations divide them; else the result's x is set.
use mathlib.Core.Path.{◌≡◌, refl, sym, ap, ap₂, ◌∙◌}
use mathlib.Core.Bool.{Bool, true, false, not, cond, ◌&&◌, ◌||◌, false≢true}
use mathlib.Core.List.{List, []}
use Prim.Native.Nat.{ℕ, zero, suc, ◌-◌, ◌/◌, ◌%◌, ◌^◌, ◌<◌}
use native.Mathlib.Omega.{arith}
use lib.Dec.{eqb}
use lib.ListN.{length, length-replicate}
use Rattle.logic.specs.declared.Trit.{Trit}
use Rattle.bitvec.specs.Bits.{Bits, bv2nat, nat2bv}
use Rattle.bitvec.specs.Ops.{same, msb}
use Rattle.bitvec.proofs.Laws.{length-bvudiv, length-bvurem, length-bvsdiv, length-bvsrem}
use Rattle.bitvec.proofs.Numbers.{equal-eqb}
use Rattle.bitvec.proofs.Divisions.{size, bvudiv_by, bvurem_by, bvsdiv_by, bvsrem_by}
use Rattle.bitvec.proofs.Shifts.{bv2nat-zeros}
use Rattle.engine.specs.Call.{BinaryOp}
use Rattle.engine.specs.Call as c
use Rattle.engine.specs.Meaning.{denote_op}
use Rattle.rules.specs.Trits.{any_x, number}
use Rattle.rules.specs.Rules as r
use Rattle.rules.proofs.RefineLaws.{neither}
use Rattle.smt.specs.Builder.{zeros}
use Rattle.smt.specs.Formula.{tb, is_zero, divides, divide_bits}
use Rattle.smt.proofs.Shows.{Shown, BitsShow, shown-y, shown_ts}
use Rattle.smt.proofs.ShowsNumber.{no_x_lem, number-defined, negative-msb, strict_shows}

-- Without X, trits and y have one width, and one size.
width : {n : ℕ} {x y : Bits} {ts : List Trit} → Shown n x y ts → length ts ≡ length y
width p = shown_ts p ∙ sym (shown-y p)

size-trits : {n : ℕ} {x y : Bits} {ts : List Trit} → Shown n x y ts → any_x ts ≡ false → r.size ts ≡ size y
size-trits p e = rw (negative-msb p e, number-defined p e, width p)

module _ {n : ℕ} {x y u v : Bits} {ts us : List Trit} (p : Shown n x y ts) (q : Shown n u v us) where
  -- The divisor's y is zero just where its number is.
  zero_number : is_zero v n ≡ eqb (bv2nat v) 0
  zero_number =
      equal-eqb v (zeros n) (shown-y q ∙ sym (length-replicate n false))
      ∙ ap (eqb (bv2nat v)) (bv2nat-zeros [] n ∙ unfold bv2nat in refl)

  -- The term of may_divide is true just where the rule divides.
  may_divide_lem : divides (tb x y) (tb u v) n ≡ not (r.undivided ts us)
  may_divide_lem =
      ap₂ (λ (none zero : Bool). none && (not zero && true)) (no_x_lem p q) zero_number ∙ go (r.some_x ts us) refl
    where
      last : (z : Bool) → (not z && true) ≡ not z
      last true = refl
      last false = refl

      go : (s : Bool) → r.some_x ts us ≡ s
          → (not s && (not (eqb (bv2nat v) 0) && true)) ≡ not (s || eqb (number us) 0)
      go true e = refl
      go false e = rw (number-defined q (neither (any_x ts) (any_x us) e).1) (last (eqb (bv2nat v) 0))

  -- Where it divides, the trits are the bits of y.
  record Divided : Type 0 where
    first : any_x ts ≡ false
    second : any_x us ≡ false
    divisor : 0 < bv2nat v

  divided : r.undivided ts us ≡ false → Divided
  divided e =
      let none = neither (r.some_x ts us) (eqb (number us) 0) e in
      let both = neither (any_x ts) (any_x us) none.0 in
      record { first = both.0; second = both.1; divisor = positive both.1 none.1 }
    where
      positive : any_x us ≡ false → eqb (number us) 0 ≡ false → 0 < bv2nat v
      positive d z = go (bv2nat v) (ap (λ (m : ℕ). eqb m 0) (sym (number-defined q d)) ∙ z)
        where
          go : (m : ℕ) → eqb m 0 ≡ false → 0 < m
          go zero f = absurd (false≢true (sym f))
          go (suc m) f = omega arith

  divide_shows : (o : BinaryOp) (m : ℕ) → length (denote_op o y v) ≡ length y
      → (Divided → denote_op o y v ≡ nat2bv (length y) m)
      → BitsShow n (divide_bits o (tb x y) (tb u v) n) (r.divided ts us m)
  divide_shows o m keeps numbers =
      rw may_divide_lem (strict_shows p q o (r.undivided ts us) m keeps (λ e. numbers (divided e)))

  pub udiv_shows : BitsShow n (divide_bits c.bvudiv (tb x y) (tb u v) n) (r.divided ts us (number ts / number us))
  udiv_shows =
      divide_shows c.bvudiv (number ts / number us) (length-bvudiv y v)
      λ d. rw (number-defined p d.first, number-defined q d.second) (bvudiv_by y v d.divisor)

  pub umod_shows : BitsShow n (divide_bits c.bvurem (tb x y) (tb u v) n) (r.divided ts us (number ts % number us))
  umod_shows =
      divide_shows c.bvurem (number ts % number us) (length-bvurem y v)
      λ d. rw (number-defined p d.first, number-defined q d.second) (bvurem_by y v d.divisor)

  pub sdiv_shows : BitsShow n (divide_bits c.bvsdiv (tb x y) (tb u v) n) (r.divided ts us (r.quotient ts us))
  sdiv_shows =
      divide_shows c.bvsdiv (r.quotient ts us) (length-bvsdiv y v)
      λ d. bvsdiv_by y v d.divisor ∙ ap (nat2bv (length y)) (sym (signs d))
    where
      by_signs_lem : (a b : Bool) (m q : ℕ) → cond (cond a (not b) b) m q ≡ cond (same a b) q m
      by_signs_lem true true m q = refl
      by_signs_lem true false m q = refl
      by_signs_lem false true m q = refl
      by_signs_lem false false m q = refl

      signs : Divided → r.quotient ts us
          ≡ cond (same (msb y) (msb v)) (size y / size v) (2 ^ length y - size y / size v)
      signs d =
          rw (size-trits p d.first, size-trits q d.second, negative-msb p d.first, negative-msb q d.second)
          (rw (width p) (by_signs_lem (msb y) (msb v) _ _))

  pub smod_shows : BitsShow n (divide_bits c.bvsrem (tb x y) (tb u v) n) (r.divided ts us (r.remainder ts us))
  smod_shows =
      divide_shows c.bvsrem (r.remainder ts us) (length-bvsrem y v)
      λ d. bvsrem_by y v d.divisor ∙ ap (nat2bv (length y)) (sym (signs d))
    where
      signs : Divided → r.remainder ts us ≡ cond (msb y) (2 ^ length y - size y % size v) (size y % size v)
      signs d =
          rw (size-trits p d.first, size-trits q d.second, negative-msb p d.first, width p)
