-- tv_eq and tv_refines: the term of tv_eq is true just where the bits are equal, that of tv_refines just where what
-- `from` shows refines what `to` shows. So it is false exactly where some trit of `from` is defined and that of `to`
-- is not the same.
use mathlib.Core.Path.{◌≡◌, refl, ap, ap₂, ◌∙◌}
use mathlib.Core.Bool.{Bool, true, false, not, ◌&&◌}
use mathlib.Core.List.{List}
use Prim.Native.Nat.{ℕ}
use Rattle.logic.specs.Table.{zip_with}
use Rattle.logic.specs.Trit.{shows}
use Rattle.logic.specs.declared.Trit.{Trit}
use Rattle.bitvec.specs.Bits.{Bits}
use Rattle.bitvec.specs.Ops.{same, equal, bvnot, bvand}
use Rattle.bitvec.proofs.Numbers.{equal-refl}
use Rattle.engine.specs.Meaning.{Value, bool, all, Assignment}
use Rattle.rules.specs.Trits as t
use Rattle.smt.specs.Prog.{TritVec}
use Rattle.smt.specs.Builder.{tv_refines}
use Rattle.smt.specs.Wp.{wp}
use Rattle.smt.proofs.WpLaws.{wp_mono, and-true, equal-eq}
use Rattle.smt.specs.Formula.{TritBits, tb, same_bits, refines_bits}
use Rattle.smt.proofs.Terms.{Is, tv_refines-wp}
use Rattle.smt.proofs.Shows.{Shown, empty, lane, BitsShow}

-- Equal bits, both ways.
pub same_bits_lem : (a b : TritBits) → same_bits a b ≡ true → a ≡ b
unfolding same_bits
same_bits_lem a b e =
    let h = and-true (equal a.x b.x) (equal a.y b.y && true) e in
    let g = and-true (equal a.y b.y) true h.1 in
    ap₂ tb (equal-eq a.x b.x h.0) (equal-eq a.y b.y g.0)

pub same_refl : (a : TritBits) → same_bits a a ≡ true
unfolding same_bits
same_refl a = rw (equal-refl a.x, equal-refl a.y)

-- In a lane: if a bit is X in `to` it is X in `from`, and one that is defined in `from` is that value in `to`.
refines-lane : (a b c d : Bool) → (same c (c && a) && same (not a && b) (not a && d))
    ≡ t.refines (shows a b) (shows c d)
refines-lane true b true d = refl
refines-lane true b false d = refl
refines-lane false true true d = refl
refines-lane false false true d = refl
refines-lane false true false true = refl
refines-lane false true false false = refl
refines-lane false false false true = refl
refines-lane false false false false = refl

regroup : (p q r s : Bool) → ((p && q) && ((r && s) && true)) ≡ ((p && r) && (q && (s && true)))
regroup true true r s = regroup' r s
  where
    regroup' : (r s : Bool) → ((r && s) && true) ≡ (r && (s && true))
    regroup' true s = refl
    regroup' false s = refl
regroup true false true s = refl
regroup true false false s = refl
regroup false q r s = refl

pub refines-shows : {n : ℕ} {x y u v : Bits} {ts us : List Trit} → Shown n x y ts → Shown n u v us
    → refines_bits (tb x y) (tb u v) ≡ all (zip_with t.refines ts us)
unfolding refines_bits equal
refines-shows empty empty = refl
refines-shows (lane {x = x} {y = y} a b p) (lane {x = u} {y = v} c d q) =
    regroup (same c (c && a)) (equal u (bvand u x)) (same (not a && b) (not a && d))
    (equal (bvand (bvnot x) y) (bvand (bvnot x) v))
    ∙ ap₂ ◌&&◌ (refines-lane a b c d) (refines-shows p q)

-- The term of tv_refines.
pub tv_refines-shows : (ρ : Assignment) (v : ℕ → Value) (n : ℕ) (from to : TritVec) (A B : TritBits) (ts us : List Trit)
    → Is ρ v from A → Is ρ v to B → BitsShow n A ts → BitsShow n B us
    → wp ρ v (tv_refines from to) (λ r. v r ≡ bool (all (zip_with t.refines ts us)))
tv_refines-shows ρ v n from to A B ts us is_a is_b shows_a shows_b =
    wp_mono ρ v (tv_refines from to) _ _ (λ r e. e ∙ ap bool (refines-shows shows_a shows_b))
    (tv_refines-wp ρ v from to A B is_a is_b)
