-- What each function of the builder costs, in words of calls. Vectors are at most 64 wide, as in an accepted list.
use mathlib.Core.Path.{◌≡◌, refl, ap, subst}
use mathlib.Core.Bool.{Bool, true, false, cond}
use mathlib.Core.List.{List, [], ◌∷◌}
use Prim.Native.Nat.{ℕ, suc, ◌+◌, ◌-◌, ◌*◌, ◌≤◌}
use native.Mathlib.Omega.{arith}
use lib.ListN.{length, length-map, length-replicate}
use Rattle.logic.specs.Trit.{x_of, y_of}
use Rattle.logic.specs.Net.{Net, constant, slot}
use Rattle.logic.specs.declared.Trit.{Trit}
use Rattle.cell.specs.Cell.{Control}
use Rattle.smt.specs.Prog.{Prog, ret, ◌>>=◌, Age, curr, past, TritVec, tv, BitVec}
use Rattle.smt.specs.Prog.{build_concat}
use Rattle.smt.specs.Builder.{bv_is_zero, bv_to_bool, bool_to_bv, tv_lit, tv_const, tv_concat}
use Rattle.smt.specs.Builder.{tv_concat_on, tv_extract, tv_is0, tv_is1, tv_eq, tv_refines, tv_not, tv_and, tv_or, tv_xor, tv_mux}
use Rattle.smt.specs.Builder.{collect, net_of, value_of, invert_net, bv_no_x, net}
use Rattle.bound.proofs.CostsLaws.{Costs, CostsOnly, costs_ret, costs_more, costs_seq, sum-each}
use Rattle.bound.specs.Costs.{sum_by}

-- ---- straight lines of calls: the count is computed

pub tv_is0_costs : (a : TritVec) → CostsOnly 7 (tv_is0 a)
unfolding tv_is0 ◌>>=◌ Costs
tv_is0_costs a = omega arith

pub tv_eq_costs : (a b : TritVec) → CostsOnly 9 (tv_eq a b)
unfolding tv_eq ◌>>=◌ Costs
tv_eq_costs a b = omega arith

pub tv_refines_costs : (a b : TritVec) → CostsOnly 20 (tv_refines a b)
unfolding tv_refines ◌>>=◌ Costs
tv_refines_costs a b = omega arith

pub tv_not_costs : (a : TritVec) → CostsOnly 2 (tv_not a)
unfolding tv_not ◌>>=◌ Costs
tv_not_costs a = omega arith

pub tv_xor_costs : (a b : TritVec) → CostsOnly 6 (tv_xor a b)
unfolding tv_xor ◌>>=◌ Costs
tv_xor_costs a b = omega arith

pub tv_and_costs : (a b : TritVec) (w : ℕ) → CostsOnly 68 (tv_and a b w)
unfolding tv_and tv_is0 ◌>>=◌ Costs
tv_and_costs a b w = omega arith

pub tv_or_costs : (a b : TritVec) (w : ℕ) → CostsOnly 64 (tv_or a b w)
unfolding tv_or tv_is1 ◌>>=◌ Costs
tv_or_costs a b w = omega arith

pub tv_mux_costs : (s a b : TritVec) (w : ℕ) → CostsOnly 112 (tv_mux s a b w)
unfolding tv_mux tv_is0 tv_is1 bv_to_bool ◌>>=◌ Costs
tv_mux_costs s a b w = (
  omega arith,
  λ k l. (
    omega arith,
    λ m n. (
      omega arith,
      λ i j. (
        omega arith,
        λ y. (omega arith, λ x. (omega arith, λ s_is0. (omega arith, λ x. (omega arith, λ s_is1. omega arith)))),
      ),
    ),
  ),
)

pub bv_is_zero_costs : (a : BitVec) (w : ℕ) → w ≤ 64 → CostsOnly 9 (bv_is_zero a w)
unfolding bv_is_zero ◌>>=◌ Costs
bv_is_zero_costs a w l = rw (length-replicate w false) (omega arith)

pub bool_to_bv_costs : (a : ℕ) → CostsOnly 10 (bool_to_bv a)
unfolding bool_to_bv ◌>>=◌ Costs
bool_to_bv_costs a = omega arith

pub bv_no_x_costs : (a b : TritVec) (n : ℕ) → n ≤ 64 → CostsOnly 21 (bv_no_x a b n)
unfolding bv_no_x bv_is_zero ◌>>=◌ Costs
bv_no_x_costs a b n l = rw (length-replicate n false) (omega arith)

pub tv_extract_costs : (i j : ℕ) (a : TritVec) → CostsOnly 8 (tv_extract i j a)
unfolding tv_extract ◌>>=◌ Costs
tv_extract_costs i j a = omega arith

pub tv_lit_costs : (value : List Trit) → length value ≤ 64 → CostsOnly 12 (tv_lit value)
unfolding tv_lit ◌>>=◌ Costs
tv_lit_costs value l = rw (length-map value x_of, length-map value y_of) (omega arith)

pub invert_net_costs : (w : Control) (a : TritVec) → CostsOnly 6 (invert_net w a)
unfolding invert_net ◌>>=◌ Costs
invert_net_costs w a = omega arith

-- ---- nets: a slot's two names, or a constant's two literals

pub net_of_costs : (a : Age) (n : Net) → CostsOnly 10 (net_of a n)
unfolding net_of tv_lit tv_const ◌>>=◌ Costs
net_of_costs a (constant t) = omega arith
net_of_costs a (slot i) = omega arith

pub net_costs : (reads_past : ℕ → Bool) (n : Net) → CostsOnly 10 (net reads_past n)
unfolding net
net_costs reads_past (constant t) = net_of_costs curr (constant t)
net_costs reads_past (slot i) = go (reads_past i)
  where
    go : (b : Bool) → CostsOnly 10 (cond b (net_of past (slot i)) (net_of curr (slot i)))
    go true = net_of_costs past (slot i)
    go false = net_of_costs curr (slot i)

pub collect_costs : {A B : Type 0} (cost : A → ℕ) (f : A → Prog B) → ((a : A) → CostsOnly (cost a) (f a)) → (l : List A)
    → Costs (sum_by cost l) (collect f l) (λ r. length r ≡ length l)
unfolding collect sum_by
collect_costs cost f h [] = costs_ret _ [] _ refl
collect_costs cost f h (a ∷ l) =
    costs_more (cost a + (sum_by cost l + 0)) (cost a + sum_by cost l) _ _ (omega arith)
    (costs_seq (sum_by cost l + 0) _ _ _
    (λ b _. costs_seq 0 (λ bs. ret (b ∷ bs)) _ _ (λ bs e. costs_ret 0 (b ∷ bs) _ (ap suc e)) (sum_by cost l)
    (collect f l)
    (collect_costs cost f h l))
    (cost a) (f a) (h a))

concat-step : (e msb : TritVec) →
    CostsOnly 6 (build_concat msb.x e.x >>= λ x. build_concat msb.y e.y >>= λ y. ret (tv x y))
unfolding ◌>>=◌ Costs
concat-step e msb = omega arith

tv_concat_on_costs : (e : TritVec) (l : List TritVec) → CostsOnly (length l * 6) (tv_concat_on e l)
unfolding tv_concat_on
tv_concat_on_costs e [] = costs_ret 0 e _ tt
tv_concat_on_costs e (f ∷ l) =
    costs_more (length l * 6 + 6) (suc (length l) * 6) _ _ (omega arith)
    (costs_seq 6 _ _ _ (λ msb _. concat-step e msb) (length l * 6) (tv_concat_on f l) (tv_concat_on_costs f l))

pub tv_concat_costs : (l : List TritVec) → CostsOnly (length l * 6) (tv_concat l)
unfolding tv_concat
tv_concat_costs [] = costs_ret 0 _ _ tt
tv_concat_costs (e ∷ l) = costs_more (length l * 6) (suc (length l) * 6) _ _ (omega arith) (tv_concat_on_costs e l)

-- A vector costs at most sixteen words a net.
pub value_of_costs : (f : Net → Prog TritVec) → ((a : Net) → CostsOnly 10 (f a)) → (l : List Net) →
    CostsOnly (length l * 16) (value_of f l)
unfolding value_of
value_of_costs f h l =
    costs_more (sum_by (λ _. 10) l + length l * 6) (length l * 16) _ _ (let e = sum-each 10 l in omega arith)
    (costs_seq (length l * 6) tv_concat _ _
    (λ tvs e. subst (λ (k : ℕ). CostsOnly (k * 6) (tv_concat tvs)) e (tv_concat_costs tvs)) (sum_by (λ _. 10) l)
    (collect f l)
    (collect_costs (λ _. 10) f h l))
