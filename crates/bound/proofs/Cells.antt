-- What the terms of a cell cost: at most 4,800 words of calls for each word of the cell's record.
use mathlib.Core.Path.{◌≡◌, refl, sym, ap, subst}
use mathlib.Core.Bool.{Bool, true, false, cond}
use mathlib.Core.List.{List, [], ◌∷◌, ◌++◌}
use Prim.Native.Nat.{ℕ, zero, suc, ◌+◌, ◌-◌, ◌*◌, ◌≤◌, ◌<◌, ◌^◌}
use native.Mathlib.Omega.{arith}
use lib.Dec.{eqb}
use lib.ListN.{length, get_or, replicate, length-replicate, length-append}
use Rattle.logic.proofs.TableLaws.{length-tab}
use Rattle.logic.specs.Net.{Net, constant, slot}
use Rattle.logic.specs.declared.Trit.{Trit}
use Rattle.logic.specs.declared.Trit.TheVariants.{Zero, One, Undef}
use Rattle.engine.specs.Call.{Term, BinaryOp, Compare}
use Rattle.engine.specs.Call as c
use Rattle.cell.specs.Cell.{Control, FlipFlop, Binary, Shift}
use Rattle.cell.specs.Cell as cells
use Rattle.bitvec.proofs.Laws.{length-nat2bv}
use Rattle.smt.specs.Prog.{Prog, ret, op, ◌>>=◌, curr, past, TritVec, tv, BitVec, bv, vector, build_extract, build_bvor}
use Rattle.smt.specs.Prog.{build_concat, build_bvadd}
use Rattle.smt.specs.Builder.{bv_lit, bv_bind, zeros, tv_bind, tv_concat, bv_concat, bv_concat_on, collect, past_value}
use Rattle.smt.specs.Builder.{output_nets, clock_net, past_net, net, value, control_net, carry_x, tv_adc, tv_equals, tv_less}
use Rattle.smt.specs.Builder.{tv_strict, may_divide, tv_divide, tv_binary, tv_shift, Prepared, one_hot, first_match}
use Rattle.smt.specs.Builder.{shift_width, zext, extended}
use Rattle.smt.specs.Builder.{prepare_at, prepare_shift, shifted, compared, product, sum, match_of, match_cell, enabled}
use Rattle.smt.specs.Builder.{reset_to, loaded, cleared, dff_cell, adc_cell, has_clear}
use Rattle.smt.proofs.ShowsShift.{shift_width-narrow}
use Rattle.bound.proofs.CostsLaws.{term_cost, Costs, CostsOnly, costs_ret, costs_more, costs_seq, costs_weaken}
use Rattle.bound.specs.Costs.{sum_by}
use Rattle.bound.proofs.Builder.{tv_not_costs, tv_xor_costs, tv_and_costs, tv_or_costs, tv_mux_costs, tv_extract_costs}
use Rattle.bound.proofs.Builder.{tv_lit_costs, invert_net_costs, net_of_costs, net_costs, collect_costs}
use Rattle.bound.proofs.Builder.{tv_concat_costs, value_of_costs, bv_no_x_costs, bool_to_bv_costs, bv_is_zero_costs}

-- One part after another, where nothing is asked of the first one's result.
pub then : {A B : Type 0} (a b : ℕ) (m : Prog A) (g : A → Prog B) → CostsOnly a m → ((x : A) → CostsOnly b (g x)) →
    CostsOnly (a + b) (m >>= g)
then a b m g h i = costs_seq b g _ _ (λ x _. i x) a m h

pub one_call : (n w : ℕ) (t : Term) → term_cost t ≤ n → CostsOnly n (vector w t)
unfolding Costs
one_call n w t l = (l, λ k. tt)

pub bool_call : (n : ℕ) (t : Term) → term_cost t ≤ n → CostsOnly n (op t ret)
unfolding Costs
bool_call n t l = (l, λ k. tt)

pub tv_bind_costs : (a : TritVec) (w : ℕ) → CostsOnly 20 (tv_bind a w)
unfolding Costs
tv_bind_costs a w = (omega arith, λ x y. tt)

-- ---- Adc

bv_concat_on_costs : (e : BitVec) (l : List BitVec) → CostsOnly (length l * 3) (bv_concat_on e l)
unfolding bv_concat_on
bv_concat_on_costs e [] = costs_ret 0 e _ tt
bv_concat_on_costs e (f ∷ l) =
    costs_more (length l * 3 + 3) (suc (length l) * 3) _ _ (omega arith)
    (then (length l * 3) 3 (bv_concat_on f l) _ (bv_concat_on_costs f l) (λ msb. one_call 3 _ _ (omega arith)))

bv_concat_costs : (l : List BitVec) → CostsOnly (length l * 3) (bv_concat l)
unfolding bv_concat
bv_concat_costs [] = costs_ret _ _ _ tt
bv_concat_costs (e ∷ l) = costs_more (length l * 3) (suc (length l) * 3) _ _ (omega arith) (bv_concat_on_costs e l)

carry_step : {X : Type 0} (a b : TritVec) (i n : ℕ) (carry : BitVec) (rest : BitVec → Prog X) (Q : X → Type 0) →
    ((k : BitVec) → Costs n (rest k) Q)
    → Costs (24 + n)
    (build_extract i i a.x >>= λ ax. build_extract i i b.x >>= λ bx. build_bvor ax bx >>= λ abx. build_bvor carry
    abx >>= λ any. bv_bind any 1 >>= rest) Q
unfolding ◌>>=◌ Costs
carry_step a b i n carry rest Q h = (
  omega arith,
  λ ax. (
    omega arith,
    λ bx. (
      omega arith,
      λ abx. (
        omega arith,
        λ any. (
          omega arith,
          λ k.
              costs_more n (24 + n - 4 - 4 - 3 - 3 - 10) (rest (bv k 1)) Q (omega arith) (h (bv k 1)),
        ),
      ),
    ),
  ),
)

carry_x_costs : (a b : TritVec) (more i : ℕ) (carry : BitVec) →
    Costs (more * 24) (carry_x a b more i carry) (λ r. length r ≡ suc more)
unfolding carry_x
carry_x_costs a b zero i carry = costs_ret _ _ _ refl
carry_x_costs a b (suc more) i carry =
    costs_more (24 + (more * 24 + 0)) (suc more * 24) _ _ (omega arith)
    (carry_step a b i (more * 24 + 0) carry _ _ (λ k.
    costs_seq 0 (λ xs. ret (k ∷ xs)) _ _ (λ xs e. costs_ret 0 (k ∷ xs) _ (ap suc e)) (more * 24)
    (carry_x a b more (suc i) k) (carry_x_costs a b more (suc i) k)))

-- The sum, from the carries on.
adc-sum : (ay by carry : BitVec) (n : ℕ) (x : BitVec) → n ≤ 63 →
    CostsOnly 27 (bv_lit (false ∷ []) >>= λ none. build_concat none ay >>= λ a_ext.
    bv_lit (false ∷ []) >>= λ none. build_concat none by >>= λ b_ext. build_bvadd a_ext b_ext >>= λ total.
    bv_lit (zeros n) >>= λ none. build_concat none carry >>= λ carry_ext. build_bvadd total carry_ext >>= λ y. ret (tv x y))
unfolding ◌>>=◌ Costs
adc-sum ay by carry n x l = rw (length-replicate n false) (omega arith)

tv_adc_costs : (a b carry : TritVec) (n : ℕ) → n ≤ 63 → CostsOnly (n * 27 + 70) (tv_adc a b carry n)
unfolding tv_adc
tv_adc_costs a b carry n l =
    costs_more (20 + (20 + (n * 24 + (suc n * 3 + 27)))) (n * 27 + 70) _ _ (omega arith)
    (then 20 _ (tv_bind a n) _ (tv_bind_costs a n) λ a.
    then 20 _ (tv_bind b n) _ (tv_bind_costs b n) λ b.
    costs_seq (suc n * 3 + 27) _ _ _
    (λ xs e. then (suc n * 3) 27 (bv_concat xs) _
    (subst (λ (k : ℕ). CostsOnly (k * 3) (bv_concat xs)) e (bv_concat_costs xs)) λ x. adc-sum a.y b.y carry.y
    n x l)
    (n * 24) (carry_x a b n 0 carry.x) (carry_x_costs a b n 0 carry.x))

-- ---- operations on two vectors

tv_equals_costs : (a b : TritVec) (n : ℕ) → n ≤ 64 → CostsOnly 68 (tv_equals a b n)
unfolding tv_equals
tv_equals_costs a b n l =
    costs_more (3 + (3 + (2 + (3 + (9 + (2 + (2 + (21 + (2 + (4 + (10 + 3))))))))))) 68 _ _ (omega arith)
    (then 3 _ _ _ (one_call 3 _ _ (omega arith)) λ differ.
    then 3 _ _ _ (one_call 3 _ _ (omega arith)) λ some_x.
    then 2 _ _ _ (one_call 2 _ _ (omega arith)) λ no_x.
    then 3 _ _ _ (one_call 3 _ _ (omega arith)) λ unequal.
    then 9 _ _ _ (bv_is_zero_costs unequal n l) λ none_unequal.
    then 2 _ _ _ (bool_call 2 _ (omega arith)) λ any_unequal.
    then 2 _ _ _ (bool_call 2 _ (omega arith)) λ never.
    then 21 _ _ _ (bv_no_x_costs a b n l) λ no_x.
    then 2 _ _ _ (bool_call 2 _ (omega arith)) λ any_x.
    then 4 _ _ _ (bool_call 4 _ (omega arith)) λ undef.
    then 10 _ _ _ (bool_to_bv_costs undef) λ x.
    then 3 0 _ _ (one_call 3 _ _ (omega arith)) λ y. costs_ret 0 _ _ tt)

tv_less_costs : (o : Compare) (a b : TritVec) (n : ℕ) → n ≤ 64 → CostsOnly 68 (tv_less o a b n)
unfolding tv_less
tv_less_costs o a b n l =
    costs_more (21 + (2 + (10 + (3 + 10)))) 68 _ _ (omega arith)
    (then 21 _ _ _ (bv_no_x_costs a b n l) λ no_x.
    then 2 _ _ _ (bool_call 2 _ (omega arith)) λ any_x.
    then 10 _ _ _ (bool_to_bv_costs any_x) λ x.
    then 3 _ _ _ (bool_call 3 _ (omega arith)) λ less.
    then 10 0 _ _ (bool_to_bv_costs less) λ y. costs_ret 0 _ _ tt)

tv_strict_costs : (o : BinaryOp) (defined : ℕ) (a b : TritVec) (n : ℕ) → n ≤ 64
    → CostsOnly 19 (tv_strict o defined a b n)
unfolding tv_strict
tv_strict_costs o defined a b n l =
    then 6 _ _ _ (one_call 6 _ _ (rw (length-replicate n false) (omega arith))) λ none.
    then 6 _ _ _ (one_call 6 _ _ (rw (length-replicate n true) (omega arith))) λ all.
    then 4 _ _ _ (one_call 4 _ _ (omega arith)) λ x.
    then 3 0 _ _ (one_call 3 _ _ (omega arith)) λ y. costs_ret 0 _ _ tt

may_divide_costs : (a b : TritVec) (n : ℕ) → n ≤ 64 → CostsOnly 35 (may_divide a b n)
unfolding may_divide
may_divide_costs a b n l =
    then 21 _ _ _ (bv_no_x_costs a b n l) λ no_x.
    then 9 _ _ _ (bv_is_zero_costs b.y n l) λ by_zero.
    then 2 3 _ _ (bool_call 2 _ (omega arith)) λ not_by_zero. bool_call 3 _ (omega arith)

tv_divide_costs : (o : BinaryOp) (a b : TritVec) (n : ℕ) → n ≤ 64 → CostsOnly 68 (tv_divide o a b n)
tv_divide_costs o a b n l =
    costs_more (35 + 19) 68 _ _ (omega arith)
    (then 35 19 _ _ (may_divide_costs a b n l) λ defined. tv_strict_costs o defined a b n l)

pub tv_binary_costs : (o : Binary) (a b : TritVec) (n w : ℕ) → n ≤ 64 → CostsOnly 68 (tv_binary o a b n w)
tv_binary_costs cells.and a b n w l = tv_and_costs a b w
tv_binary_costs cells.or a b n w l = costs_more 64 68 _ _ (omega arith) (tv_or_costs a b w)
tv_binary_costs cells.xor a b n w l = costs_more 6 68 _ _ (omega arith) (tv_xor_costs a b)
tv_binary_costs cells.eq a b n w l = tv_equals_costs a b n l
tv_binary_costs cells.ult a b n w l = tv_less_costs c.bvult a b n l
tv_binary_costs cells.slt a b n w l = tv_less_costs c.bvslt a b n l
tv_binary_costs cells.mul a b n w l =
    costs_more (21 + 19) 68 _ _ (omega arith)
    (then 21 19 _ _ (bv_no_x_costs a b n l) λ no_x. tv_strict_costs c.bvmul no_x a b n l)
tv_binary_costs cells.udiv a b n w l = tv_divide_costs c.bvudiv a b n l
tv_binary_costs cells.umod a b n w l = tv_divide_costs c.bvurem a b n l
tv_binary_costs cells.sdiv_trunc a b n w l = tv_divide_costs c.bvsdiv a b n l
tv_binary_costs cells.smod_trunc a b n w l = tv_divide_costs c.bvsrem a b n l

-- ---- shifts, at a width of at most 64

tv_shift_costs : (on_x on_y : BinaryOp) (n : ℕ) (p : Prepared) → p.width ≤ 64 → CostsOnly 33 (tv_shift on_x on_y n p)
unfolding tv_shift
tv_shift_costs on_x on_y n p l =
    costs_more (9 + (3 + (6 + (4 + (3 + 8))))) 33 _ _ (omega arith)
    (then 9 _ _ _ (bv_is_zero_costs p.amount.x p.width l) λ no_x.
    then 3 _ _ _ (one_call 3 _ _ (omega arith)) λ moved.
    then 6 _ _ _ (one_call 6 _ _ (rw (length-replicate p.width true) (omega arith))) λ all.
    then 4 _ _ _ (one_call 4 _ _ (omega arith)) λ x.
    then 3 _ _ _ (one_call 3 _ _ (omega arith)) λ y. tv_extract_costs (n - 1) 0 (tv x y))

le_of_max : (v a : List Net) (stride : ℕ) → length v ≤ shift_width (length v) (length a) stride
unfolding shift_width
le_of_max v a stride = omega arith

amount_of_max : (v a : List Net) (stride : ℕ) → length a ≤ shift_width (length v) (length a) stride
unfolding shift_width
amount_of_max v a stride = omega arith

length_filled : (v : List Net) (w : ℕ) (n : Net) → length v ≤ w → length (v ++ replicate (w - length v) n) ≡ w
length_filled v w n l =
    rw (length-append v (replicate (w - length v) n), length-replicate (w - length v) n) (omega arith)

length-zext : (v : List Net) (w : ℕ) → length v ≤ w → length (zext v w) ≡ w
length-zext v w l = length_filled v w (constant Zero) l

length-extended : (signed : Bool) (v : List Net) (w : ℕ) → length v ≤ w → length (extended signed v w) ≡ w
length-extended true v w l = length_filled v w (get_or v (length v - 1) (constant Undef)) l
length-extended false v w l = length-zext v w l

-- What a pattern of a Match costs.
abbrev pub match_cost : List (List Trit) → ℕ
match_cost alternates = 12 + (length alternates * 76 + sum_by length alternates * 96)

module _ (reads_past : ℕ → Bool) where
  pub value_costs : (l : List Net) → CostsOnly (length l * 16) (value reads_past l)
  value_costs l = value_of_costs (net reads_past) (net_costs reads_past) l

  pub control_net_costs : (w : Control) → CostsOnly 16 (control_net reads_past w)
  unfolding control_net
  control_net_costs w = then 10 6 _ _ (net_costs reads_past w.net) λ a. invert_net_costs w a

  prepare_at_costs : (w : ℕ) (v a : List Net) (stride : ℕ) → w ≤ 64 → length v ≡ w → length a ≡ w
      → Costs 2057 (prepare_at reads_past w v a stride) (λ p. p.width ≡ w)
  unfolding prepare_at
  prepare_at_costs w v a stride l ev ea =
      costs_more (length v * 16 + (length a * 16 + (6 + (3 + 0)))) 2057 _ _ (omega arith)
      (costs_seq _ _ (λ _. Unit {0}) _ (λ v' _.
      costs_seq _ _ (λ _. Unit {0}) _ (λ a' _.
      costs_seq _ _ (λ _. Unit {0}) _ (λ b _.
      costs_seq 0 _ (λ _. Unit {0}) _ (λ m _. costs_ret 0 _ _ refl) 3 _ (one_call 3 _ _ (omega arith)))
      6 _ (one_call 6 _ _ (rw (length-nat2bv w stride) (omega arith))))
      (length a * 16) _ (value_costs a)) (length v * 16) _ (value_costs v))

  prepare_shift_costs : (v a : List Net) (stride : ℕ) (signed : Bool) → length v ≤ 64 → length a ≤ 32 → stride < 2 ^ 29
      → Costs 2057 (prepare_shift reads_past v a stride signed) (λ p. p.width ≤ 64)
  prepare_shift_costs v a stride signed lv la ls =
      costs_weaken 2057 _ _ _ (λ p e. subst (λ (k : ℕ). k ≤ 64) (sym e) width)
      (prepare_at_costs (shift_width (length v) (length a) stride) _ _ stride width
      (length-extended signed v _ (le_of_max v a stride)) (length-zext a _ (amount_of_max v a stride)))
    where
      width : shift_width (length v) (length a) stride ≤ 64
      width = shift_width-narrow (length v) (length a) stride lv la ls

  prepared_costs : (u a : List Net) (stride n : ℕ) (signed : Bool) (on_x on_y : BinaryOp) → length u ≤ 64 → length a ≤ 32
      → stride < 2 ^ 29
      → CostsOnly 2090 (prepare_shift reads_past u a stride signed >>= tv_shift on_x on_y n)
  prepared_costs u a stride n signed on_x on_y lu la ls =
      costs_seq 33 _ _ _ (λ p e. tv_shift_costs on_x on_y n p e) 2057 _ (prepare_shift_costs u a stride signed lu la ls)

  pub shifted_costs : (o : Shift) (v a : List Net) (stride : ℕ) → length v ≤ 63 → length a ≤ 32 → stride < 2 ^ 29
      → CostsOnly 2090 (shifted reads_past o v a stride)
  unfolding shifted
  shifted_costs cells.shl v a stride lv la ls =
      prepared_costs v a stride (length v) false c.bvshl c.bvshl (omega arith) la ls
  shifted_costs cells.ushr v a stride lv la ls =
      prepared_costs v a stride (length v) false c.bvlshr c.bvlshr (omega arith) la ls
  shifted_costs cells.sshr v a stride lv la ls =
      prepared_costs v a stride (length v) true c.bvashr c.bvashr (omega arith) la ls
  shifted_costs cells.xshr v a stride lv la ls =
      prepared_costs (v ++ (constant Undef ∷ [])) a stride (length v) true c.bvashr c.bvlshr
      (rw (length-append v (constant Undef ∷ [])) (omega arith)) la ls

  -- ---- Match: a position compared, an alternate, a pattern

  compared_costs : (v : Net) (mask : Trit) (prd : TritVec) → CostsOnly 96 (compared reads_past v mask prd)
  unfolding compared
  compared_costs v mask prd =
      then 10 (10 + (6 + (2 + 68))) _ _ (net_costs reads_past v) λ a.
      then 10 (6 + (2 + 68)) _ _ (net_costs reads_past (constant mask)) λ b.
      then 6 (2 + 68) _ _ (tv_xor_costs a b) λ differ.
      then 2 68 _ _ (tv_not_costs differ) λ same. tv_and_costs prd same 1

  product_costs : (nets : List Net) (pattern : List Trit) (prd : TritVec) →
      CostsOnly (length pattern * 96) (product reads_past nets pattern prd)
  unfolding product
  product_costs [] pattern prd = costs_ret _ _ _ tt
  product_costs (v ∷ nets) [] prd = costs_ret _ _ _ tt
  product_costs (v ∷ nets) (Undef ∷ pattern) prd =
      costs_more (length pattern * 96) (suc (length pattern) * 96) _ _ (omega arith) (product_costs nets pattern prd)
  product_costs (v ∷ nets) (Zero ∷ pattern) prd =
      costs_more (96 + length pattern * 96) (suc (length pattern) * 96) _ _ (omega arith)
      (then 96 (length pattern * 96) _ _ (compared_costs v Zero prd) λ prd. product_costs nets pattern prd)
  product_costs (v ∷ nets) (One ∷ pattern) prd =
      costs_more (96 + length pattern * 96) (suc (length pattern) * 96) _ _ (omega arith)
      (then 96 (length pattern * 96) _ _ (compared_costs v One prd) λ prd. product_costs nets pattern prd)

  sum_costs : (nets : List Net) (alternates : List (List Trit)) (t : TritVec)
      → CostsOnly (length alternates * 76 + sum_by length alternates * 96) (sum reads_past nets alternates t)
  unfolding sum sum_by
  sum_costs nets [] t = costs_ret _ _ _ tt
  sum_costs nets (pattern ∷ alternates) t =
      costs_more (12 + (length pattern * 96 + (64 + (length alternates * 76 + sum_by length alternates * 96))))
      (suc (length alternates) * 76 + (length pattern + sum_by length alternates) * 96) _ _ (omega arith)
      (then 12 _ _ _ (tv_lit_costs (One ∷ []) (omega arith)) λ prd.
      then (length pattern * 96) _ _ _ (product_costs nets pattern prd) λ prd.
      then 64 (length alternates * 76 + sum_by length alternates * 96) _ _ (tv_or_costs t prd 1) λ t. sum_costs nets
      alternates t)

  match_of_costs : (nets : List Net) (alternates : List (List Trit)) →
      CostsOnly (match_cost alternates) (match_of reads_past nets alternates)
  unfolding match_of
  match_of_costs nets alternates =
      then 12 (length alternates * 76 + sum_by length alternates * 96) _ _ (tv_lit_costs (Zero ∷ []) (omega arith)) λ t.
      sum_costs nets alternates t

  first_match_costs : (matches : TritVec) (k index : ℕ) (result : TritVec) → k ≤ 63 →
      CostsOnly (index * 132) (first_match matches k index result)
  unfolding first_match
  first_match_costs matches k zero result l = costs_ret _ _ _ tt
  first_match_costs matches k (suc index) result l =
      costs_more (8 + (12 + (112 + index * 132))) (suc index * 132) _ _ (omega arith)
      (then 8 _ _ _ (tv_extract_costs index index matches) λ s.
      then 12 _ _ _
      (tv_lit_costs (one_hot k index) (rw (length-tab k (λ (j : ℕ). cond (eqb j index) One Zero)) (omega arith)))
      λ hot.
      then 112 (index * 132) _ _ (tv_mux_costs s hot result k) λ result. first_match_costs matches k index result l)

  pub match_cell_costs : (nets : List Net) (enable : Net) (patterns : List (List (List Trit))) → length patterns ≤ 63
      → CostsOnly (sum_by match_cost patterns + length patterns * 138 + 154)
      (match_cell reads_past nets enable patterns (length patterns))
  unfolding match_cell
  match_cell_costs nets enable patterns l =
      costs_more (sum_by match_cost patterns + (length patterns * 6 + (20 + (10 + (12 + (length patterns * 132 + 112))))))
      (sum_by match_cost patterns + length patterns * 138 + 154) _ _ (omega arith)
      (costs_seq _ _ _ _ (λ ms e.
      then (length patterns * 6) _ _ _ (subst (λ (k : ℕ). CostsOnly (k * 6) (tv_concat ms)) e (tv_concat_costs ms)) λ ms.
      then 20 _ _ _ (tv_bind_costs ms (length patterns)) λ ms.
      then 10 _ _ _ (net_costs reads_past enable) λ enable.
      then 12 _ _ _
      (tv_lit_costs (replicate (length patterns) Zero) (rw (length-replicate (length patterns) Zero) (omega arith)))
      λ cold.
      then (length patterns * 132) 112 _ _ (first_match_costs ms (length patterns) (length patterns) cold l) λ result.
      tv_mux_costs enable result cold (length patterns))
      (sum_by match_cost patterns) (collect (match_of reads_past nets) patterns)
      (collect_costs match_cost (match_of reads_past nets) (match_of_costs nets) patterns))

  -- ---- Dff

  past_costs : (s w : ℕ) → CostsOnly (w * 16) (past_value (output_nets s w))
  past_costs s w =
      subst (λ (k : ℕ). CostsOnly (k * 16) (past_value (output_nets s w))) (length-tab w (λ (i : ℕ). slot (s + i)))
      (value_of_costs past_net (net_of_costs past) (output_nets s w))

  enabled_costs : (f : FlipFlop) (s w : ℕ) (enable dat : TritVec) →
      CostsOnly (w * 16 + 112) (enabled reads_past f s w enable dat)
  unfolding enabled
  enabled_costs f s w enable dat = then (w * 16) 112 _ _ (past_costs s w) λ old. tv_mux_costs enable dat old w

  reset_to_costs : (f : FlipFlop) (w : ℕ) (reset dat : TritVec) → length f.reset_value ≤ 64 →
      CostsOnly 124 (reset_to reads_past f w reset dat)
  unfolding reset_to
  reset_to_costs f w reset dat l = then 12 112 _ _ (tv_lit_costs f.reset_value l) λ to. tv_mux_costs reset to dat w

  loaded_costs : (over : Bool) (f : FlipFlop) (s w : ℕ) (reset enable dat : TritVec) → length f.reset_value ≤ 64
      → CostsOnly (w * 16 + 236) (loaded reads_past over f s w reset enable dat)
  unfolding loaded
  loaded_costs true f s w reset enable dat l =
      costs_more (w * 16 + 112 + 124) (w * 16 + 236) _ _ (omega arith)
      (then (w * 16 + 112) 124 _ _ (enabled_costs f s w enable dat) λ dat. reset_to_costs f w reset dat l)
  loaded_costs false f s w reset enable dat l =
      costs_more (124 + (w * 16 + 112)) (w * 16 + 236) _ _ (omega arith)
      (then 124 (w * 16 + 112) _ _ (reset_to_costs f w reset dat l) λ dat. enabled_costs f s w enable dat)

  cleared_costs : (has : Bool) (f : FlipFlop) (w : ℕ) (clear dat : TritVec) → length f.clear_value ≤ 64
      → CostsOnly 124 (cleared reads_past has f w clear dat)
  unfolding cleared
  cleared_costs true f w clear dat l = then 12 112 _ _ (tv_lit_costs f.clear_value l) λ to. tv_mux_costs clear to dat w
  cleared_costs false f w clear dat l = costs_ret _ _ _ tt

  clock_net_costs : (w : Control) → CostsOnly 102 (clock_net w)
  unfolding clock_net
  clock_net_costs w =
      then 10 (6 + (10 + (6 + (2 + 68)))) _ _ (net_of_costs curr w.net) λ now.
      then 6 (10 + (6 + (2 + 68))) _ _ (invert_net_costs w now) λ now.
      then 10 (6 + (2 + 68)) _ _ (net_of_costs past w.net) λ was.
      then 6 (2 + 68) _ _ (invert_net_costs w was) λ was.
      then 2 68 _ _ (tv_not_costs was) λ was_not. tv_and_costs now was_not 1

  pub dff_cell_costs : (f : FlipFlop) (s w : ℕ) → length f.clear_value ≤ 64 → length f.reset_value ≤ 64
      → CostsOnly (length f.dat * 16 + w * 32 + 622) (dff_cell reads_past f s w)
  unfolding dff_cell
  dff_cell_costs f s w lc lr =
      costs_more (length f.dat * 16 + (16 + (16 + (16 + (w * 16 + 236 + (102 + (w * 16 + (112 + 124))))))))
      (length f.dat * 16 + w * 32 + 622) _ _ (omega arith)
      (then (length f.dat * 16) _ _ _ (value_costs f.dat) λ dat.
      then 16 _ _ _ (control_net_costs f.clear) λ clear.
      then 16 _ _ _ (control_net_costs f.reset) λ reset.
      then 16 _ _ _ (control_net_costs f.enable) λ enable.
      then (w * 16 + 236) _ _ _ (loaded_costs f.reset_over_enable f s w reset enable dat lr) λ dat.
      then 102 _ _ _ (clock_net_costs f.clock) λ edge.
      then (w * 16) _ _ _ (past_costs s w) λ old.
      then 112 124 _ _ (tv_mux_costs edge dat old w) λ dat. cleared_costs (has_clear f) f w clear dat lc)

  -- ---- Adc

  pub adc_cell_costs : (a b : List Net) (carry : Net) → length a ≤ 63 →
      CostsOnly (length a * 43 + length b * 16 + 80) (adc_cell reads_past a b carry)
  unfolding adc_cell
  adc_cell_costs [] b carry l = costs_more 10 (0 * 43 + length b * 16 + 80) _ _ (omega arith) (net_costs reads_past carry)
  adc_cell_costs (n ∷ a) b carry l =
      costs_more (length (n ∷ a) * 16 + (length b * 16 + (10 + (length (n ∷ a) * 27 + 70))))
      (length (n ∷ a) * 43 + length b * 16 + 80) _ _ (omega arith)
      (then (length (n ∷ a) * 16) _ _ _ (value_costs (n ∷ a)) λ x.
      then (length b * 16) _ _ _ (value_costs b) λ y.
      then 10 _ _ _ (net_costs reads_past carry) λ z. tv_adc_costs x y z (length (n ∷ a)) l)
