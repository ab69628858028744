-- Every run of the builder that reads a net by its x reads it by its y too, and the other way round: a net is read by
-- `tv_const`, which asks for both, and no function asks for a name by itself.
use mathlib.Core.Path.{◌≡◌, ap}
use mathlib.Core.Bool.{Bool, true, false, cond}
use mathlib.Core.Option.{none}
use mathlib.Core.Logic.{⊎_elim}
use mathlib.Core.List.Memᴰ
use mathlib.Core.List.{List, [], ◌∷◌, ◌++◌, Memᴰ}
use Prim.Native.Nat.{ℕ, zero, suc}
use lib.ListN.{replicate}
use Rattle.logic.specs.Net.{Net, constant, slot}
use Rattle.logic.specs.declared.Trit.{Trit}
use Rattle.logic.specs.declared.Trit.TheVariants.{Zero, One, Undef}
use Rattle.cell.specs.Cell.{Cell, Control, FlipFlop, Binary, Shift}
use Rattle.cell.specs.Cell as cells
use Rattle.cell.specs.Design.{Design, total}
use Rattle.cell.specs.Each.{Each}
use Rattle.engine.specs.Call.{BinaryOp, Term}
use Rattle.working_out.specs.Reading.{reads_past}
use Rattle.smt.specs.Prog.{Prog, ret, ◌>>=◌, Age, curr, past, Half, is_undef, is_one, TritVec, BitVec, vector}
use Rattle.smt.specs.Builder.{bv_concat_on, bv_concat, bv_is_zero, bv_to_bool, bool_to_bv, tv_lit, tv_bind, bv_bind, tv_concat_on}
use Rattle.smt.specs.Builder.{tv_concat, tv_extract, tv_is0, tv_is1, tv_eq, tv_refines, tv_not, tv_and, tv_or, tv_xor, tv_mux}
use Rattle.smt.specs.Builder.{collect, net_of, value_of, curr_net, past_net, curr_value, past_value, output_nets, invert_net}
use Rattle.smt.specs.Builder.{clock_net, bv_no_x, carry_x, tv_adc, tv_equals, tv_less, tv_strict, may_divide, tv_binary}
use Rattle.smt.specs.Builder.{Prepared, tv_shift}
use Rattle.smt.specs.Builder.{first_match, overwritten, net, value, control_net, prepare_at, shifted, compared, product}
use Rattle.smt.specs.Builder.{sum, match_of, match_cell, enabled, reset_to, loaded, cleared, has_clear, dff_cell, adc_cell}
use Rattle.smt.specs.Builder.{cell}
use Rattle.smt.specs.Emit.{St, emit}
use Rattle.order.specs.Verify.{Step, declared, asserted, obliged, claim, new_cell, replace_net, replace_void_net}
use Rattle.order.specs.Verify.{join_pasts, currents, steps, start}
use Rattle.order.specs.Reads.{NetRead, net_read, reads, step_reads, reads_of}
use Rattle.order.proofs.NetReads.{reads_seq, slot-reads}
use Rattle.order.proofs.EachStep.{each_step}

-- ---- a run that reads a net by one of its names reads it by both

abbrev pub Pairs : List NetRead → Type 0
Pairs rs = (a : Age) (i : ℕ) (h g : Half) → Memᴰ (net_read a i h) rs → Memᴰ (net_read a i g) rs

pub none_read : Pairs []
none_read a i h g m = absurd (Memᴰ.not-nil m)

pub pairs_append : (rs qs : List NetRead) → Pairs rs → Pairs qs → Pairs (rs ++ qs)
pairs_append rs qs p q a i h g m =
    ⊎_elim (λ (l : _). Memᴰ.append_left qs (p a i h g l)) (λ (r : _). Memᴰ.append_right rs (q a i h g r))
    (Memᴰ.append_cases rs m)

abbrev pub Paired : {A : Type 0} → Prog A → Type 0
Paired m = (s : St) → Pairs (reads m s)

pub paired_seq : {A B : Type 0} (m : Prog A) (g : A → Prog B) → Paired m → ((x : A) → Paired (g x)) → Paired (m >>= g)
paired_seq m g h i s =
    rw (reads_seq m g s) (pairs_append (reads m s) _ (h s) (i (emit m s).res (emit m s).st))

paired_ret : {A : Type 0} (a : A) → Paired (ret a)
unfolding reads
paired_ret a s = none_read

-- ---- a net: its two names

paired_constant : (a : Age) (t : Trit) → Paired (net_of a (constant t))
unfolding net_of tv_lit ◌>>=◌ reads
paired_constant a t s = none_read

both_halves : (a : Age) (i : ℕ) → Pairs (net_read a i is_undef ∷ net_read a i is_one ∷ [])
both_halves a i b j h g m =
    ⊎_elim (λ e. both (ap (λ (r : NetRead). r.age) e) (ap (λ (r : NetRead). r.slot) e) g)
    (λ m. let e = Memᴰ.eq_of_singleton m in
    both (ap (λ (r : NetRead). r.age) e) (ap (λ (r : NetRead). r.slot) e) g)
    (Memᴰ.cases_cons m)
  where
    both : b ≡ a → j ≡ i → (g : Half) → Memᴰ (net_read b j g) (net_read a i is_undef ∷ net_read a i is_one ∷ [])
    both p q is_undef = Memᴰ.head (λ t. record { age = p t; slot = q t; half = is_undef })
    both p q is_one = Memᴰ.tail (Memᴰ.head (λ t. record { age = p t; slot = q t; half = is_one }))

paired_slot : (a : Age) (i : ℕ) → Paired (net_of a (slot i))
paired_slot a i s = rw (slot-reads a i s) (both_halves a i)

pub paired_net_of : (a : Age) (n : Net) → Paired (net_of a n)
paired_net_of a (constant t) = paired_constant a t
paired_net_of a (slot i) = paired_slot a i

pub paired_net : (reads_past : ℕ → Bool) (n : Net) → Paired (net reads_past n)
unfolding net
paired_net reads_past (constant t) = paired_net_of curr (constant t)
paired_net reads_past (slot i) = go (reads_past i)
  where
    go : (b : Bool) → Paired (cond b (net_of past (slot i)) (net_of curr (slot i)))
    go true = paired_net_of past (slot i)
    go false = paired_net_of curr (slot i)

-- ---- vectors: one after the other, then joined

paired_collect : {A B : Type 0} (f : A → Prog B) → ((a : A) → Paired (f a)) → (l : List A) → Paired (collect f l)
unfolding collect
paired_collect f h [] = paired_ret []
paired_collect f h (a ∷ l) = paired_seq _ _ (h a) λ b. paired_seq _ _ (paired_collect f h l) λ bs. paired_ret (b ∷ bs)

paired_tv_concat_on : (e : TritVec) (l : List TritVec) → Paired (tv_concat_on e l)
unfolding tv_concat_on
paired_tv_concat_on e [] = paired_ret e
paired_tv_concat_on e (f ∷ l) = paired_seq _ _ (paired_tv_concat_on f l) λ msb. unfold ◌>>=◌ reads in λ s. none_read

paired_tv_concat : (l : List TritVec) → Paired (tv_concat l)
unfolding tv_concat
paired_tv_concat [] = paired_ret _
paired_tv_concat (e ∷ l) = paired_tv_concat_on e l

paired_value_of : (f : Net → Prog TritVec) → ((a : Net) → Paired (f a)) → (l : List Net) → Paired (value_of f l)
unfolding value_of
paired_value_of f h l = paired_seq _ _ (paired_collect f h l) λ tvs. paired_tv_concat tvs

-- ---- runs that read no net

paired_vector : (w : ℕ) (t : Term) → Paired (vector w t)
unfolding reads
paired_vector w t s = none_read

paired_bv_bind : (a : BitVec) (w : ℕ) → Paired (bv_bind a w)
unfolding reads
paired_bv_bind a w s = none_read

paired_tv_extract : (i j : ℕ) (a : TritVec) → Paired (tv_extract i j a)
unfolding tv_extract ◌>>=◌ reads
paired_tv_extract i j a s = none_read

paired_tv_lit : (t : List Trit) → Paired (tv_lit t)
unfolding tv_lit ◌>>=◌ reads
paired_tv_lit t s = none_read

pub paired_tv_eq : (a b : TritVec) → Paired (tv_eq a b)
unfolding tv_eq ◌>>=◌ reads
paired_tv_eq a b s = none_read

pub paired_tv_refines : (a b : TritVec) → Paired (tv_refines a b)
unfolding tv_refines ◌>>=◌ reads
paired_tv_refines a b s = none_read

paired_tv_not : (a : TritVec) → Paired (tv_not a)
unfolding tv_not ◌>>=◌ reads
paired_tv_not a s = none_read

paired_tv_xor : (a b : TritVec) → Paired (tv_xor a b)
unfolding tv_xor ◌>>=◌ reads
paired_tv_xor a b s = none_read

paired_tv_and : (a b : TritVec) (w : ℕ) → Paired (tv_and a b w)
unfolding tv_and tv_is0 ◌>>=◌ reads
paired_tv_and a b w s = none_read

paired_tv_or : (a b : TritVec) (w : ℕ) → Paired (tv_or a b w)
unfolding tv_or tv_is1 ◌>>=◌ reads
paired_tv_or a b w s = none_read

paired_tv_mux : (c a b : TritVec) (w : ℕ) → Paired (tv_mux c a b w)
unfolding tv_mux tv_is0 tv_is1 bv_to_bool ◌>>=◌ reads
paired_tv_mux c a b w s = none_read

paired_tv_bind : (a : TritVec) (w : ℕ) → Paired (tv_bind a w)
unfolding reads
paired_tv_bind a w s = none_read

paired_invert_net : (w : Control) (a : TritVec) → Paired (invert_net w a)
unfolding invert_net ◌>>=◌ reads
paired_invert_net w a s = none_read

paired_tv_binary : (o : Binary) (a b : TritVec) (n w : ℕ) → Paired (tv_binary o a b n w)
unfolding tv_equals tv_less tv_strict may_divide bv_no_x bv_is_zero bool_to_bv ◌>>=◌ reads
paired_tv_binary cells.and a b n w = paired_tv_and a b w
paired_tv_binary cells.or a b n w = paired_tv_or a b w
paired_tv_binary cells.xor a b n w = paired_tv_xor a b
paired_tv_binary cells.eq a b n w = λ s. none_read
paired_tv_binary cells.ult a b n w = λ s. none_read
paired_tv_binary cells.slt a b n w = λ s. none_read
paired_tv_binary cells.mul a b n w = λ s. none_read
paired_tv_binary cells.udiv a b n w = λ s. none_read
paired_tv_binary cells.umod a b n w = λ s. none_read
paired_tv_binary cells.sdiv_trunc a b n w = λ s. none_read
paired_tv_binary cells.smod_trunc a b n w = λ s. none_read

paired_tv_shift : (on_x on_y : BinaryOp) (n : ℕ) (p : Prepared) → Paired (tv_shift on_x on_y n p)
unfolding tv_shift bv_is_zero tv_extract ◌>>=◌ reads
paired_tv_shift on_x on_y n p s = none_read

paired_carry_x : (a b : TritVec) (more i : ℕ) (carry : BitVec) → Paired (carry_x a b more i carry)
unfolding carry_x
paired_carry_x a b zero i carry = paired_ret _
paired_carry_x a b (suc more) i carry =
    paired_seq _ _ (paired_vector _ _) λ ax.
    paired_seq _ _ (paired_vector _ _) λ bx.
    paired_seq _ _ (paired_vector _ _) λ abx.
    paired_seq _ _ (paired_vector _ _) λ any.
    paired_seq _ _ (paired_bv_bind any 1) λ carry.
    paired_seq _ _ (paired_carry_x a b more (suc i) carry) λ xs. paired_ret (carry ∷ xs)

paired_bv_concat_on : (e : BitVec) (l : List BitVec) → Paired (bv_concat_on e l)
unfolding bv_concat_on
paired_bv_concat_on e [] = paired_ret e
paired_bv_concat_on e (f ∷ l) = paired_seq _ _ (paired_bv_concat_on f l) λ msb. unfold reads in λ s. none_read

paired_bv_concat : (l : List BitVec) → Paired (bv_concat l)
unfolding bv_concat
paired_bv_concat [] = paired_ret _
paired_bv_concat (e ∷ l) = paired_bv_concat_on e l

paired_tv_adc : (a b carry : TritVec) (n : ℕ) → Paired (tv_adc a b carry n)
unfolding tv_adc
paired_tv_adc a b carry n =
    paired_seq _ _ (paired_tv_bind a n) λ a.
    paired_seq _ _ (paired_tv_bind b n) λ b.
    paired_seq _ _ (paired_carry_x a b n 0 carry.x) λ xs.
    paired_seq _ _ (paired_bv_concat xs) λ x.
    paired_seq _ _ (paired_vector _ _) λ none.
    paired_seq _ _ (paired_vector _ _) λ a_ext.
    paired_seq _ _ (paired_vector _ _) λ none.
    paired_seq _ _ (paired_vector _ _) λ b_ext.
    paired_seq _ _ (paired_vector _ _) λ total.
    paired_seq _ _ (paired_vector _ _) λ none.
    paired_seq _ _ (paired_vector _ _) λ carry_ext.
    paired_seq _ _ (paired_vector _ _) λ y. paired_ret _

paired_first_match : (matches : TritVec) (k i : ℕ) (result : TritVec) → Paired (first_match matches k i result)
unfolding first_match
paired_first_match matches k zero result = paired_ret result
paired_first_match matches k (suc i) result =
    paired_seq _ _ (paired_tv_extract i i matches) λ c.
    paired_seq _ _ (paired_tv_lit _) λ hot.
    paired_seq _ _ (paired_tv_mux c hot result k) λ result. paired_first_match matches k i result

-- ---- cells

paired_clock_net : (w : Control) → Paired (clock_net w)
unfolding clock_net
paired_clock_net w =
    paired_seq _ _ (paired_net_of curr w.net) λ now.
    paired_seq _ _ (paired_invert_net w now) λ now.
    paired_seq _ _ (paired_net_of past w.net) λ was.
    paired_seq _ _ (paired_invert_net w was) λ was.
    paired_seq _ _ (paired_tv_not was) λ was_not. paired_tv_and now was_not 1

pub paired_output : (s w : ℕ) → Paired (curr_value (output_nets s w))
paired_output s w = paired_value_of curr_net (paired_net_of curr) (output_nets s w)

paired_past_output : (s w : ℕ) → Paired (past_value (output_nets s w))
paired_past_output s w = paired_value_of past_net (paired_net_of past) (output_nets s w)

module _ (reads_past : ℕ → Bool) where
  paired_value : (l : List Net) → Paired (value reads_past l)
  paired_value l = paired_value_of (net reads_past) (paired_net reads_past) l

  paired_control_net : (w : Control) → Paired (control_net reads_past w)
  unfolding control_net
  paired_control_net w = paired_seq _ _ (paired_net reads_past w.net) λ a. paired_invert_net w a

  paired_prepare_at : (w : ℕ) (v a : List Net) (stride : ℕ) → Paired (prepare_at reads_past w v a stride)
  unfolding prepare_at
  paired_prepare_at w v a stride =
      paired_seq _ _ (paired_value v) λ v.
      paired_seq _ _ (paired_value a) λ a.
      paired_seq _ _ (paired_vector _ _) λ by.
      paired_seq _ _ (paired_vector _ _) λ mul. paired_ret _

  paired_shifted : (o : Shift) (v a : List Net) (stride : ℕ) → Paired (shifted reads_past o v a stride)
  unfolding shifted
  paired_shifted cells.shl v a stride = paired_seq _ _ (paired_prepare_at _ _ _ stride) λ p. paired_tv_shift _ _ _ p
  paired_shifted cells.ushr v a stride = paired_seq _ _ (paired_prepare_at _ _ _ stride) λ p. paired_tv_shift _ _ _ p
  paired_shifted cells.sshr v a stride = paired_seq _ _ (paired_prepare_at _ _ _ stride) λ p. paired_tv_shift _ _ _ p
  paired_shifted cells.xshr v a stride = paired_seq _ _ (paired_prepare_at _ _ _ stride) λ p. paired_tv_shift _ _ _ p

  paired_compared : (v : Net) (mask : Trit) (prd : TritVec) → Paired (compared reads_past v mask prd)
  unfolding compared
  paired_compared v mask prd =
      paired_seq _ _ (paired_net reads_past v) λ a.
      paired_seq _ _ (paired_net reads_past (constant mask)) λ b.
      paired_seq _ _ (paired_tv_xor a b) λ differ.
      paired_seq _ _ (paired_tv_not differ) λ same. paired_tv_and prd same 1

  paired_product : (nets : List Net) (pattern : List Trit) (prd : TritVec) → Paired (product reads_past nets pattern prd)
  unfolding product
  paired_product [] pattern prd = paired_ret prd
  paired_product (v ∷ nets) [] prd = paired_ret prd
  paired_product (v ∷ nets) (Undef ∷ pattern) prd = paired_product nets pattern prd
  paired_product (v ∷ nets) (Zero ∷ pattern) prd =
      paired_seq _ _ (paired_compared v Zero prd) λ prd. paired_product nets pattern prd
  paired_product (v ∷ nets) (One ∷ pattern) prd =
      paired_seq _ _ (paired_compared v One prd) λ prd. paired_product nets pattern prd

  paired_sum : (nets : List Net) (alternates : List (List Trit)) (total : TritVec)
      → Paired (sum reads_past nets alternates total)
  unfolding sum
  paired_sum nets [] total = paired_ret total
  paired_sum nets (pattern ∷ alternates) total =
      paired_seq _ _ (paired_tv_lit (One ∷ [])) λ prd.
      paired_seq _ _ (paired_product nets pattern prd) λ prd.
      paired_seq _ _ (paired_tv_or total prd 1) λ total. paired_sum nets alternates total

  paired_match_of : (nets : List Net) (alternates : List (List Trit)) → Paired (match_of reads_past nets alternates)
  unfolding match_of
  paired_match_of nets alternates = paired_seq _ _ (paired_tv_lit (Zero ∷ [])) λ total. paired_sum nets alternates total

  paired_match_cell : (nets : List Net) (enable : Net) (patterns : List (List (List Trit))) (k : ℕ)
      → Paired (match_cell reads_past nets enable patterns k)
  unfolding match_cell
  paired_match_cell nets enable patterns k =
      paired_seq _ _ (paired_collect (match_of reads_past nets) (paired_match_of nets) patterns) λ matches.
      paired_seq _ _ (paired_tv_concat matches) λ matches.
      paired_seq _ _ (paired_tv_bind matches k) λ matches.
      paired_seq _ _ (paired_net reads_past enable) λ enable.
      paired_seq _ _ (paired_tv_lit (replicate k Zero)) λ cold.
      paired_seq _ _ (paired_first_match matches k k cold) λ result. paired_tv_mux enable result cold k

  paired_enabled : (f : FlipFlop) (s w : ℕ) (enable dat : TritVec) → Paired (enabled reads_past f s w enable dat)
  unfolding enabled
  paired_enabled f s w enable dat = paired_seq _ _ (paired_past_output s w) λ old. paired_tv_mux enable dat old w

  paired_reset_to : (f : FlipFlop) (w : ℕ) (reset dat : TritVec) → Paired (reset_to reads_past f w reset dat)
  unfolding reset_to
  paired_reset_to f w reset dat = paired_seq _ _ (paired_tv_lit f.reset_value) λ to. paired_tv_mux reset to dat w

  paired_loaded : (over : Bool) (f : FlipFlop) (s w : ℕ) (reset enable dat : TritVec)
      → Paired (loaded reads_past over f s w reset enable dat)
  unfolding loaded
  paired_loaded true f s w reset enable dat =
      paired_seq _ _ (paired_enabled f s w enable dat) λ dat. paired_reset_to f w reset dat
  paired_loaded false f s w reset enable dat =
      paired_seq _ _ (paired_reset_to f w reset dat) λ dat. paired_enabled f s w enable dat

  paired_cleared : (has : Bool) (f : FlipFlop) (w : ℕ) (clear dat : TritVec)
      → Paired (cleared reads_past has f w clear dat)
  unfolding cleared
  paired_cleared true f w clear dat = paired_seq _ _ (paired_tv_lit f.clear_value) λ to. paired_tv_mux clear to dat w
  paired_cleared false f w clear dat = paired_ret dat

  paired_dff_cell : (f : FlipFlop) (s w : ℕ) → Paired (dff_cell reads_past f s w)
  unfolding dff_cell
  paired_dff_cell f s w =
      paired_seq _ _ (paired_value f.dat) λ dat.
      paired_seq _ _ (paired_control_net f.clear) λ clear.
      paired_seq _ _ (paired_control_net f.reset) λ reset.
      paired_seq _ _ (paired_control_net f.enable) λ enable.
      paired_seq _ _ (paired_loaded f.reset_over_enable f s w reset enable dat) λ dat.
      paired_seq _ _ (paired_clock_net f.clock) λ edge.
      paired_seq _ _ (paired_past_output s w) λ old.
      paired_seq _ _ (paired_tv_mux edge dat old w) λ dat. paired_cleared (has_clear f) f w clear dat

  paired_adc_cell : (a b : List Net) (carry : Net) → Paired (adc_cell reads_past a b carry)
  unfolding adc_cell
  paired_adc_cell [] b carry = paired_net reads_past carry
  paired_adc_cell (n ∷ a) b carry =
      paired_seq _ _ (paired_value (n ∷ a)) λ x.
      paired_seq _ _ (paired_value b) λ y.
      paired_seq _ _ (paired_net reads_past carry) λ z. paired_tv_adc x y z _

  pub paired_cell : (s w : ℕ) (a : Cell) → Paired (cell reads_past s w a)
  unfolding cell
  paired_cell s w cells.void = paired_ret _
  paired_cell s w cells.note = paired_ret _
  paired_cell s w (cells.input n) = paired_ret _
  paired_cell s w (cells.io_buf n) = paired_value (output_nets s w)
  paired_cell s w (cells.unary cells.buf a) = paired_value a
  paired_cell s w (cells.unary cells.inverter a) = paired_seq _ _ (paired_value a) λ x. paired_tv_not x
  paired_cell s w (cells.binary o a b) =
      paired_seq _ _ (paired_value a) λ x.
      paired_seq _ _ (paired_value b) λ y. paired_tv_binary o x y _ w
  paired_cell s w (cells.mux sel a b) =
      paired_seq _ _ (paired_net reads_past sel) λ c.
      paired_seq _ _ (paired_value a) λ x.
      paired_seq _ _ (paired_value b) λ y. paired_tv_mux c x y w
  paired_cell s w (cells.adc a b carry) = paired_adc_cell a b carry
  paired_cell s w (cells.aig a b) =
      paired_seq _ _ (paired_control_net a) λ x.
      paired_seq _ _ (paired_control_net b) λ y. paired_tv_and x y 1
  paired_cell s w (cells.shift o nets amount stride) = paired_shifted o nets amount stride
  paired_cell s w (cells.match nets enable patterns) = paired_match_cell nets enable patterns _
  paired_cell s w (cells.assign nets enable update offset) =
      paired_seq _ _ (paired_net reads_past enable) λ c.
      paired_seq _ _ (paired_value (overwritten nets offset update)) λ x.
      paired_seq _ _ (paired_value nets) λ y. paired_tv_mux c x y w
  paired_cell s w (cells.dff f) = paired_dff_cell f s w

-- ---- steps

abbrev PairedStep : Step → Type 0
PairedStep (declared m) = Paired m
PairedStep (asserted m) = Paired m
PairedStep (obliged m) = Paired m

module _ (reads_past : ℕ → Bool) where
  paired_claim : (s w : ℕ) (a : Cell) → Paired (claim reads_past s w a)
  unfolding claim
  paired_claim s w a =
      paired_seq _ _ (paired_cell _ s w a) λ terms.
      paired_seq _ _ (paired_output s w) λ out. paired_tv_eq _ _

  paired_new_cell : (s w : ℕ) (a : Cell) → Paired (new_cell reads_past s w a)
  unfolding new_cell
  paired_new_cell s w a =
      paired_seq _ _ (paired_cell _ s w a) λ terms.
      paired_seq _ _ (paired_output s w) λ out. paired_tv_refines _ _

  paired_replace_net : (from to : Net) → Paired (replace_net reads_past from to)
  unfolding replace_net
  paired_replace_net from to =
      paired_seq _ _ (paired_net_of _ _) λ a.
      paired_seq _ _ (paired_net _ _) λ b. paired_tv_refines _ _

  paired_replace_void_net : (from to : Net) → Paired (replace_void_net reads_past from to)
  unfolding replace_void_net
  paired_replace_void_net from to =
      paired_seq _ _ (paired_net_of _ _) λ a.
      paired_seq _ _ (paired_net _ _) λ b. paired_tv_eq _ _

paired_join_pasts : (from to : Net) → Paired (join_pasts from to)
unfolding join_pasts
paired_join_pasts from to =
    paired_seq _ _ (paired_net_of _ _) λ a.
    paired_seq _ _ (paired_net_of _ _) λ b. paired_tv_eq _ _

paired_currents : (from to : Net) → Paired (currents from to)
unfolding currents
paired_currents from to =
    paired_seq _ _ (paired_net_of _ _) λ a.
    paired_seq _ _ (paired_net_of _ _) λ b. paired_tv_refines _ _

paired_steps : (d : Design) → Each PairedStep (steps d)
paired_steps d = each_step PairedStep d (record {
  input = paired_output;
  cell = paired_claim (reads_past d);
  new = paired_new_cell (reads_past d);
  void = paired_replace_void_net (reads_past d);
  pasts = paired_join_pasts;
  currents = paired_currents;
  net = paired_replace_net (reads_past d);
})

work-pairs : (steps : List Step) → Each PairedStep steps → (s : St) → Pairs (step_reads steps s)
unfolding step_reads
work-pairs [] h s = none_read
work-pairs (declared m ∷ rest) h s = pairs_append (reads m s) _ (h.0 s) (work-pairs rest h.1 (emit m s).st)
work-pairs (asserted m ∷ rest) h s = pairs_append (reads m s) _ (h.0 s) (work-pairs rest h.1 (emit m s).st)
work-pairs (obliged m ∷ rest) h s = pairs_append (reads m s) _ (h.0 s) (work-pairs rest h.1 (emit m s).st)

-- The order of work reads each net by both its names or by none.
pub reads-pairs : (d : Design) → Pairs (reads_of d)
reads-pairs d = work-pairs (steps d) (paired_steps d) (start (total d))
