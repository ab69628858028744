-- Document 01, "Modules", builder. `SmtBuilder` of smt.rs, from bv_lit to cell: each function under its own name and in
-- the Rust's order of evaluation (arguments left to right, the fields of a struct as the Rust writes them), one line
-- for each engine call.
use Rattle.std.specs.Prelude.{Bool, true, false, cond, not, List, [], ◌∷◌, ◌++◌, map, ℕ, zero, suc, ◌+◌, ◌-◌, max, eqb, length, get_or, take, drop, replicate}
use Rattle.std.specs.Float.Ieee.{size}
use Rattle.logic.specs.Table.{tab}
use Rattle.logic.specs.Trit.{x_of, y_of}
use Rattle.logic.specs.Net.{Net, constant, slot}
use Rattle.logic.specs.declared.Trit.{Trit}
use Rattle.logic.specs.declared.Trit.TheVariants.{Zero, One, Undef}
use Rattle.bitvec.specs.Bits.{Bits, nat2bv}
use Rattle.engine.specs.Call.{BinaryOp, Compare}
use Rattle.engine.specs.Call as c
use Rattle.cell.specs.Cell.{Cell, Control, FlipFlop, Binary, Shift}
use Rattle.cell.specs.Cell as cells
use Rattle.smt.specs.Prog.{Prog, ret, declare, bind, bind2, ◌>>=◌, Age, curr, past, Half, is_undef, is_one, BitVec}
use Rattle.smt.specs.Prog.{bv, TritVec, tv, build_bool_lit, build_bool_ite, build_not, build_and, build_bitvec_eq}
use Rattle.smt.specs.Prog.{build_compare, build_bitvec_lit, build_bitvec_ite, build_concat, build_extract, build_bvnot}
use Rattle.smt.specs.Prog.{build_op2, build_bvand, build_bvor, build_bvxor, build_bvadd, build_bvcomp, build_bvmul}

-- ---- bit vectors

abbrev pub bv_lit : Bits → Prog BitVec
bv_lit value = build_bitvec_lit value

abbrev pub bv_const : Age → ℕ → Half → Prog BitVec
bv_const a i h = declare a i h λ k. ret (bv k 1)

abbrev pub bv_bind : BitVec → ℕ → Prog BitVec
bv_bind value w = bind w value.term λ k. ret (bv k w)

-- From the top: the last element, then each one before it below what there is. The Rust has no vector of no elements.
abbrev pub no_vec : BitVec
no_vec = bv 0 0

unfoldable pub bv_concat_on : BitVec → List BitVec → Prog BitVec
bv_concat_on e [] = ret e
bv_concat_on e (f ∷ fs) = do
  msb ← bv_concat_on f fs
  build_concat msb e

unfoldable pub bv_concat : List BitVec → Prog BitVec
bv_concat [] = ret no_vec
bv_concat (e ∷ es) = bv_concat_on e es

abbrev pub zeros : ℕ → Bits
zeros w = replicate w false

abbrev pub ones : ℕ → Bits
ones w = replicate w true

unfoldable pub bv_is_zero : BitVec → ℕ → Prog ℕ
bv_is_zero value w = do
  none ← bv_lit (zeros w)
  build_bitvec_eq value none

unfoldable pub bv_to_bool : BitVec → Prog ℕ
bv_to_bool value = do
  one ← bv_lit (true ∷ [])
  build_bitvec_eq value one

unfoldable pub bool_to_bv : ℕ → Prog BitVec
bool_to_bv value = do
  one ← bv_lit (true ∷ [])
  none ← bv_lit (false ∷ [])
  build_bitvec_ite value one none

-- ---- trit vectors

unfoldable pub tv_lit : List Trit → Prog TritVec
tv_lit value = do
  x ← bv_lit (map x_of value)
  y ← bv_lit (map y_of value)
  ret (tv x y)

unfoldable pub tv_const : Age → ℕ → Prog TritVec
tv_const a i = do
  x ← bv_const a i is_undef
  y ← bv_const a i is_one
  ret (tv x y)

abbrev pub tv_bind : TritVec → ℕ → Prog TritVec
tv_bind value w = bind2 w value.x.term value.y.term λ x y. ret (tv (bv x w) (bv y w))

unfoldable pub tv_concat_on : TritVec → List TritVec → Prog TritVec
tv_concat_on e [] = ret e
tv_concat_on e (f ∷ fs) = do
  msb ← tv_concat_on f fs
  x ← build_concat msb.x e.x
  y ← build_concat msb.y e.y
  ret (tv x y)

unfoldable pub tv_concat : List TritVec → Prog TritVec
tv_concat [] = ret (tv no_vec no_vec)
tv_concat (e ∷ es) = tv_concat_on e es

unfoldable pub tv_extract : ℕ → ℕ → TritVec → Prog TritVec
tv_extract msb lsb a = do
  x ← build_extract msb lsb a.x
  y ← build_extract msb lsb a.y
  ret (tv x y)

unfoldable pub tv_is0 : TritVec → Prog BitVec
tv_is0 a = do
  y ← build_bvnot a.y
  x ← build_bvnot a.x
  build_bvand y x

unfoldable pub tv_is1 : TritVec → Prog BitVec
tv_is1 a = do
  x ← build_bvnot a.x
  build_bvand a.y x

unfoldable pub tv_eq : TritVec → TritVec → Prog ℕ
tv_eq a b = do
  x ← build_bitvec_eq a.x b.x
  y ← build_bitvec_eq a.y b.y
  build_and (x ∷ y ∷ [])

-- If a bit is X in `to`, it should be X in `from`; if it was 0 or 1 in `from`, it should be that same value in `to`.
unfoldable pub tv_refines : TritVec → TritVec → Prog ℕ
tv_refines from to = do
  from_def ← build_bvnot from.x
  both_x ← build_bvand to.x from.x
  x ← build_bitvec_eq to.x both_x
  from_y ← build_bvand from_def from.y
  to_y ← build_bvand from_def to.y
  y ← build_bitvec_eq from_y to_y
  build_and (x ∷ y ∷ [])

unfoldable pub tv_not : TritVec → Prog TritVec
tv_not a = do
  y ← build_bvnot a.y
  ret (tv a.x y)

--   0 1 X
-- 0 0 0 0
-- 1 0 1 X
-- X 0 X X
unfoldable pub tv_and : TritVec → TritVec → ℕ → Prog TritVec
tv_and a b w = do
  a ← tv_bind a w
  b ← tv_bind b w
  a_is0 ← tv_is0 a
  b_is0 ← tv_is0 b
  y ← build_bvand a.y b.y
  some_x ← build_bvor a.x b.x
  some0 ← build_bvor a_is0 b_is0
  no0 ← build_bvnot some0
  x ← build_bvand some_x no0
  ret (tv x y)

--   0 1 X
-- 0 0 1 X
-- 1 1 1 1
-- X X 1 X
unfoldable pub tv_or : TritVec → TritVec → ℕ → Prog TritVec
tv_or a b w = do
  a ← tv_bind a w
  b ← tv_bind b w
  a_is1 ← tv_is1 a
  b_is1 ← tv_is1 b
  y ← build_bvor a.y b.y
  some_x ← build_bvor a.x b.x
  some1 ← build_bvor a_is1 b_is1
  no1 ← build_bvnot some1
  x ← build_bvand some_x no1
  ret (tv x y)

--   0 1 X
-- 0 0 1 X
-- 1 1 0 X
-- X X X X
unfoldable pub tv_xor : TritVec → TritVec → Prog TritVec
tv_xor a b = do
  y ← build_bvxor a.y b.y
  x ← build_bvor a.x b.x
  ret (tv x y)

-- S A B O    S A B O    S A B O
-- 0 ? 0 0    1 0 ? 0    X 0 0 0
-- 0 ? 1 1    1 1 ? 1    X 1 1 1
-- 0 ? X X    1 X ? X    X ? ? X
unfoldable pub tv_mux : TritVec → TritVec → TritVec → ℕ → Prog TritVec
tv_mux s a b w = do
  s ← tv_bind s 1
  a ← tv_bind a w
  b ← tv_bind b w
  s_is0 ← tv_is0 s
  s_is1 ← tv_is1 s
  is0 ← bv_to_bool s_is0
  is1 ← bv_to_bool s_is1
  x_sx ← build_bvxor a.y b.y
  x_sx ← build_bvor x_sx a.x
  x_sx ← build_bvor x_sx b.x
  x_s1 ← build_bitvec_ite is1 a.x x_sx
  x_s0 ← build_bitvec_ite is0 b.x x_s1
  y_sx ← build_bvand a.y b.y
  y_s1 ← build_bitvec_ite is1 a.y y_sx
  y_s0 ← build_bitvec_ite is0 b.y y_s1
  ret (tv x_s0 y_s0)

-- ---- nets

-- One after the other, left to right, with their results.
unfoldable pub collect : {A B : Type 0} → (A → Prog B) → List A → Prog (List B)
collect f [] = ret []
collect f (a ∷ rest) = do
  b ← f a
  bs ← collect f rest
  ret (b ∷ bs)

unfoldable pub net_of : Age → Net → Prog TritVec
net_of a (constant t) = tv_lit (t ∷ [])
net_of a (slot i) = tv_const a i

unfoldable pub value_of : (Net → Prog TritVec) → List Net → Prog TritVec
value_of f nets = do
  tvs ← collect f nets
  tv_concat tvs

abbrev pub curr_net : Net → Prog TritVec
curr_net = net_of curr

abbrev pub past_net : Net → Prog TritVec
past_net = net_of past

abbrev pub curr_value : List Net → Prog TritVec
curr_value = value_of curr_net

abbrev pub past_value : List Net → Prog TritVec
past_value = value_of past_net

-- The nets of a cell's output, of its first slot and its width.
abbrev pub output_nets : ℕ → ℕ → List Net
output_nets s w = tab w (λ i. slot (s + i))

-- `active`: ones where the control is positive, zero where it is inverted.
unfoldable pub invert_net : Control → TritVec → Prog TritVec
invert_net w a = do
  active ← build_bitvec_lit (not w.inverted ∷ [])
  y ← build_bvcomp a.y active
  ret (tv a.x y)

unfoldable pub clock_net : Control → Prog TritVec
clock_net w = do
  now ← curr_net w.net
  now ← invert_net w now
  was ← past_net w.net
  was ← invert_net w was
  was_not ← tv_not was
  tv_and now was_not 1

-- `clear.is_always(false)`
abbrev pub is_always_inactive : Bool → Net → Bool
is_always_inactive inverted (constant Zero) = not inverted
is_always_inactive inverted (constant One) = inverted
is_always_inactive inverted (constant Undef) = false
is_always_inactive inverted (slot i) = false

abbrev pub has_clear : FlipFlop → Bool
has_clear f = not (is_always_inactive f.clear.inverted f.clear.net)

-- ---- prepare_shift

-- The whole part of the logarithm to the base 2 of a number above 0: one less than it has binary digits.
abbrev pub ilog2 : ℕ → ℕ
ilog2 n = size n - 1

unfoldable pub shift_width : ℕ → ℕ → ℕ → ℕ
shift_width n m stride = max n (m + ilog2 (max stride 1) + 1)

abbrev pub zext : List Net → ℕ → List Net
zext value w = value ++ replicate (w - length value) (constant Zero)

-- The top net again and again.
abbrev pub sext : List Net → ℕ → List Net
sext value w = value ++ replicate (w - length value) (get_or value (length value - 1) (constant Undef))

abbrev pub extended : Bool → List Net → ℕ → List Net
extended signed value w = cond signed (sext value w) (zext value w)

pub record Prepared : Type 0 where
  pub width : ℕ
  pub value : TritVec
  pub amount : TritVec
  pub amount_mul : BitVec

-- ---- the arms of cell that the Rust writes out

-- Is no bit of either operand's x set?
unfoldable pub bv_no_x : TritVec → TritVec → ℕ → Prog ℕ
bv_no_x a b n = do
  a_def ← bv_is_zero a.x n
  b_def ← bv_is_zero b.x n
  build_and (a_def ∷ b_def ∷ [])

-- The carry's x from position `index` on, for `more` positions, and the last once more.
unfoldable pub carry_x : TritVec → TritVec → ℕ → ℕ → BitVec → Prog (List BitVec)
carry_x a b zero index carry = ret (carry ∷ [])
carry_x a b (suc more) index carry = do
  ax ← build_extract index index a.x
  bx ← build_extract index index b.x
  abx ← build_bvor ax bx
  any ← build_bvor carry abx
  carry ← bv_bind any 1
  xs ← carry_x a b more (suc index) carry
  ret (carry ∷ xs)

unfoldable pub tv_adc : TritVec → TritVec → TritVec → ℕ → Prog TritVec
tv_adc a b carry n = do
  a ← tv_bind a n
  b ← tv_bind b n
  xs ← carry_x a b n 0 carry.x
  x ← bv_concat xs
  none ← bv_lit (false ∷ [])
  a_ext ← build_concat none a.y
  none ← bv_lit (false ∷ [])
  b_ext ← build_concat none b.y
  sum ← build_bvadd a_ext b_ext
  none ← bv_lit (zeros n)
  carry_ext ← build_concat none carry.y
  y ← build_bvadd sum carry_ext
  ret (tv x y)

unfoldable pub tv_equals : TritVec → TritVec → ℕ → Prog TritVec
tv_equals a b n = do
  differ ← build_bvxor a.y b.y
  some_x ← build_bvor a.x b.x
  no_x ← build_bvnot some_x
  unequal ← build_bvand differ no_x
  none_unequal ← bv_is_zero unequal n
  any_unequal ← build_not none_unequal
  never ← build_bool_lit false
  no_x ← bv_no_x a b n
  any_x ← build_not no_x
  undef ← build_bool_ite any_unequal never any_x
  x ← bool_to_bv undef
  y ← build_bvcomp a.y b.y
  ret (tv x y)

unfoldable pub tv_less : Compare → TritVec → TritVec → ℕ → Prog TritVec
tv_less o a b n = do
  no_x ← bv_no_x a b n
  any_x ← build_not no_x
  x ← bool_to_bv any_x
  less ← build_compare o a.y b.y
  y ← bool_to_bv less
  ret (tv x y)

-- An operation on y; all X unless the term `defined` holds.
unfoldable pub tv_strict : BinaryOp → ℕ → TritVec → TritVec → ℕ → Prog TritVec
tv_strict o defined a b n = do
  none ← build_bitvec_lit (zeros n)
  all ← build_bitvec_lit (ones n)
  x ← build_bitvec_ite defined none all
  y ← build_op2 o a.y b.y
  ret (tv x y)

-- The divisions (document 02, change 3): no operand has an X, and the divisor is not zero.
unfoldable pub may_divide : TritVec → TritVec → ℕ → Prog ℕ
may_divide a b n = do
  no_x ← bv_no_x a b n
  by_zero ← bv_is_zero b.y n
  not_by_zero ← build_not by_zero
  build_and (no_x ∷ not_by_zero ∷ [])

abbrev pub tv_divide : BinaryOp → TritVec → TritVec → ℕ → Prog TritVec
tv_divide o a b n = may_divide a b n >>= λ defined. tv_strict o defined a b n

-- The operations on two vectors of n nets, with an output of w.
abbrev pub tv_binary : Binary → TritVec → TritVec → ℕ → ℕ → Prog TritVec
tv_binary cells.and a b n w = tv_and a b w
tv_binary cells.or a b n w = tv_or a b w
tv_binary cells.xor a b n w = tv_xor a b
tv_binary cells.eq a b n w = tv_equals a b n
tv_binary cells.ult a b n w = tv_less c.bvult a b n
tv_binary cells.slt a b n w = tv_less c.bvslt a b n
tv_binary cells.mul a b n w = bv_no_x a b n >>= λ no_x. tv_strict c.bvmul no_x a b n
tv_binary cells.udiv a b n w = tv_divide c.bvudiv a b n
tv_binary cells.umod a b n w = tv_divide c.bvurem a b n
tv_binary cells.sdiv_trunc a b n w = tv_divide c.bvsdiv a b n
tv_binary cells.smod_trunc a b n w = tv_divide c.bvsrem a b n

-- The four shifts, from what prepare_shift made: the operations on x and on y, and the value's width.
unfoldable pub tv_shift : BinaryOp → BinaryOp → ℕ → Prepared → Prog TritVec
tv_shift on_x on_y n p = do
  no_x ← bv_is_zero p.amount.x p.width
  moved ← build_op2 on_x p.value.x p.amount_mul
  all ← build_bitvec_lit (ones p.width)
  x ← build_bitvec_ite no_x moved all
  y ← build_op2 on_y p.value.y p.amount_mul
  tv_extract (n - 1) 0 (tv x y)

abbrev pub one_hot : ℕ → ℕ → List Trit
one_hot k i = tab k (λ j. cond (eqb j i) One Zero)

-- The patterns from the last to the first: where the index-th matches it is hot, else what the later ones give.
unfoldable pub first_match : TritVec → ℕ → ℕ → TritVec → Prog TritVec
first_match matches k zero result = ret result
first_match matches k (suc index) result = do
  s ← tv_extract index index matches
  hot ← tv_lit (one_hot k index)
  result ← tv_mux s hot result k
  first_match matches k index result

-- A value of an Assign with its update from the offset on.
abbrev pub overwritten : List Net → ℕ → List Net → List Net
overwritten value offset update = take offset value ++ (update ++ drop (offset + length update) value)

-- ---- cell, over which slots are read past (those of a base Dff)

module _ (reads_past : ℕ → Bool) where
  unfoldable pub net : Net → Prog TritVec
  net (constant t) = curr_net (constant t)
  net (slot i) = cond (reads_past i) (past_net (slot i)) (curr_net (slot i))

  abbrev pub value : List Net → Prog TritVec
  value = value_of net

  unfoldable pub control_net : Control → Prog TritVec
  control_net w = do
    a ← net w.net
    invert_net w a

  -- At the width of the extended value: its nets, those of the amount, and the amount times the stride.
  unfoldable pub prepare_at : ℕ → List Net → List Net → ℕ → Prog Prepared
  prepare_at w value_ext amount_ext stride = do
    v ← value value_ext
    a ← value amount_ext
    by ← build_bitvec_lit (nat2bv w stride)
    mul ← build_bvmul a.y by
    ret (record { width = w; value = v; amount = a; amount_mul = mul })

  abbrev pub prepare_shift : List Net → List Net → ℕ → Bool → Prog Prepared
  prepare_shift nets amount stride signed =
      prepare_at (shift_width (length nets) (length amount) stride)
      (extended signed nets (shift_width (length nets) (length amount) stride))
      (zext amount (shift_width (length nets) (length amount) stride))
      stride

  unfoldable pub shifted : Shift → List Net → List Net → ℕ → Prog TritVec
  shifted cells.shl nets amount stride = prepare_shift nets amount stride false >>= tv_shift c.bvshl c.bvshl (length nets)
  shifted cells.ushr nets amount stride =
      prepare_shift nets amount stride false >>= tv_shift c.bvlshr c.bvlshr (length nets)
  shifted cells.sshr nets amount stride =
      prepare_shift nets amount stride true >>= tv_shift c.bvashr c.bvashr (length nets)
  shifted cells.xshr nets amount stride =
      prepare_shift (nets ++ (constant Undef ∷ [])) amount stride true >>= tv_shift c.bvashr c.bvlshr (length nets)

  -- The product over a pattern's compared positions, with one position more.
  unfoldable pub compared : Net → Trit → TritVec → Prog TritVec
  compared v mask prd = do
    a ← net v
    b ← net (constant mask)
    differ ← tv_xor a b
    same ← tv_not differ
    tv_and prd same 1

  unfoldable pub product : List Net → List Trit → TritVec → Prog TritVec
  product [] pattern prd = ret prd
  product (v ∷ nets) [] prd = ret prd
  product (v ∷ nets) (Undef ∷ pattern) prd = product nets pattern prd
  product (v ∷ nets) (Zero ∷ pattern) prd = compared v Zero prd >>= product nets pattern
  product (v ∷ nets) (One ∷ pattern) prd = compared v One prd >>= product nets pattern

  -- The sum over a pattern's alternates.
  unfoldable pub sum : List Net → List (List Trit) → TritVec → Prog TritVec
  sum nets [] total = ret total
  sum nets (pattern ∷ alternates) total = do
    prd ← tv_lit (One ∷ [])
    prd ← product nets pattern prd
    total ← tv_or total prd 1
    sum nets alternates total

  unfoldable pub match_of : List Net → List (List Trit) → Prog TritVec
  match_of nets alternates = tv_lit (Zero ∷ []) >>= sum nets alternates

  unfoldable pub match_cell : List Net → Net → List (List (List Trit)) → ℕ → Prog TritVec
  match_cell nets enable patterns k = do
    matches ← collect (match_of nets) patterns
    matches ← tv_concat matches
    matches ← tv_bind matches k
    enable ← net enable
    cold ← tv_lit (replicate k Zero)
    result ← first_match matches k k cold
    tv_mux enable result cold k

  unfoldable pub enabled : FlipFlop → ℕ → ℕ → TritVec → TritVec → Prog TritVec
  enabled f s w enable dat = do
    old ← past_value (output_nets s w)
    tv_mux enable dat old w

  unfoldable pub reset_to : FlipFlop → ℕ → TritVec → TritVec → Prog TritVec
  reset_to f w reset dat = do
    to ← tv_lit f.reset_value
    tv_mux reset to dat w

  -- Reset and enable in the flagged order.
  unfoldable pub loaded : Bool → FlipFlop → ℕ → ℕ → TritVec → TritVec → TritVec → Prog TritVec
  loaded true f s w reset enable dat = enabled f s w enable dat >>= reset_to f w reset
  loaded false f s w reset enable dat = reset_to f w reset dat >>= enabled f s w enable

  unfoldable pub cleared : Bool → FlipFlop → ℕ → TritVec → TritVec → Prog TritVec
  cleared true f w clear dat = do
    to ← tv_lit f.clear_value
    tv_mux clear to dat w
  cleared false f w clear dat = ret dat

  unfoldable pub dff_cell : FlipFlop → ℕ → ℕ → Prog TritVec
  dff_cell f s w = do
    dat ← value f.dat
    clear ← control_net f.clear
    reset ← control_net f.reset
    enable ← control_net f.enable
    dat ← loaded f.reset_over_enable f s w reset enable dat
    edge ← clock_net f.clock
    old ← past_value (output_nets s w)
    dat ← tv_mux edge dat old w
    cleared (has_clear f) f w clear dat

  unfoldable pub adc_cell : List Net → List Net → Net → Prog TritVec
  adc_cell [] b carry = net carry
  adc_cell (n ∷ a) b carry = do
    x ← value (n ∷ a)
    y ← value b
    z ← net carry
    tv_adc x y z (length (n ∷ a))

  -- The terms of a cell with the output slots from s on, w of them. Void, Note and Input have none.
  unfoldable pub cell : ℕ → ℕ → Cell → Prog TritVec
  cell s w cells.void = ret (tv no_vec no_vec)
  cell s w cells.note = ret (tv no_vec no_vec)
  cell s w (cells.input n) = ret (tv no_vec no_vec)
  cell s w (cells.io_buf n) = value (output_nets s w)
  cell s w (cells.unary cells.buf a) = value a
  cell s w (cells.unary cells.inverter a) = value a >>= tv_not
  cell s w (cells.binary o a b) = do
    x ← value a
    y ← value b
    tv_binary o x y (length a) w
  cell s w (cells.mux sel a b) = do
    s ← net sel
    x ← value a
    y ← value b
    tv_mux s x y w
  cell s w (cells.adc a b carry) = adc_cell a b carry
  cell s w (cells.aig a b) = do
    x ← control_net a
    y ← control_net b
    tv_and x y 1
  cell s w (cells.shift o nets amount stride) = shifted o nets amount stride
  cell s w (cells.match nets enable patterns) = match_cell nets enable patterns (length patterns)
  cell s w (cells.assign nets enable update offset) = do
    s ← net enable
    x ← value (overwritten nets offset update)
    y ← value nets
    tv_mux s x y w
  cell s w (cells.dff f) = dff_cell f s w
