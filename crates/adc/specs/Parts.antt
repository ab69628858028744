-- Document 01, "Modules", builder. The parts into which the code cuts a function of the model.
use Rattle.std.specs.Prelude.{false, [], ◌∷◌, ℕ}
use Rattle.smt.specs.Prog.{Prog, ret, ◌>>=◌, BitVec, TritVec, tv, build_extract, build_concat, build_bvor, build_bvadd}
use Rattle.smt.specs.Builder.{bv_lit, bv_bind, zeros}

-- ---- Adc

-- One position of carry_x.
unfoldable pub carry_one : TritVec → TritVec → ℕ → BitVec → Prog BitVec
carry_one a b index carry = do
  ax ← build_extract index index a.x
  bx ← build_extract index index b.x
  abx ← build_bvor ax bx
  any ← build_bvor carry abx
  bv_bind any 1

-- tv_adc from a line on: where x is made; where the operands are added as well.
unfoldable pub adc_carry : TritVec → ℕ → BitVec → BitVec → Prog TritVec
adc_carry carry n x sum = do
  none ← bv_lit (zeros n)
  carry_ext ← build_concat none carry.y
  y ← build_bvadd sum carry_ext
  ret (tv x y)

unfoldable pub adc_sum : TritVec → TritVec → TritVec → ℕ → BitVec → Prog TritVec
adc_sum a b carry n x = do
  none ← bv_lit (false ∷ [])
  a_ext ← build_concat none a.y
  none ← bv_lit (false ∷ [])
  b_ext ← build_concat none b.y
  sum ← build_bvadd a_ext b_ext
  adc_carry carry n x sum
