-- Document 01, "Modules", builder. The parts into which the code cuts a function of the model: each is what the model's
-- function does from a line on.
use Rattle.std.specs.Prelude.{ℕ}
use Rattle.smt.specs.Prog.{Prog, ret, ◌>>=◌, BitVec, TritVec, tv, build_bvnot, build_bvand, build_bvor, build_bvxor}
use Rattle.smt.specs.Prog.{build_bitvec_ite}
use Rattle.smt.specs.Builder.{tv_is0, tv_is1, bv_to_bool}

-- ---- tv_and and tv_or

unfoldable pub undecided : TritVec → TritVec → BitVec → BitVec → BitVec → Prog TritVec
undecided a b a_decides b_decides y = do
  some_x ← build_bvor a.x b.x
  either ← build_bvor a_decides b_decides
  neither ← build_bvnot either
  x ← build_bvand some_x neither
  ret (tv x y)

unfoldable pub and_bound : TritVec → TritVec → Prog TritVec
and_bound a b = do
  a_is0 ← tv_is0 a
  b_is0 ← tv_is0 b
  y ← build_bvand a.y b.y
  undecided a b a_is0 b_is0 y

unfoldable pub or_bound : TritVec → TritVec → Prog TritVec
or_bound a b = do
  a_is1 ← tv_is1 a
  b_is1 ← tv_is1 b
  y ← build_bvor a.y b.y
  undecided a b a_is1 b_is1 y

-- ---- tv_mux

unfoldable pub mux_y : TritVec → TritVec → ℕ → ℕ → BitVec → Prog TritVec
mux_y a b is0 is1 x_s0 = do
  y_sx ← build_bvand a.y b.y
  y_s1 ← build_bitvec_ite is1 a.y y_sx
  y_s0 ← build_bitvec_ite is0 b.y y_s1
  ret (tv x_s0 y_s0)

unfoldable pub mux_x : TritVec → TritVec → ℕ → ℕ → Prog TritVec
mux_x a b is0 is1 = do
  x_sx ← build_bvxor a.y b.y
  x_sx ← build_bvor x_sx a.x
  x_sx ← build_bvor x_sx b.x
  x_s1 ← build_bitvec_ite is1 a.x x_sx
  x_s0 ← build_bitvec_ite is0 b.x x_s1
  mux_y a b is0 is1 x_s0

unfoldable pub mux_bound : TritVec → TritVec → TritVec → Prog TritVec
mux_bound s a b = do
  s_is0 ← tv_is0 s
  s_is1 ← tv_is1 s
  is0 ← bv_to_bool s_is0
  is1 ← bv_to_bool s_is1
  mux_x a b is0 is1
