-- Document 01, "Modules", builder. The parts into which the code cuts a function of the model.
use Rattle.std.specs.Prelude.{false, ℕ}
use Rattle.smt.specs.Prog.{Prog, ret, ◌>>=◌, TritVec, tv, build_not, build_bool_lit, build_bool_ite, build_bvcomp}
use Rattle.smt.specs.Builder.{bv_no_x, bool_to_bv}

-- tv_equals from the line on where it is known whether any two defined bits differ.
unfoldable pub equals_unless : ℕ → TritVec → TritVec → ℕ → Prog TritVec
equals_unless any_unequal a b n = do
  never ← build_bool_lit false
  no_x ← bv_no_x a b n
  any_x ← build_not no_x
  undef ← build_bool_ite any_unequal never any_x
  x ← bool_to_bv undef
  y ← build_bvcomp a.y b.y
  ret (tv x y)
