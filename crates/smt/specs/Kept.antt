-- Document 02, change 3: "Lists accepted before keep their calls." A list accepted before has cells of operations 0 to
-- 22 alone: these operations by number, and the terms of those on two vectors, as they stood before the divisions. All
-- other terms are made without a look at the divisions.
use Rattle.std.specs.Prelude.{◌≡◌, List, [], ◌∷◌, map, ℕ, take}
use Rattle.cell.specs.Cell.{Binary}
use Rattle.cell.specs.Cell as cells
use Rattle.cell.specs.Operation.{operations}
use Rattle.cell.specs.declared.Operation.{Operation}
use Rattle.cell.specs.declared.Operation.TheVariants as O
use Rattle.engine.specs.Call as c
use Rattle.smt.specs.Prog.{Prog, ret, ◌>>=◌, TritVec, tv, build_bitvec_lit, build_bitvec_ite, build_bvmul}
use Rattle.smt.specs.Builder.{zeros, ones, bv_no_x, tv_and, tv_or, tv_xor, tv_equals, tv_less, tv_binary}

-- Operations 0 to 22.
abbrev pub earlier : List Operation
earlier =
    O.Void ∷ O.Unary cells.buf ∷ O.Unary cells.inverter ∷ O.Binary cells.and ∷ O.Binary cells.or ∷ O.Binary cells.xor ∷
    O.Mux ∷ O.Adc ∷ O.Aig ∷ O.Binary cells.eq ∷ O.Binary cells.ult ∷ O.Binary cells.slt ∷ O.Shift cells.shl ∷
    O.Shift cells.ushr ∷ O.Shift cells.sshr ∷ O.Shift cells.xshr ∷ O.Binary cells.mul ∷ O.Match ∷ O.Assign ∷ O.Dff ∷
    O.IoBuf ∷ O.Input ∷ O.Note ∷ []

-- Mul.
unfoldable pub tv_mul : TritVec → TritVec → ℕ → Prog TritVec
tv_mul a b n = do
  no_x ← bv_no_x a b n
  none ← build_bitvec_lit (zeros n)
  all ← build_bitvec_lit (ones n)
  x ← build_bitvec_ite no_x none all
  y ← build_bvmul a.y b.y
  ret (tv x y)

-- The operations on two vectors, and the terms of each.
abbrev pub on_two : List Binary
on_two =
    cells.and ∷ cells.or ∷ cells.xor ∷ cells.eq ∷ cells.ult ∷ cells.slt ∷ cells.mul ∷ []

abbrev pub terms_on_two : TritVec → TritVec → ℕ → ℕ → List (Prog TritVec)
terms_on_two a b n w =
    tv_and a b w ∷ tv_or a b w ∷ tv_xor a b ∷ tv_equals a b n ∷ tv_less c.bvult a b n ∷ tv_less c.bvslt a b n ∷ tv_mul a b n
    ∷ []

-- They are read as before, and make the calls that they made.
pub record Kept : Type 0 where
  pub numbers : take 23 operations ≡ earlier
  pub terms : (a b : TritVec) (n w : ℕ) → map (λ (op : Binary). tv_binary op a b n w) on_two ≡ terms_on_two a b n w
