-- Document 01, "Modules", builder. The terms of a vector's elements, of one bit or one trit each, in a table of words:
-- the argument of bv_concat and tv_concat.
use Rattle.std.specs.Prelude.{List, ℕ, ◌+◌, ◌*◌, get_or}
use Rattle.logic.specs.Table.{tab}
use Rattle.smt.specs.Prog.{Prog, ret, ◌>>=◌, BitVec, bv, TritVec, tv, build_concat}

-- Bits: element i at i.
abbrev pub bit_at : List ℕ → ℕ → BitVec
bit_at terms i = bv (get_or terms i 0) 1

unfoldable pub bit_elements : List ℕ → ℕ → List BitVec
bit_elements terms n = tab n (bit_at terms)

-- Trits: x of element i at 2 i, y after it.
abbrev pub element_at : List ℕ → ℕ → TritVec
element_at terms i = tv (bv (get_or terms (2 * i) 0) 1) (bv (get_or terms (2 * i + 1) 0) 1)

unfoldable pub elements : List ℕ → ℕ → List TritVec
elements terms n = tab n (element_at terms)

-- A turn of tv_concat's loop: an element below what there is.
unfoldable pub tv_join : TritVec → TritVec → Prog TritVec
tv_join msb e = do
  x ← build_concat msb.x e.x
  y ← build_concat msb.y e.y
  ret (tv x y)
