-- Document 01, "Modules", builder. A run of the builder as a value: the engine calls it makes, each with what is done
-- with the term that it gives. The functions of the trait `SmtEngine` that the builder calls stand here under their own
-- names; those of `SmtBuilder` are in Builder.
use Rattle.std.specs.Prelude.{Bool, List, ℕ, suc, ◌+◌, ◌-◌, length}
use Rattle.bitvec.specs.Bits.{Bits}
use Rattle.engine.specs.Call.{Term, BinaryOp, Compare}
use Rattle.engine.specs.Call as c

-- A bit-vector term with its width (`SMT::BitVec`). A Bool term (`SMT::Bool`) is its number.
pub record BitVec : Type 0 where
  pub term : ℕ
  pub width : ℕ

abbrev pub bv : ℕ → ℕ → BitVec
bv k w = record { term = k; width = w }

-- `SmtTritVec`. x: is it undefined? y: if not, is it one?
pub record TritVec : Type 0 where
  pub x : BitVec
  pub y : BitVec

abbrev pub tv : BitVec → BitVec → TritVec
tv x y = record { x = x; y = y }

-- A net's name is n or p (its current or past trit), its slot, and x or y.
pub data Age : Type 0 where
  curr past : Age

pub data Half : Type 0 where
  is_undef is_one : Half

pub data Prog (A : Type 0) : Type 0 where
  ret : A → Prog A
  -- a call that makes a term of earlier ones
  op : Term → (ℕ → Prog A) → Prog A
  -- the name of a net, one bit; a name that is known gives its term again
  declare : Age → ℕ → Half → (ℕ → Prog A) → Prog A
  -- bv_bind and tv_bind: the next temporary, of a width, made equal to a term or to two
  bind : ℕ → ℕ → (ℕ → Prog A) → Prog A
  bind2 : ℕ → ℕ → ℕ → (ℕ → ℕ → Prog A) → Prog A

infixl 20 ◌>>=◌
unfoldable pub ◌>>=◌ : {A B : Type 0} → Prog A → (A → Prog B) → Prog B
◌>>=◌ (ret a) g = g a
◌>>=◌ (op t f) g = op t (λ k. f k >>= g)
◌>>=◌ (declare a i h f) g = declare a i h (λ k. f k >>= g)
◌>>=◌ (bind w t f) g = bind w t (λ k. f k >>= g)
◌>>=◌ (bind2 w x y f) g = bind2 w x y (λ k l. f k l >>= g)

-- ---- `SmtEngine`: calls with a Bool as the result

abbrev pub build_bool_lit : Bool → Prog ℕ
build_bool_lit b = op (c.bool_lit b) ret

abbrev pub build_bool_ite : ℕ → ℕ → ℕ → Prog ℕ
build_bool_ite i a b = op (c.bool_ite i a b) ret

abbrev pub build_not : ℕ → Prog ℕ
build_not a = op (c.not a) ret

abbrev pub build_and : List ℕ → Prog ℕ
build_and args = op (c.and args) ret

abbrev pub build_bitvec_eq : BitVec → BitVec → Prog ℕ
build_bitvec_eq a b = op (c.equal a.term b.term) ret

abbrev pub build_compare : Compare → BitVec → BitVec → Prog ℕ
build_compare o a b = op (c.compare o a.term b.term) ret

-- ---- and with a bit vector

-- A call whose result has width w.
abbrev pub vector : ℕ → Term → Prog BitVec
vector w t = op t λ k. ret (bv k w)

abbrev pub build_bitvec_lit : Bits → Prog BitVec
build_bitvec_lit value = vector (length value) (c.lit value)

abbrev pub build_bitvec_ite : ℕ → BitVec → BitVec → Prog BitVec
build_bitvec_ite i a b = vector a.width (c.ite i a.term b.term)

abbrev pub build_concat : BitVec → BitVec → Prog BitVec
build_concat msb lsb = vector (msb.width + lsb.width) (c.concat msb.term lsb.term)

abbrev pub build_extract : ℕ → ℕ → BitVec → Prog BitVec
build_extract msb lsb a = vector (suc msb - lsb) (c.extract msb lsb a.term)

abbrev pub build_bvnot : BitVec → Prog BitVec
build_bvnot a = vector a.width (c.bvnot a.term)

-- The operations of two vectors of one width; bvcomp gives one bit.
abbrev pub result_width : BinaryOp → ℕ → ℕ
result_width c.bvand w = w
result_width c.bvor w = w
result_width c.bvxor w = w
result_width c.bvadd w = w
result_width c.bvcomp w = 1
result_width c.bvshl w = w
result_width c.bvlshr w = w
result_width c.bvashr w = w
result_width c.bvmul w = w
result_width c.bvudiv w = w
result_width c.bvurem w = w
result_width c.bvsdiv w = w
result_width c.bvsrem w = w

abbrev pub build_op2 : BinaryOp → BitVec → BitVec → Prog BitVec
build_op2 o a b = vector (result_width o a.width) (c.op2 o a.term b.term)

abbrev pub build_bvand : BitVec → BitVec → Prog BitVec
build_bvand = build_op2 c.bvand

abbrev pub build_bvor : BitVec → BitVec → Prog BitVec
build_bvor = build_op2 c.bvor

abbrev pub build_bvxor : BitVec → BitVec → Prog BitVec
build_bvxor = build_op2 c.bvxor

abbrev pub build_bvadd : BitVec → BitVec → Prog BitVec
build_bvadd = build_op2 c.bvadd

abbrev pub build_bvcomp : BitVec → BitVec → Prog BitVec
build_bvcomp = build_op2 c.bvcomp

abbrev pub build_bvmul : BitVec → BitVec → Prog BitVec
build_bvmul = build_op2 c.bvmul
