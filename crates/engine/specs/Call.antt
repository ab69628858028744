-- Document 01, "Words", and document 02, change 3: the calls of the trait `SmtEngine` that make up a call list. A term
-- is known by its number: how many calls made a term before it.
use Rattle.std.specs.Prelude.{Bool, List, ℕ}
use Rattle.bitvec.specs.Bits.{Bits}

-- A declared name: letter, index, suffix.
pub data Letter : Type 0 where
  n p t : Letter

pub data Suffix : Type 0 where
  none x y : Suffix

pub record Name : Type 0 where
  pub letter : Letter
  pub index : ℕ
  pub suffix : Suffix

-- Operations of one vector, and of two vectors with a vector or a Bool as the result.
pub data BinaryOp : Type 0 where
  bvand bvor bvxor bvadd bvcomp bvshl bvlshr bvashr bvmul bvudiv bvurem bvsdiv bvsrem : BinaryOp

pub data Compare : Type 0 where
  bvult bvslt : Compare

pub data Term : Type 0 where
  bool_lit : Bool → Term
  bool_ite : ℕ → ℕ → ℕ → Term
  not : ℕ → Term
  and : List ℕ → Term
  lit : Bits → Term
  equal : ℕ → ℕ → Term
  ite : ℕ → ℕ → ℕ → Term
  concat : ℕ → ℕ → Term
  -- high index, low index, term
  extract : ℕ → ℕ → ℕ → Term
  bvnot : ℕ → Term
  op2 : BinaryOp → ℕ → ℕ → Term
  compare : Compare → ℕ → ℕ → Term

pub data Call : Type 0 where
  term : Term → Call
  declare : Name → ℕ → Call
  assert : ℕ → Call
  check : Call
