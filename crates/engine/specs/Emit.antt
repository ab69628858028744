-- Document 01, "Words": a call record. Records written into a lent slice of words at a count: what each function that
-- makes a call leaves.
use Rattle.std.specs.Prelude.{◌≡◌, List, ℕ, ◌+◌, min, length}
use Rattle.std.proofs.lemmas.List.Edits.{sets}
use Rattle.engine.specs.Call as c
use Rattle.engine.specs.declared.BinaryOp.{BinaryOp}
use Rattle.engine.specs.declared.BinaryOp.TheVariants as b
use Rattle.engine.specs.declared.Compare.{Compare}
use Rattle.engine.specs.declared.Compare.TheVariants as r
use Rattle.engine.specs.declared.Letter.{Letter}
use Rattle.engine.specs.declared.Letter.TheVariants as l
use Rattle.engine.specs.declared.Suffix.{Suffix}
use Rattle.engine.specs.declared.Suffix.TheVariants as s

-- The operations, letters and suffixes of the code, as those of the calls.
abbrev pub binary_of : BinaryOp → c.BinaryOp
binary_of b.And = c.bvand
binary_of b.Or = c.bvor
binary_of b.Xor = c.bvxor
binary_of b.Add = c.bvadd
binary_of b.Comp = c.bvcomp
binary_of b.Shl = c.bvshl
binary_of b.Lshr = c.bvlshr
binary_of b.Ashr = c.bvashr
binary_of b.Mul = c.bvmul
binary_of b.Udiv = c.bvudiv
binary_of b.Urem = c.bvurem
binary_of b.Sdiv = c.bvsdiv
binary_of b.Srem = c.bvsrem

abbrev pub compare_of : Compare → c.Compare
compare_of r.Ult = c.bvult
compare_of r.Slt = c.bvslt

abbrev pub letter_of : Letter → c.Letter
letter_of l.N = c.n
letter_of l.P = c.p
letter_of l.T = c.t

abbrev pub suffix_of : Suffix → c.Suffix
suffix_of s.None = c.none
suffix_of s.X = c.x
suffix_of s.Y = c.y

-- Words stored from a place on; past the list's end nothing changes.
unfoldable pub overwrite : List ℕ → ℕ → List ℕ → List ℕ
overwrite words at new = sets words at new

-- A count of words never wraps: it stops at the largest number, where no list has a word.
abbrev pub last : ℕ
last = 18446744073709551615

abbrev pub counted : ℕ → ℕ
counted n = min n last

-- Words written at a count: the list after, and the count after.
pub record Wrote (before : List ℕ) (at : ℕ) (new : List ℕ) (after : List ℕ) (next : ℕ) : Type 0 where
  pub words : after ≡ overwrite before at new
  pub count : next ≡ counted (at + length new)
