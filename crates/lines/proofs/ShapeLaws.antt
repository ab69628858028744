-- Laws of the definitions of Shape.
use mathlib.Core.Path.{◌≡◌, refl}
use mathlib.Core.Bool.{true}
use mathlib.Core.List.{List}
use Prim.Native.Nat.{ℕ}
use lib.ListN.{length}
use borrow.Author.Tests.{eqb-true}
use Rattle.logic.specs.Table.{tab}
use Rattle.logic.proofs.TableLaws.{map-tab}
use Rattle.engine.specs.Call.{Call}
use Rattle.engine.specs.Encode.{Op, call_of}
use Rattle.engine.specs.Encode as o
use Rattle.engine.specs.WellFormed.{count_fits}
use Rattle.text.specs.Bytes.{ascii}
use Rattle.call_list.specs.Made.{made, sorts_of, sort_of_call}
use Rattle.pieces.specs.Text.{reference}
use Rattle.pieces.specs.Shape.{line_of, body_of, name_of}
use Rattle.pieces.specs.declared.Line.{Line}
use Rattle.pieces.specs.declared.Line.TheVariants.{Define, Declare, Assert, Check}
use Rattle.lines.specs.Line.{line}
use Rattle.lines.specs.Shape.{body_by, define_line, declare_line, assert_line}

-- The line of a call by what it does.
abbrev pub line_by : Line → List Call → Op → ℕ → (ℕ → ℕ) → List ℕ
line_by Define before op n a =
    define_line (length (made before)) (sort_of_call (sorts_of before) (call_of op n a))
    (body_by (body_of op) (reference before) op n a)
line_by Declare before op n a = declare_line (name_of a) (a 3)
line_by Assert before op n a = assert_line (reference before (a 0))
line_by Check before op n a = ascii "(check-sat)\n"

-- With as many arguments as its operation has, a call has that line.
pub line_by_lem : (op : Op) (n : ℕ) (a : ℕ → ℕ) (first : ℕ) (before : List Call) → count_fits op n first ≡ true
    → line before (call_of op n a) ≡ line_by (line_of op) before op n a
unfolding tab
line_by_lem (o.term o.bool_lit) n a first before fits = refl
line_by_lem (o.term o.bool_ite) n a first before fits = rw (eqb-true n 3 fits)
line_by_lem (o.term o.not) n a first before fits = rw (eqb-true n 1 fits)
line_by_lem (o.term o.and) n a first before fits = rw (map-tab (reference before) n a)
line_by_lem (o.term o.lit) n a first before fits = refl
line_by_lem (o.term o.equal) n a first before fits = rw (eqb-true n 2 fits)
line_by_lem (o.term o.ite) n a first before fits = rw (eqb-true n 3 fits)
line_by_lem (o.term o.concat) n a first before fits = rw (eqb-true n 2 fits)
line_by_lem (o.term o.extract) n a first before fits = refl
line_by_lem (o.term o.bvnot) n a first before fits = rw (eqb-true n 1 fits)
line_by_lem (o.term (o.op2 op)) n a first before fits = rw (eqb-true n 2 fits)
line_by_lem (o.term (o.compare op)) n a first before fits = rw (eqb-true n 2 fits)
line_by_lem o.declare n a first before fits = refl
line_by_lem o.assert n a first before fits = refl
line_by_lem o.check n a first before fits = refl
line_by_lem o.unknown n a first before fits = refl
