-- Document 01, "Examples": the script writer. What the writer goes by: what the line of an operation's record does, and
-- how its term is written.
use Rattle.std.specs.Prelude.{ℕ, get_or}
use Rattle.engine.specs.Call.{Name}
use Rattle.engine.specs.Call as c
use Rattle.engine.specs.Encode.{Op, letters, suffixes}
use Rattle.engine.specs.Encode as o
use Rattle.pieces.specs.declared.Line.{Line}
use Rattle.pieces.specs.declared.Line.TheVariants.{Define, Declare, Assert, Check}
use Rattle.pieces.specs.declared.Body.{Body}
use Rattle.pieces.specs.declared.Body.TheVariants as body

-- A term is defined, a name declared.
abbrev pub line_of : Op → Line
line_of (o.term op) = Define
line_of o.declare = Declare
line_of o.assert = Assert
line_of o.check = Check
line_of o.unknown = Check

-- A term is an operation applied to its arguments, but for literals, an and and an extract.
abbrev pub body_of : Op → Body
body_of (o.term o.bool_lit) = body.Bool
body_of (o.term o.bool_ite) = body.Application
body_of (o.term o.not) = body.Application
body_of (o.term o.and) = body.And
body_of (o.term o.lit) = body.Literal
body_of (o.term o.equal) = body.Application
body_of (o.term o.ite) = body.Application
body_of (o.term o.concat) = body.Application
body_of (o.term o.extract) = body.Extract
body_of (o.term o.bvnot) = body.Application
body_of (o.term (o.op2 op)) = body.Application
body_of (o.term (o.compare op)) = body.Application
body_of o.declare = body.Application
body_of o.assert = body.Application
body_of o.check = body.Application
body_of o.unknown = body.Application

-- The name that a declaration's arguments spell.
abbrev pub name_of : (ℕ → ℕ) → Name
name_of a = record { letter = get_or letters (a 0) c.n; index = a 1; suffix = get_or suffixes (a 2) c.none }
