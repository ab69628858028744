-- Document 01, "Examples": the script writer. The line of a call by its operation and arguments, as the writer goes
-- through them.
use Rattle.std.specs.Prelude.{List, [], ◌∷◌, ◌++◌, ℕ, suc, ◌-◌, eqb}
use Rattle.logic.specs.Table.{tab}
use Rattle.bitvec.specs.Bits.{Bits, nat2bv}
use Rattle.engine.specs.Call.{Name}
use Rattle.engine.specs.Encode.{Op, from_digits}
use Rattle.text.specs.Bytes.{ascii}
use Rattle.text.specs.Names.{name_text}
use Rattle.syntax.specs.Text.{operation_text, sort_text, bool_text, literal_text, extract_text}
use Rattle.pieces.specs.Text.{numbered, applied, conjunction}
use Rattle.pieces.specs.declared.Body.{Body}
use Rattle.pieces.specs.declared.Body.TheVariants as body

-- The bits that a literal's arguments have.
abbrev pub literal_bits : ℕ → (ℕ → ℕ) → Bits
literal_bits n a = nat2bv (a 0) (from_digits (tab (n - 1) (λ i. a (suc i))))

-- The text of a term by how it is written.
abbrev pub body_by : Body → (ℕ → List ℕ) → Op → ℕ → (ℕ → ℕ) → List ℕ
body_by body.Bool r op n a = bool_text (eqb (a 0) 1)
body_by body.And r op n a = conjunction (tab n (λ i. r (a i)))
body_by body.Literal r op n a = literal_text (literal_bits n a)
body_by body.Extract r op n a = applied (extract_text (a 0) (a 1)) (r (a 2) ∷ [])
body_by body.Application r op n a = applied (operation_text op) (tab n (λ i. r (a i)))

-- The lines that define a term, declare a name, and assert.
abbrev pub define_line : ℕ → ℕ → List ℕ → List ℕ
define_line k sort body =
    ascii "(define-fun " ++ numbered k ++ ascii " () " ++ sort_text sort ++ ascii " " ++ body ++ ascii ")\n"

abbrev pub declare_line : Name → ℕ → List ℕ
declare_line name w = ascii "(declare-const " ++ name_text name ++ ascii " " ++ sort_text w ++ ascii ")\n"

abbrev pub assert_line : List ℕ → List ℕ
assert_line term = ascii "(assert " ++ term ++ ascii ")\n"
