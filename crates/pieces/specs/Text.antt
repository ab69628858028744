-- Document 01, "Examples": the pieces of the example script's lines. How a term is written depends on the calls that
-- made it.
use Rattle.std.specs.Prelude.{List, [], ◌∷◌, ◌++◌, ℕ, get_or}
use Rattle.engine.specs.Call.{Call}
use Rattle.engine.specs.Call as c
use Rattle.engine.specs.Encode as o
use Rattle.call_list.specs.Made.{made}
use Rattle.text.specs.Bytes.{ascii, decimal}
use Rattle.text.specs.Names.{name_text}
use Rattle.syntax.specs.Text.{operation_text}

-- k and a term's number.
abbrev pub numbered : ℕ → List ℕ
numbered k = ascii "k" ++ decimal k

-- How term k is written: a declared term by its name, any other by its number.
abbrev pub spelled_as : ℕ → Call → List ℕ
spelled_as k (c.term t) = numbered k
spelled_as k (c.declare name w) = name_text name
spelled_as k (c.assert a) = numbered k
spelled_as k c.check = numbered k

abbrev pub reference : List Call → ℕ → List ℕ
reference before k = spelled_as k (get_or (made before) k c.check)

-- Each text after a space.
unfoldable pub spaced : List (List ℕ) → List ℕ
spaced [] = []
spaced (text ∷ texts) = ascii " " ++ text ++ spaced texts

-- An operation and its arguments, in parentheses.
abbrev pub applied : List ℕ → List (List ℕ) → List ℕ
applied operation arguments = ascii "(" ++ operation ++ spaced arguments ++ ascii ")"

-- An and of one argument is that argument's name.
abbrev pub conjunction : List (List ℕ) → List ℕ
conjunction [] = applied (operation_text (o.term o.and)) []
conjunction (a ∷ []) = a
conjunction (a ∷ b ∷ rest) = applied (operation_text (o.term o.and)) (a ∷ b ∷ rest)
