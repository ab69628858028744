-- Document 01, "Examples" and faults 16 to 18: a solver's reply, read against the names asked.
use Rattle.std.specs.Prelude.{Bool, true, false, cond, ◌&&◌, List, [], ◌∷◌, ℕ, eqb}
use Prim.Native.String.{String}
use Rattle.logic.specs.declared.Fault.{Fault}
use Rattle.engine.specs.Call.{Name}
use Rattle.text.specs.Bytes.{ascii}
use Rattle.text.specs.Names.{name_text}
use Rattle.tokens.specs.Token.{Token}

-- Equality of spellings.
unfoldable pub same : List ℕ → List ℕ → Bool
same [] [] = true
same [] (b ∷ bs) = false
same (a ∷ as') [] = false
same (a ∷ as') (b ∷ bs) = eqb a b && same as' bs

abbrev pub spelled : Token → String → Bool
spelled token word = same token.spelling (ascii word)

-- Reading from the front of the tokens: what was read with the tokens left, or the fault.
pub data Result (A : Type 0) : Type 0 where
  got : A → List Token → Result A
  refused : Fault → Result A

abbrev pub Reader : Type 0 → Type 0
Reader A = List Token → Result A

module _ {A : Type 0} where
  abbrev pub return : A → Reader A
  return a tokens = got a tokens

  abbrev pub fault : ℕ → ℕ → Result A
  fault number place = refused (record { number = number; place = place })

  -- What is read of the next token; a text that ends early is 16 at 0.
  abbrev pub next : (Token → Reader A) → Reader A
  next f [] = fault 16 0
  next f (token ∷ tokens) = f token tokens

module _ {A B : Type 0} where
  abbrev pub on_got : Result A → (A → Reader B) → Result B
  on_got (got a tokens) f = f a tokens
  on_got (refused e) f = refused e

  infixl 10 ◌>>=◌
  abbrev pub ◌>>=◌ : Reader A → (A → Reader B) → Reader B
  (reader >>= f) tokens = on_got (reader tokens) f

  infixl 10 ◌>>◌
  abbrev pub ◌>>◌ : Reader A → Reader B → Reader B
  (reader >> after) tokens = on_got (reader tokens) (λ _. after)

-- A token of one spelling; any other is unreadable.
abbrev pub expect_spelled : List ℕ → Reader (Unit {0})
expect_spelled word =
    next (λ token tokens. cond (same token.spelling word) (got tt tokens) (fault 16 token.place))

abbrev pub expect : String → Reader (Unit {0})
expect word = expect_spelled (ascii word)

-- The name asked, as it is spelled; a parenthesis in its place is unreadable, another name is 17.
abbrev pub expect_name : List ℕ → Reader (Unit {0})
expect_name name =
    next (λ token tokens.
    cond (same token.spelling name) (got tt tokens)
    (cond (spelled token "(") (fault 16 token.place)
    (cond (spelled token ")") (fault 16 token.place) (fault 17 token.place))))

-- #b0 or #b1.
abbrev pub value : Reader Bool
value = next (λ token tokens.
    cond (spelled token "#b0") (got false tokens)
    (cond (spelled token "#b1") (got true tokens) (fault 16 token.place)))

-- A name and its value, as (n0x #b1).
unfoldable pub pair_spelled : List ℕ → Reader Bool
pair_spelled name = do
  expect "("
  expect_name name
  bit ← value
  expect ")"
  return bit

abbrev pub pair : Name → Reader Bool
pair name = pair_spelled (name_text name)

-- The pairs of the names asked, in their order.
unfoldable pub pairs : List Name → Reader (List Bool)
pairs [] = return []
pairs (name ∷ names) = do
  bit ← pair name
  bits ← pairs names
  return (bit ∷ bits)

-- One list of the pairs asked, if any.
abbrev pub list : List Name → Reader (List Bool)
list [] = return []
list (name ∷ names) = do
  expect "("
  bits ← pairs (name ∷ names)
  expect ")"
  return bits

-- The text ends: another token is unreadable.
abbrev pub ended : Reader (Unit {0})
ended [] = got tt []
ended (token ∷ tokens) = fault 16 token.place

-- What follows sat.
abbrev pub model : List Name → Reader (List Bool)
model names = do
  bits ← list names
  ended
  return bits

-- What a solver said: the bits of the names asked, in their order, after sat.
pub data Reply : Type 0 where
  unsat : Reply
  sat : List Bool → Reply
  bad : Fault → Reply

abbrev pub satisfied : Result (List Bool) → Reply
satisfied (got bits tokens) = sat bits
satisfied (refused e) = bad e

abbrev pub refuse : ℕ → ℕ → Reply
refuse number place = bad (record { number = number; place = place })

-- The answer's first token, and what follows sat; the rest of an unsat is unread.
unfoldable pub reply : List Name → List Token → Reply
reply names [] = refuse 16 0
reply names (token ∷ tokens) =
    cond (spelled token "sat") (satisfied (model names tokens))
    (cond (spelled token "unsat") unsat
    (cond (spelled token "unknown") (refuse 18 token.place) (refuse 16 token.place)))
