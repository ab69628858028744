-- Document 01, "Cell rules, over trits": the rules on single trits, and vectors of trits as numbers, low trit first.
use Rattle.std.specs.Prelude.{Bool, true, false, cond, ◌||◌, List, [], ◌∷◌, ℕ, ◌+◌, ◌*◌, ◌/◌, ◌%◌, ◌^◌, eqb}
use Rattle.logic.specs.declared.Trit.{Trit}
use Rattle.logic.specs.declared.Trit.TheVariants.{Zero, One, Undef}

-- Not, And, Or are Kleene's.
abbrev pub not : Trit → Trit
not Zero = One
not One = Zero
not Undef = Undef

abbrev pub and : Trit → Trit → Trit
and Zero b = Zero
and One b = b
and Undef Zero = Zero
and Undef One = Undef
and Undef Undef = Undef

abbrev pub or : Trit → Trit → Trit
or Zero b = b
or One b = One
or Undef Zero = Undef
or Undef One = One
or Undef Undef = Undef

-- Xor is X if either is.
abbrev pub xor : Trit → Trit → Trit
xor Zero b = b
xor One b = not b
xor Undef b = Undef

-- A bit only where both sides agree and are defined.
abbrev pub agree : Trit → Trit → Trit
agree Zero Zero = Zero
agree Zero One = Undef
agree Zero Undef = Undef
agree One Zero = Undef
agree One One = One
agree One Undef = Undef
agree Undef b = Undef

-- Mux: 1 takes the first side, 0 the second, X what they agree on.
abbrev pub mux : Trit → Trit → Trit → Trit
mux One a b = a
mux Zero a b = b
mux Undef a b = agree a b

-- `from` refines `to`: where from is defined, to is the same trit.
abbrev pub refines : Trit → Trit → Bool
refines Undef b = true
refines Zero Zero = true
refines Zero One = false
refines Zero Undef = false
refines One Zero = false
refines One One = true
refines One Undef = false

abbrev pub is_x : Trit → Bool
is_x Zero = false
is_x One = false
is_x Undef = true

-- Has the vector an X?
unfoldable pub any_x : List Trit → Bool
any_x [] = false
any_x (t ∷ ts) = is_x t || any_x ts

-- The number that a vector without X shows (an X counts 0; the rules ask only where there is none).
abbrev pub digit : Trit → ℕ
digit Zero = 0
digit One = 1
digit Undef = 0

unfoldable pub number : List Trit → ℕ
number [] = 0
number (t ∷ ts) = digit t + 2 * number ts

-- The trit of a bit, and bit i of a number.
abbrev pub trit : Bool → Trit
trit b = cond b One Zero

abbrev pub bit_at : ℕ → ℕ → Trit
bit_at v i = trit (eqb (v / 2 ^ i % 2) 1)
