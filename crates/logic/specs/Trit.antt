-- Document 01, "Modules": a trit is 0, 1 or X. The builder holds it as two bits, x (is it undefined?) and y (if not, is
-- it one?).
use Rattle.std.specs.Prelude.{Bool, true, false, Option, Some, None, ℕ}
use Rattle.logic.specs.declared.Trit.{Trit}
use Rattle.logic.specs.declared.Trit.TheVariants.{Zero, One, Undef}

-- The number by which a trit is written: 0, 1, 2 (X).
abbrev pub trit_number : Trit → ℕ
trit_number Zero = 0
trit_number One = 1
trit_number Undef = 2

-- The number of a readback: its trit's, or 3 (not recorded).
abbrev pub readback_number : Option Trit → ℕ
readback_number (Some t) = trit_number t
readback_number None = 3

-- The trit that two bits show: X where x is 1, whatever y is; else y.
abbrev pub shows : Bool → Bool → Trit
shows true y = Undef
shows false true = One
shows false false = Zero

-- The two bits of a constant: a defined trit has x = 0, an X has y = 0.
abbrev pub x_of : Trit → Bool
x_of Zero = false
x_of One = false
x_of Undef = true

abbrev pub y_of : Trit → Bool
y_of Zero = false
y_of One = true
y_of Undef = false
