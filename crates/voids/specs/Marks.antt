-- Document 01, "Words": a design list. Whether a slot is that of a Void of the base, by the words of the slots that the
-- reader keeps.
use Rattle.std.specs.Prelude.{ℕ, ◌%◌, List, Bool, false, cond, get_or, ltb, eqb}

unfoldable pub is_void_in : List ℕ → ℕ → ℕ → Bool
is_void_in table base slot = cond (ltb slot base) (eqb (get_or table slot 0 % 4) 0) false
