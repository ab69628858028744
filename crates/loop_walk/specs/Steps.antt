-- The walk by a table of the lowest reads, in which n stands for none.
use Rattle.std.specs.Prelude.{cond, List, ℕ, zero, suc, get_or, ltb}

-- The next node: the one of the table, 0 where there is none.
unfoldable pub step : List ℕ → ℕ → ℕ → ℕ
step next n at = cond (ltb (get_or next at 0) n) (get_or next at 0) 0

-- The nodes from a start on.
unfoldable pub steps : List ℕ → ℕ → ℕ → ℕ → ℕ
steps next n start zero = start
steps next n start (suc k) = step next n (steps next n start k)
