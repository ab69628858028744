-- A set of numbers below 4,096 as a tree of flags: word 4,096 + i says whether i is in the set, and word p, from 1 to
-- 4,095, whether word 2 p or word 2 p + 1 does.
use Rattle.std.specs.Prelude.{◌≡◌, Bool, not, cond, ◌&&◌, List, ℕ, ◌+◌, ◌*◌, ◌<◌, max, get_or, length, eqb, Option, Some, None}
use Rattle.working_out.specs.Order.{option, lowest}

-- The tree of a set.
pub record Holds (tree : List ℕ) (members : ℕ → Bool) : Type 0 where
  pub size : length tree ≡ 8192
  pub leaf : (i : ℕ) → i < 4096 → get_or tree (4096 + i) 0 ≡ cond (members i) 1 0
  pub inner : (p : ℕ) → 0 < p → p < 4096 → get_or tree p 0 ≡ max (get_or tree (2 * p) 0) (get_or tree (2 * p + 1) 0)

-- The set without a number. (With one more it is `mark` of Graph.)
unfoldable pub without : (ℕ → Bool) → ℕ → ℕ → Bool
without members i j = not (eqb j i) && members j

-- The lowest number of a set, none where it has none.
abbrev pub lowest_of : (ℕ → Bool) → Option ℕ
lowest_of members = option (lowest 4096 members) None Some
