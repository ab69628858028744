-- Laws of the definitions of Cursor.
use mathlib.Core.Path.{◌≡◌, refl}
use mathlib.Core.Bool.{Bool, true, false, cond, false≢true}
use mathlib.Core.List.{List}
use Prim.Native.Nat.{ℕ, ◌<◌}
use borrow.Author.Tests.{ltb-true}
use lib.Dec.{eqb, ltb}
use Rattle.cell_reader.specs.Parse.{number_in}
use Rattle.replaced_cells.specs.Cursor.{is_next}

-- The next replacement stands before the end of them.
pub next-inside : (w : List ℕ) (end rep slot : ℕ) → is_next w end rep slot ≡ true → rep < end
next-inside w end rep slot = go (ltb rep end) refl
  where
    go : (b : Bool) → ltb rep end ≡ b → cond b (eqb (number_in w rep) slot) false ≡ true → rep < end
    go true inside e = ltb-true rep end inside
    go false inside e = absurd (false≢true e)
