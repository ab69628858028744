-- Document 01, "Words": a design list. The cells of a list without a fault take the slots from 0 to the total, one
-- after another; so the table of the reader says what stands at each.
use Rattle.std.specs.Prelude.{ℕ, ◌<◌, ◌≡◌, List, [], ◌∷◌}
use Rattle.cell.specs.Design.{Placed}
use Rattle.cell.specs.declared.Operation.{Operation}
use Rattle.cell_reader.specs.Parse.{cell_at}
use Rattle.placing.specs.Placement.{IsPlaced}

module _ (w : List ℕ) (base total : ℕ) where
  -- The cells from a slot and a place on, each placed after the one before, up to the total and the place `end`.
  pub data Walk : ℕ → ℕ → List Placed → ℕ → Type 0 where
    done : {slot at end : ℕ} → slot ≡ total → at ≡ end → Walk slot at [] end
    placed :
        {slot at : ℕ} {op : Operation} {width after next : ℕ} {cells : List Placed} {end : ℕ} → slot < total →
        IsPlaced w base total slot at op width after next → Walk after next cells end →
        Walk slot at (record { slot = slot; cell = cell_at w at } ∷ cells) end
