-- Document 01, "Words": a design list. What is known of the words that a field reader let pass.
use Rattle.std.specs.Prelude.{ℕ, ◌+◌, ◌<◌, ◌≤◌, ◌≡◌, List, get_or}
use Rattle.logic.specs.Word.{kind_of, payload_of}

-- A number that was read: it stands in the record, is the word's payload, and is within its bound.
pub record IsNumber (w : List ℕ) (bound end at n next : ℕ) : Type 0 where
  pub inside : at < end
  pub kind : kind_of (get_or w at 0) ≡ 3
  pub value : n ≡ payload_of (get_or w at 0)
  pub bounded : n ≤ bound
  pub after : next ≡ at + 1
