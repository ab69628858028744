-- Requirement 2: the bits of a cell's terms show the cell's rule on what its nets show, whatever their hidden bits.
use Rattle.std.specs.Prelude.{◌≡◌, List, ℕ, length}
use Rattle.logic.specs.Table.{zip_with}
use Rattle.logic.specs.Trit.{shows}
use Rattle.logic.specs.declared.Trit.{Trit}
use Rattle.engine.specs.Meaning.{Value, as_bits}
use Rattle.rules.specs.CellRule.{Trits}
use Rattle.smt.specs.Prog.{curr, past, is_undef, is_one, TritVec}
use Rattle.smt.specs.Formula.{NetBits}

-- The trits that the bits of the nets show.
abbrev pub trits_of : NetBits → Trits
trits_of b = record {
  now = λ i. shows (b curr i is_undef) (b curr i is_one);
  was = λ i. shows (b past i is_undef) (b past i is_one);
}

-- A pair of terms shows these trits: its bits have their width, and the trits are those that its bits show.
pub record TermsShow (v : ℕ → Value) (r : TritVec) (ts : List Trit) : Type 0 where
  pub x-width : length (as_bits (v r.x.term)) ≡ length ts
  pub y-width : length (as_bits (v r.y.term)) ≡ length ts
  pub trits : zip_with shows (as_bits (v r.x.term)) (as_bits (v r.y.term)) ≡ ts
