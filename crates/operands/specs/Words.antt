-- Document 01, "Modules", builder. The words of a cell's operands as `SmtBuilder::cell` prepares them: copied,
-- extended, overwritten, and constants packed.
use Rattle.std.specs.Prelude.{Bool, cond, List, ◌++◌, map, ◌≡◌, ℕ, ◌+◌, ◌-◌, ◌≤◌, min, length, get_or, replicate}
use Rattle.logic.specs.Net.{net_of_slot}
use Rattle.logic.specs.Table.{tab}
use Rattle.logic.specs.Trit.{x_of, y_of}
use Rattle.logic.specs.Word.{net_word}
use Rattle.logic.specs.declared.Trit.{Trit}
use Rattle.bitvec.specs.Bits.{bv2nat, nat2bv}
use Rattle.cell_reader.specs.Parse.{trits_in}
use Rattle.smt.specs.Builder.{shift_width}

-- n words of a list from a place on.
abbrev pub words_in : List ℕ → ℕ → ℕ → List ℕ
words_in w n at = tab n (λ i. get_or w (at + i) 0)

-- The net words of a cell's output, of its first slot and its width.
abbrev pub output_words : ℕ → ℕ → List ℕ
output_words s w = tab w (λ i. net_word (net_of_slot (s + i)))

-- The word of the top net (`msb`), X where there is none.
abbrev pub msb_word : List ℕ → ℕ
msb_word words = get_or words (length words - 1) 536870911

-- `sext` or `zext`: up to a width the word of the top net again and again, or that of the constant 0.
abbrev pub extension : Bool → List ℕ → ℕ
extension signed words = cond signed (msb_word words) 0

abbrev pub extended_words : Bool → List ℕ → ℕ → List ℕ
extended_words signed words w = words ++ replicate (w - length words) (extension signed words)

-- A width at which a shift of n nets by an amount of m can be made: both fit.
pub record ShiftFits (n m stride width : ℕ) : Type 0 where
  pub exact : width ≡ shift_width n m stride
  pub narrow : width ≤ 64
  pub value : n ≤ width
  pub amount : m ≤ width

-- One bit of each of n constants from a place on, as a number.
abbrev pub packed : (Trit → Bool) → List ℕ → ℕ → ℕ → ℕ
packed f w n at = bv2nat (map f (trits_in w n at))

-- The numbers of the x and of the y of n constants are the bits of a literal of these constants.
pub record Packed (w : List ℕ) (n at x y : ℕ) : Type 0 where
  pub is_undef : nat2bv (min n 64) x ≡ map x_of (trits_in w n at)
  pub is_one : nat2bv (min n 64) y ≡ map y_of (trits_in w n at)
