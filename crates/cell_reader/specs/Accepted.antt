-- Document 01, "Words": a design list. What is known of a record that was read: its numbers, its fields and its end.
use Rattle.std.specs.Prelude.{ℕ, ◌+◌, ◌<◌, ◌≤◌, ◌≡◌, List, true, false, get_or, length, Ok}
use Rattle.logic.specs.Word.{kind_of}
use Rattle.cell.specs.Cell.{output_len}
use Rattle.cell.specs.Operation.{numbers_of, fields_of}
use Rattle.cell.specs.declared.Operation.{Operation}
use Rattle.cell.specs.declared.Numbers.{Numbers}
use Rattle.cell.specs.declared.Fields.{Fields}
use Rattle.fields.specs.Field.{nets_at, constants_at}
use Rattle.fields.specs.Pattern.{patterns_at}
use Rattle.fields.specs.Accepted.{IsNumber}
use Rattle.cell_reader.specs.Parse.{number_in, op_at, end_at, cell_at}

module _ (w : List ℕ) (numbers : Numbers) (end : ℕ) where
  -- The numbers that lead a body were read: n and m are the first two, within their bounds, and the fields begin after
  -- the last.
  pub record IsLeading (at n m next : ℕ) : Type 0 where
    pub first : 0 < numbers.count → IsNumber w 63 end at n (at + 1)
    pub least : 0 < numbers.count → numbers.least ≤ n
    pub second : 1 < numbers.count → IsNumber w numbers.second end (at + 1) m (at + 1 + 1)
    pub within : 2 < numbers.count → numbers.within ≡ true → number_in w (at + 1 + 1) + m ≤ n
    pub after : numbers.count ≤ 3 → next ≡ at + numbers.count

-- The fields after the numbers were read: controls, nets, constants and patterns, one run after another, up to the
-- record's end.
pub record IsBody (w : List ℕ) (total : ℕ) (layout : Fields) (n end at : ℕ) : Type 0 where
  pub nets : ℕ
  pub constants : ℕ
  pub patterns : ℕ
  pub controls-read : nets_at w total true end layout.controls at ≡ Ok nets
  pub nets-read : nets_at w total false end layout.nets nets ≡ Ok constants
  pub constants-read : constants_at w end layout.constants constants ≡ Ok patterns
  pub patterns-read : patterns_at w n end layout.patterns patterns ≡ Ok end

-- A record was read: all that the layers above go by.
pub record IsRecord (w : List ℕ) (total at : ℕ) (op : Operation) (width next : ℕ) : Type 0 where
  pub inside : at < length w
  pub kind : kind_of (get_or w at 0) ≡ 2
  pub same_op : op ≡ op_at w at
  pub ends : next ≡ end_at w at
  pub fits : next ≤ length w
  pub same_width : width ≡ output_len (cell_at w at)
  pub low-width : width ≤ 64
  pub n : ℕ
  pub m : ℕ
  pub start : ℕ
  pub leading : IsLeading w (numbers_of op) next (at + 1) n m start
  pub body : IsBody w total (fields_of op n m) n next start
