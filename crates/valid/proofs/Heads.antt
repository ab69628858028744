-- Document 01, "head, payload operation + 32 × count of following words": a head that was read is that of its operation
-- and count.
use mathlib.Core.Path.{◌≡◌, refl, sym}
use mathlib.Core.List.{List}
use Prim.Native.Nat.{ℕ, ◌+◌, ◌*◌, ◌%◌}
use native.Mathlib.Omega.{arith}
use Rattle.logic.specs.Word.{head_word}
use Rattle.logic.proofs.WordLaws.{word_of_parts}
use Rattle.cell.specs.Operation.{number_of}
use Rattle.cell.proofs.Numbered.{decoded_number}
use Rattle.cell.specs.declared.Operation.{Operation}
use Rattle.cell.specs.declared.Operation.TheVariants as O
use Rattle.fields.proofs.AcceptedLaws.{IsHead}
use Rattle.cell_reader.specs.Parse.{number_in, cell_in}
use Rattle.valid.specs.Words.{operation_of_cell}
use Rattle.valid.proofs.Stands.{word_at}

-- The operation of the cell that a body stands for.
pub operation_in : (w : List ℕ) (op : Operation) (at : ℕ) → operation_of_cell (cell_in w op at) ≡ op
operation_in w O.Void at = refl
operation_in w O.Note at = refl
operation_in w O.IoBuf at = refl
operation_in w O.Input at = refl
operation_in w (O.Unary operator) at = refl
operation_in w (O.Binary operator) at = refl
operation_in w O.Mux at = refl
operation_in w O.Adc at = refl
operation_in w O.Aig at = refl
operation_in w (O.Shift operator) at = refl
operation_in w O.Match at = refl
operation_in w O.Assign at = refl
operation_in w O.Dff at = refl

pub head_word_lem :
    {w : List ℕ} {at : ℕ} {op : Operation} {first end : ℕ} → IsHead w at op first end → (count : ℕ) →
    end ≡ at + 1 + count →
    word_at w at ≡ head_word (number_of op) count
head_word_lem {w} {at} {op} is count ends =
    let finish = is.finish in
    let number : number_in w at % 32 ≡ number_of op = decoded_number (number_in w at % 32) op is.decoded in
    let payload : number_in w at ≡ number_of op + 32 * count = omega arith in
    rw (← payload) (sym (rw is.kind at (word_of_parts (word_at w at))))
