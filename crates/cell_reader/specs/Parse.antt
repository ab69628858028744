-- Document 01, "Words", "Operations and bodies": the cell that the words of a record without a fault stand for.
use Rattle.std.specs.Prelude.{ℕ, zero, suc, ◌+◌, ◌*◌, ◌/◌, ◌%◌, List, [], ◌∷◌, get_or, eqb, Option, Some, None}
use Rattle.logic.specs.Word.{kind_of, payload_of}
use Rattle.logic.specs.Net.{Net, constant, slot, net_of}
use Rattle.logic.specs.Table.{tab}
use Rattle.logic.specs.declared.Trit.{Trit}
use Rattle.logic.specs.declared.Trit.TheVariants.{Undef}
use Rattle.cell.specs.Cell as C
use Rattle.cell.specs.Cell.{Cell, Control}
use Rattle.cell.specs.Operation.{operation_of}
use Rattle.cell.specs.declared.Operation.{Operation}
use Rattle.cell.specs.declared.Operation.TheVariants as O

-- The number, net, control and constant of a word.
abbrev pub number_in : List ℕ → ℕ → ℕ
number_in w at = payload_of (get_or w at 0)

abbrev pub net_in : List ℕ → ℕ → Net
net_in w at = net_of (payload_of (get_or w at 0))

abbrev pub control_in : List ℕ → ℕ → Control
control_in w at = record { net = net_in w at; inverted = eqb (kind_of (get_or w at 0)) 1 }

abbrev pub trit_of : Net → Trit
trit_of (constant t) = t
trit_of (slot i) = Undef

abbrev pub trit_in : List ℕ → ℕ → Trit
trit_in w at = trit_of (net_in w at)

-- n*: as many nets, or constants, from a place.
abbrev pub nets_in : List ℕ → ℕ → ℕ → List Net
nets_in w n at = tab n (λ i. net_in w (at + i))

abbrev pub trits_in : List ℕ → ℕ → ℕ → List Trit
trits_in w n at = tab n (λ i. trit_in w (at + i))

-- Per pattern #alternates and its constants, n for each alternate.
unfoldable pub patterns_in : List ℕ → ℕ → ℕ → ℕ → List (List (List Trit))
patterns_in w n zero at = []
patterns_in w n (suc k) at =
    tab (number_in w at) (λ i. trits_in w n (at + 1 + i * n)) ∷ patterns_in w n k (at + 1 + number_in w at * n)

-- The cell of an operation whose fields begin at a place, by the layout of its body.
abbrev pub cell_in : List ℕ → Operation → ℕ → Cell
cell_in w O.Void at = C.void
cell_in w O.Note at = C.note
-- #n
cell_in w O.IoBuf at = C.io_buf (number_in w at)
cell_in w O.Input at = C.input (number_in w at)
-- #n n*
cell_in w (O.Unary operator) at = C.unary operator (nets_in w (number_in w at) (at + 1))
-- #n n* n*
cell_in w (O.Binary operator) at =
    C.binary operator (nets_in w (number_in w at) (at + 1)) (nets_in w (number_in w at) (at + 1 + number_in w at))
-- #n s n* n*
cell_in w O.Mux at =
    C.mux (net_in w (at + 1)) (nets_in w (number_in w at) (at + 2)) (nets_in w (number_in w at) (at + 2 + number_in w at))
-- #n n* n* c
cell_in w O.Adc at =
    C.adc (nets_in w (number_in w at) (at + 1)) (nets_in w (number_in w at) (at + 1 + number_in w at))
    (net_in w (at + 1 + number_in w at + number_in w at))
-- two controls
cell_in w O.Aig at = C.aig (control_in w at) (control_in w (at + 1))
-- #n #m #stride n* m*
cell_in w (O.Shift operator) at =
    C.shift operator (nets_in w (number_in w at) (at + 3)) (nets_in w (number_in w (at + 1)) (at + 3 + number_in w at))
    (number_in w (at + 2))
-- #n #k enable n*, the patterns
cell_in w O.Match at =
    C.match (nets_in w (number_in w at) (at + 3)) (net_in w (at + 2))
    (patterns_in w (number_in w at) (number_in w (at + 1)) (at + 3 + number_in w at))
-- #n #u #offset enable n* u*
cell_in w O.Assign at =
    C.assign (nets_in w (number_in w at) (at + 4)) (net_in w (at + 3))
    (nets_in w (number_in w (at + 1)) (at + 4 + number_in w at))
    (number_in w (at + 2))
-- #n #reset-over-enable clock clear reset enable, n* data, n* clear value, n* reset value
cell_in w O.Dff at =
    C.dff record {
      reset_over_enable = eqb (number_in w (at + 1)) 1;
      clock = control_in w (at + 2);
      clear = control_in w (at + 3);
      reset = control_in w (at + 4);
      enable = control_in w (at + 5);
      dat = nets_in w (number_in w at) (at + 6);
      clear_value = trits_in w (number_in w at) (at + 6 + number_in w at);
      reset_value = trits_in w (number_in w at) (at + 6 + number_in w at + number_in w at);
    }

-- A head's payload is the operation + 32 × the count of following words.
abbrev known_or : Operation → Option Operation → Operation
known_or default (Some op) = op
known_or default None = default

abbrev pub op_at : List ℕ → ℕ → Operation
op_at w at = known_or O.Note (operation_of (number_in w at % 32))

abbrev pub end_at : List ℕ → ℕ → ℕ
end_at w at = at + 1 + number_in w at / 32

-- The cell of the record whose head stands at a place.
unfoldable pub cell_at : List ℕ → ℕ → Cell
cell_at w at = cell_in w (op_at w at) (at + 1)
