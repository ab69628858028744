-- Document 01, "Faults and what stays", fault 10: "a net word other than a Dff clock or a replacement's from names a
-- Void of the base". "After the last word 10, in list order": a second pass over the cells, the new cells and the tos.
use Rattle.std.specs.Prelude.{ℕ, ◌+◌, ◌/◌, List, Bool, false, cond, get_or, length, ltb, leb, eqb, Result, Ok, Err}
use Rattle.logic.specs.declared.Fault.{Fault}
use Rattle.logic.specs.Word.{kind_of, payload_of}
use Rattle.logic.specs.Net.{driver_of}
use Rattle.logic.specs.declared.Driver.{Driver}
use Rattle.logic.specs.declared.Driver.TheVariants.{Constant, Output, NoNet}
use Rattle.cell.specs.Cell.{stands_dff}
use Rattle.cell.specs.Operation.{standing_of}
use Rattle.fields.specs.Field.{fault, on_read, scan_many}
use Rattle.cell_reader.specs.Parse.{number_in, op_at}

-- Whether a net is that of a slot of which `void` holds.
abbrev pub void_driver : (ℕ → Bool) → Driver → Bool
void_driver void (Constant t) = false
void_driver void (Output slot) = void slot.0
void_driver void NoNet = false

unfoldable pub names_void : (ℕ → Bool) → ℕ → Bool
names_void void net = void_driver void (driver_of net)

-- Whether the word at a place is a net or control word, not the clock, that names a Void.
unfoldable pub offends : List ℕ → (ℕ → Bool) → ℕ → ℕ → Bool
offends w void clock at =
    cond (leb (kind_of (get_or w at 0)) 1) (cond (eqb at clock) false (names_void void (payload_of (get_or w at 0)))) false

unfoldable pub void_at : List ℕ → (ℕ → Bool) → ℕ → ℕ → Result ℕ Fault
void_at w void clock at = cond (offends w void clock at) (Err (fault 10 at)) (Ok (at + 1))

-- A Dff's clock is its third field; another record has none, and place 0 is in no record.
unfoldable pub clock_at : List ℕ → ℕ → ℕ
clock_at w at = cond (stands_dff (standing_of (op_at w at))) (at + 3) 0

-- The fields of the record at a place, if there is one.
unfoldable pub record_voids_at : List ℕ → (ℕ → Bool) → ℕ → Result ℕ Fault
record_voids_at w void at =
    cond (ltb at (length w)) (scan_many (void_at w void (clock_at w at)) (number_in w at / 32) (at + 1)) (Ok at)

-- The record after a #slot.
unfoldable pub replacement_voids_at : List ℕ → (ℕ → Bool) → ℕ → Result ℕ Fault
replacement_voids_at w void at = cond (ltb at (length w)) (record_voids_at w void (at + 1)) (Ok at)

-- The to of the pair at a place, if there is one.
unfoldable pub pair_voids_at : List ℕ → (ℕ → Bool) → ℕ → Result ℕ Fault
pair_voids_at w void at =
    cond (ltb at (length w)) (void_at w void 0 (at + 1)) (Ok at)

-- All of them in list order, from the first cell on.
unfoldable pub voids_at : List ℕ → (ℕ → Bool) → ℕ → ℕ → ℕ → Result ℕ Fault
voids_at w void cells cell_reps net_reps =
    on_read (scan_many (record_voids_at w void) cells 4) Err (λ (replacements : ℕ).
    on_read (scan_many (replacement_voids_at w void) cell_reps replacements) Err (λ (pairs : ℕ).
    scan_many (pair_voids_at w void) net_reps pairs))
