-- Document 01, "Faults and what stays", Order: "A record: missing word 1, head kind 2, operation 3, running past the
-- list 1."
use Rattle.std.specs.Prelude.{ℕ, ◌+◌, ◌/◌, ◌%◌, List, get_or, length, ltb, leb, eqb, Option, Some, None}
use Rattle.std.specs.Prelude.{Result, Ok, Err}
use Rattle.logic.specs.Word.{kind_of, payload_of}
use Rattle.logic.specs.declared.Fault.{Fault}
use Rattle.cell.specs.Operation.{operation_of}
use Rattle.cell.specs.declared.Operation.{Operation}
use Rattle.fields.specs.declared.Head.{Head}
use Rattle.fields.specs.Field.{fault, unless}

-- A head by its parts, and what follows one that was read.
abbrev pub head : Operation → ℕ → ℕ → Head
head op first end = record { op = op; first = first; end = end }

module _ {A : Type 0} where
  abbrev pub on_head : Result Head Fault → (Fault → A) → (Operation → ℕ → ℕ → A) → A
  on_head (Ok h) refusal rest = rest h.op h.first h.end
  on_head (Err e) refusal rest = refusal e

-- A head's payload is the operation + 32 × the count of following words; these must be in the list.
unfoldable pub record_of : Operation → ℕ → ℕ → ℕ → Result Head Fault
record_of op count len at =
    unless (leb (at + 1 + count) len) (Err (fault 1 len)) (Ok (head op (at + 1) (at + 1 + count)))

-- The same of an operation's number; of an unknown one, fault 3.
abbrev pub head_of : Option Operation → ℕ → ℕ → ℕ → Result Head Fault
head_of (Some op) count len at = record_of op count len at
head_of None count len at = Err (fault 3 at)

unfoldable pub head_at : List ℕ → ℕ → Result Head Fault
head_at w at =
    unless (ltb at (length w)) (Err (fault 1 (length w)))
    (unless (eqb (kind_of (get_or w at 0)) 2) (Err (fault 2 at))
    (head_of (operation_of (payload_of (get_or w at 0) % 32)) (payload_of (get_or w at 0) / 32) (length w) at))
