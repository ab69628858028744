-- Document 01, "Words" and "Faults and what stays": a record of the design list, field by field, up to its first fault.
use Rattle.std.specs.Prelude.{ℕ, ◌+◌, ◌-◌, ◌^◌, List, true, false, cond, ltb, eqb, Result, Ok, Err}
use Rattle.logic.specs.declared.Fault.{Fault}
use Rattle.cell.specs.Operation.{numbers_of, fields_of}
use Rattle.cell.specs.declared.Operation.{Operation}
use Rattle.cell.specs.declared.Numbers.{Numbers}
use Rattle.cell.specs.declared.Fields.{Fields}
use Rattle.fields.specs.Field.{fault, on_number, on_read, number_at, nets_at, constants_at, ends_at}
use Rattle.fields.specs.Pattern.{patterns_at}
use Rattle.fields.specs.Head.{on_head, head_at}
use Rattle.cell_reader.specs.declared.Leading.{Leading}
use Rattle.cell_reader.specs.declared.Record.{Record}

-- The numbers that lead a body, and a record, by their parts; and what follows one that was read.
abbrev pub leading : ℕ → ℕ → ℕ → Leading
leading n m next = record { n = n; m = m; next = next }

abbrev pub cell_record : Operation → ℕ → ℕ → Record
cell_record op width next = record { op = op; width = width; next = next }

module _ {A : Type 0} where
  abbrev pub on_leading : Result Leading Fault → (Fault → A) → (ℕ → ℕ → ℕ → A) → A
  on_leading (Ok lead) refusal rest = rest lead.n lead.m lead.next
  on_leading (Err e) refusal rest = refusal e

  abbrev pub on_record : Result Record Fault → (Fault → A) → (Operation → ℕ → ℕ → A) → A
  on_record (Ok r) refusal rest = rest r.op r.width r.next
  on_record (Err e) refusal rest = refusal e

-- The third number, a stride or an offset, has no bound; an offset with offset + u > n is fault 9.
unfoldable pub third_at : List ℕ → Numbers → ℕ → ℕ → ℕ → ℕ → Result Leading Fault
third_at w numbers end n m at =
    on_number (number_at w (2 ^ 29 - 1) end at) Err (λ (offset next : ℕ).
    cond numbers.within (cond (ltb n (offset + m)) (Err (fault 9 at)) (Ok (leading n m next))) (Ok (leading n m next)))

unfoldable pub second_at : List ℕ → Numbers → ℕ → ℕ → ℕ → Result Leading Fault
second_at w numbers end n at =
    on_number (number_at w numbers.second end at) Err (λ (m next : ℕ).
    cond (eqb numbers.count 2) (Ok (leading n m next)) (third_at w numbers end n m next))

-- n is at most 63; n = 0 where it must not be is fault 7, before any later field.
unfoldable pub first_at : List ℕ → Numbers → ℕ → ℕ → Result Leading Fault
first_at w numbers end at =
    on_number (number_at w 63 end at) Err (λ (n next : ℕ).
    cond (ltb n numbers.least) (Err (fault 7 at))
    (cond (eqb numbers.count 1) (Ok (leading n 0 next)) (second_at w numbers end n next)))

-- The numbers that lead a body.
unfoldable pub leading_at : List ℕ → Numbers → ℕ → ℕ → Result Leading Fault
leading_at w numbers end at = cond (eqb numbers.count 0) (Ok (leading 0 0 at)) (first_at w numbers end at)

-- What follows the numbers: controls, nets, constants, patterns; then the record must end.
unfoldable pub tail_at : List ℕ → Fields → ℕ → ℕ → ℕ → Result ℕ Fault
tail_at w layout n end at =
    on_read (constants_at w end layout.constants at) Err (λ (patterns : ℕ).
    on_read (patterns_at w n end layout.patterns patterns) Err (ends_at end))

unfoldable pub body_at : List ℕ → ℕ → Fields → ℕ → ℕ → ℕ → Result ℕ Fault
body_at w total layout n end at =
    on_read (nets_at w total true end layout.controls at) Err (λ (nets : ℕ).
    on_read (nets_at w total false end layout.nets nets) Err (tail_at w layout n end))

unfoldable pub contents_at : List ℕ → ℕ → Operation → ℕ → ℕ → Result Record Fault
contents_at w total op end first =
    on_leading (leading_at w (numbers_of op) end first) Err (λ (n m next : ℕ).
    on_read (body_at w total (fields_of op n m) n end next) Err (λ (after : ℕ).
    Ok (cell_record op (fields_of op n m).width after)))

-- A record: its operation, its output width and the place after it; or its first fault.
unfoldable pub record_at : List ℕ → ℕ → ℕ → Result Record Fault
record_at w total at =
    on_head (head_at w at) Err (λ (op : Operation) (first end : ℕ). contents_at w total op end first)
