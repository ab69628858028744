-- Document 01, "Faults and what stays", Order: "Each field: outside the count 5, kind 2, bound 4, then 7 and 9 once
-- their numbers are known, constant 8, net 6. Then leftover 5". Each definition answers what stands at a place, or the
-- first fault met there.
use Rattle.std.specs.Prelude.{ℕ, zero, suc, ◌+◌, List, Bool, true, false, cond, get_or, ltb, leb, eqb}
use Rattle.std.specs.Prelude.{Result, Ok, Err, Option, Some, None}
use Rattle.logic.specs.Word.{kind_of, payload_of}
use Rattle.logic.specs.Net.{driver_of}
use Rattle.logic.specs.declared.Driver.{Driver}
use Rattle.logic.specs.declared.Driver.TheVariants.{Constant, Output, NoNet}
use Rattle.logic.specs.declared.Fault.{Fault}

abbrev pub fault : ℕ → ℕ → Fault
fault number place = record { number = number; place = place }

-- A test of document 01's order: unless it holds, its refusal; else what comes after it.
module _ {A : Type 0} where
  abbrev pub unless : Bool → A → A → A
  unless holds refusal rest = cond holds rest refusal

-- What follows an outcome of the reader: of a fault met, its refusal; else what comes after it.
module _ {A B : Type 0} where
  abbrev pub on_read : Result A Fault → (Fault → B) → (A → B) → B
  on_read (Ok read) refusal rest = rest read
  on_read (Err e) refusal rest = refusal e

-- The same of a number, or of a least number, with the place after it.
module _ {B : Type 0} where
  abbrev pub on_number : Result (ℕ × ℕ) Fault → (Fault → B) → (ℕ → ℕ → B) → B
  on_number (Ok (n, next)) refusal rest = rest n next
  on_number (Err e) refusal rest = refusal e

-- A number at `at` of a record that ends before `end`: outside the count 5, kind 2, above its bound 4.
unfoldable pub number_at : List ℕ → ℕ → ℕ → ℕ → Result (ℕ × ℕ) Fault
number_at w bound end at =
    unless (ltb at end) (Err (fault 5 at))
    (unless (eqb (kind_of (get_or w at 0)) 3) (Err (fault 2 at))
    (unless (leb (payload_of (get_or w at 0)) bound) (Err (fault 4 at))
    (Ok (payload_of (get_or w at 0), at + 1))))

-- Constants 0, 1 and X.
abbrev pub constant_driver : Driver → Bool
constant_driver (Constant t) = true
constant_driver (Output slot) = false
constant_driver NoNet = false

abbrev pub is_constant : ℕ → Bool
is_constant net = constant_driver (driver_of net)

-- A constant, or a slot below the total.
abbrev pub known_driver : ℕ → Driver → Bool
known_driver total (Constant t) = true
known_driver total (Output slot) = ltb slot.0 total
known_driver total NoNet = false

abbrev pub is_known : ℕ → ℕ → Bool
is_known total net = known_driver total (driver_of net)

-- "Only controls may be inverted": the greatest kind of a net's word is 0, net, and of a control's 1, inverted net.
abbrev pub most_kind : Bool → ℕ
most_kind may_invert = cond may_invert 1 0

-- A net or, where it may be inverted, a control: outside the count 5, kind 2, unknown slot 6.
unfoldable pub net_at : List ℕ → ℕ → Bool → ℕ → ℕ → Result ℕ Fault
net_at w total may_invert end at =
    unless (ltb at end) (Err (fault 5 at))
    (unless (leb (kind_of (get_or w at 0)) (most_kind may_invert)) (Err (fault 2 at))
    (unless (is_known total (payload_of (get_or w at 0))) (Err (fault 6 at))
    (Ok (at + 1))))

-- A word where only a constant may stand: outside the count 5, kind 2; else whether it is one.
unfoldable pub bit_at : List ℕ → ℕ → ℕ → Result (Option ℕ) Fault
bit_at w end at =
    unless (ltb at end) (Err (fault 5 at))
    (unless (eqb (kind_of (get_or w at 0)) 0) (Err (fault 2 at))
    (unless (is_constant (payload_of (get_or w at 0))) (Ok None)
    (Ok (Some (at + 1)))))

-- A net word that is no constant is fault 8.
abbrev pub scan_bit : Result (Option ℕ) Fault → ℕ → Result ℕ Fault
scan_bit (Ok (Some next)) at = Ok next
scan_bit (Ok None) at = Err (fault 8 at)
scan_bit (Err e) at = Err e

unfoldable pub constant_at : List ℕ → ℕ → ℕ → Result ℕ Fault
constant_at w end at = scan_bit (bit_at w end at) at

-- `step` n times, from place to place, up to the first fault.
unfoldable pub scan_many : (ℕ → Result ℕ Fault) → ℕ → ℕ → Result ℕ Fault
scan_many step zero at = Ok at
scan_many step (suc n) at = on_read (step at) Err (scan_many step n)

abbrev pub nets_at : List ℕ → ℕ → Bool → ℕ → ℕ → ℕ → Result ℕ Fault
nets_at w total may_invert end n at = scan_many (net_at w total may_invert end) n at

abbrev pub constants_at : List ℕ → ℕ → ℕ → ℕ → Result ℕ Fault
constants_at w end n at = scan_many (constant_at w end) n at

-- The fields end where the head's count says, or the word after them is fault 5.
unfoldable pub ends_at : ℕ → ℕ → Result ℕ Fault
ends_at end next = unless (eqb next end) (Err (fault 5 next)) (Ok end)
