-- The numbers of the operations: an operation's number stands for it, and no other does. By computation, operation by
-- operation and number by number. Assumes nothing.
use mathlib.Core.Path.{◌≡◌, refl, sym, ap, ◌∙◌}
use mathlib.Core.List.{List, map}
use Prim.Native.Nat.{ℕ, zero, suc, ◌<◌}
use native.Mathlib.Omega.{arith}
use native.Mathlib.Decide.{dec_lt}
use lib.ListN.{length, get_or, get_or-map, get_or-eq_default}
use Rattle.std.specs.Prelude.{Option, Some, None}
use Rattle.logic.specs.Table.{tab}
use Rattle.cell.specs.Cell as C
use Rattle.cell.specs.Operation.{operations, operation_of, number_of}
use Rattle.cell.specs.declared.Operation.{Operation}
use Rattle.cell.specs.declared.Operation.TheVariants as O

-- An operation's number stands for it, and leaves room for the count in a head.
pub number_operation : (op : Operation) → (operation_of (number_of op) ≡ Some op) × (number_of op < 32)
number_operation O.Void = (refl, omega arith)
number_operation (O.Unary C.buf) = (refl, omega arith)
number_operation (O.Unary C.inverter) = (refl, omega arith)
number_operation (O.Binary C.and) = (refl, omega arith)
number_operation (O.Binary C.or) = (refl, omega arith)
number_operation (O.Binary C.xor) = (refl, omega arith)
number_operation O.Mux = (refl, omega arith)
number_operation O.Adc = (refl, omega arith)
number_operation O.Aig = (refl, omega arith)
number_operation (O.Binary C.eq) = (refl, omega arith)
number_operation (O.Binary C.ult) = (refl, omega arith)
number_operation (O.Binary C.slt) = (refl, omega arith)
number_operation (O.Shift C.shl) = (refl, omega arith)
number_operation (O.Shift C.ushr) = (refl, omega arith)
number_operation (O.Shift C.sshr) = (refl, omega arith)
number_operation (O.Shift C.xshr) = (refl, omega arith)
number_operation (O.Binary C.mul) = (refl, omega arith)
number_operation O.Match = (refl, omega arith)
number_operation O.Assign = (refl, omega arith)
number_operation O.Dff = (refl, omega arith)
number_operation O.IoBuf = (refl, omega arith)
number_operation O.Input = (refl, omega arith)
number_operation O.Note = (refl, omega arith)
number_operation (O.Binary C.udiv) = (refl, omega arith)
number_operation (O.Binary C.umod) = (refl, omega arith)
number_operation (O.Binary C.sdiv_trunc) = (refl, omega arith)
number_operation (O.Binary C.smod_trunc) = (refl, omega arith)

abbrev number_of_decoded : Option Operation → ℕ
number_of_decoded (Some op) = number_of op
number_of_decoded None = length operations

get_d_tab : {A : Type 0} (n : ℕ) (f : ℕ → A) (d : A) (i : ℕ) → i < n → get_or (tab n f) i d ≡ f i
unfolding tab
get_d_tab zero f d i low = absurd (omega arith)
get_d_tab (suc n) f d zero low = refl
get_d_tab (suc n) f d (suc i) low = get_d_tab n (λ j. f (suc j)) d i (omega arith)

numbers_in_order : map number_of_decoded (map Some operations) ≡ tab (length operations) (λ i. i)
unfolding tab
numbers_in_order = refl

-- What is decoded from a number is the operation of that number.
pub decoded_number : (k : ℕ) (op : Operation) → operation_of k ≡ Some op → k ≡ number_of op
decoded_number k op e = go (dec_lt k (length operations))
  where
    go : Dec (k < length operations) → k ≡ number_of op
    go (yes low) =
        sym (get_d_tab (length operations) (λ i. i) (length operations) k low) ∙
        ap (λ (l : List ℕ). get_or l k (length operations)) (sym numbers_in_order) ∙
        get_or-map number_of_decoded (map Some operations) k None ∙ ap number_of_decoded e
    go (no high) =
        let past : operation_of k ≡ None =
        get_or-eq_default (map Some operations) None {n = k} (omega arith) in
        let z : ◌≡◌ {A = ℕ} 0 1 = cc in absurd (omega arith)
