-- Packing loses nothing: of the list reader's refusals, and of what vm_verify, vm_counts and vm_order answer (their
-- contracts).
use mathlib.Core.Path.{◌≡◌}
use mathlib.Core.List.{List}
use Prim.Native.Nat.{◌/◌, ◌%◌, ◌^◌, ℕ}
use native.Mathlib.Omega.{arith}
use lib.ListN.{length}
use Rattle.logic.specs.declared.Fault.{Fault}
use Rattle.cell.specs.declared.Mode.{Mode}
use Rattle.design_list.specs.Read.{refused, read, answer}
use Rattle.refusals.specs.Small.{Small}
use Rattle.refusals.proofs.SmallLaws.{read_small}
use Rattle.requirement.specs.Verified.{verified, unroomed}
use Rattle.packed.specs.Verified.{lent}
use Rattle.packed.specs.Whole.{Whole}
use Rattle.packed.proofs.WholeLaws.{verified-whole, unroomed-whole}
use Rattle.ordering.specs.Answer.{order_of}
use Rattle.packed_order.specs.Packed as order
use Rattle.packed_order.proofs.WholeLaws.{order-whole}
use Rattle.virginalmimas.specs.Packed.{packed, PackedVerified, PackedCounts, PackedOrder}

-- The packed answer of a refused list gives back the fault's number and place.
pub packed-whole :
    (mode : Mode) (w : List ℕ) {e : Fault} → read mode w ≡ refused e →
    (packed (answer (read mode w)) / 2 ^ 48 ≡ e.number) × (packed (answer (read mode w)) % 2 ^ 48 ≡ e.place)
packed-whole mode w {e} same =
    let small : Small e = rw same at (read_small mode w) in
    rw same (omega (arith, small.0, small.1), omega (arith, small.0, small.1))

-- Of vm_verify_mode, and so of vm_verify: for every mode, every list and every two slices.
pub verify-whole :
    {mode : ℕ} {w calls recorded calls' recorded' : List ℕ} {r : ℕ} →
    PackedVerified mode w calls recorded calls' recorded' r → Whole (verified mode w (length calls) (length recorded)) r
verify-whole {mode} {w} {calls} {recorded} said =
    rw said.answers (verified-whole mode w (length calls) (length recorded))

-- Of vm_counts_mode likewise.
pub counts_whole :
    (mode : ℕ) (w : List ℕ) {before after : List ℕ} {r : ℕ} → PackedCounts mode w before after r →
    Whole (lent (unroomed mode w) (length before)) r
counts_whole mode w {before} said = rw said.answers (unroomed-whole mode w (length before))

-- Of vm_order, for every list and every slice.
pub slots-whole :
    (mode : Mode) (w : List ℕ) {slots slots' : List ℕ} {r : ℕ} → PackedOrder (read mode w) slots slots' r →
    order.Whole (order_of (read mode w) (length slots)) r
slots-whole mode w {slots} said = rw said.answers (order-whole mode w (length slots))
