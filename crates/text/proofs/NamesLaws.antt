-- Laws of the definitions of Names.
use Prim.Native.Nat.{ℕ, ◌<◌, ◌≤◌, ◌^◌}
use native.Mathlib.Omega.{arith}
use lib.ListN.{length, length-append}
use Rattle.text.proofs.BytesLaws.{decimal-length}
use Rattle.text.specs.Names.{spelling}

-- A name whose index is a machine word has at most 22 bytes.
pub spelling-length : (letter index suffix : ℕ) → index < 2 ^ 64 → length (spelling letter index suffix) ≤ 22
spelling-length letter index suffix low =
    let few = decimal-length 19 index (omega arith) in
    rw length-append (omega arith)
