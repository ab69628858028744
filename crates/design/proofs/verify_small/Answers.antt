-- `design::verify_small` meets its contract: the tables hold the names and the obligations of a small design. Assumes
-- nothing.
use Prim.Native.Nat.{ℕ}
use native.Mathlib.Omega.{arith}
use lib.ListN.{length-replicate}
use Rattle.design.proofs.Verifies.{blank_of, small_room}
use Rattle.design.proofs.verify_small.Goals as goal

pub verify_in-requires : goal.verify_in-requires
verify_in-requires c =
    let low = c.requires.1 in
    let many = length-replicate {A = ℕ} 1024 0 in (
      c.requires.0,
      blank_of c.args.table.now 1024 256 (omega arith) low,
      λ ready. let room = small_room ready c.requires.1 c.requires.2 in omega arith,
    )
