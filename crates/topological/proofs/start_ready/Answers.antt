-- `topological::start_ready` meets its contract. The invariant: the set has the ready nodes below `a`. Assumes nothing.
use mathlib.Core.Path.{◌≡◌}
use native.Mathlib.Omega.{arith}
use lib.ListN.{length}
use Rattle.topological.proofs.Tables.{holds_same}
use Rattle.topological.proofs.Starting.{none_yet, one_further, all_seen}
use Rattle.topological.proofs.start_ready.Goals as goal

pub loop-a-init : goal.loop-a-init
loop-a-init c = holds_same c.requires.1 (λ b l. none_yet _ b)

pub loop-a-preserved : goal.loop-a-preserved
loop-a-preserved c =
    holds_same (c.insert_ready.ensures _ c.loop-a.invariant (omega arith)) (λ b l. one_further _ c.loop-a.a b)

pub returns : goal.returns
returns c =
    let flags = c.args.flags.now in
    let all : c.loop-a.a ≡ length flags = omega arith in
    holds_same (rw all at c.loop-a.invariant) (λ b l. all_seen flags _ b)
