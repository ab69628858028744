-- `topological::Linked::take` meets its contract: the node leaves the set of the ready ones, and its reads are taken off.
-- Assumes nothing.
use Rattle.topological.proofs.Settling.{taken_out}
use Rattle.topological.proofs.Linked.take.Goals as goal

pub release-requires : goal.release-requires
release-requires c =
    let counts = c.requires.2 in (
      c.requires.0,
      rw c.put.ensures
          (taken_out c.args.self.now.edges.now c.args.a c.requires.1 counts
          (c.remove.ensures _ counts.ready c.requires.0)),
    )
