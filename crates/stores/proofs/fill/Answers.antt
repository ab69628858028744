-- `stores::fill` meets its contract. The invariant: storing the rest from here gives what storing all from the start
-- does. Assumes nothing.
use Prim.Native.Nat.{◌-◌}
use mathlib.Core.Path.{◌∙◌}
use lib.ListN.{length-set}
use Rattle.stores.proofs.Laws.{fill_turn}
use Rattle.stores.proofs.fill.Goals as goal

pub loop-at-preserved : goal.loop-at-preserved
loop-at-preserved c =
    let turn = c.loop-at in (
      turn.invariant.0 ∙ fill_turn turn.words turn.at _ _ c.loop-at-test.true ∙ rw c.put.ensures,
      rw c.put.ensures (simp length-set turn.invariant.1),
    )
