-- `operands::copy` meets its contract. The invariant: storing the rest from here gives what storing all from the start
-- does. Assumes nothing.
use Prim.Native.Nat.{◌+◌, ◌-◌}
use mathlib.Core.Path.{sym, ◌∙◌}
use native.Mathlib.Nat.{add_assoc}
use lib.ListN.{length-set}
use Rattle.operands.proofs.Stores.{rest_turn, rest_none}
use Rattle.operands.proofs.copy.Goals as goal
use Rattle.operands.proofs.copy.Invariants.{after}

pub loop-i-preserved : goal.loop-i-preserved
loop-i-preserved c =
    let args = c.args in (
      c.loop-i.invariant.0 ∙
          rest_turn (after args.words.now args.from) c.loop-i.out (args.to + c.loop-i.i) _ c.loop-i.i
          c.loop-i-test.true ∙
          rw (c.put.ensures, c.word_at-word.ensures, add_assoc),
      rw c.put.ensures (simp length-set c.loop-i.invariant.1),
    )

pub returns : goal.returns
returns c =
    let args = c.args in
    sym (c.loop-i.invariant.0 ∙ rest_none (after args.words.now args.from) c.loop-i.out _ _ c.loop-i.i c.loop-i-test.false)
