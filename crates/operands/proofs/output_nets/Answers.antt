-- `operands::output_nets` meets its contract. The invariant: storing the rest from here gives what storing all from the
-- start does. The nets of the stored words are the output's. Assumes nothing.
use Prim.Native.Nat.{◌-◌}
use mathlib.Core.Path.{◌≡◌, sym, ◌∙◌}
use lib.ListN.{length-set}
use lib.Seq.{sets}
use Rattle.operands.specs.Words.{output_words}
use Rattle.operands.proofs.Stores.{rest_turn, rest_none}
use Rattle.operands.proofs.Nets.{nets-output}
use Rattle.operands.proofs.output_nets.Goals as goal
use Rattle.operands.proofs.output_nets.Invariants.{output}

pub loop-i-preserved : goal.loop-i-preserved
loop-i-preserved c =
    let args = c.args in (
      c.loop-i.invariant.0 ∙ rest_turn (output args.slot.0) c.loop-i.out c.loop-i.i _ c.loop-i.i c.loop-i-test.true ∙
          rw (c.put.ensures, c.output_word.ensures),
      rw c.put.ensures (simp length-set c.loop-i.invariant.1),
    )

pub returns : goal.returns
returns c =
    let args = c.args in
    let stored : c.loop-i.out ≡ sets args.out.now 0 (output_words args.slot.0 args.width) =
    sym (c.loop-i.invariant.0 ∙ rest_none (output args.slot.0) c.loop-i.out _ _ c.loop-i.i c.loop-i-test.false) in
    record { stored = stored; nets = λ room low. rw stored (nets-output args.out.now args.slot.0 args.width room low) }
