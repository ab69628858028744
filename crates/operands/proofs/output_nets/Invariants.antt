-- `operands::output_nets` meets its contract. The invariant: storing the rest from here gives what storing all from the
-- start does. The nets of the stored words are the output's. Assumes nothing.
use Prim.Native.Nat.{ℕ, ◌+◌, ◌-◌}
use mathlib.Core.Path.{◌≡◌}
use lib.ListN.{length}
use lib.Seq.{sets}
use Rattle.logic.specs.Net.{net_of_slot}
use Rattle.logic.specs.Word.{net_word}
use Rattle.operands.specs.Words.{output_words}
use Rattle.operands.proofs.Stores.{rest}
use Rattle.operands.proofs.output_nets.Given as goal

-- The word of an output.
abbrev pub output : ℕ → ℕ → ℕ
output s j = net_word (net_of_slot (s + j))

abbrev pub invariant-loop-i : goal.invariant-loop-i
invariant-loop-i l =
    (sets l.initial.out 0 (output_words l.slot.0 l.width) ≡ sets l.out l.i (rest (output l.slot.0) l.width l.i))
    × (length l.out ≡ length l.initial.out)
