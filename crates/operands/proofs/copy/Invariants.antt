-- `operands::copy` meets its contract. The invariant: storing the rest from here gives what storing all from the start
-- does. Assumes nothing.
use Prim.Native.Nat.{ℕ, ◌+◌, ◌-◌}
use mathlib.Core.List.{List}
use mathlib.Core.Path.{◌≡◌}
use lib.ListN.{length, get_or}
use lib.Seq.{sets}
use Rattle.operands.specs.Words.{words_in}
use Rattle.operands.proofs.Stores.{rest}
use Rattle.operands.proofs.copy.Given as goal

-- The words from a place on.
abbrev pub after : List ℕ → ℕ → ℕ → ℕ
after words from j = get_or words (from + j) 0

abbrev pub invariant-loop-i : goal.invariant-loop-i
invariant-loop-i l =
    (sets l.initial.out l.to (words_in l.words l.n l.from) ≡ sets l.out (l.to + l.i) (rest (after l.words l.from) l.n l.i)) × (length l.out ≡ length l.initial.out)
