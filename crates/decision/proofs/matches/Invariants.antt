-- `decision::matches` meets its contract. Invariant: `place` is that of pattern i (`Reached`), the terms of the
-- patterns below i are stored, and if the rest of the patterns is run from here, all of them were run from the start
-- (`Left`). Assumes nothing.
use mathlib.Core.Path.{◌≡◌}
use Prim.Native.Nat.{◌≤◌, ◌<◌, ◌*◌, ◌-◌, ◌^◌}
use lib.ListN.{length}
use Rattle.cell_reader.specs.Parse.{nets_in, patterns_in}
use Rattle.smt.specs.Builder.{match_of}
use Rattle.nets.specs.Reads.{past_in}
use Rattle.vectors.specs.Elements.{elements}
use Rattle.values.proofs.Collect.{Left}
use Rattle.decision.proofs.Patterns.{Few, Reached}
use Rattle.decision.proofs.matches.Given as goal

abbrev pub invariant-loop-i : goal.invariant-loop-i
invariant-loop-i l =
    (l.i ≤ l.k) × (length l.calls ≡ length l.initial.calls) × (length l.names ≡ length l.initial.names) × (length l.marks ≡ length l.initial.marks)
    × (length l.terms ≡ length l.initial.terms)
    × (l.place < 2 ^ 32)
    × (2 * l.k ≤ length l.initial.terms → l.initial.place ≤ 66 → l.n ≤ 63 → l.k ≤ 63 → Few (patterns_in l.fields l.n l.k l.initial.place)
    → Reached l.fields l.n l.k l.initial.place l.i l.place
    × Left (match_of (past_in l.table) (nets_in l.fields l.n 3)) (patterns_in l.fields l.n l.k l.initial.place) l.i l.initial.calls l.initial.names l.initial.marks l.initial.counts
    l.calls l.names l.marks l.counts (elements l.terms l.i))
