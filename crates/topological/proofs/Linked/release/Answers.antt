-- `topological::Linked::release` meets its contract. The invariant: the reads after the edge `e` are taken off. The
-- measure is that edge, as the one before it that reads the same node is lower. Assumes nothing.
use Rattle.topological.proofs.Settling.{release_next, release_less, release_end}
use native.Mathlib.Omega.{arith}
use mathlib.Core.Path.{◌≡◌}
use Prim.Native.Nat.{◌<◌, ◌≤◌, ◌-◌}
use Rattle.topological.proofs.Linked.release.Goals as goal

pub loop-p-smaller : goal.loop-p-smaller
loop-p-smaller c =
    let some : 0 < c.loop-p.e = omega (arith, c.in-Some.ensures) in
    let place : c.in-Some.p ≡ c.loop-p.e - 1 = omega (arith, c.in-Some.ensures) in
    rw (c.word_at-e-in-Some.ensures, place) (release_less c.args.self.now.linked c.loop-p.invariant some)

pub loop-p-preserved : goal.loop-p-preserved
loop-p-preserved c =
    let some : 0 < c.loop-p.e = omega (arith, c.in-Some.ensures) in
    let place : c.in-Some.p ≡ c.loop-p.e - 1 = omega (arith, c.in-Some.ensures) in
    rw (c.word_at-e-in-Some.ensures, place)
    (release_next c.args.self.now.linked c.loop-p.invariant some (rw (c.word_at.ensures, place) at c.settle.ensures))

pub returns : goal.returns
returns c =
    let none : 1 ≤ c.loop-p.e → ⊥ = c.in_default.ensures in
    release_end c.loop-p.invariant (omega arith)
