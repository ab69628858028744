-- `vectors::bv_concat` meets its contract. Invariant: the elements from i on are joined, as the model joins them, to a
-- vector of n - i bits. It holds of the last element alone, and each turn is one step of the model (`bv-from_turn`).
-- Assumes nothing.
use mathlib.Core.Path.{◌≡◌, refl, ◌∙◌}
use Prim.Native.Nat.{◌+◌, ◌-◌, ◌<◌}
use native.Mathlib.Omega.{arith}
use Rattle.builder.proofs.Laws.{ran_as}
use Rattle.vectors.proofs.Concat.{bv-from_top, bv-from_turn, bv-from-all, bv-concat-none}
use Rattle.vectors.proofs.bv_concat.Goals as goal

pub returns-then-n-eq0 : goal.returns-then-n-eq0
returns-then-n-eq0 c =
    let args = c.args in
    λ names marks. bv-concat-none args.terms.now args.n c.if-n-eq0.true _ names marks _

pub loop-i-init : goal.loop-i-init
loop-i-init c =
    let n = c.args.n in
    let above : 0 < n = omega (arith, c.if-n-eq0.false) in
    let one : n - (n - 1) ≡ 1 = omega arith in (
      omega arith,
      refl,
      λ names marks.
          ran_as (bv-from_top c.args.terms.now n above c.args.calls.now names marks c.args.c)
          (rw (one, c.word_at.ensures)),
    )

pub loop-i-preserved : goal.loop-i-preserved
loop-i-preserved c =
    let inv = c.loop-i.invariant in
    let i = c.loop-i.i in
    let args = c.args in
    let n = args.n in
    let above = c.loop-i-test.true in
    let width : n - i + 1 ≡ n - (i - 1) = omega (arith, inv.0, above) in (
      omega arith,
      c.build_concat-result.auto.calls ∙ inv.1,
      λ names marks. ran_as (bv-from_turn args.terms.now n i above inv.0 (inv.2 names marks)
          (rw c.word_at-in-loop-i.ensures at (c.build_concat-result.ensures (n - i) 1 names marks))) (rw width),
    )

pub returns : goal.returns
returns c =
    let inv = c.loop-i.invariant in
    let args = c.args in
    let n = args.n in
    let none : c.loop-i.i ≡ 0 = omega (arith, c.loop-i-test.false) in
    let width : n - 0 ≡ n = omega arith in
    λ names marks.
    rw (bv-from-all args.terms.now n (omega (arith, inv.0)))
    (ran_as (rw none at (inv.2 names marks)) (rw width))
