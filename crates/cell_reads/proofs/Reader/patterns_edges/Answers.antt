-- `cell_reads::Reader::patterns_edges` meets its contract. The invariant: the reads of the patterns passed are added, and the
-- patterns left complete those asked for. Assumes nothing.
use mathlib.Core.Path.{◌≡◌, ap, ◌∙◌}
use Prim.Native.Nat.{ℕ, ◌+◌, ◌-◌, ◌*◌, ◌≤◌, min}
use native.Mathlib.Nat.{mul-le-mul}
use native.Mathlib.Omega.{arith}
use Rattle.logic.specs.Word.{payload_of}
use Rattle.cell_reader.specs.Parse.{number_in, nets_in}
use Rattle.nets.specs.Reads.{past_in}
use Rattle.cell_reads.proofs.Adding.{left_turn, left_end}
use Rattle.cell_reads.proofs.Compared.{pattern_first, pattern_none, few-first, few_of_pattern}
use Rattle.cell_reads.proofs.Reader.patterns_edges.Goals as goal

-- The words of a pattern are few.
words : (alternates n number : ℕ) → n ≤ 63 → alternates ≡ min number 64 → alternates * n ≤ 4032
words alternates n number small most = let few : alternates ≤ 64 = omega arith in mul-le-mul few small

pub loop-preserved : goal.loop-preserved
loop-preserved c =
    let args = c.args in
    let past = past_in args.self.now.table.now in
    let list = args.self.now.list.now in
    let value = nets_in list args.n args.value in
    let at = c.loop.at in
    let left = args.k - c.loop.counter in
    let some = c.loop-test.true in
    let adds = c.pattern_edges-total.ensures in
    let alternates = c.min-alternates.result in
    let short = words alternates args.n _ c.requires.0 c.min-alternates.ensures in
    let few = few_of_pattern past list value args.n alternates (λ i. at + 1 + i * args.n) in
    let number = c.payload.ensures ∙ ap payload_of c.word_at.ensures in
    let fewer : args.k - (c.loop.counter + 1) ≡ left - 1 = omega arith in (
      omega (arith, c.loop.invariant.0, adds.many, few, short, some),
      omega (arith, c.loop.invariant.1, short, some),
      λ all.
          let here = c.loop.invariant.2 all in
          let later = few-first past list value args.n left at (omega arith) here.0 in
          let same : alternates ≡ number_in list at = omega (arith, c.min-alternates.ensures, number, later.0) in
          let next : at + (1 + alternates * args.n) ≡ at + 1 + number_in list at * args.n = rw same (omega arith) in
          rw (fewer, next) (
            later.1,
            left_turn (pattern_first past list value args.n left at (omega arith)) here.1 (rw same at adds),
          ),
    )

pub returns : goal.returns
returns c =
    let args = c.args in
    λ all.
    left_end (pattern_none (past_in args.self.now.table.now) args.self.now.list.now _ _ _ _ (omega arith)) (c.loop.invariant.2 all).1
