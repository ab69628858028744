-- `record_faults::wrong_from` meets its contract: from each argument on, the scan finds what it finds from the first;
-- the word before and its sort are kept from turn to turn. Assumes nothing.
use Prim.Native.Nat.{ℕ, ◌+◌, ◌-◌}
use mathlib.Core.Path.{◌≡◌, sym, ap, ◌∙◌}
use native.Mathlib.Omega.{arith}
use lib.ListN.{get_or}
use Rattle.engine.specs.Encode.{Op}
use Rattle.engine.specs.WellFormed.{first_failing, argument_of}
use Rattle.engine.proofs.Steps.{failing_none, failing_turn, failing_here}
use Rattle.record_faults.specs.Faults.{stands_by, on_wrong}
use mathlib.Core.Option as found
use Rattle.std.specs.Prelude.{Some}
use Rattle.term_table.specs.Near.{sort_in}
use Rattle.record_faults.proofs.FaultsLaws.{stands_is}
use Rattle.record_faults.proofs.wrong_from.Goals as goal

pub loop-i-preserved : goal.loop-i-preserved
loop-i-preserved c =
    let inv = c.loop-i.invariant in
    let args = c.args in
    let w = args.tables.now.calls.now in
    let sort = sort_in args.tables.now args.terms in
    let test = stands_by sort w args.terms args.at in
    let stands =
    stands_is sort w args.terms args.at c.loop-i.i
    (c.argument.ensures ∙ ap (λ (op : Op). argument_of op c.loop-i.i) c.requires.1)
    c.argument_word-first.ensures
    inv.0 c.argument_word-word.ensures inv.1 c.word_sort-sort.ensures
    c.admitted.ensures in (
      c.argument_word-word.ensures
          ∙ ap (λ (j : ℕ). get_or w j 0) (let e : args.at + 1 + c.loop-i.i ≡ args.at + (c.loop-i.i + 1) = omega arith in e),
      c.word_sort-sort.ensures,
      inv.2 ∙ failing_turn test c.loop-i.i (args.n - c.loop-i.i) (omega arith) (sym stands ∙ c.if-not-admitted.false)
          ∙ ap (first_failing test (c.loop-i.i + 1))
          (let e : args.n - c.loop-i.i - 1 ≡ args.n - (c.loop-i.i + 1) = omega arith in e),
    )

pub returns-then-not-admitted : goal.returns-then-not-admitted
returns-then-not-admitted c =
    let inv = c.loop-i.invariant in
    let args = c.args in
    let w = args.tables.now.calls.now in
    let sort = sort_in args.tables.now args.terms in
    let test = stands_by sort w args.terms args.at in
    let stands =
    stands_is sort w args.terms args.at c.loop-i.i
    (c.argument.ensures ∙ ap (λ (op : Op). argument_of op c.loop-i.i) c.requires.1)
    c.argument_word-first.ensures
    inv.0 c.argument_word-word.ensures inv.1 c.word_sort-sort.ensures c.admitted.ensures in
    let place : c.argument_place.result ≡ args.at + 1 + c.loop-i.i =
    omega (arith, c.argument_place.ensures, c.requires.0, c.loop-i-test.true) in
    ap Some place
    ∙ sym (ap (λ (o : found.Option ℕ). on_wrong o (λ i. args.at + 1 + i))
    (inv.2 ∙ failing_here test c.loop-i.i (args.n - c.loop-i.i) (omega arith) (sym stands ∙ c.if-not-admitted.true)))

pub returns : goal.returns
returns c =
    let args = c.args in
    let w = args.tables.now.calls.now in
    let sort = sort_in args.tables.now args.terms in
    sym (ap (λ (o : found.Option ℕ). on_wrong o (λ i. args.at + 1 + i)) (c.loop-i.invariant.2
    ∙ failing_none (stands_by sort w args.terms args.at) c.loop-i.i (args.n - c.loop-i.i)
    (omega arith)))
