-- `term_table::term_sort` meets its contract: a sort that the table has is known without the record. Assumes nothing.
use lib.ListN.{get_or}
use mathlib.Core.Path.{◌≡◌}
use Rattle.engine.specs.declared.Origin.TheVariants.{Given}
use mathlib.Core.Path.{sym, ap, ◌∙◌}
use Prim.Native.Nat.{◌+◌}
use Rattle.engine.specs.Structure.{capped}
use native.Mathlib.Omega.{arith}
use borrow.Author.Tests.{lt-ltb}
use Rattle.term_table.specs.Near.{origin_near}
use Rattle.term_table.proofs.NearLaws.{near_below, via_given}
use Rattle.term_table.proofs.term_sort.Goals as goal

pub returns-then-k-tables : goal.returns-then-k-tables
returns-then-k-tables c =
    let args = c.args in
    let t = args.tables.now in
    let known =
    origin_near t.sorts.now t.recent.now t.places.now t.gap t.calls.now
    args.terms in
    let below =
    near_below t.sorts.now t.recent.now t.places.now t.gap t.calls.now
    args.terms in
    let given : known args.term ≡ Given (get_or t.sorts.now args.term 0) =
    rw (lt-ltb _ _ c.if-k-tables.true) in
    let first = c.capped_sum.ensures in
    first ∙ ap capped
    (let z : 0 + get_or t.sorts.now args.term 0 ≡ get_or t.sorts.now args.term 0 = omega arith in z)
    ∙ sym (via_given known below args.term given)
