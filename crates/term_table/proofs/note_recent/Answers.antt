-- `term_table::note_recent` meets its contract: each way out has what its tests say. Assumes nothing.
use native.Mathlib.Omega.{arith}
use Rattle.term_table.proofs.NearLaws.{record_low}
use Rattle.term_table.proofs.note_recent.Goals as goal

pub put_recent-requires : goal.put_recent-requires
put_recent-requires c =
    let args = c.args in
    let low =
    record_low args.sorts.now args.recent.now args.places.now args.gap args.calls.now
    args.terms args.at in
    omega (arith, low, c.sort_at-sort.ensures)
