-- `design::verify_in` meets its contract: the room first, then the pass over what fits, in tables cleared again.
-- Assumes nothing.
use mathlib.Core.Path.{sym, ◌∙◌}
use native.Mathlib.Omega.{arith}
use Rattle.requirement.proofs.RoomLaws.{both}
use Rattle.design.proofs.Verifies.{taken_count, blank_again, room-is, short-room, both_fit}
use Rattle.design.proofs.verify_in.Goals as goal

pub slice_bounds-written-end : goal.slice_bounds-written-end
slice_bounds-written-end c =
    (both _ _ _ _ (sym c.in_default.is ∙ c.room_for.ensures)).1

pub slice_bounds-written-end-2 : goal.slice_bounds-written-end-2
slice_bounds-written-end-2 c =
    taken_count _ _ (both _ _ _ _ (sym c.in_default.is ∙ c.room_for.ensures)).1

pub pass-requires : goal.pass-requires
pass-requires c =
    let fits = both _ _ _ _ (sym c.in_default.is ∙ c.room_for.ensures) in
    let kept = c.dry_run-dry.auto.eqs in (
      c.requires.0,
      blank_again c.requires.1 c.dry_run-dry.auto.names c.clear_words.ensures
          (taken_count _ _ fits.1) c.clear.ensures,
      λ ready. omega (arith, c.requires.2 ready, kept),
    )

pub returns-in-Err : goal.returns-in-Err
returns-in-Err c =
    let room = room-is c.requires.0 (c.dry_run-dry.ensures c.requires.0) in
    short-room c.requires.0 c.args.calls.now c.args.recorded.now room
    (sym c.in-Err.is ∙ c.room_for.ensures)

pub returns : goal.returns
returns c =
    let fits = both _ _ _ _ (sym c.in_default.is ∙ c.room_for.ensures) in
    let kept = c.pass.auto.marks ∙ c.clear.auto.bytes ∙ sym (taken_count _ _ fits.1) in
    let room = room-is c.requires.0 (c.dry_run-dry.ensures c.requires.0) in
    rw c.told.ensures
    (both_fit c.requires.0 c.args.calls.now c.args.recorded.now room fits.0 fits.1 kept
    (c.pass.ensures c.requires.0))
