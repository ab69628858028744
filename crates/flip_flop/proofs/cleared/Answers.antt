-- `flip_flop::cleared` meets its contract: the clear control's word decides, as in the model. Assumes nothing.
use mathlib.Core.Path.{◌≡◌, sym, ◌∙◌}
use mathlib.Core.Bool.{true, false}
use Rattle.builder.proofs.Laws.{ran_bind, ran_none}
use Rattle.smt.specs.Builder.{has_clear, cleared}
use Rattle.flip_flop_data.specs.Fields.{flip_flop_in}
use Rattle.flip_flop.proofs.cleared.Goals as goal

pub returns-then-has_clear : goal.returns-then-has_clear
unfolding cleared
returns-then-has_clear c =
    let args = c.args in
    let has = rw (c.control_of-control.ensures, c.word_at.ensures)
    at c.has_clear.ensures in
    let asked : has_clear (flip_flop_in args.fields.now) ≡ true = sym has ∙ c.if-has_clear.true in
    λ small reads_past names marks.
    rw asked
    (ran_bind _ (c.clear_value-to.ensures small names marks)
    (c.tv_mux.ensures 1 _ _ names marks))

pub returns : goal.returns
unfolding cleared
returns c =
    let args = c.args in
    let has = rw (c.control_of-control.ensures, c.word_at.ensures)
    at c.has_clear.ensures in
    let asked : has_clear (flip_flop_in args.fields.now) ≡ false = sym has ∙ c.if-has_clear.false in
    λ small reads_past names marks. rw asked (ran_none _ _ names marks _)
