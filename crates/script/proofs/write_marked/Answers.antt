-- `script::write_marked` meets its contract: the marks, by the table of names, then the room. Assumes nothing.
use mathlib.Core.Path.{refl, sym, ◌∙◌}
use Rattle.engine.specs.Encode.{decode}
use Rattle.asked.proofs.Marks.{bad-is}
use Rattle.script.proofs.WrittenLaws.{marked-bad, marked_fine}
use Rattle.script.proofs.write_marked.Goals as goal

pub returns-in-Some : goal.returns-in-Some
returns-in-Some c =
    let same =
    bad-is c.args.names.now (decode c.args.calls.now) c.requires.1 0
    c.args.recorded.now in
    let bad = sym same ∙ sym c.bad_mark.ensures ∙ c.in-Some.is in
    record { answers = sym (marked-bad _ _ _ bad); writes = refl }

pub returns : goal.returns
returns c =
    let same =
    bad-is c.args.names.now (decode c.args.calls.now) c.requires.1 0
    c.args.recorded.now in
    let fine = sym same ∙ sym c.bad_mark.ensures ∙ c.in_default.is in
    record {
      answers = c.write_fitting.ensures.answers ∙ sym (marked_fine _ _ _ fine);
      writes = c.write_fitting.ensures.writes;
    }
