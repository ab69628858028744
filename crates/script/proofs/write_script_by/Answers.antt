-- `script::write_script_by` meets its contract: the list is checked first; a well-formed one is written with the
-- check's tables. Assumes nothing.
use mathlib.Core.Path.{◌≡◌, sym, ◌∙◌}
use Rattle.std.proofs.Common.{rules, Ok}
use Rattle.script.proofs.WrittenLaws.{has_tables, written-formed}
use Rattle.script.proofs.write_script_by.Goals as goal

pub write_marked-requires : goal.write_marked-requires
write_marked-requires c =
    let is : c.check_by.result ≡ Ok c.in_ok-map_err.field-0 = search rules in
    has_tables (rw is at c.check_by.ensures)

pub returns : goal.returns
returns c =
    let is : c.check_by.result ≡ Ok c.in_ok-map_err.field-0 = search rules in
    let formed = (has_tables (rw is at c.check_by.ensures)).0 in
    record {
      answers = c.write_marked.ensures.answers ∙ sym (written-formed _ _ _ formed.formed);
      writes = c.write_marked.ensures.writes;
    }
