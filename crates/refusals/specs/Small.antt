-- Document 01, "Faults and what stays". A refusal of `read` has a number of at most 13 and a place of at most 16,384.
use Rattle.std.specs.Prelude.{◌≤◌}
use Rattle.logic.specs.declared.Fault.{Fault}
use Rattle.design_list.specs.Read.{Read, refused, accepted}

-- A fault of document 01's table, at a place of a list.
abbrev pub Small : Fault → Type 0
Small e = (e.number ≤ 13) × (e.place ≤ 16384)

abbrev pub SmallRead : Read → Type 0
SmallRead (refused e) = Small e
SmallRead (accepted d replacements pairs) = Unit {0}
