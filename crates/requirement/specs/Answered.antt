-- Document 01, "Faults and what stays". How small the counts of an accepted list are.
use Rattle.std.specs.Prelude.{◌≤◌}
use Rattle.builder.specs.declared.Counts.{Counts}

-- Counts that a word's payload holds, with room to spare.
pub record Few (n : Counts) : Type 0 where
  pub terms : n.terms ≤ 134217728
  pub temporaries : n.temporaries ≤ 134217728
  pub words : n.words ≤ 134217728
