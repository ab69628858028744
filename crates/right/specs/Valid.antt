-- Document 01, "Faults and what stays": the designs that no fault speaks against. Faults 1, 2, 3, 5 and 8 are of words
-- alone, and the words of a design have none of them.
use Rattle.std.specs.Prelude.{◌≤◌, length}
use Rattle.cell.specs.Design.{Design, total}
use Rattle.right.specs.Laid.{Laid}
use Rattle.right.specs.Bounds.{Bounds}
use Rattle.right.specs.Voids.{VoidsUnread}

pub record Valid (d : Design) : Type 0 where
  -- Fault 4: base + added ≤ 4,096, each replacement count ≤ 4,096.
  pub slots : total d ≤ 4096
  pub few-cells : length d.cell_reps ≤ 4096
  pub few-nets : length d.net_reps ≤ 4096
  -- Fault 4: n, k, u ≤ 63; m ≤ 32; alternates ≤ 64; a stride is a number word's payload.
  pub bounds : Bounds d
  -- Fault 6: every net is below base + added; 7 and 9: n > 0 and offset + u ≤ n; 11: no cell crosses an end;
  -- 12: replacements are right and ascend; 13: froms ascend.
  pub laid : Laid d
  -- Fault 10: no net other than a Dff clock or a replacement's from names a Void of the base.
  pub voids : VoidsUnread d
