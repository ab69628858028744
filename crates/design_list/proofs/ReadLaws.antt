-- Laws of the definitions of Read.
use mathlib.Core.Path.{◌≡◌}
use Rattle.std.specs.Prelude.{Result}
use Rattle.logic.specs.declared.Fault.{Fault}
use Rattle.design_list.specs.Read.{Read, refused, accepted, answer, Answered}
use Rattle.design_list.specs.declared.Extent.{Extent}

pub answered : (r : Read) {a : Result Extent Fault} → a ≡ answer r → Answered r a
answered (accepted d cell_reps_at net_reps_at) same = record { same = same; number = rw same; value = rw same }
answered (refused e) same = record { same = same; number = rw same; value = rw same }
