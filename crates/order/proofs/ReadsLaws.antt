-- Laws of the definitions of Reads.
use Rattle.engine.specs.Call.{Name}
use Rattle.smt.specs.Emit.{net_name}
use Rattle.order.specs.Reads.{NetRead}

abbrev pub name_of : NetRead → Name
name_of r = net_name r.age r.slot r.half
