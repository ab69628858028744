-- Document 01, "Modules", builder. The part into which the code cuts dff_cell.
use Rattle.std.specs.Prelude.{Bool, ℕ}
use Rattle.cell.specs.Cell.{FlipFlop}
use Rattle.smt.specs.Prog.{Prog, ◌>>=◌, TritVec}
use Rattle.smt.specs.Builder.{clock_net, past_value, output_nets, tv_mux, has_clear, cleared}

-- dff_cell from the clock on.
unfoldable pub clocked : (ℕ → Bool) → FlipFlop → ℕ → ℕ → TritVec → TritVec → Prog TritVec
clocked reads_past f s w clear dat = do
  edge ← clock_net f.clock
  old ← past_value (output_nets s w)
  dat ← tv_mux edge dat old w
  cleared reads_past (has_clear f) f w clear dat
