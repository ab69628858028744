-- Document 01, "Modules", builder. The part into which the code cuts match_cell.
use Rattle.std.specs.Prelude.{Bool, ℕ, replicate}
use Rattle.logic.specs.Net.{Net}
use Rattle.logic.specs.declared.Trit.TheVariants.{Zero}
use Rattle.smt.specs.Prog.{Prog, ◌>>=◌, TritVec}
use Rattle.smt.specs.Builder.{tv_lit, tv_mux, first_match, net}

-- match_cell from the enable on.
unfoldable pub chosen : (ℕ → Bool) → Net → ℕ → TritVec → Prog TritVec
chosen reads_past enable k matches = do
  enable ← net reads_past enable
  cold ← tv_lit (replicate k Zero)
  result ← first_match matches k k cold
  tv_mux enable result cold k
