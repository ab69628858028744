-- Document 01, "Modules", builder. How the code reads a net: which of its trits, by the slot table.
use Rattle.std.specs.Prelude.{Bool, cond, List, ℕ, ◌%◌, eqb, get_or}
use Rattle.logic.specs.Net.{Net, constant, slot}
use Rattle.smt.specs.Prog.{Prog, Age, curr, past, TritVec}
use Rattle.smt.specs.Builder.{curr_net, past_net, net}
use Rattle.nets.specs.declared.Reading.{Reading}
use Rattle.nets.specs.declared.Reading.TheVariants.{Curr, Past, Either}

-- A slot of a base Dff, by the word of the slot table: 1 (a Dff) + 4 × 0 (base) + 8 × the rest.
abbrev pub past_in : List ℕ → ℕ → Bool
past_in table i = eqb (get_or table i 0 % 8) 1

-- Which trit `net` reads.
abbrev pub age_in : (ℕ → Bool) → Net → Age
age_in reads_past (constant t) = curr
age_in reads_past (slot i) = cond (reads_past i) past curr

-- The model's function that reads a net, and which trit it reads.
unfoldable pub reader : Reading → List ℕ → Net → Prog TritVec
reader Curr table = curr_net
reader Past table = past_net
reader Either table = net (past_in table)

abbrev pub age_by : Reading → List ℕ → Net → Age
age_by Curr table n = curr
age_by Past table n = past
age_by Either table n = age_in (past_in table) n
