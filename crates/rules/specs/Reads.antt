-- Document 01, "Reading nets": the current reads of a cell, the slots whose current trit its rule looks at.
use Rattle.std.specs.Prelude.{Bool, false, cond, List, [], ◌∷◌, ◌++◌, ℕ}
use Rattle.logic.specs.Net.{Net, constant, slot}
use Rattle.logic.specs.declared.Trit.{Trit}
use Rattle.logic.specs.declared.Trit.TheVariants.{Zero, One, Undef}
use Rattle.cell.specs.Cell.{Cell, FlipFlop}
use Rattle.cell.specs.Cell as c

-- A net read as current: a slot, unless it reads its past trit.
abbrev pub current_net : (ℕ → Bool) → Net → List ℕ
current_net reads_past (constant u) = []
current_net reads_past (slot i) = cond (reads_past i) [] (i ∷ [])

unfoldable pub current_nets : (ℕ → Bool) → List Net → List ℕ
current_nets reads_past [] = []
current_nets reads_past (a ∷ nets) = current_net reads_past a ++ current_nets reads_past nets

-- A clock's current read counts, whatever its slot reads otherwise.
abbrev pub clock_now : Net → List ℕ
clock_now = current_net (λ _. false)

-- The nets of a value that an alternate compares: those at which it has no X.
unfoldable pub compared : List Net → List Trit → List Net
compared [] pattern = []
compared (v ∷ value) [] = []
compared (v ∷ value) (Undef ∷ pattern) = compared value pattern
compared (v ∷ value) (Zero ∷ pattern) = v ∷ compared value pattern
compared (v ∷ value) (One ∷ pattern) = v ∷ compared value pattern

-- Those that any alternate of a pattern compares, and any alternate of any pattern.
unfoldable pub compared_by_any : List Net → List (List Trit) → List Net
compared_by_any value [] = []
compared_by_any value (a ∷ alternates) = compared value a ++ compared_by_any value alternates

unfoldable pub compared_nets : List Net → List (List (List Trit)) → List Net
compared_nets value [] = []
compared_nets value (p ∷ patterns) = compared_by_any value p ++ compared_nets value patterns

-- IoBuf counts no read; a Match reads only compared positions and its enable; a Dff's clock is read as current.
module _ (reads_past : ℕ → Bool) where
  abbrev pub flip_flop_reads : FlipFlop → List ℕ
  flip_flop_reads f =
      clock_now f.clock.net ++ (current_net reads_past f.clear.net ++ (current_net reads_past f.reset.net
      ++ (current_net reads_past f.enable.net ++ current_nets reads_past f.dat)))

  abbrev pub current_reads : Cell → List ℕ
  current_reads c.void = []
  current_reads c.note = []
  current_reads (c.input n) = []
  current_reads (c.io_buf n) = []
  current_reads (c.unary op a) = current_nets reads_past a
  current_reads (c.binary op a b) = current_nets reads_past a ++ current_nets reads_past b
  current_reads (c.mux s a b) = current_net reads_past s ++ (current_nets reads_past a ++ current_nets reads_past b)
  current_reads (c.adc a b carry) = current_nets reads_past a ++ (current_nets reads_past b ++ current_net reads_past carry)
  current_reads (c.aig a b) = current_net reads_past a.net ++ current_net reads_past b.net
  current_reads (c.shift op value amount stride) = current_nets reads_past value ++ current_nets reads_past amount
  current_reads (c.match value enable patterns) =
      current_net reads_past enable ++ current_nets reads_past (compared_nets value patterns)
  current_reads (c.assign value enable update offset) =
      current_net reads_past enable ++ (current_nets reads_past value ++ current_nets reads_past update)
  current_reads (c.dff f) = flip_flop_reads f
