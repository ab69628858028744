-- How few the reads of a record are: fewer than its words, so that the words of all reads of a list fit in as many
-- words as the list has. Assumes nothing.
use mathlib.Core.Bool.{Bool, false}
use mathlib.Core.List.{List, [], ◌∷◌, ◌++◌}
use Prim.Native.Nat.{ℕ, ◌+◌, ◌≤◌}
use native.Mathlib.Omega.{arith}
use lib.ListN.{length, length-append}
use Rattle.logic.specs.Net.{Net}
use Rattle.logic.specs.declared.Trit.{Trit}
use Rattle.cell.specs.Cell.{Cell, FlipFlop}
use Rattle.cell.specs.Cell as c
use Rattle.cell.specs.declared.Operation.{Operation}
use Rattle.rules.specs.Reads.{current_net, current_nets, clock_now, compared, compared_by_any, compared_nets, current_reads}
use Rattle.bound.specs.Costs.{sum_by}
use Rattle.bound.specs.Words.{pattern_words, record_words}
use Rattle.cell_reader.specs.Parse.{cell_at}
use Rattle.cell_reader.specs.Accepted.{IsRecord}
use Rattle.accepted.proofs.Cells.{cell-read}
use Rattle.cell_reads.proofs.Runs.{few_of_net, few_of_nets}
use Rattle.cell_reads.proofs.Compared.{few-compared}

-- The alternates of a pattern compare at most as many nets as they have constants, and so do the patterns.
few_alternates : (value : List Net) (alternates : List (List Trit))
    → length (compared_by_any value alternates) ≤ sum_by length alternates
unfolding compared_by_any sum_by
few_alternates value [] = omega arith
few_alternates value (a ∷ alternates) =
    omega (
      arith,
      length-append (compared value a) (compared_by_any value alternates),
      few-compared value a,
      few_alternates value alternates,
    )

few-patterns : (value : List Net) (patterns : List (List (List Trit)))
    → length (compared_nets value patterns) ≤ sum_by pattern_words patterns
unfolding compared_nets sum_by
few-patterns value [] = omega arith
few-patterns value (p ∷ patterns) =
    omega (
      arith,
      length-append (compared_by_any value p) (compared_nets value patterns),
      few_alternates value p,
      few-patterns value patterns,
    )

module _ (past : ℕ → Bool) where
  -- Two lists of reads, each of at most so many.
  both-few : (a b : List ℕ) {x y : ℕ} → length a ≤ x → length b ≤ y → length (a ++ b) ≤ x + y
  both-few a b first second = omega (arith, length-append a b)

  one : (n : Net) → length (current_net past n) ≤ 1
  one = few_of_net past

  many : (nets : List Net) → length (current_nets past nets) ≤ length nets
  many = few_of_nets past

  -- The reads of a flip-flop from its enable on, from its reset on, and from its clear on.
  abbrev enabled : FlipFlop → List ℕ
  enabled f = current_net past f.enable.net ++ current_nets past f.dat

  abbrev held : FlipFlop → List ℕ
  held f = current_net past f.reset.net ++ enabled f

  abbrev cleared : FlipFlop → List ℕ
  cleared f = current_net past f.clear.net ++ held f

  -- A cell reads fewer slots than its record has words.
  few-reads : (cell : Cell) → length (current_reads past cell) + 1 ≤ record_words cell
  few-reads c.void = omega arith
  few-reads c.note = omega arith
  few-reads (c.input n) = omega arith
  few-reads (c.io_buf n) = omega arith
  few-reads (c.unary op a) = omega (arith, many a)
  few-reads (c.binary op a b) = omega (arith, both-few (current_nets past a) (current_nets past b) (many a) (many b))
  few-reads (c.mux s a b) =
      let sides = both-few (current_nets past a) (current_nets past b) (many a) (many b) in
      omega (arith, both-few (current_net past s) (current_nets past a ++ current_nets past b) (one s) sides)
  few-reads (c.adc a b carry) =
      let last = both-few (current_nets past b) (current_net past carry) (many b) (one carry) in
      omega (arith, both-few (current_nets past a) (current_nets past b ++ current_net past carry) (many a) last)
  few-reads (c.aig a b) =
      omega (arith, both-few (current_net past a.net) (current_net past b.net) (one a.net) (one b.net))
  few-reads (c.shift op value amount stride) =
      omega (arith, both-few (current_nets past value) (current_nets past amount) (many value) (many amount))
  few-reads (c.match value enable patterns) =
      let all = compared_nets value patterns in
      omega (
        arith,
        both-few (current_net past enable) (current_nets past all) (one enable) (many all),
        few-patterns value patterns,
      )
  few-reads (c.assign value enable update offset) =
      let sides = both-few (current_nets past value) (current_nets past update) (many value) (many update) in
      omega
      (arith, both-few (current_net past enable) (current_nets past value ++ current_nets past update) (one enable) sides)
  few-reads (c.dff f) =
      omega (
        arith,
        both-few (clock_now f.clock.net) (cleared f) (few_of_net (λ _. false) f.clock.net)
            (both-few (current_net past f.clear.net) (held f) (one f.clear.net)
            (both-few (current_net past f.reset.net) (enabled f) (one f.reset.net)
            (both-few (current_net past f.enable.net) (current_nets past f.dat) (one f.enable.net)
            (many f.dat)))),
      )

  -- The reads of a record that was read fit in its words after the head.
  pub reads_fit : {w : List ℕ} {total at : ℕ} {op : Operation} {width next : ℕ} → IsRecord w total at op width next
      → length (current_reads past (cell_at w at)) + at + 1 ≤ next
  reads_fit {w} {at = at} is = omega (arith, (cell-read is).words, few-reads (cell_at w at))
