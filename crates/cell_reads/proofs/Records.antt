-- Laws of how the nets that a record reads stand in its words. Assumes nothing.
use mathlib.Core.Path.{◌≡◌, refl, ap, ◌∙◌}
use mathlib.Core.Bool.{Bool}
use mathlib.Core.List.{List, ◌++◌}
use Prim.Native.Nat.{ℕ, ◌+◌, ◌^◌, ◌<◌, ◌≤◌}
use native.Mathlib.Nat.{zero-add}
use native.Mathlib.Omega.{arith}
use Rattle.logic.specs.Word.{payload_of}
use Rattle.cell.specs.Operation.{numbers_of, fields_of}
use Rattle.cell.specs.declared.Operation.{Operation}
use Rattle.cell.specs.declared.Operation.TheVariants as O
use Rattle.rules.specs.Reads.{current_net, current_nets, clock_now, current_reads}
use Rattle.cell_reader.specs.Parse.{number_in, net_in, nets_in, cell_in}
use Rattle.cell_reads.specs.Reads.{reading_of}
use Rattle.cell_reads.specs.declared.Reading.{Reading}
use Rattle.cell_reads.specs.declared.Reading.TheVariants.{Compared, Clocked, Run}
use Rattle.cell_reads.proofs.Runs.{nets_split, nets-one, nets-none, current_append, current-one}

-- How many nets stand in one run after the numbers n and m of an operation.
abbrev pub run_of : Operation → ℕ → ℕ → ℕ
run_of op n m = (fields_of op n m).controls + (fields_of op n m).nets

-- They are few where n and m are payloads, and few numbers stand before them.
run-low : (op : Operation) (n m : ℕ) → n < 2 ^ 29 → m < 2 ^ 29 → run_of op n m < 2 ^ 31
run-low O.Void n m first second = omega arith
run-low O.Note n m first second = omega arith
run-low O.IoBuf n m first second = omega arith
run-low O.Input n m first second = omega arith
run-low (O.Unary operator) n m first second = omega arith
run-low (O.Binary operator) n m first second = omega arith
run-low O.Mux n m first second = omega arith
run-low O.Adc n m first second = omega arith
run-low O.Aig n m first second = omega arith
run-low (O.Shift operator) n m first second = omega arith
run-low O.Match n m first second = omega arith
run-low O.Assign n m first second = omega arith
run-low O.Dff n m first second = omega arith

pub run_fits : (op : Operation) {n m : ℕ} (first second : ℕ) → n ≡ payload_of first → m ≡ payload_of second
    → run_of op n m < 2 ^ 31
run_fits op {n} {m} first second n-is m-is = run-low op n m (omega arith) (omega arith)

pub numbers-low : (op : Operation) → (numbers_of op).count ≤ 3
numbers-low O.Void = omega arith
numbers-low O.Note = omega arith
numbers-low O.IoBuf = omega arith
numbers-low O.Input = omega arith
numbers-low (O.Unary operator) = omega arith
numbers-low (O.Binary operator) = omega arith
numbers-low O.Mux = omega arith
numbers-low O.Adc = omega arith
numbers-low O.Aig = omega arith
numbers-low (O.Shift operator) = omega arith
numbers-low O.Match = omega arith
numbers-low O.Assign = omega arith
numbers-low O.Dff = omega arith

-- Which operation reads so, where only one does.
abbrev Alone : Reading → Operation → Type 0
Alone Compared op = op ≡ O.Match
Alone Clocked op = op ≡ O.Dff
Alone Run op = Unit {0}

pub reads_alone : (op : Operation) → Alone (reading_of op) op
reads_alone O.Void = tt
reads_alone O.Note = tt
reads_alone O.IoBuf = tt
reads_alone O.Input = tt
reads_alone (O.Unary operator) = tt
reads_alone (O.Binary operator) = tt
reads_alone O.Mux = tt
reads_alone O.Adc = tt
reads_alone O.Aig = tt
reads_alone (O.Shift operator) = tt
reads_alone O.Match = refl
reads_alone O.Assign = tt
reads_alone O.Dff = refl

module _ (past : ℕ → Bool) (w : List ℕ) where
  -- The reads of a run of n nets from a place on.
  abbrev run : ℕ → ℕ → List ℕ
  run n start = current_nets past (nets_in w n start)

  -- Of two runs, one after the other; of one net; of one net and a run.
  two_runs : (n m start next : ℕ) {all : ℕ} → next ≡ start + n → all ≡ n + m → run all start ≡ run n start ++ run m next
  two_runs n m start next after size =
      rw (size, nets_split w n m start, after) (current_append past (nets_in w n start) (nets_in w m (start + n)))

  one-net : (start : ℕ) → run 1 start ≡ current_net past (net_in w start)
  one-net start = ap (current_nets past) (nets-one w start) ∙ current-one past (net_in w start)

  net-and-run : (n start next : ℕ) {all : ℕ} → next ≡ start + 1 → all ≡ 1 + n
      → run all start ≡ current_net past (net_in w start) ++ run n next
  net-and-run n start next after size =
      two_runs 1 n start next after size ∙ ap (λ (r : List ℕ). r ++ run n next) (one-net start)

  module _ (at : ℕ) where
    -- The first two numbers.
    abbrev n : ℕ
    n = number_in w at

    abbrev m : ℕ
    m = number_in w (at + 1)

    -- Of a record that is neither a Match's nor a Dff's.
    pub run-reads : (op : Operation) → reading_of op ≡ Run
        → run (run_of op n m) (at + (numbers_of op).count)
        ≡ current_reads past (cell_in w op at)
    run-reads O.Void is = nets-none past w _ _ (omega arith)
    run-reads O.Note is = nets-none past w _ _ (omega arith)
    run-reads O.IoBuf is = nets-none past w _ _ (omega arith)
    run-reads O.Input is = nets-none past w _ _ (omega arith)
    run-reads (O.Unary operator) is = rw (zero-add n)
    run-reads (O.Binary operator) is = two_runs n n (at + 1) (at + 1 + n) refl (omega arith)
    run-reads O.Mux is =
        net-and-run (n + n) (at + 1) (at + 2) (omega arith) (omega arith)
        ∙ ap (λ (r : List ℕ). current_net past (net_in w (at + 1)) ++ r)
        (two_runs n n (at + 2) (at + 2 + n) refl refl)
    run-reads O.Adc is =
        two_runs n (n + 1) (at + 1) (at + 1 + n) refl (omega arith)
        ∙ ap (λ (r : List ℕ). run n (at + 1) ++ r)
        (two_runs n 1 (at + 1 + n) (at + 1 + n + n) refl refl
        ∙ ap (λ (r : List ℕ). run n (at + 1 + n) ++ r) (one-net (at + 1 + n + n)))
    run-reads O.Aig is =
        let begin : at + 0 ≡ at = omega arith in
        rw begin
        (net-and-run 1 at (at + 1) refl (omega arith)
        ∙ ap (λ (r : List ℕ). current_net past (net_in w at) ++ r) (one-net (at + 1)))
    run-reads (O.Shift operator) is = two_runs n m (at + 3) (at + 3 + n) refl (omega arith)
    run-reads O.Assign is =
        net-and-run (n + m) (at + 3) (at + 4) (omega arith) (omega arith)
        ∙ ap (λ (r : List ℕ). current_net past (net_in w (at + 3)) ++ r)
        (two_runs n m (at + 4) (at + 4 + n) refl refl)
    run-reads O.Match is = let z : ◌≡◌ {A = ℕ} 0 1 = cc in absurd (omega arith)
    run-reads O.Dff is = let z : ◌≡◌ {A = ℕ} 0 1 = cc in absurd (omega arith)

    -- Of a Dff.
    pub flip_flop_reads_lem : clock_now (net_in w (at + 2)) ++ run (3 + n) (at + 3)
        ≡ current_reads past (cell_in w O.Dff at)
    flip_flop_reads_lem =
        ap (λ (r : List ℕ). clock_now (net_in w (at + 2)) ++ r)
        (net-and-run (2 + n) (at + 3) (at + 4) (omega arith) (omega arith)
        ∙ ap (λ (r : List ℕ). current_net past (net_in w (at + 3)) ++ r)
        (net-and-run (1 + n) (at + 4) (at + 5) (omega arith) (omega arith)
        ∙ ap (λ (r : List ℕ). current_net past (net_in w (at + 4)) ++ r)
        (net-and-run n (at + 5) (at + 6) (omega arith) refl)))
