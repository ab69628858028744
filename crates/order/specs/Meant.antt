-- Document 01, "Modules", order of work. What the steps of the order of work mean: each with its test, what its term
-- says of the nets' bits; and what a valuation that meets the calls of the steps says of the tests.
use Rattle.std.specs.Prelude.{◌≡◌, Bool, cond, List, [], ◌∷◌, ◌++◌, ℕ, eqb}
use Rattle.std.proofs.Math.Option.{Option, none, some}
use Rattle.logic.specs.Net.{Net}
use Rattle.cell.specs.declared.Mode.{Mode}
use Rattle.cell.specs.Mode.{ported_only}
use Rattle.cell.specs.Cell.{Cell, output_len}
use Rattle.cell.specs.Design.{Design, Placed, NetPair}
use Rattle.engine.specs.Meaning.{Value, bool, Assignment}
use Rattle.working_out.specs.Reading.{reads_past, Pair, equal, of_void, of_dffs, ordinary, pair_of}
use Rattle.smt.specs.Builder.{output_nets}
use Rattle.smt.specs.Formula.{NetBits, net_bits, same_bits, refines_bits}
use Rattle.smt.specs.Wp.{wp}
use Rattle.smt.specs.CellBits.{net_bit, past_bits, curr_bits, cell_bits}
use Rattle.order.specs.Verify.{Step, declared, asserted, obliged, add_cell, new_cell, replace_net, replace_void_net}
use Rattle.order.specs.Verify.{join_pasts, currents, new_cell_in}

pub record Meant : Type 0 where
  pub step : Step
  pub test : NetBits → Bool

abbrev pub meant : Step → (NetBits → Bool) → Meant
meant s t = record { step = s; test = t }

module _ (rp : ℕ → Bool) where
  abbrev pub claim_test : ℕ → ℕ → Cell → NetBits → Bool
  claim_test s w a b = same_bits (curr_bits rp b (output_nets s w)) (cell_bits rp b s w a)

  abbrev pub new_test : ℕ → ℕ → Cell → NetBits → Bool
  new_test s w a b = refines_bits (curr_bits rp b (output_nets s w)) (cell_bits rp b s w a)

  abbrev pub net_test : Net → Net → NetBits → Bool
  net_test from to b = refines_bits (curr_bits rp b (from ∷ [])) (net_bit rp b to)

  abbrev pub void_test : Net → Net → NetBits → Bool
  void_test from to b = same_bits (curr_bits rp b (from ∷ [])) (net_bit rp b to)

  abbrev pub join_test : Net → Net → NetBits → Bool
  join_test from to b = same_bits (past_bits rp b (from ∷ [])) (past_bits rp b (to ∷ []))

  abbrev pub current_test : Net → Net → NetBits → Bool
  current_test from to b = refines_bits (curr_bits rp b (from ∷ [])) (curr_bits rp b (to ∷ []))

  abbrev pub meant_add : ℕ → ℕ → Cell → Meant
  meant_add s w a = meant (add_cell rp s w a) (claim_test s w a)

  abbrev pub meant_new : ℕ → ℕ → Option Cell → List Meant
  meant_new s w none = []
  meant_new s w (some a) = meant (obliged (new_cell rp s w a)) (new_test s w a) ∷ []

  abbrev pub meant_net : NetPair → List Meant
  meant_net p = meant (obliged (replace_net rp p.from p.to)) (net_test p.from p.to) ∷ []

  abbrev pub meant_pair : Mode → Pair → NetPair → List Meant
  meant_pair mode equal p = []
  meant_pair mode of_void p = meant (asserted (replace_void_net rp p.from p.to)) (void_test p.from p.to) ∷ []
  meant_pair mode of_dffs p =
      meant (asserted (join_pasts p.from p.to)) (join_test p.from p.to)
      ∷ meant (obliged (currents p.from p.to)) (current_test p.from p.to)
      ∷ ported_only mode (meant_net p)
  meant_pair mode ordinary p = meant_net p

abbrev pub meant_cell : Design → Placed → List Meant
meant_cell d p =
    cond (eqb (output_len p.cell) 0) []
    (meant_add (reads_past d) p.slot (output_len p.cell) p.cell
    ∷ meant_new (reads_past d) p.slot (output_len p.cell) (new_cell_in d.cell_reps p.slot))

unfoldable pub meant_cells : Design → List Placed → List Meant
meant_cells d [] = []
meant_cells d (p ∷ cells) = meant_cell d p ++ meant_cells d cells

unfoldable pub meant_pairs : Design → List NetPair → List Meant
meant_pairs d [] = []
meant_pairs d (p ∷ pairs) = meant_pair (reads_past d) d.mode (pair_of d p) p ++ meant_pairs d pairs

abbrev pub meant_steps : Design → List Meant
meant_steps d = meant_cells d d.cells ++ meant_pairs d d.net_reps

module _ (ρ : Assignment) (v : ℕ → Value) where
  abbrev pub Says : (NetBits → Bool) → ℕ → Type 0
  Says t r = v r ≡ bool (t (net_bits ρ))

  abbrev pub StepIs : Step → (NetBits → Bool) → Type 0
  StepIs (declared m) t = wp ρ v m (λ _. Unit {0})
  StepIs (asserted m) t = wp ρ v m (Says t)
  StepIs (obliged m) t = wp ρ v m (Says t)

  abbrev pub MeantIs : Meant → Type 0
  MeantIs m = StepIs m.step m.test
