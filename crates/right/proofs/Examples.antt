-- For each fault of document 01's table that speaks of a design, in its order: smallest designs that meet it, and
-- beside them designs that just do not.
use mathlib.Core.Path.{refl}
use mathlib.Core.Bool.{false, true≢false}
use mathlib.Core.List.{List, [], ◌∷◌}
use Prim.Native.Nat.{ℕ}
use native.Mathlib.Omega.{arith}
use Rattle.logic.specs.Net.{Net, constant, slot}
use Rattle.logic.specs.declared.Trit.TheVariants.{Zero, One}
use Rattle.cell.specs.Cell.{Cell, void, input, unary, binary, assign, dff, buf, eq}
use Rattle.cell.specs.Design.{Design, Placed, NetPair, cell_in}
use Rattle.cell.specs.declared.Mode.TheVariants.{Ported}
use Rattle.right.specs.Valid.{Valid}

-- ---- The parts that the designs below are made of.
abbrev zero : Net
zero = constant Zero

abbrev one : Net
one = constant One

abbrev at : ℕ → Cell → Placed
at s c = record { slot = s; cell = c }

abbrev pair : Net → Net → NetPair
pair from to = record { from = from; to = to }

abbrev design : ℕ → ℕ → List Placed → List Placed → List NetPair → Design
design base added cells cell_reps net_reps =
    record { mode = Ported; base = base; added = added; cells = cells; cell_reps = cell_reps; net_reps = net_reps }

-- A flip-flop without data.
abbrev dff_of : Net → Net → Cell
dff_of clock clear = dff record {
  reset_over_enable = false;
  clock = record { net = clock; inverted = false };
  clear = record { net = clear; inverted = false };
  reset = record { net = zero; inverted = false };
  enable = record { net = one; inverted = false };
  dat = [];
  clear_value = [];
  reset_value = [];
}

-- ---- Fault 4: n ≤ 63.
abbrev input_of : ℕ → Design
input_of n = design n 0 (at 0 (input n) ∷ []) [] []

pub bound_itself : Valid (input_of 63)
bound_itself = omega arith

pub above_bound : Valid (input_of 64) → ⊥
above_bound v = let n = v.bounds.cells.0 in omega arith

-- ---- Fault 6: a net word's slot is below base + added.
abbrev buf_of : Net → Design
buf_of n = design 1 0 (at 0 (unary buf (n ∷ [])) ∷ []) [] []

pub last-slot : Valid (buf_of (slot 0))
unfolding cell_in
last-slot = record {
  slots = omega arith;
  few-cells = omega arith;
  few-nets = omega arith;
  bounds = omega arith;
  laid = omega arith;
  voids = record { cells = (((λ _. refl), tt), tt); new_cells = tt; tos = tt };
}

pub past-slots : Valid (buf_of (slot 1)) → ⊥
past-slots v = let i = v.laid.cells.0.within.0 in omega arith

-- ---- Fault 7: n = 0 in Eq.
abbrev eq_of : List Net → Design
eq_of a = design 1 0 (at 0 (binary eq a a) ∷ []) [] []

pub one-compared : Valid (eq_of (zero ∷ []))
one-compared = omega arith

pub none-compared : Valid (eq_of []) → ⊥
none-compared v = let n = v.laid.cells.0.shaped.1 in omega arith

-- ---- Fault 9: offset + u > n.
abbrev assign_at : ℕ → Design
assign_at offset = design 1 0 (at 0 (assign (zero ∷ []) one (one ∷ []) offset) ∷ []) [] []

pub fits-value : Valid (assign_at 0)
fits-value = omega arith

pub leaves-value : Valid (assign_at 1) → ⊥
leaves-value v = let n = v.laid.cells.0.shaped in omega arith

-- ---- Fault 10: a cell names an added Void, or one of the base.
abbrev void_after : ℕ → ℕ → Design
void_after base added = design base added (at 0 (unary buf (slot 1 ∷ [])) ∷ at 1 void ∷ []) [] []

pub added-void-named : Valid (void_after 1 1)
added-void-named = record {
  slots = omega arith;
  few-cells = omega arith;
  few-nets = omega arith;
  bounds = omega arith;
  laid = omega arith;
  voids = record { cells = (((λ inside. absurd (omega arith)), tt), (tt, tt)); new_cells = tt; tos = tt };
}

pub base-void-named : Valid (void_after 2 0) → ⊥
unfolding cell_in
base-void-named v = true≢false (v.voids.cells.0.0 (omega arith))

-- A Dff's clock names it, or its clear.
abbrev dff_after : Net → Net → Design
dff_after clock clear = design 3 0 (at 0 void ∷ at 1 (input 1) ∷ at 2 (dff_of clock clear) ∷ []) [] []

pub void_a_clock : Valid (dff_after (slot 0) (slot 1))
unfolding cell_in
void_a_clock = record {
  slots = omega arith;
  few-cells = omega arith;
  few-nets = omega arith;
  bounds = omega arith;
  laid = omega arith;
  voids = record { cells = (tt, (tt, (((λ _. refl), (tt, (tt, tt))), tt))); new_cells = tt; tos = tt };
}

pub void_a_clear : Valid (dff_after (slot 1) (slot 0)) → ⊥
unfolding cell_in
void_a_clear v = true≢false (v.voids.cells.1.1.0.0 (omega arith))

-- A replacement's from names it, or its to.
abbrev paired : Net → Net → Design
paired from to = design 2 0 (at 0 void ∷ at 1 (input 1) ∷ []) [] (pair from to ∷ [])

pub void_a_from : Valid (paired (slot 0) (slot 1))
unfolding cell_in
void_a_from = record {
  slots = omega arith;
  few-cells = omega arith;
  few-nets = omega arith;
  bounds = omega arith;
  laid = omega arith;
  voids = record { cells = (tt, (tt, tt)); new_cells = tt; tos = ((λ _. refl), tt) };
}

pub void_a_to : Valid (paired (slot 1) (slot 0)) → ⊥
unfolding cell_in
void_a_to v = true≢false (v.voids.tos.0 (omega arith))

-- ---- Fault 11: a cell crosses the base's end, or the total's.
abbrev two_slots : ℕ → ℕ → Design
two_slots base added = design base added (at 0 (input 2) ∷ []) [] []

pub ends_with_base : Valid (two_slots 2 0)
ends_with_base = omega arith

pub crosses_base : Valid (two_slots 1 1) → ⊥
crosses_base v = let inside = v.laid.apart.0 (omega arith) in omega arith

pub crosses_total : Valid (two_slots 1 0) → ⊥
crosses_total v = let covered = v.laid.run.1 in omega arith

-- ---- Fault 12: an Input of one slot, one of two, a Void and an added Input; which cells replace which.
abbrev replaced : List Placed → Design
replaced reps = design 4 1 (at 0 (input 1) ∷ at 1 (input 2) ∷ at 3 void ∷ at 4 (input 1) ∷ []) reps []

abbrev buffer : List Net → Cell
buffer = unary buf

pub replaces-input : Valid (replaced (at 0 (buffer (zero ∷ [])) ∷ []))
unfolding cell_in
replaces-input = record {
  slots = omega arith;
  few-cells = omega arith;
  few-nets = omega arith;
  bounds = omega arith;
  laid = record {
    run = omega arith;
    apart = omega arith;
    cells = omega arith;
    new_cells = omega arith;
    replaces = (record { base = omega arith; heads = refl; old = refl; width = refl; new = tt }, tt);
    slots = omega arith;
    nets = tt;
    froms = tt;
  };
  voids = omega arith;
}

pub heads-nothing : Valid (replaced (at 2 (buffer (zero ∷ zero ∷ [])) ∷ [])) → ⊥
unfolding cell_in
heads-nothing v = let head = v.laid.replaces.0.heads in omega arith

pub not_of_base : Valid (replaced (at 4 (buffer (zero ∷ [])) ∷ [])) → ⊥
not_of_base v = let base = v.laid.replaces.0.base in omega arith

pub void_replaced : Valid (replaced (at 3 (buffer []) ∷ [])) → ⊥
unfolding cell_in
void_replaced v = true≢false v.laid.replaces.0.old

pub replaced_twice : Valid (replaced (at 0 (buffer (zero ∷ [])) ∷ at 0 (buffer (zero ∷ [])) ∷ [])) → ⊥
replaced_twice v = let above = v.laid.slots.0.0 in omega arith

pub widths-differ : Valid (replaced (at 0 (buffer []) ∷ [])) → ⊥
unfolding cell_in
widths-differ v = let width = v.laid.replaces.0.width in omega arith

pub new-input : Valid (replaced (at 0 (input 1) ∷ [])) → ⊥
new-input v = v.laid.replaces.0.new

-- ---- Fault 13: froms ascend strictly.
abbrev from_both : Net → Net → Design
from_both first second = design 0 0 [] [] (pair first one ∷ pair second zero ∷ [])

pub froms-ascend : Valid (from_both zero one)
froms-ascend = omega arith

pub from_twice : Valid (from_both one one) → ⊥
from_twice v = let above = v.laid.froms.0.0 in omega arith
