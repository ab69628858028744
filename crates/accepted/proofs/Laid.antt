-- The design that an accepted list stands for is laid out as reading nets and working out need it.
use mathlib.Core.Path.{◌≡◌, refl, sym, ap, ◌∙◌}
use mathlib.Core.Bool.{Bool, true, false, cond, true≢false, false≢true}
use mathlib.Core.List.{List, [], ◌∷◌, ◌++◌}
use Prim.Native.Nat.{ℕ, zero, suc, ◌+◌, ◌-◌, ◌≤◌, ◌<◌, max}
use native.Mathlib.Omega.{arith}
use native.Mathlib.Decide.{dec_lt}
use lib.ListN.{length, get_or, replicate}
use lib.Dec.{ltb}
use borrow.Author.Tests.{lt-ltb, le-ltb, le-leb}
use Rattle.std.specs.Prelude.{Ok}
use Rattle.logic.specs.Net.{payload_of_net}
use Rattle.cell.specs.declared.Mode.{Mode}
use Rattle.cell.specs.Cell.{Cell, output_len, slots_of, standing, stands_void}
use Rattle.cell.specs.Cell as C
use Rattle.cell.specs.Operation.{may_replace}
use Rattle.cell.specs.Design.{Placed, NetPair, Design, total, is_in, cell_in, cell_of}
use Rattle.cell.specs.declared.Operation.{Operation}
use Rattle.cell.specs.declared.Operation.TheVariants as O
use Rattle.cell.specs.Role.{role, is_void}
use Rattle.cell.specs.Each.{Each}
use Rattle.cell.proofs.EachLaws.{each_map}
use Rattle.right.specs.Nets.{nets_of}
use Rattle.right.specs.Laid.{Run, CellLaid, Apart, MayReplace, Replaces, PairWithin, Laid}
use Rattle.cell_reader.specs.Parse as Parse
use Rattle.cell_reader.specs.Parse.{number_in, op_at, cell_at}
use Rattle.cell_reader.specs.Accepted.{IsRecord}
use Rattle.voids.specs.Voids.{voids_at}
use Rattle.placing.specs.Slots as Slots
use Rattle.placing.specs.Slots.{covering, nowhere, takes, at_slot}
use Rattle.items.specs.Items.{new_cell, net_pair, replaces, replacement_at, pair_at}
use Rattle.placing.specs.Placement.{IsPlaced}
use Rattle.placing.specs.Cover.{Walk, done, placed}
use Rattle.placing.proofs.CoverLaws.{walk-cells}
use Rattle.design_list.specs.Read.{read, accepted}
use Rattle.design_list.specs.Accepted.{IsAccepted}
use Rattle.design_list.proofs.AcceptedLaws.{accepted-read}
use Rattle.accepted.proofs.Fields.{known-within}
use Rattle.accepted.proofs.Cells.{cell-read}
use Rattle.accepted.proofs.Replacements.{Climb, climb_read, climb_each, climb_ascends, IsReplacement}
use Rattle.accepted.proofs.Replacements.{replacement-read, IsPair, pair_read}

-- ---- The cells.
pub walk-run :
    {w : List ℕ} {base total slot at end : ℕ} {cells : List Placed} → Walk w base total slot at cells end →
    Run slot cells total
walk-run (done full ended) = full
walk-run {w = w} {total = total} {slot = slot}
    (placed {at = at} {width = width} {after = after} {cells = cells} inside is rest) =
    let ends : after ≡ slot + max 1 width = is.ends in
    let same : width ≡ output_len (cell_at w at) = is.record_is.same_width in
    let place : after ≡ slot + slots_of (cell_at w at) = omega arith in
    (refl, rw place at (walk-run rest))

-- What holds of every cell that was placed.
pub walk-each :
    {w : List ℕ} {base total : ℕ} (P : Placed → Type 0) →
    ((slot at : ℕ) (op : Operation) (width after next : ℕ) → IsPlaced w base total slot at op width after next →
    P (record { slot = slot; cell = cell_at w at })) →
    {slot at end : ℕ} {cells : List Placed} → Walk w base total slot at cells end → Each P cells
walk-each P one (done full ended) = tt
walk-each P one {slot = slot} (placed {at = at} {op = op} {width = width} {after = after} {next = next} inside is rest)
    =
    (one slot at op width after next is, walk-each P one rest)

placed-apart :
    {w : List ℕ} {base total slot at : ℕ} {op : Operation} {width after next : ℕ} →
    IsPlaced w base total slot at op width after next →
    slot < base → slot + slots_of (cell_at w at) ≤ base
placed-apart {w} {base} {total} {slot} {at} {width = width} {after = after} is low =
    let ends : after ≡ slot + max 1 width = is.ends in
    let same : width ≡ output_len (cell_at w at) = is.record_is.same_width in
    let limit : after ≤ base = rw (lt-ltb slot base low) at is.within in
    omega arith

-- ---- The cell that a slot belongs to.
run-takes :
    (cells : List Placed) (s e i : ℕ) → Run s cells e → s + i < e →
    cell_in cells (s + i) ≡ get_or (covering cells) i nowhere
unfolding cell_in covering
run-takes [] s e i run low = absurd (omega arith)
run-takes (p ∷ cells) s e i run low =
    go (dec_lt i (slots_of p.cell)) (run-takes cells (s + slots_of p.cell) e (i - slots_of p.cell) run.1)
  where
    inside : (n i : ℕ) (l : List Placed) → i < n → get_or (replicate n p ++ l) i nowhere ≡ p
    inside zero i l low = absurd (omega arith)
    inside (suc n) zero l low = refl
    inside (suc n) (suc i) l low = inside n i l (omega arith)

    beyond : (n i : ℕ) (l : List Placed) → n ≤ i → get_or (replicate n p ++ l) i nowhere ≡ get_or l (i - n) nowhere
    beyond zero i l low = let same : i - 0 ≡ i = omega arith in rw same
    beyond (suc n) zero l low = absurd (omega arith)
    beyond (suc n) (suc i) l low = let same : suc i - suc n ≡ i - n = omega arith in
        rw same (beyond n i l (omega arith))

    go :
        Dec (i < slots_of p.cell) →
        (s + slots_of p.cell + (i - slots_of p.cell) < e →
        cell_in cells (s + slots_of p.cell + (i - slots_of p.cell))
        ≡ get_or (covering cells) (i - slots_of p.cell) nowhere) →
        cond (is_in p (s + i)) p (cell_in cells (s + i))
        ≡ get_or (replicate (slots_of p.cell) p ++ covering cells) i nowhere
    go (yes y) rest =
        let start : p.slot ≡ s = run.0 in
        rw (le-leb p.slot (s + i) (omega arith), lt-ltb (s + i) (p.slot + slots_of p.cell) (omega arith))
        (sym (inside (slots_of p.cell) i (covering cells) y))
    go (no n) rest =
        let start : p.slot ≡ s = run.0 in
        let same : s + slots_of p.cell + (i - slots_of p.cell) ≡ s + i = omega arith in
        rw (le-leb p.slot (s + i) (omega arith), le-ltb (s + i) (p.slot + slots_of p.cell) (omega arith))
        (rw same at (rest (omega arith)) ∙ sym (beyond (slots_of p.cell) i (covering cells) (omega arith)))

pub cell-takes : (d : Design) (i : ℕ) → Run 0 d.cells (total d) → i < total d → cell_of d i ≡ takes d.cells i
cell-takes d i run low =
    let zeroed : 0 + i ≡ i = omega arith in rw zeroed at (run-takes d.cells 0 (total d) i run (omega arith))

-- ---- The cell replacements.
pub not-void : (c : Cell) → stands_void (standing c) ≡ false → is_void (role c) ≡ false
not-void C.void e = absurd (true≢false e)
not-void C.note e = refl
not-void (C.input n) e = refl
not-void (C.io_buf n) e = refl
not-void (C.unary op a) e = refl
not-void (C.binary op a b) e = refl
not-void (C.mux s a b) e = refl
not-void (C.adc a b carry) e = refl
not-void (C.aig a b) e = refl
not-void (C.shift op value amount stride) e = refl
not-void (C.match value enable patterns) e = refl
not-void (C.assign value enable update offset) e = refl
not-void (C.dff f) e = refl

may_replace_lem : (w : List ℕ) (op : Operation) (at : ℕ) → may_replace op ≡ true → MayReplace (Parse.cell_in w op at)
may_replace_lem w O.Void at e = absurd (false≢true e)
may_replace_lem w O.Note at e = absurd (false≢true e)
may_replace_lem w O.IoBuf at e = tt
may_replace_lem w O.Input at e = absurd (false≢true e)
may_replace_lem w (O.Unary operator) at e = tt
may_replace_lem w (O.Binary operator) at e = tt
may_replace_lem w O.Mux at e = tt
may_replace_lem w O.Adc at e = tt
may_replace_lem w O.Aig at e = tt
may_replace_lem w (O.Shift operator) at e = tt
may_replace_lem w O.Match at e = tt
may_replace_lem w O.Assign at e = tt
may_replace_lem w O.Dff at e = tt

module _ (d : Design) (w : List ℕ) where
  placed-laid :
      {at : ℕ} {op : Operation} {width next : ℕ} → IsRecord w (total d) at op width next → (slot : ℕ) →
      CellLaid d (record { slot = slot; cell = cell_at w at })
  placed-laid {at = at} is slot =
      let cell = cell-read is in
      record {
        shaped = cell.shaped;
        within =
            each_map (nets_of (cell_at w at)) (λ net stands. stands.within) cell.stands;
      }

  replacement-replaces :
      Run 0 d.cells (total d) → {least at above next : ℕ} →
      IsReplacement w (total d) (at_slot d.cells) d.base least at above next →
      Replaces d (new_cell w at)
  unfolding cell_at
  replacement-replaces run {at = at} is =
      let head = is.replaced in
      let low : number_in w at < d.base = head.low in
      let same = cell-takes d (number_in w at) run (omega arith) in
      let op : is.op ≡ op_at w (at + 1) = is.record_is.same_op in
      record {
        base = head.low;
        heads = rw same head.first;
        old = rw same (not-void (takes d.cells (number_in w at)).cell head.old);
        width = rw same (sym is.record_is.same_width ∙ sym head.wide);
        new = rw op at (may_replace_lem w is.op (at + 1 + 1) head.may);
      }

  pair-within : {least at above next : ℕ} → IsPair w (total d) least at above next → PairWithin d (net_pair w at)
  pair-within {at = at} is = record {
    from = known-within (total d) (number_in w at) is.from_is.known;
    to = known-within (total d) (number_in w (at + 1)) is.to_is.known;
  }

-- ---- The whole list: the cells placed one after another, then the replacements, then the pairs, up to the last word;
-- and then a second pass over as many of each.
pub record Stages (w : List ℕ) (d : Design) (replacements pairs last : ℕ) : Type 0 where
  pub walk : Walk w d.base (total d) 0 4 d.cells replacements
  pub reps :
      Climb (IsReplacement w (total d) (at_slot d.cells) d.base) (new_cell w) 0 replacements d.cell_reps pairs
  pub nets : Climb (IsPair w (total d)) (net_pair w) 0 pairs d.net_reps (length w)
  pub voids :
      voids_at w (Slots.is_void d.cells d.base) (length d.cells) (length d.cell_reps) (length d.net_reps)
      ≡ Ok last

pub stages : {mode : Mode} {w : List ℕ} {d : Design} {r p : ℕ} (is : IsAccepted mode w d r p) →
    Stages w d r p is.last
stages {w} {d} {r} {p} is =
    let reps =
    climb_read (IsReplacement w (total d) (at_slot d.cells) d.base) (new_cell w)
    (replacement_at w (total d) (replaces (at_slot d.cells) d.base))
    (replacement-read w (total d) (at_slot d.cells) d.base)
    is.header.cellreps 0 r p is.reps_read in
    let nets =
    climb_read (IsPair w (total d)) (net_pair w) (pair_at w (total d)) (pair_read w (total d)) is.header.netreps 0 p
    is.end
    is.pairs-read in
    record {
      walk = rw is.cells_are (walk-cells w d.base d.added r is.cells-read);
      reps = rw is.reps_are reps.climb;
      nets = rw (is.pairs_are, ← is.ended) nets.climb;
      voids = rw (ap length is.reps_are ∙ reps.many, ap length is.pairs_are ∙ nets.many) is.voids-read;
    }

pub accepted-laid : (mode : Mode) (w : List ℕ) {d : Design} {r p : ℕ} → read mode w ≡ accepted d r p → Laid d
accepted-laid mode w {d} e =
    let all = stages (accepted-read mode w e) in
    let run = walk-run all.walk in
    record {
      run = run;
      apart = walk-each (Apart d) (λ slot at op width after next is. placed-apart is) all.walk;
      cells = walk-each (CellLaid d) (λ slot at op width after next is. placed-laid d w is.record_is slot)
          all.walk;
      new_cells =
          climb_each _ _ (CellLaid d) (λ least at above next is. placed-laid d w is.record_is (number_in w at))
          all.reps;
      replaces = climb_each _ _ (Replaces d) (λ least at above next is. replacement-replaces d w run is) all.reps;
      slots =
          (climb_ascends _ _ (λ (q : Placed). q.slot) (λ least at above next is. (is.replaced.ascends, is.up))
          all.reps).1;
      nets = climb_each _ _ (PairWithin d) (λ least at above next is. pair-within d w is) all.nets;
      froms =
          (climb_ascends _ _ (λ (q : NetPair). payload_of_net q.from) (λ least at above next is. (is.low, is.up))
          all.nets
          ).1;
    }
