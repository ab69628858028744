-- Laws of the definitions of Voids.
use mathlib.Core.Path.{◌≡◌, refl, sym, ◌∙◌}
use mathlib.Core.Bool.{Bool, true, false, cond}
use mathlib.Core.List.{List}
use Prim.Native.Nat.{ℕ, ◌+◌, ◌-◌, ◌/◌, ◌≤◌, ◌<◌}
use native.Mathlib.Omega.{arith}
use lib.ListN.{length, get_or}
use borrow.Author.Tests.{lt-ltb, le-leb, ne_eqb}
use Rattle.std.specs.Prelude.{Result, Ok, Err}
use Rattle.logic.specs.declared.Fault.{Fault}
use Rattle.logic.specs.Word.{kind_of}
use Rattle.logic.specs.Net.{Net, constant, slot, driver_of_net}
use Rattle.logic.proofs.NetLaws.{driver_of_payload}
use Rattle.cell.specs.declared.Mode.{Mode}
use Rattle.cell.specs.Cell.{Cell, stands_dff}
use Rattle.cell.specs.Operation.{numbers_of, fields_of, standing_of}
use Rattle.cell.specs.Design.{Placed, NetPair, Design, total}
use Rattle.cell.specs.declared.Operation.{Operation}
use Rattle.cell.specs.declared.Operation.TheVariants as O
use Rattle.cell.specs.Role.{is_void}
use Rattle.cell.specs.Each.{Each}
use Rattle.cell.proofs.EachLaws.{each_map}
use Rattle.right.specs.Nets.{nets_of}
use Rattle.right.specs.Voids.{nets_beside_clock, NoVoid, VoidsUnread}
use Rattle.right.specs.Laid.{Run}
use Rattle.fields.specs.Field.{fault, scan_many}
use Rattle.fields.proofs.AcceptedLaws.{many_read, both_read}
use Rattle.cell_reader.specs.Parse.{number_in, net_in, cell_in, op_at, end_at, cell_at}
use Rattle.cell_reader.specs.Accepted.{IsLeading, IsRecord}
use Rattle.placing.specs.Slots.{takes}
use Rattle.placing.specs.Slots as Slots
use Rattle.items.specs.Items.{AtSlot, new_cell}
use Rattle.voids.specs.Voids.{void_driver, names_void, offends, void_at, clock_at, record_voids_at, replacement_voids_at}
use Rattle.voids.specs.Voids.{pair_voids_at, voids_at}
use Rattle.placing.specs.Cover as Cover
use Rattle.placing.specs.Cover.{Walk, placed}
use Rattle.design_list.specs.Read.{read, accepted}
use Rattle.design_list.proofs.AcceptedLaws.{accepted-read}
use Rattle.accepted.proofs.Fields.{each-tab, NetStands, Body, body_of}
use Rattle.accepted.proofs.Cells.{cell-read}
use Rattle.accepted.proofs.Replacements.{Climb, done, taken, IsReplacement, IsPair}
use Rattle.accepted.proofs.Laid.{walk-run, cell-takes, not-void, Stages, stages}

module _ (w : List ℕ) (d : Design) (run : Run 0 d.cells (total d)) where
  void : ℕ → Bool
  void = Slots.is_void d.cells d.base

  -- ---- One word of the second pass.
  word_avoids :
      (clock at : ℕ) → offends w void clock at ≡ false → kind_of (get_or w at 0) ≤ 1 → (at ≡ clock → ⊥) →
      NoVoid d (net_in w at)
  unfolding offends names_void void Slots.is_void
  word_avoids clock at clean kind other =
      go (net_in w at)
      (rw (le-leb (kind_of (get_or w at 0)) 1 kind, ne_eqb at clock other, driver_of_payload (number_in w at) (omega arith))
      at clean)
    where
      go : (n : Net) → void_driver void (driver_of_net n) ≡ false → NoVoid d n
      go (constant t) clear = tt
      go (slot i) clear = λ low.
          rw (cell-takes d i run (omega arith))
          (not-void (takes d.cells i).cell (rw (lt-ltb i d.base low) at clear))

  -- The words of a record.
  Clean : ℕ → ℕ → ℕ → Type 0
  Clean clock from to = (at : ℕ) → from ≤ at → at < to → offends w void clock at ≡ false

  void-read :
      (clock at next : ℕ) → void_at w void clock at ≡ Ok next → (next ≡ at + 1) × (offends w void clock at ≡ false)
  unfolding void_at
  void-read clock at next = go (offends w void clock at) refl
    where
      go :
          (b : Bool) → offends w void clock at ≡ b →
          cond b (Err (fault 10 at)) (Ok (at + 1)) ≡ Ok next →
          (next ≡ at + 1) × (offends w void clock at ≡ false)
      go true b e = let z : ◌≡◌ {A = ℕ} 0 1 = cc in absurd (omega arith)
      go false b e = (cc, b)

  record_clean :
      (at : ℕ) {next : ℕ} → at < length w → record_voids_at w void at ≡ Ok next →
      (next ≡ end_at w at) × Clean (clock_at w at) (at + 1) (end_at w at)
  unfolding record_voids_at Clean
  record_clean at {next} inside clean =
      let all =
      many_read (void_at w void (clock_at w at)) (λ i. offends w void (clock_at w at) i ≡ false) (void-read (clock_at w at))
      (number_in w at / 32) (at + 1) next (rw (lt-ltb at (length w) inside) at clean) in (
        all.0,
        λ i low high. let same : at + 1 + (i - (at + 1)) ≡ i = omega arith in rw same
            at (all.1 (i - (at + 1)) (omega arith)),
      )

  module _ (at end : ℕ) where
    -- A cell other than a Dff has no clock.
    plain :
        (op : Operation) {n m start : ℕ} → (numbers_of op).count ≤ 3 →
        IsLeading w (numbers_of op) end (at + 1) n m start → Clean 0 (at + 1) end →
        Each (NetStands w (total d) start end) (nets_of (cell_in w op (at + 1))) →
        Each (NoVoid d) (nets_of (cell_in w op (at + 1)))
    unfolding Clean
    plain op few leading clean =
        let begins = leading.after few in
        each_map (nets_of (cell_in w op (at + 1))) (λ net stands.
        let low = stands.low in
        rw stands.same
        (word_avoids 0 stands.place (clean stands.place (omega arith) stands.high) stands.kind
        (λ none. omega arith)))

    -- A Dff's clock is its third field.
    flip_flop :
        {n m start : ℕ} → IsLeading w (numbers_of O.Dff) end (at + 1) n m start →
        Body w (total d) (fields_of O.Dff n m) n end start → Clean (at + 3) (at + 1) end →
        Each (NoVoid d) (nets_beside_clock (cell_in w O.Dff (at + 1)))
    unfolding Clean
    flip_flop {n} leading fields clean =
        let first = leading.first (omega arith) in
        let begins = leading.after (omega arith) in
        rw (← first.value) (
          one (at + 1 + 3) (omega arith) (omega arith),
          (
            one (at + 1 + 4) (omega arith) (omega arith),
            (
              one (at + 1 + 5) (omega arith) (omega arith),
              each-tab (NoVoid d) n (λ i. net_in w (at + 1 + 6 + i))
                  (λ i low. one (at + 1 + 6 + i) (omega arith) (omega arith)),
            ),
          ),
        )
      where
        one : (i : ℕ) → at + 4 ≤ i → i < at + 7 + n → NoVoid d (net_in w i)
        one i low high =
            let begins = leading.after (omega arith) in
            let is = fields.named i (omega arith) (omega arith) in
            word_avoids (at + 3) i (clean i (omega arith) is.inside) is.kind (λ same. omega arith)

    cell_avoids :
        (op : Operation) {n m start : ℕ} → IsLeading w (numbers_of op) end (at + 1) n m start →
        Body w (total d) (fields_of op n m) n end start →
        Clean (cond (stands_dff (standing_of op)) (at + 3) 0) (at + 1) end →
        Each (NetStands w (total d) start end) (nets_of (cell_in w op (at + 1))) →
        Each (NoVoid d) (nets_beside_clock (cell_in w op (at + 1)))
    cell_avoids O.Void l b c s = plain O.Void (omega arith) l c s
    cell_avoids O.Note l b c s = plain O.Note (omega arith) l c s
    cell_avoids O.IoBuf l b c s = plain O.IoBuf (omega arith) l c s
    cell_avoids O.Input l b c s = plain O.Input (omega arith) l c s
    cell_avoids (O.Unary operator) l b c s = plain (O.Unary operator) (omega arith) l c s
    cell_avoids (O.Binary operator) l b c s = plain (O.Binary operator) (omega arith) l c s
    cell_avoids O.Mux l b c s = plain O.Mux (omega arith) l c s
    cell_avoids O.Adc l b c s = plain O.Adc (omega arith) l c s
    cell_avoids O.Aig l b c s = plain O.Aig (omega arith) l c s
    cell_avoids (O.Shift operator) l b c s = plain (O.Shift operator) (omega arith) l c s
    cell_avoids O.Match l b c s = plain O.Match (omega arith) l c s
    cell_avoids O.Assign l b c s = plain O.Assign (omega arith) l c s
    cell_avoids O.Dff l b c s = flip_flop l b c

  record_avoids :
      {at : ℕ} {op : Operation} {width next after : ℕ} → IsRecord w (total d) at op width next →
      record_voids_at w void at ≡ Ok after →
      (after ≡ next) × Each (NoVoid d) (nets_beside_clock (cell_at w at))
  unfolding cell_at clock_at
  record_avoids {at} {op} {width} {next} is read =
      let clean = record_clean at is.inside read in
      let cell = cell-read is in
      let same : op ≡ op_at w at = is.same_op in
      let ends : next ≡ end_at w at = is.ends in (
        clean.0 ∙ sym ends,
        rw same at
            (cell_avoids
            at next op is.leading (body_of is.body) (rw (same, ends) clean.1) (rw same cell.stands)),
      )

  -- ---- The second pass visits the same records.
  Avoiding : Placed → Type 0
  Avoiding p = Each (NoVoid d) (nets_beside_clock p.cell)

  walk_avoids :
      {base slot at end next : ℕ} {cells : List Placed} → Walk w base (total d) slot at cells end →
      scan_many (record_voids_at w void) (length cells) at ≡ Ok next → (next ≡ end) × Each Avoiding cells
  unfolding scan_many Avoiding
  walk_avoids {at = at} {next = next} (Cover.done full ended) read = let same : next ≡ at = cc in (omega arith, tt)
  walk_avoids (placed {at = at} inside is rest) read =
      let both = both_read (record_voids_at w void at) _ read in
      let here = record_avoids is.record_is both.first in
      let later = walk_avoids rest (rw here.0 at both.second) in
      (later.0, (here.1, later.1))

  replacement_avoids :
      {stands : ℕ → AtSlot} {base : ℕ} (least at above next after : ℕ) →
      IsReplacement w (total d) stands base least at above next →
      replacement_voids_at w void at ≡ Ok after → (after ≡ next) × Avoiding (new_cell w at)
  unfolding replacement_voids_at Avoiding
  replacement_avoids least at above next after is read =
      let inside = is.record_is.inside in
      record_avoids is.record_is (rw (lt-ltb at (length w) (omega arith)) at read)

  pair_avoids :
      (least at above next after : ℕ) → IsPair w (total d) least at above next → pair_voids_at w void at ≡ Ok after →
      (after ≡ next) × NoVoid d (net_in w (at + 1))
  unfolding pair_voids_at
  pair_avoids least at above next after is read =
      let inside = is.from_is.inside in
      let kind = is.to_is.kind in
      let ends = is.after in
      let clean = void-read 0 (at + 1) after (rw (lt-ltb at (length w) inside) at read) in
      (omega arith, word_avoids 0 (at + 1) clean.1 (omega arith) (λ none. omega arith))

-- A run of replacements, visited once more: the visit of each ends where its reading did.
climb_scan :
    {A : Type 0} (R : ℕ → ℕ → ℕ → ℕ → Type 0) (item : ℕ → A) (visit : ℕ → Result ℕ Fault) (Q : A → Type 0) →
    ((least at above next after : ℕ) → R least at above next → visit at ≡ Ok after → (after ≡ next) × Q (item at))
    →
    {least at : ℕ} {items : List A} {end next : ℕ} → Climb R item least at items end →
    scan_many visit (length items) at ≡ Ok next →
    (next ≡ end) × Each Q items
unfolding scan_many
climb_scan R item visit Q one {at = at} {next = next} (done ended) read = let same : next ≡ at = cc in (omega arith, tt)
climb_scan R item visit Q one (taken {least = least} {at = at} {above = above} {next = next} is rest) read =
    let both = both_read (visit at) _ read in
    let here = one least at above next both.place is both.first in
    let later = climb_scan R item visit Q one rest (rw here.0 at both.second) in
    (later.0, (here.1, later.1))

-- ---- The whole list.
pub accepted-voids : (mode : Mode) (w : List ℕ) {d : Design} {r p : ℕ} → read mode w ≡ accepted d r p → VoidsUnread d
unfolding void voids_at Avoiding
accepted-voids mode w {d} {r} {p} e = pass (stages (accepted-read mode w e))
  where
    pass : {last : ℕ} → Stages w d r p last → VoidsUnread d
    pass all =
        let run = walk-run all.walk in
        let first = both_read (scan_many (record_voids_at w (void w d run)) (length d.cells) 4) _ all.voids in
        let cells = walk_avoids w d run all.walk first.first in
        let second =
        both_read (scan_many (replacement_voids_at w (void w d run)) (length d.cell_reps) r) _
        (rw cells.0 at first.second) in
        let reps = climb_scan _ _ _ (Avoiding w d run) (replacement_avoids w d run) all.reps second.first in
        let pairs =
        climb_scan _ _ _ (λ (q : NetPair). NoVoid d q.to) (pair_avoids w d run) all.nets
        (rw reps.0 at second.second) in
        record { cells = cells.1; new_cells = reps.1; tos = pairs.1 }
