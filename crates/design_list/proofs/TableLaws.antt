-- Laws of the definitions of Table.
use Prim.Native.Nat.{ℕ, zero, ◌+◌, ◌<◌, ◌≤◌}
use mathlib.Core.Path.{◌≡◌, refl, sym, ap, ◌∙◌}
use mathlib.Core.Bool.{Bool, true, false}
use mathlib.Core.List.{List}
use native.Mathlib.Omega.{arith}
use lib.ListN.{length, take, drop, length-map}
use lib.Seq.{sets, sets-eq, take_at}
use lib.Dec.{ltb}
use native.Mathlib.Nat.{zero-add}
use borrow.Author.Tests.{lt-ltb, le-ltb}
use Rattle.std.specs.Prelude.{Result, Ok, Err}
use Rattle.logic.specs.declared.Fault.{Fault}
use Rattle.cell.specs.Design.{Design, total}
use Rattle.cell.specs.declared.Mode.{Mode}
use Rattle.fields.specs.Field.{on_read}
use Rattle.items.specs.declared.Header.{Header}
use Rattle.design_list.specs.declared.Extent.{Extent}
use Rattle.placing.specs.Slots.{covering, at_slot, is_void, mark_of, slot_words}
use Rattle.items.specs.Items.{replaces, cell_reps_from, net_reps_from, finish_at}
use Rattle.voids.specs.Voids.{voids_at}
use Rattle.design_list.specs.Read.{Read, refused, accepted, read_net_reps, read_cell_reps, read_cells, read}
use Rattle.design_list.specs.Read.{answer}
use Rattle.design_list.specs.Answers.{cells_read}
use Rattle.placing.proofs.CoverLaws.{walk-cells, walk-total}
use Rattle.design_list.proofs.AcceptedLaws.{accepted-read}
use Rattle.design_list.specs.Table.{table_answer, table_after, Tabled, Stored}

pub tabled :
    (r : Read) {before after : List ℕ} {a : Result Extent Fault} → a ≡ table_answer (answer r) (length before) → after
    ≡ table_after r before → Tabled r before after a
tabled (refused e) same slice = record { same = same; number = rw same; value = rw same; slice = slice }
tabled (accepted d replacements pairs) {before} {after} {a} same slice = go (ltb (length before) (total d)) refl
  where
    go : (short : Bool) → ltb (length before) (total d) ≡ short → Tabled (accepted d replacements pairs) before after a
    go true b = record { same = same; number = rw (same, b); value = rw (same, b); slice = slice }
    go false b = record { same = same; number = rw (same, b); value = rw (same, b); slice = slice }

stored-scan : (t t' : List ℕ) (s : Result ℕ Fault) (f : ℕ → Read) → ((n : ℕ) → Stored (f n) t t') →
    Stored (on_read s refused f) t t'
unfolding Stored
stored-scan t t' (Ok n) f same = same n
stored-scan t t' (Err e) f same = tt

pub stored-cells :
    (mode : Mode) (w : List ℕ) (h : Header) (t t' : List ℕ) →
    t' ≡ sets t 0 (slot_words h.base (cells_read w h).items) →
    Stored (read_cells mode w h) t t'
unfolding Stored read_cells read_cell_reps read_net_reps
stored-cells mode w h t t' same =
    stored-scan t t' (cells_read w h).scan _ (λ replacements.
    stored-scan t t' (reps replacements) _ (λ pairs.
    stored-scan t t' (net_reps_from w (h.base + h.added) h.netreps 0 pairs).scan _ (λ next.
    stored-scan t t' (finish_at w next) _ (λ _.
    stored-scan t t'
    (voids_at w (is_void (cells_read w h).items h.base) (length (cells_read w h).items) h.cellreps h.netreps)
    _ (λ _. same)))))
  where
    reps : ℕ → Result ℕ Fault
    reps replacements =
        (cell_reps_from w (h.base + h.added) (replaces (at_slot (cells_read w h).items) h.base) h.cellreps 0
        replacements).scan

-- An accepted answer is that of an accepted list.
record Accepting (r : Read) (x : Extent) : Type 0 where
  d : Design
  replacements : ℕ
  pairs : ℕ
  accepts : r ≡ accepted d replacements pairs
  same_total : x.base + x.added ≡ total d

accepting : (r : Read) {x : Extent} → answer r ≡ Ok x → Accepting r x
accepting (refused e) {x} same = let z : ◌≡◌ {A = ℕ} 0 1 = cc in absurd (omega arith)
accepting (accepted d replacements pairs) {x} same =
    let same-x : record {
      base = d.base;
      added = d.added;
      cells = length d.cells;
      cellreps = length d.cell_reps;
      netreps = length d.net_reps;
      replacements = replacements;
      pairs = pairs;
    } ≡ x = cc in
    record {
      d = d;
      replacements = replacements;
      pairs = pairs;
      accepts = refl;
      same_total = sym (ap (λ (y : Extent). y.base + y.added) same-x);
    }

module _ (mode : Mode) (w : List ℕ) where
  pub table-refused : (out : List ℕ) {e : Fault} → answer (read mode w) ≡ Err e →
      out ≡ table_after (read mode w) out
  table-refused out {e} same = go (read mode w) same
    where
      go : (r : Read) → answer r ≡ Err e → out ≡ table_after r out
      go (refused f) s = refl
      go (accepted d a b) s = let z : ◌≡◌ {A = ℕ} 0 1 = cc in absurd (omega arith)

  -- The words of the slots, taken from the reader's table and stored in the slice.
  words-stored :
      (d : Design) (replacements pairs n : ℕ) (t t' out : List ℕ) →
      read mode w ≡ accepted d replacements pairs → n ≡ total d → Stored (read mode w) t t' →
      4096 ≤ length t → n ≤ length out → sets out 0 (take n t') ≡ table_after (read mode w) out
  unfolding Stored
  words-stored d replacements pairs n t t' out accepts same stored room enough =
      let known = accepted-read mode w accepts in
      let low : total d ≤ 4096 = known.low in
      let walk = walk-cells w d.base d.added replacements known.cells-read in
      let size : length (slot_words d.base d.cells) ≡ n = length-map (covering d.cells) (mark_of d.base)
      ∙ rw known.cells_are (walk-total walk) ∙ sym same in
      let held : t' ≡ sets t 0 (slot_words d.base d.cells) = rw accepts at stored in
      let front : take n t' ≡ slot_words d.base d.cells =
      rw (held, sets-eq (slot_words d.base d.cells) t 0 (omega arith))
      (take_at (slot_words d.base d.cells) (drop (0 + length (slot_words d.base d.cells)) t) n size) in
      rw (front, accepts, le-ltb (length out) (total d) (omega arith), ← same)
      (sets-eq (slot_words d.base d.cells) out 0 (omega arith) ∙ rw (size, zero-add))

  module _ {x : Extent} (same : answer (read mode w) ≡ Ok x) where
    pub table-low : x.base + x.added ≤ 4096
    table-low =
        let is = accepting (read mode w) same in
        omega (arith, is.same_total, (accepted-read mode w is.accepts).low)

    pub table-short : (out : List ℕ) → length out < x.base + x.added → out ≡ table_after (read mode w) out
    table-short out short =
        let is = accepting (read mode w) same in
        rw (is.accepts, lt-ltb (length out) (total is.d) (omega (arith, is.same_total)))

    pub table_filled :
        (t t' out : List ℕ) → Stored (read mode w) t t' → 4096 ≤ length t → x.base + x.added ≤ length out →
        sets out 0 (take (x.base + x.added) t') ≡ table_after (read mode w) out
    table_filled t t' out stored room enough =
        let is = accepting (read mode w) same in
        words-stored is.d is.replacements is.pairs (x.base + x.added) t t' out is.accepts is.same_total
        stored room enough
