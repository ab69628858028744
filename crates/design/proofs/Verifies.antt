-- What the functions of the order of work leave, from what they call: a pass from the walk and check; the answer from
-- two passes; and an accepted list with its table from `slot_table`. Assumes nothing.
use mathlib.Core.Path.{◌≡◌, refl, sym, ap, subst, ◌∙◌}
use mathlib.Core.List.{List, [], ◌∷◌, ◌++◌}
use Prim.Native.Nat.{ℕ, zero, suc, ◌+◌, ◌*◌, ◌≤◌, ◌<◌, ◌^◌}
use native.Mathlib.Omega.{arith}
use native.Mathlib.Nat.{zero-add, le_of_suc-le-suc}
use lib.ListN.{length, take, drop, replicate, length-take, length-replicate}
use lib.Seq.{sets-eq}
use borrow.Author.Tests.{le-ltb}
use Rattle.std.specs.Prelude.{None, Result, Ok, Err}
use Rattle.logic.specs.declared.Fault.{Fault}
use Rattle.cell.specs.declared.Mode.{Mode}
use Rattle.cell.specs.Mode.{mode_of, number_of}
use Rattle.cell.specs.Design.{Design, total}
use Rattle.engine.specs.Encode.{encode}
use Rattle.engine.specs.Emit.{overwrite}
use Rattle.builder.specs.declared.Counts.{Counts}
use Rattle.design_list.specs.declared.Extent.{Extent}
use Rattle.design_list.specs.Read.{Read, refused, accepted, read, answer}
use Rattle.design_list.proofs.AcceptedLaws.{accepted-read}
use Rattle.design_list.specs.Table.{Tabled, table_answer, table_after}
use Rattle.order.specs.Verify.{built, verify}
use Rattle.slots.specs.Tells.{Tells}
use Rattle.slots.proofs.Laws.{table-tells}
use Rattle.walk.specs.Works.{most_obligations}
use Rattle.walk.proofs.Room.{most_low}
use Rattle.running.specs.declared.Tally.{Tally}
use Rattle.running.specs.Passes as running
use Rattle.running.specs.Passes.{nothing}
use Rattle.std.specs.Prelude.{Result, Ok, Err}
use Rattle.requirement.specs.Verified.{told, told_by, verified, unroomed, over, call_words, marks, written_marks}
use Rattle.requirement.specs.Verified.{read_in, room_for, in_room, of_design}
use Rattle.requirement.proofs.AnsweredLaws.{refused_as_read, unroomed-refused, unroomed-accepted, answered}
use Rattle.requirement.proofs.AnsweredLaws.{roomed_as, untouched, slices_after}
use Rattle.requirement.proofs.Required.{mode-unknown, read-numbered, words_are}
use Rattle.design.specs.Verifies.{Ready, Blank, Tallied, Passes, Verifies}
use Rattle.design.proofs.Passed.{passed}

-- ---- lists of zeros

take-replicate : (n m v : ℕ) → n ≤ m → take n (replicate m v) ≡ replicate n v
take-replicate zero m v h = refl
take-replicate (suc n) zero v h = absurd (omega arith)
take-replicate (suc n) (suc m) v h = ap (λ (l : List ℕ). v ∷ l) (take-replicate n m v (le_of_suc-le-suc h))

pub part_count : (n m v : ℕ) → n ≤ m → n ≡ length (take n (replicate m v))
part_count n m v h = sym (ap length (take-replicate n m v h) ∙ length-replicate {A = ℕ} n v)

-- Tables cleared, as much of them as a design's slots need.
pub blank_of : (table : List ℕ) (n m : ℕ) → 4 * length table ≤ n → length table ≤ m
    → Blank table (take (4 * length table) (replicate n 0)) (take (length table) (replicate m 0))
blank_of table n m names marks = record {
  unnamed = take-replicate (4 * length table) n 0 names;
  unmarked = take-replicate (length table) m 0 marks;
}

pub taken_count : (n : ℕ) (l : List ℕ) → n ≤ length l → n ≡ length (take n l)
taken_count n l h = let e = length-take n l in omega arith

-- The same tables cleared again.
pub blank_again : {table names₀ marks₀ names marks : List ℕ} {n m : ℕ} → Blank table names₀ marks₀ → n ≡ length names₀ →
    names ≡ replicate n 0
    → length table ≡ m → marks ≡ replicate m 0 → Blank table names marks
blank_again {table} blank kept unnamed lent unmarked = record {
  unnamed = unnamed
      ∙ ap (λ (k : ℕ). replicate k 0)
      (kept ∙ ap length blank.unnamed ∙ length-replicate {A = ℕ} (4 * length table) 0);
  unmarked = unmarked ∙ ap (λ (k : ℕ). replicate k 0) (sym lent);
}

-- ---- a pass

told_as : (k : ℕ) (l : List ℕ) (n : Counts) → k ≡ length l → told_by k n ≡ told l n
told_as zero [] n h = refl
told_as zero (o ∷ l) n h = absurd (omega arith)
told_as (suc k) [] n h = absurd (omega arith)
told_as (suc k) (o ∷ l) n h = refl

module _ {mode : Mode} {w : List ℕ} {x : Extent} {table : List ℕ} (ready : Ready mode w x table) where
  -- By the number of its mode.
  pub numbered : read_in (number_of mode) w ≡ accepted ready.d x.replacements x.pairs
  numbered = read-numbered mode w ∙ ready.is

  pub table-low : length table ≤ 4096
  table-low = let low = (accepted-read mode w ready.is).low in let size = ready.size in omega arith

  -- Room for the obligations of a small design, and of any.
  pub small_room : length table ≤ 256 → x.netreps ≤ 384 → most_obligations ready.d ≤ 1024
  small_room slots pairs = let size = ready.size in let same = ready.netreps in omega arith

  pub large_room : most_obligations ready.d ≤ 12288
  large_room = most_low mode w ready.is

  pub passes : {calls names marks eqs calls' names' marks' eqs' : List ℕ} {p : Tally} → length calls < 2 ^ 64 →
      Blank table names marks
      → most_obligations ready.d ≤ length eqs
      → running.Passed ready.d nothing calls names marks eqs calls' names' marks' eqs' p.counts p.obligations
      → Passes ready.d calls calls' marks' p
  passes {eqs' = eqs'} {p} short blank room ran =
      let same = ran.same in
      let few = ran.works.few room in
      let long = ran.long in
      let fit : p.obligations ≤ length eqs' = omega arith in
      let first = ap (λ (n : ℕ). take n eqs') same ∙ ran.works.first room in
      let did = rw (blank.unnamed, blank.unmarked, ready.size, ← first) at ran.works.did in
      let all = passed (number_of mode) w numbered short did ran.asks in
      record {
        wrote = all.wrote;
        counts = all.counts;
        marks = all.marks;
        asked = λ n. told_as p.obligations (take p.obligations eqs') n (taken_count p.obligations eqs' fit)
            ∙ ap (λ (l : List ℕ). told l n) all.asked;
      }

  pub tallied : {calls calls' marks' : List ℕ} {p : Tally} → Passes ready.d calls calls' marks' p
      → Tallied ready.d p
  tallied passes = record { counts = passes.counts; asked = passes.asked }

  pub room-is : {p : Tally} → Tallied ready.d p → p.counts.words ≡ length (encode (verify ready.d))
  room-is counted = ap (λ (c : Counts). c.words) counted.counts

  pub told-unroomed : {p : Tally} → Tallied ready.d p →
      Ok (told_by p.obligations p.counts) ≡ unroomed (number_of mode) w
  told-unroomed {p} counted =
      ap Ok (counted.asked p.counts ∙ ap (told (built ready.d).res) counted.counts)
      ∙ sym (unroomed-accepted (number_of mode) w numbered)

-- ---- the answer

refuses : (mode : ℕ) (w calls recorded : List ℕ) {e : Fault} →
    verified mode w (length calls) (length recorded) ≡ Err e →
    Verifies mode w calls recorded calls recorded (Err e)
refuses mode w calls recorded h =
    let same = untouched mode w calls recorded h in
    record { answer = sym h; called = sym same.0; marked = sym same.1 }

module _ {mode : Mode} {w : List ℕ} {x : Extent} {table : List ℕ} (ready : Ready mode w x table)
    (calls recorded : List ℕ) {words : ℕ} (room : words ≡ length (encode (verify ready.d))) where
  needs_words : words ≡ length (call_words (number_of mode) w)
  needs_words = room ∙ ap length (sym (words_are (number_of mode) w (numbered ready)))

  pub short-room : {place : ℕ} → Err place ≡ room_for words (length calls) (length table) (length recorded) →
      Verifies (number_of mode) w calls recorded calls recorded (Err (record { number = 14; place = place }))
  short-room short =
      let needed = rw (room, ready.size) at short in
      refuses (number_of mode) w calls recorded
      (roomed_as (number_of mode) w (numbered ready) (length calls) (length recorded)
      ∙ ap (λ (r : Result (Unit {0}) ℕ). in_room r (of_design ready.d)) (sym needed))

  pub both_fit : {calls' marks' : List ℕ} {p : Tally} → words ≤ length calls → length table ≤ length recorded →
      length marks' ≡ length table
      → Passes ready.d calls calls' marks' p
      → Verifies (number_of mode) w calls recorded calls' (marks' ++ drop (length table) recorded)
      (Ok (told_by p.obligations p.counts))
  unfolding overwrite marks
  both_fit {calls'} {marks'} {p} enough lent kept passes =
      let need = needs_words in
      let size = ready.size in
      let is = numbered ready in
      let all : List ℕ = encode (verify ready.d) in
      let after = slices_after (number_of mode) w calls recorded is (omega arith) (omega arith) in
      let said = answered (number_of mode) w is (length calls) (length recorded) (omega arith) (omega arith) in
      let wrote : calls' ≡ over all calls = passes.wrote.words ∙ sets-eq all calls 0 (omega arith)
      ∙ rw (zero-add (length all)) in
      let marked : marks' ≡ marks (number_of mode) w = passes.marks ∙ sym (ap written_marks is) in
      record {
        answer = ap Ok (passes.asked p.counts ∙ ap (told (built ready.d).res) passes.counts) ∙ sym said;
        called = wrote ∙ ap (λ (l : List ℕ). over l calls) (sym (words_are (number_of mode) w is)) ∙ sym after.0;
        marked = rw (← kept) (ap (λ (l : List ℕ). over l recorded) marked) ∙ sym after.1;
      }

-- ---- the list and its table

record Reads (mode : Mode) (w : List ℕ) (x : Extent) : Type 0 where
  d : Design
  is : read mode w ≡ accepted d x.replacements x.pairs
  slots : x.base + x.added ≡ total d
  netreps : x.netreps ≡ length d.net_reps

module _ (mode : Mode) (w : List ℕ) {before after : List ℕ} {a : Result Extent Fault} (long : length before ≡ 4096)
    (tabled : Tabled (read mode w) before after a) where
  reads : {x : Extent} → a ≡ Ok x → Reads mode w x
  reads {x} filled = go (read mode w) refl (sym tabled.same ∙ filled)
    where
      go : (r : Read) → read mode w ≡ r → table_answer (answer r) (length before) ≡ Ok x → Reads mode w x
      go (refused e) is same = let z : ◌≡◌ {A = ℕ} 0 1 = cc in absurd (omega arith)
      go (accepted d reps pairs) is same =
          let low = (accepted-read mode w is).low in
          let filled = rw (le-ltb (length before) (total d) (omega arith)) at same in
          let same-x : record {
            base = d.base;
            added = d.added;
            cells = length d.cells;
            cellreps = length d.cell_reps;
            netreps = length d.net_reps;
            replacements = reps;
            pairs = pairs;
          } ≡ x = cc in
          record {
            d = d;
            is = rw (← same-x) is;
            slots = rw (← same-x) refl;
            netreps = rw (← same-x) refl;
          }

  pub slots-low : {x : Extent} → a ≡ Ok x → x.base + x.added ≤ 4096
  slots-low filled =
      let known = reads filled in
      let low = (accepted-read mode w known.is).low in
      let same = known.slots in
      omega arith

  pub ready_of : {x : Extent} → a ≡ Ok x → length after ≡ 4096 → Ready mode w x (take (x.base + x.added) after)
  ready_of {x} filled kept =
      let known = reads filled in
      let low = slots-low filled in
      let same = known.slots in
      let count = taken_count (x.base + x.added) after (omega arith) in
      let words : take (total known.d) (table_after (read mode w) before) ≡ take (x.base + x.added) after =
      ap (λ (l : List ℕ). take (total known.d) l) (sym tabled.slice) ∙ ap (λ (n : ℕ). take n after) (sym same) in
      let tells = subst (Tells known.d) words (table-tells mode w known.is before (omega arith)) in
      record {
        d = known.d;
        is = known.is;
        tells = tells;
        size = sym count ∙ same;
        netreps = known.netreps;
      }

  reads-refused : {e : Fault} → a ≡ Err e → read mode w ≡ refused e
  reads-refused {e} refuse = go (read mode w) refl (sym tabled.same ∙ refuse)
    where
      go : (r : Read) → read mode w ≡ r → table_answer (answer r) (length before) ≡ Err e → read mode w ≡ refused e
      go (refused f) is same = let same-e : f ≡ e = cc in rw (← same-e) is
      go (accepted d reps pairs) is same =
          let low = (accepted-read mode w is).low in
          let filled = rw (le-ltb (length before) (total d) (omega arith)) at same in
          let z : ◌≡◌ {A = ℕ} 0 1 = cc in absurd (omega arith)

  pub refused_of : {e : Fault} (calls recorded : List ℕ) → a ≡ Err e →
      Verifies (number_of mode) w calls recorded calls recorded (Err e)
  refused_of calls recorded refuse =
      refuses (number_of mode) w calls recorded
      (refused_as_read (number_of mode) w (read-numbered mode w ∙ reads-refused refuse) (length calls) (length recorded))

  pub refused-unroomed : {e : Fault} → a ≡ Err e → Err e ≡ unroomed (number_of mode) w
  refused-unroomed refuse =
      sym (unroomed-refused (number_of mode) w (read-numbered mode w ∙ reads-refused refuse))

-- ---- the mode

module _ (mode : ℕ) (none : mode_of mode ≡ None) where
  pub unknown_verifies : (w calls recorded : List ℕ) →
      Verifies mode w calls recorded calls recorded (Err (record { number = 23; place = 0 }))
  unknown_verifies w calls recorded =
      refuses mode w calls recorded
      (refused_as_read mode w (mode-unknown mode w none) (length calls) (length recorded))

  pub unknown-unroomed : (w : List ℕ) → Err (record { number = 23; place = 0 }) ≡ unroomed mode w
  unknown-unroomed w = sym (unroomed-refused mode w (mode-unknown mode w none))
