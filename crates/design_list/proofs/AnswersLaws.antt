-- Laws of the definitions of Answers.
use Prim.Native.Nat.{ℕ, zero, suc, ◌+◌, ◌≤◌}
use mathlib.Core.Path.{◌≡◌, refl, sym, ap, ◌∙◌}
use mathlib.Core.List.{List}
use native.Mathlib.Omega.{arith}
use lib.ListN.{length}
use lib.Seq.{sets}
use Rattle.std.specs.Prelude.{Result, Ok, Err}
use Rattle.cell.specs.Design.{Placed}
use Rattle.cell.specs.declared.Mode.{Mode}
use Rattle.logic.specs.declared.Fault.{Fault}
use Rattle.fields.specs.Field.{on_number, on_read}
use Rattle.items.specs.declared.Header.{Header}
use Rattle.placing.specs.Slots.{covering, at_slot, is_void, slot_words}
use Rattle.items.specs.Items.{Reading, refuse, push, replaces, ascending, cell_reps_from, net_reps_from, finish_at}
use Rattle.placing.specs.declared.Cells.{Cells}
use Rattle.placing.specs.Cells.{cell_count, counted}
use Rattle.items.specs.Marks.{at_slot_in}
use Rattle.voids.specs.Marks.{is_void_in}
use Rattle.voids.specs.Voids.{voids_at}
use Rattle.design_list.specs.Read.{Read, refused, read_net_reps, read_cell_reps, read_cells, answer}
use Rattle.placing.proofs.CoverLaws.{walk-cells, walk-total, walk-narrow, replaces-same, voids-same}
use Rattle.design_list.specs.Answers.{net_reps_answer, cell_reps_answer, cells_read}
use Rattle.design_list.specs.declared.Extent.{Extent}

-- A run of k replacements without a fault has k items.
module _ {A : Type 0} (step : ℕ → ℕ → Result (ℕ × ℕ) Fault) (item : ℕ → A) where
  ascending-length : (k least at next : ℕ) → (ascending step item k least at).scan ≡ Ok next →
      length (ascending step item k least at).items ≡ k
  unfolding ascending
  ascending-length zero least at next read = refl
  ascending-length (suc k) least at next read = go (step least at) read (λ above n e. ascending-length k above n next e)
    where
      rest : ℕ → ℕ → Reading A
      rest above n = push (item at) (ascending step item k above n)

      go :
          (s : Result (ℕ × ℕ) Fault) → (on_number s refuse rest).scan ≡ Ok next →
          ((above n : ℕ) → (ascending step item k above n).scan ≡ Ok next →
          length (ascending step item k above n).items ≡ k) →
          length (on_number s refuse rest).items ≡ suc k
      go (Err f) e more = let z : ◌≡◌ {A = ℕ} 0 1 = cc in absurd (omega arith)
      go (Ok (above, n)) e more = ap suc (more above n e)

-- The answer to what follows a scan follows the scan.
answer-scan : (s : Result ℕ Fault) (f : ℕ → Read) (g : ℕ → Result Extent Fault) → ((n : ℕ) → s ≡ Ok n → answer (f n) ≡ g n) →
    answer (on_read s refused f) ≡ on_read s Err g
answer-scan (Ok n) f g same = same n refl
answer-scan (Err e) f g same = refl

module _ (mode : Mode) (w : List ℕ) (h : Header) (cells : List Placed) where
  net_reps_answer_lem :
      (reps : List Placed) (replacements pairs : ℕ) → length reps ≡ h.cellreps →
      answer (read_net_reps mode w h cells reps replacements pairs)
      ≡ net_reps_answer w (is_void cells h.base) h (length cells) replacements pairs
  unfolding read_net_reps net_reps_answer
  net_reps_answer_lem reps replacements pairs many =
      answer-scan (net_reps_from w (h.base + h.added) h.netreps 0 pairs).scan _ _ (λ next read.
      answer-scan (finish_at w next) _ _ (λ _ _.
      answer-scan (voids_at w (is_void cells h.base) (length cells) h.cellreps h.netreps) _ _ (λ _ _.
      rw (many, ascending-length _ _ h.netreps 0 pairs next read))))

  cell_reps_answer_lem :
      (replacements : ℕ) →
      answer (read_cell_reps mode w h cells replacements) ≡
      cell_reps_answer w (replaces (at_slot cells) h.base) (is_void cells h.base) h (length cells) replacements
  unfolding read_cell_reps cell_reps_answer
  cell_reps_answer_lem replacements =
      answer-scan
      (cell_reps_from w (h.base + h.added) (replaces (at_slot cells) h.base) h.cellreps 0 replacements).scan _ _
      (λ pairs read.
      net_reps_answer_lem _ replacements pairs (ascending-length _ _ h.cellreps 0 replacements pairs read))

module _ (mode : Mode) (w : List ℕ) (h : Header) where
  pub cells-refused : {e : Fault} → Err e ≡ counted (cells_read w h) → Err e ≡ answer (read_cells mode w h)
  unfolding read_cells
  cells-refused {e} read = go (cells_read w h).scan read
    where
      go : (s : Result ℕ Fault) → Err e ≡ on_read s Err (λ (next : ℕ). Ok (cell_count (length (cells_read w h).items) next)) →
          Err e
          ≡ answer (on_read s refused (λ (cell_reps_at : ℕ). read_cell_reps mode w h (cells_read w h).items cell_reps_at))
      go (Err f) s = cc
      go (Ok n) s = let z : ◌≡◌ {A = ℕ} 0 1 = cc in absurd (omega arith)

  -- After the cells, with the table that they leave.
  pub cells-answer :
      (t : List ℕ) {count next : ℕ} → h.base + h.added ≤ length t → Ok (cell_count count next) ≡ counted (cells_read w h) →
      cell_reps_answer w (replaces (at_slot_in (sets t 0 (slot_words h.base (cells_read w h).items))) h.base)
      (is_void_in (sets t 0 (slot_words h.base (cells_read w h).items)) h.base) h count next
      ≡ answer (read_cells mode w h)
  unfolding read_cells
  cells-answer t {count} {next} room read = go (cells_read w h).scan refl read
    where
      after : (cells_read w h).scan ≡ Ok next → count ≡ length (cells_read w h).items →
          cell_reps_answer w (replaces (at_slot_in (sets t 0 (slot_words h.base (cells_read w h).items))) h.base)
          (is_void_in (sets t 0 (slot_words h.base (cells_read w h).items)) h.base) h count next
          ≡ answer (read_cell_reps mode w h (cells_read w h).items next)
      after clean many =
          let walk = walk-cells w h.base h.added next clean in
          let covered : length (covering (cells_read w h).items) ≡ h.base + h.added = walk-total walk in
          rw (
            replaces-same h.base (cells_read w h).items t (omega arith) (omega arith) (walk-narrow walk),
            voids-same h.base (cells_read w h).items t (omega arith) (omega arith) (walk-narrow walk),
            many,
          )
          (sym (cell_reps_answer_lem mode w h (cells_read w h).items next))

      go :
          (s : Result ℕ Fault) → (cells_read w h).scan ≡ s →
          Ok (cell_count count next) ≡ on_read s Err (λ (next : ℕ). Ok (cell_count (length (cells_read w h).items) next)) →
          cell_reps_answer w (replaces (at_slot_in (sets t 0 (slot_words h.base (cells_read w h).items))) h.base)
          (is_void_in (sets t 0 (slot_words h.base (cells_read w h).items)) h.base) h count next
          ≡ answer (on_read s refused (λ (cell_reps_at : ℕ). read_cell_reps mode w h (cells_read w h).items cell_reps_at))
      go (Err f) s e = let z : ◌≡◌ {A = ℕ} 0 1 = cc in absurd (omega arith)
      go (Ok n) s e =
          let same : cell_count count next ≡ cell_count (length (cells_read w h).items) n = cc in
          let place : n ≡ next = sym (ap (λ (c : Cells). c.next) same) in
          after (s ∙ ap Ok place) (ap (λ (c : Cells). c.count) same)
          ∙ ap (λ (i : ℕ). answer (read_cell_reps mode w h (cells_read w h).items i)) (sym place)
