-- A list that was accepted is the words of the design that it stands for.
use mathlib.Core.Path.{◌≡◌, refl, sym, ◌∙◌}
use mathlib.Core.Bool.{Bool, true, false, cond}
use mathlib.Core.List.{List, [], ◌∷◌, map, flat_map}
use Prim.Native.Nat.{ℕ, zero, suc, ◌+◌, ◌-◌, ◌^◌, max}
use native.Mathlib.Omega.{arith}
use native.Mathlib.Nat.{zero-add}
use lib.ListN.{length}
use lib.Dec.{ltb, leb}
use Rattle.std.specs.Prelude.{Result, Ok, Err}
use Rattle.logic.specs.declared.Fault.{Fault}
use Rattle.logic.specs.Word.{number_word}
use Rattle.logic.proofs.TableLaws.{as_tab, tab_ext}
use Rattle.cell.specs.declared.Mode.{Mode}
use Rattle.cell.specs.Design.{Placed, Design, total}
use Rattle.cell.specs.declared.Operation.{Operation}
use Rattle.fields.specs.Field.{fault, on_number, number_at}
use Rattle.fields.specs.Accepted.{IsNumber}
use Rattle.fields.proofs.AcceptedLaws.{number_read}
use Rattle.cell_reader.specs.declared.Record.{Record}
use Rattle.cell_reader.specs.Record.{on_record, record_at}
use Rattle.cell_reader.specs.Parse.{number_in, cell_at}
use Rattle.logic.specs.declared.Slot.{Slot}
use Rattle.placing.specs.declared.Placing.{Placing}
use Rattle.placing.specs.Slots.{at_slot}
use Rattle.items.specs.Items.{Reading, stop, refuse, push, ascending, listed_number_at, Test, replaces}
use Rattle.items.specs.Items.{replacement_at, new_cell, pair_at, net_pair}
use Rattle.placing.specs.Cells.{limit_of, on_placing, placed_at, cells_from, cells_of}
use Rattle.design_list.specs.Read.{read, accepted}
use Rattle.design_list.specs.Accepted.{IsAccepted}
use Rattle.design_list.proofs.AcceptedLaws.{accepted-read}
use Rattle.accepted.proofs.Replacements.{Climb, done, taken, climb_read, pair_read}
use Rattle.valid.specs.Words.{record_of, cell_words_of, replacement_words_of, pair_words_of, words_of_cells}
use Rattle.valid.specs.Words.{words_of_replacements, words_of_pairs, words_of}
use Rattle.valid.proofs.Stands.{reads-tab, word_at}
use Rattle.valid.proofs.Spans.{Spans, spans_none, spans_one, spans_then, number_word_lem, net_word_lem}
use Rattle.valid.proofs.Written.{record_span}
use Rattle.valid.proofs.Converse.{header_is, accepted-counts}
use Rattle.cell_reader.specs.Record.{cell_record}
use Rattle.placing.specs.Cells.{placing}
use Rattle.placing.proofs.Laws.{placing_parts}
use Rattle.fields.proofs.AcceptedLaws.{pair_parts}

listed-number :
    (w : List ℕ) (at : ℕ) {n next : ℕ} → listed_number_at w at ≡ Ok (n, next) →
    IsNumber w (2 ^ 29 - 1) (length w) at n next
unfolding listed_number_at
listed-number w at {n} {next} = go (ltb at (length w))
  where
    go :
        (b : Bool) → cond b (number_at w (2 ^ 29 - 1) (length w) at) (Err (fault 1 (length w))) ≡ Ok (n, next) →
        IsNumber w (2 ^ 29 - 1) (length w) at n next
    go true e = number_read w _ _ at e
    go false e = let z : ◌≡◌ {A = ℕ} 0 1 = cc in absurd (omega arith)

module _ (w : List ℕ) (total : ℕ) where
  -- ---- The cells.
  placed_record :
      (base slot at : ℕ) {op : Operation} {width next : ℕ} {after : Slot} →
      placed_at w base total slot at ≡ Ok (placing op width after next) → record_at w total at ≡ Ok (cell_record op width next)
  unfolding placed_at
  placed_record base slot at {op} {width} {next} {after} = go (record_at w total at)
    where
      fits :
          (o : Operation) (width₁ next₁ : ℕ) (b : Bool) →
          cond b (Ok (placing o width₁ (record { 0 = slot + max 1 width₁ }) next₁)) (Err (fault 11 at))
          ≡ Ok (placing op width after next) →
          ◌≡◌ {A = Result Record Fault} (Ok (cell_record o width₁ next₁)) (Ok (cell_record op width next))
      fits o width₁ next₁ true e =
          let parts = placing_parts e in rw (parts.0, parts.1.0, parts.1.1.1)
      fits o width₁ next₁ false e = let z : ◌≡◌ {A = ℕ} 0 1 = cc in absurd (omega arith)

      go :
          (r : Result Record Fault) →
          on_record r Err (λ (o : Operation) (width₁ next₁ : ℕ).
          cond (leb (slot + max 1 width₁) (limit_of base total slot))
          (Ok (placing o width₁ (record { 0 = slot + max 1 width₁ }) next₁))
          (Err (fault 11 at)))
          ≡ Ok (placing op width after next) → r ≡ Ok (cell_record op width next)
      go (Err f) e = let z : ◌≡◌ {A = ℕ} 0 1 = cc in absurd (omega arith)
      go (Ok r) e = fits r.op r.width r.next (leb (slot + max 1 r.width) (limit_of base total slot)) e

  cells_span :
      (base turns slot at end : ℕ) → (cells_from w base total turns slot at).scan ≡ Ok end →
      Spans w at (flat_map cell_words_of (cells_from w base total turns slot at).items) end
  unfolding cells_from flat_map
  cells_span base zero slot at end read = spans_none (cc)
  cells_span base (suc turns) slot at end read =
      more (ltb slot total) (λ after next. cells_span base turns after next end) read
    where
      onward : Operation → ℕ → Slot → ℕ → Reading Placed
      onward op width after next =
          push (record { slot = slot; cell = cell_at w at }) (cells_from w base total turns after.0 next)

      -- What is known of a reading: its words, if it met no fault.
      Written : Reading Placed → ℕ → Type 0
      Written r from = r.scan ≡ Ok end → Spans w from (flat_map cell_words_of r.items) end

      go :
          (p : Result Placing Fault) → placed_at w base total slot at ≡ p →
          ((after next : ℕ) → Written (cells_from w base total turns after next) next) →
          Written (on_placing p refuse onward) at
      go (Err f) p rest e = let z : ◌≡◌ {A = ℕ} 0 1 = cc in absurd (omega arith)
      go (Ok cell) p rest e =
          spans_then (record_of (cell_at w at)) _ (record_span w total at (placed_record base slot at p))
          (rest cell.after.0 cell.next e)

      more :
          (b : Bool) → ((after next : ℕ) → Written (cells_from w base total turns after next) next) →
          Written (cond b (on_placing (placed_at w base total slot at) refuse onward) (stop (Ok at))) at
      more true rest e = go (placed_at w base total slot at) refl rest e
      more false rest e = spans_none (cc)

  -- ---- Replacements.
  climb_span :
      {A : Type 0} (R : ℕ → ℕ → ℕ → ℕ → Type 0) (item : ℕ → A) (words : A → List ℕ) →
      ((least at above next : ℕ) → R least at above next → Spans w at (words (item at)) next) →
      {least at : ℕ} {items : List A} {end : ℕ} → Climb R item least at items end → Spans w at (flat_map words items) end
  unfolding flat_map
  climb_span R item words one (done ended) = spans_none (sym ended)
  climb_span R item words one (taken {least = least} {at = at} {above = above} {next = next} is rest) =
      spans_then (words (item at)) _ (one least at above next is) (climb_span R item words one rest)

  replacement_span :
      (right : Test) (least at above next : ℕ) → replacement_at w total right least at ≡ Ok (above, next) →
      Spans w at (replacement_words_of (new_cell w at)) next
  unfolding replacement_at
  replacement_span right least at above next = slotted (listed_number_at w at) refl
    where
      Goal : Type 0
      Goal = Spans w at (replacement_words_of (new_cell w at)) next

      recorded :
          (slot start : ℕ) → listed_number_at w at ≡ Ok (slot, start) → (r : Result Record Fault) → record_at w total start ≡ r →
          on_record r Err (λ (op : Operation) (width after : ℕ).
          cond {A = Result (ℕ × ℕ) Fault} (right least slot op width) (Ok (slot + 1, after)) (Err (fault 12 at)))
          ≡ Ok (above, next) → Goal
      recorded slot start v (Err f) r e = let z : ◌≡◌ {A = ℕ} 0 1 = cc in absurd (omega arith)
      recorded slot start v (Ok x) r e =
          let is = listed-number w at v in
          let begins : start ≡ at + 1 = is.after in
          let last : x.next ≡ next = passed (right least slot x.op x.width) e in
          let new = rw (begins, last) at (record_span w total start r) in
          spans_then (number_word (number_in w at) ∷ []) (record_of (cell_at w (at + 1)))
          (spans_one (number_word_lem w at is.kind) refl) new
        where
          passed :
              (b : Bool) → cond {A = Result (ℕ × ℕ) Fault} b (Ok (slot + 1, x.next)) (Err (fault 12 at))
              ≡ Ok (above, next) → x.next ≡ next
          passed true e = (pair_parts e).1
          passed false e = let z : ◌≡◌ {A = ℕ} 0 1 = cc in absurd (omega arith)

      slotted :
          (v : Result (ℕ × ℕ) Fault) → listed_number_at w at ≡ v →
          on_number v Err (λ (slot start : ℕ).
          on_record (record_at w total start) Err (λ (op : Operation) (width after : ℕ).
          cond {A = Result (ℕ × ℕ) Fault} (right least slot op width) (Ok (slot + 1, after)) (Err (fault 12 at))))
          ≡ Ok (above, next) → Goal
      slotted (Err f) v e = let z : ◌≡◌ {A = ℕ} 0 1 = cc in absurd (omega arith)
      slotted (Ok (slot, start)) v e = recorded slot start v (record_at w total start) refl e

  pair_span :
      (least at above next : ℕ) → pair_at w total least at ≡ Ok (above, next) →
      Spans w at (pair_words_of (net_pair w at)) next
  pair_span least at above next read =
      let is = pair_read w total least at above next read in
      let after = is.after in
      spans_then _ _ (spans_one (net_word_lem w at is.from_is.kind) refl)
      (spans_one (net_word_lem w (at + 1) is.to_is.kind) (omega arith))

  ascending_span :
      {A : Type 0} (step : ℕ → ℕ → Result (ℕ × ℕ) Fault) (item : ℕ → A) (words : A → List ℕ) →
      ((least at above next : ℕ) → step least at ≡ Ok (above, next) → Spans w at (words (item at)) next) →
      (k least at end : ℕ) → (ascending step item k least at).scan ≡ Ok end →
      Spans w at (flat_map words (ascending step item k least at).items) end
  ascending_span step item words one k least at end read =
      climb_span Stepped item words one
      (climb_read Stepped item step (λ least at above next e. e) k least at end read).climb
    where
      Stepped : ℕ → ℕ → ℕ → ℕ → Type 0
      Stepped least at above next = step least at ≡ Ok (above, next)

-- ---- The whole list.
-- A list whose words are those of another is that list.
spans_same : (w words : List ℕ) → Spans w 0 words (length w) → w ≡ words
spans_same w words s =
    let ends : length w ≡ 0 + length words = s.ends in
    as_tab (length words) w 0 (omega arith) ∙
    tab_ext (length words) _ _ (λ i low. rw zero-add) ∙ reads-tab (word_at w) words 0 s.reads

list_span :
    {mode : Mode} {w : List ℕ} {d : Design} {replacements pairs : ℕ} → IsAccepted mode w d replacements pairs →
    Spans w 0 (words_of d) (length w)
unfolding cells_of
list_span {w} {d} {replacements} {pairs} is =
    let counts = accepted-counts is in
    let numbers : List ℕ = d.base ∷ d.added ∷ length d.cell_reps ∷ length d.net_reps ∷ [] in
    let header : Spans w 0 (map number_word numbers) 4 =
    rw (is.same_base, is.same-added, counts.0, counts.1)
    record { reads = (header_is w is.header_read).words; ends = refl } in
    let cells : Spans w 4 (words_of_cells d) replacements =
    rw is.cells_are (cells_span w (total d) d.base (total d) 0 4 replacements is.cells-read) in
    let right : Test = replaces (at_slot d.cells) d.base in
    let reps : Spans w replacements (words_of_replacements d) pairs =
    rw is.reps_are
    (ascending_span w (total d) (replacement_at w (total d) right) (new_cell w) replacement_words_of
    (replacement_span w (total d) right) is.header.cellreps 0 replacements pairs is.reps_read) in
    let nets : Spans w pairs (words_of_pairs d) (length w) =
    rw (is.pairs_are, ← is.ended)
    (ascending_span w (total d) (pair_at w (total d)) (net_pair w) pair_words_of (pair_span w (total d))
    is.header.netreps 0 pairs is.end is.pairs-read) in
    spans_then _ _ header (spans_then _ _ cells (spans_then _ _ reps nets))

pub accepted-same :
    (mode : Mode) (w : List ℕ) {d : Design} {replacements pairs : ℕ} → read mode w ≡ accepted d replacements pairs →
    w ≡ words_of d
accepted-same mode w {d} e = spans_same w (words_of d) (list_span (accepted-read mode w e))
