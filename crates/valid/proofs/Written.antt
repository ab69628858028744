-- A record that was read without a fault is the record of the cell that it stands for.
use mathlib.Core.Path.{◌≡◌, refl}
use mathlib.Core.Bool.{Bool, true, false, cond}
use mathlib.Core.List.{List, map, flat_map}
use Prim.Native.Nat.{ℕ, zero, suc, ◌+◌, ◌-◌, ◌^◌, ◌≤◌, ◌<◌}
use native.Mathlib.Omega.{arith}
use lib.ListN.{length, length-map}
use lib.Dec.{ltb, eqb}
use borrow.Author.Tests.{ne_eqb}
use Rattle.std.specs.Prelude.{Result, Ok, Err}
use Rattle.logic.specs.Word.{kind_of, number_word}
use Rattle.logic.specs.Table.{tab}
use Rattle.logic.proofs.TableLaws.{length-tab}
use Rattle.logic.specs.declared.Fault.{Fault}
use Rattle.cell.specs.Cell.{Cell}
use Rattle.cell.specs.Operation.{numbers_of, fields_of}
use Rattle.cell.specs.declared.Operation.{Operation}
use Rattle.cell.specs.declared.Numbers.{Numbers}
use Rattle.cell.specs.declared.Fields.{Fields}
use Rattle.fields.specs.declared.Head.{Head}
use Rattle.fields.specs.Field.{on_number, on_read, number_at}
use Rattle.fields.specs.Head.{on_head, head_at}
use Rattle.fields.proofs.AcceptedLaws.{number_read, IsHead, head_read}
use Rattle.cell_reader.specs.declared.Leading.{Leading}
use Rattle.cell_reader.specs.declared.Record.{Record}
use Rattle.cell_reader.specs.Record.{on_leading, third_at, second_at, first_at, leading_at, body_at}
use Rattle.cell_reader.specs.Record.{contents_at, record_at}
use Rattle.cell_reader.specs.Parse.{number_in, control_in, nets_in, trits_in, patterns_in, cell_in, op_at, cell_at}
use Rattle.cell_reader.specs.Accepted.{IsLeading}
use Rattle.cell_reader.proofs.AcceptedLaws.{leading-read, body-read}
use Rattle.valid.specs.Words.{net_word_of, control_word_of, trit_word_of, pattern_words_of, contents_of, body_of, record_of}
use Rattle.valid.proofs.Stands.{word_at}
use Rattle.valid.proofs.Spans.{Spans, spans_one, spans_then, spans_tab, number_word_lem, nets_span, controls_span}
use Rattle.valid.proofs.Spans.{constants_span, patterns_span}
use Rattle.valid.proofs.Parts.{Parts, cell_parts}
use Rattle.valid.proofs.Heads.{operation_in, head_word_lem}
use Rattle.cell_reader.specs.Record.{leading}
use Rattle.cell_reader.specs.Record.{cell_record}
use Rattle.cell_reader.proofs.AcceptedLaws.{record_parts}

-- ---- Leading numbers.
-- A number was read, and what follows it.
record Valued (v : Result (ℕ × ℕ) Fault) (f : ℕ → ℕ → Result Leading Fault) (n m next : ℕ) : Type 0 where
  number : ℕ
  place : ℕ
  value : v ≡ Ok (number, place)
  rest : f number place ≡ Ok (leading n m next)

valued :
    (v : Result (ℕ × ℕ) Fault) (f : ℕ → ℕ → Result Leading Fault) {n m next : ℕ} → on_number v Err f ≡ Ok (leading n m next) → Valued v f n m next
valued (Ok (number, place)) f e = record { number = number; place = place; value = refl; rest = e }
valued (Err fault) f e = let z : ◌≡◌ {A = ℕ} 0 1 = cc in absurd (omega arith)

kept :
    (b : Bool) (fault : Fault) (l : Result Leading Fault) {n m next : ℕ} → cond b (Err fault) l ≡ Ok (leading n m next) →
    l ≡ Ok (leading n m next)
kept true fault l e = let z : ◌≡◌ {A = ℕ} 0 1 = cc in absurd (omega arith)
kept false fault l e = e

otherwise : (b : Bool) (x y : Result Leading Fault) {z : Result Leading Fault} → b ≡ false → cond b x y ≡ z → y ≡ z
otherwise b x y is e = rw is at e

module _ (w : List ℕ) (numbers : Numbers) (end : ℕ) where
  third_number :
      (n m at : ℕ) {n₁ m₁ next : ℕ} → third_at w numbers end n m at ≡ Ok (leading n₁ m₁ next) → kind_of (word_at w at) ≡ 3
  unfolding third_at
  third_number n m at read =
      let third = valued (number_at w (2 ^ 29 - 1) end at) _ read in
      (number_read w (2 ^ 29 - 1) end at third.value).kind

  -- The third number stands one place after the second, and two after the first.
  third_after-second :
      (n at : ℕ) {n₁ m₁ next : ℕ} → 2 < numbers.count → second_at w numbers end n at ≡ Ok (leading n₁ m₁ next) →
      kind_of (word_at w (at + 1)) ≡ 3
  unfolding second_at
  third_after-second n at many read =
      let second = valued (number_at w numbers.second end at) _ read in
      let after : second.place ≡ at + 1 = (number_read w numbers.second end at second.value).after in
      rw after at
      (third_number n second.number second.place
      (otherwise (eqb numbers.count 2) _ _ (ne_eqb numbers.count 2 (λ e. omega arith)) second.rest))

  third_kind :
      (at : ℕ) {n m next : ℕ} → 2 < numbers.count → leading_at w numbers end at ≡ Ok (leading n m next) →
      kind_of (word_at w (at + 2)) ≡ 3
  unfolding leading_at first_at
  third_kind at many read =
      let first =
      valued (number_at w 63 end at) _
      (otherwise (eqb numbers.count 0) _ _ (ne_eqb numbers.count 0 (λ e. omega arith)) read) in
      let after = (number_read w 63 end at first.value).after in
      let place : first.place + 1 ≡ at + 2 = omega arith in
      let right = kept (ltb first.number numbers.least) _ _ first.rest in
      rw place at
      (third_after-second first.number first.place many
      (otherwise (eqb numbers.count 1) _ _ (ne_eqb numbers.count 1 (λ e. omega arith)) right))

  numbers_span :
      (at : ℕ) {n m next : ℕ} → numbers.count ≤ 3 → leading_at w numbers end at ≡ Ok (leading n m next) →
      Spans w at (map number_word (tab numbers.count (λ i. number_in w (at + i)))) next
  numbers_span at {n} {m} {next} few read =
      spans_tab w number_word (number_in w) numbers.count at next (leading.after few)
      (λ i low. number_word_lem w (at + i) (kind i low))
    where
      leading : IsLeading w numbers end at n m next
      leading = leading-read w numbers end at read

      kind : (i : ℕ) → i < numbers.count → kind_of (word_at w (at + i)) ≡ 3
      kind zero low = let start : at + 0 ≡ at = omega arith in rw start (leading.first (omega arith)).kind
      kind (suc zero) low = (leading.second (omega arith)).kind
      kind (suc (suc zero)) low = third_kind at (omega arith) read
      kind (suc (suc (suc i))) low = absurd (omega arith)

-- ---- Bodies.
tab-ends :
    {A : Type 0} {w : List ℕ} {at next : ℕ} (word : A → ℕ) (n : ℕ) (f : ℕ → A) → Spans w at (map word (tab n f)) next →
    next ≡ at + n
tab-ends word n f s = let ends = s.ends in omega (arith, length-map (tab n f) word, length-tab n f)

body_joins :
    {w : List ℕ} {at count : ℕ} {layout : Fields} {n : ℕ} {c : Cell} → Parts w at count layout n c →
    (start nets constants patterns end : ℕ) → start ≡ at + count →
    Spans w at (map number_word (tab count (λ i. number_in w (at + i)))) start →
    Spans w start (map control_word_of (tab layout.controls (λ i. control_in w (start + i)))) nets →
    Spans w nets (map net_word_of (nets_in w layout.nets nets)) constants →
    Spans w constants (map trit_word_of (trits_in w layout.constants constants)) patterns →
    Spans w patterns (flat_map pattern_words_of (patterns_in w n layout.patterns patterns)) end →
    Spans w at (body_of c) end
body_joins {w} {at} {count} {layout} {n} {c} parts start nets constants patterns end starts s₀ s₁ s₂ s₃ s₄ =
    let ends₁ = tab-ends control_word_of layout.controls _ s₁ in
    let ends₂ = tab-ends net_word_of layout.nets _ s₂ in
    let ends₃ = tab-ends trit_word_of layout.constants _ s₃ in
    let nets-at : nets ≡ at + (count + layout.controls) = omega arith in
    let constants-at : constants ≡ at + (count + layout.controls) + layout.nets = omega arith in
    let patterns-at : patterns ≡ at + (count + layout.controls) + layout.nets + layout.constants = omega arith in
    let t₀ : Spans w at (map number_word (contents_of c).numbers) start = rw parts.numbers s₀ in
    let t₁ : Spans w start (map control_word_of (contents_of c).controls) nets = rw (parts.controls, ← starts) s₁ in
    let t₂ : Spans w nets (map net_word_of (contents_of c).nets) constants = rw (parts.nets, ← nets-at) s₂ in
    let t₃ : Spans w constants (map trit_word_of (contents_of c).constants) patterns =
    rw (parts.constants, ← constants-at) s₃ in
    let t₄ : Spans w patterns (flat_map pattern_words_of (contents_of c).patterns) end =
    rw (parts.patterns, ← patterns-at) s₄ in
    spans_then _ _ t₀ (spans_then _ _ t₁ (spans_then _ _ t₂ (spans_then _ _ t₃ t₄)))

module _ (w : List ℕ) (total : ℕ) where
  body_span :
      (op : Operation) (end at n m start after : ℕ) → leading_at w (numbers_of op) end at ≡ Ok (leading n m start) →
      body_at w total (fields_of op n m) n end start ≡ Ok after →
      (after ≡ end) × Spans w at (body_of (cell_in w op at)) end
  body_span op end at n m start after leading clean =
      let is = leading-read w (numbers_of op) end at leading in
      let parts = cell_parts w at end op is in
      let read = body-read w total (fields_of op n m) n end start clean in
      let fields = read.1 in (
        read.0,
        body_joins parts start fields.nets fields.constants fields.patterns end (is.after parts.few)
            (numbers_span w (numbers_of op) end at parts.few leading)
            (controls_span w total end (fields_of op n m).controls start fields.nets fields.controls-read)
            (nets_span w total end (fields_of op n m).nets fields.nets fields.constants fields.nets-read)
            (constants_span w total end (fields_of op n m).constants fields.constants fields.patterns
            fields.constants-read)
            (patterns_span w total end n (fields_of op n m).patterns fields.patterns end fields.patterns-read),
      )

  -- ---- Records.
  record_joins :
      (at : ℕ) (op : Operation) (first end n m start after : ℕ) → IsHead w at op first end →
      leading_at w (numbers_of op) end first ≡ Ok (leading n m start) →
      body_at w total (fields_of op n m) n end start ≡ Ok after → Spans w at (record_of (cell_at w at)) after
  unfolding cell_at record_of
  record_joins at op first end n m start after is leading clean =
      let begins : first ≡ at + 1 = is.start in
      let decoded : op_at w at ≡ op = rw is.decoded in
      let span = body_span op end (at + 1) n m start after (rw begins at leading) clean in
      let word = head_word_lem is (length (body_of (cell_in w op (at + 1)))) span.1.ends in
      rw (decoded, operation_in w op (at + 1), span.0) (spans_then _ _ (spans_one word refl) span.1)

  pub record_span :
      (at : ℕ) {op : Operation} {width next : ℕ} → record_at w total at ≡ Ok (cell_record op width next) →
      Spans w at (record_of (cell_at w at)) next
  unfolding record_at contents_at
  record_span at {op} {width} {next} read = headed (head_at w at) refl read
    where
      body :
          (o : Operation) (first end n m start : ℕ) → IsHead w at o first end →
          leading_at w (numbers_of o) end first ≡ Ok (leading n m start) → (s : Result ℕ Fault) →
          body_at w total (fields_of o n m) n end start ≡ s →
          on_read s Err (λ (after : ℕ). Ok (cell_record o (fields_of o n m).width after)) ≡ Ok (cell_record op width next) →
          Spans w at (record_of (cell_at w at)) next
      body o first end n m start h l (Err f) s e = let z : ◌≡◌ {A = ℕ} 0 1 = cc in absurd (omega arith)
      body o first end n m start h l (Ok after) s e =
          let same : after ≡ next = (record_parts e).1.1 in rw same at (record_joins at o first end n m start after h l s)

      lead :
          (o : Operation) (first end : ℕ) → IsHead w at o first end → (l : Result Leading Fault) →
          leading_at w (numbers_of o) end first ≡ l →
          on_leading l Err (λ (n m start : ℕ).
          on_read (body_at w total (fields_of o n m) n end start) Err
          (λ (after : ℕ). Ok (cell_record o (fields_of o n m).width after)))
          ≡ Ok (cell_record op width next) → Spans w at (record_of (cell_at w at)) next
      lead o first end h (Err f) l e = let z : ◌≡◌ {A = ℕ} 0 1 = cc in absurd (omega arith)
      lead o first end h (Ok x) l e =
          body o first end x.n x.m x.next h l (body_at w total (fields_of o x.n x.m) x.n end x.next) refl e

      headed :
          (h : Result Head Fault) → head_at w at ≡ h →
          on_head h Err (λ (o : Operation) (first end : ℕ). contents_at w total o end first)
          ≡ Ok (cell_record op width next) →
          Spans w at (record_of (cell_at w at)) next
      headed (Err f) h e = let z : ◌≡◌ {A = ℕ} 0 1 = cc in absurd (omega arith)
      headed (Ok x) h e =
          lead x.op x.first x.end (head_read w at h) (leading_at w (numbers_of x.op) x.end x.first) refl e
