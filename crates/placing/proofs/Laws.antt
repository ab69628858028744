-- Laws of the definitions of Laws.
use Prim.Native.Nat.{ℕ, zero, suc, ◌+◌, ◌-◌, ◌<◌, ◌≤◌, max}
use mathlib.Core.Path.{◌≡◌, refl, sym, ap, ◌∙◌}
use mathlib.Core.Bool.{Bool, true, false, cond}
use mathlib.Core.List.{List, [], ◌∷◌, ◌++◌, map}
use native.Mathlib.Numerals.{add-one, sub-one}
use native.Mathlib.Omega.{arith}
use native.Mathlib.Nat.{add-zero, sub-zero}
use lib.ListN.{length, set, replicate, length-replicate}
use lib.Seq.{sets, length-sets}
use lib.Dec.{ltb, leb}
use borrow.Author.Tests.{lt-ltb, le-ltb, leb-true}
use Rattle.std.specs.Prelude.{Result, Ok, Err}
use Rattle.logic.specs.declared.Fault.{Fault}
use Rattle.stores.proofs.Laws.{sets_append}
use Rattle.logic.specs.declared.Slot.{Slot}
use Rattle.cell.specs.Cell.{output_len, slots_of}
use Rattle.cell.specs.Design.{Placed}
use Rattle.cell.specs.Operation.{standing_of}
use Rattle.cell.specs.declared.Operation.{Operation}
use Rattle.fields.specs.Field.{fault}
use Rattle.cell_reader.specs.declared.Record.{Record}
use Rattle.cell_reader.specs.Record.{on_record, record_at}
use Rattle.cell_reader.specs.Parse.{op_at, cell_at}
use Rattle.cell_reader.specs.Accepted.{IsRecord}
use Rattle.cell_reader.proofs.AcceptedLaws.{record_read, standing-at}
use Rattle.placing.specs.Slots.{covering, mark_of, mark_word, slot_words}
use Rattle.items.specs.Items.{Reading, stop, push}
use Rattle.placing.specs.declared.Cells.{Cells}
use Rattle.placing.specs.declared.Placing.{Placing}
use Rattle.placing.specs.Cells.{placing, cell_count, limit_of, placed_at, cells_from, cells_of, counted}
use Rattle.placing.specs.Placement.{IsPlaced}

map-append : {A B : Type 0} (f : A → B) (a b : List A) → map f (a ++ b) ≡ map f a ++ map f b
map-append f [] b = refl
map-append f (x ∷ a) b = ap (λ l. f x ∷ l) (map-append f a b)

map-replicate : {A B : Type 0} (f : A → B) (n : ℕ) (x : A) → map f (replicate n x) ≡ replicate n (f x)
map-replicate f zero x = refl
map-replicate f (suc n) x = ap (λ l. f x ∷ l) (map-replicate f n x)

-- The words of the slots of one cell and then of the others.
pub marks_cons : (base : ℕ) (c : Placed) (cs : List Placed) → slot_words base (c ∷ cs)
    ≡ replicate (slots_of c.cell) (mark_of base c) ++ slot_words base cs
unfolding covering
marks_cons base c cs =
    map-append (mark_of base) (replicate (slots_of c.cell) c) (covering cs) ∙
    ap (λ (l : List ℕ). l ++ slot_words base cs) (map-replicate (mark_of base) (slots_of c.cell) c)

-- The parts of a placed cell that was read.
pub placing_parts : {op o : Operation} {width m next n : ℕ} {after s : Slot} →
    ◌≡◌ {A = Result Placing Fault} (Ok (placing op width after next)) (Ok (placing o m s n)) →
    (op ≡ o) × ((width ≡ m) × ((after ≡ s) × (next ≡ n)))
placing_parts {op} {o} {width} {m} {next} {n} {after} {s} e =
    let same : placing op width after next ≡ placing o m s n = cc in (
      ap (λ (p : Placing). p.op) same,
      (ap (λ (p : Placing). p.width) same, (ap (λ (p : Placing). p.after) same, ap (λ (p : Placing). p.next) same)),
    )

pub placed-read :
    (w : List ℕ) (base total slot at : ℕ) {op : Operation} {width next : ℕ} {after : Slot} → placed_at w base total slot
    at ≡ Ok (placing op width after next) →
    IsPlaced w base total slot at op width after.0 next
unfolding placed_at
placed-read w base total slot at {op} {width} {next} {after} read = go (record_at w total at) refl read
  where
    fits :
        (o : Operation) (width₁ next₁ : ℕ) → IsRecord w total at o width₁ next₁ →
        (b : Bool) → leb (slot + max 1 width₁) (limit_of base total slot) ≡ b →
        cond b (Ok (placing o width₁ (record { 0 = slot + max 1 width₁ }) next₁)) (Err (fault 11 at))
        ≡ Ok (placing op width after next) →
        IsPlaced w base total slot at op width after.0 next
    fits o width₁ next₁ is false b e = let z : ◌≡◌ {A = ℕ} 0 1 = cc in absurd (omega arith)
    fits o width₁ next₁ is true b e =
        let parts = placing_parts e in
        let same_op : o ≡ op = parts.0 in
        let same_width : width₁ ≡ width = parts.1.0 in
        let same_next : next₁ ≡ next = parts.1.1.1 in
        let same-slot : record { 0 = slot + max 1 width₁ } ≡ after = parts.1.1.0 in
        let same_after : after.0 ≡ slot + max 1 width₁ = sym (ap (λ (s : Slot). s.0) same-slot) in
        let low : slot + max 1 width₁ ≤ limit_of base total slot = leb-true _ _ b in
        record {
          record_is = rw same_op at (rw same_width at (rw same_next at is));
          ends = rw same_width at same_after;
          within = rw (sym same_after) at low;
        }

    go :
        (r : Result Record Fault) → record_at w total at ≡ r →
        on_record r Err (λ (o : Operation) (width₁ next₁ : ℕ).
        cond (leb (slot + max 1 width₁) (limit_of base total slot))
        (Ok (placing o width₁ (record { 0 = slot + max 1 width₁ }) next₁)) (Err (fault 11 at)))
        ≡ Ok (placing op width after next) → IsPlaced w base total slot at op width after.0 next
    go (Err f) r e = let z : ◌≡◌ {A = ℕ} 0 1 = cc in absurd (omega arith)
    go (Ok x) r e =
        fits x.op x.width x.next (record_read w total at r) (leb (slot + max 1 x.width) (limit_of base total slot)) refl e

module _ (w : List ℕ) (base total : ℕ) where
  cells-done : (turns slot at : ℕ) → total ≤ slot → cells_from w base total turns slot at ≡ stop (Ok at)
  unfolding cells_from
  cells-done zero slot at past = refl
  cells-done (suc turns) slot at past = rw (le-ltb slot total past)

  cells-fault :
      (turns slot at : ℕ) {e : Fault} → 0 < turns → slot < total → placed_at w base total slot at ≡ Err e →
      cells_from w base total turns slot at ≡ stop (Err e)
  unfolding cells_from
  cells-fault zero slot at some inside refused = absurd (omega arith)
  cells-fault (suc turns) slot at some inside refused = rw (lt-ltb slot total inside, refused)

  pub cells_turn :
      (turns slot at : ℕ) {op : Operation} {width next : ℕ} {after : Slot} → 0 < turns → slot < total →
      placed_at w base total slot at ≡ Ok (placing op width after next) →
      cells_from w base total turns slot at
      ≡ push (record { slot = slot; cell = cell_at w at }) (cells_from w base total (turns - 1) after.0 next)
  unfolding cells_from
  cells_turn zero slot at some inside placed = absurd (omega arith)
  cells_turn (suc turns) slot at some inside placed = rw (lt-ltb slot total inside, placed, sub-one)

  -- The loop over the cells after `count` of them, with `slot` slots taken and the place `at` reached: reading on from
  -- here, and storing the words of the slots from here, gives what reading and storing from the start does.
  pub record Going (t₀ t : List ℕ) (at slot count : ℕ) : Type 0 where
    pub low : slot ≤ total
    pub few : count ≤ slot
    pub scan : (cells_of w base total).scan ≡ (cells_from w base total (total - count) slot at).scan
    pub many : length (cells_of w base total).items
        ≡ count + length (cells_from w base total (total - count) slot at).items
    pub table : sets t₀ 0 (slot_words base (cells_of w base total).items)
        ≡ sets t slot (slot_words base (cells_from w base total (total - count) slot at).items)
    pub same : length t ≡ length t₀

  pub going_start : (t : List ℕ) → Going t t 4 0 0
  unfolding cells_of
  going_start t = record {
    low = omega arith;
    few = omega arith;
    scan = rw sub-zero;
    many = rw sub-zero (omega arith);
    table = rw sub-zero;
    same = refl;
  }

  pub going_done :
      {t₀ t : List ℕ} {at slot count : ℕ} → Going t₀ t at slot count → total ≤ slot →
      (Ok (cell_count count at) ≡ counted (cells_of w base total))
      × (t ≡ sets t₀ 0 (slot_words base (cells_of w base total).items))
  unfolding covering
  going_done {t₀} {t} {at} {slot} {count} going past =
      let done : cells_from w base total (total - count) slot at ≡ stop (Ok at) = cells-done (total - count) slot
      at past in
      let scan : (cells_of w base total).scan ≡ Ok at = rw done at going.scan in
      let many : length (cells_of w base total).items ≡ count + 0 = rw done at going.many in
      (rw (scan, many, add-zero), sym (rw done at going.table))

  pub going_fault :
      {t₀ t : List ℕ} {at slot count : ℕ} {e : Fault} → Going t₀ t at slot count → slot < total →
      placed_at w base total slot at ≡ Err e →
      (Err e ≡ counted (cells_of w base total)) × (t ≡ sets t₀ 0 (slot_words base (cells_of w base total).items))
  unfolding covering
  going_fault {t₀} {t} {at} {slot} {count} {e} going inside refused =
      let few : count ≤ slot = going.few in
      let done : cells_from w base total (total - count) slot at ≡ stop (Err e) = cells-fault (total - count) slot
      at (omega arith) inside refused in
      let scan : (cells_of w base total).scan ≡ Err e = rw done at going.scan in
      (rw scan, sym (rw done at going.table))

  pub limit_low : (slot : ℕ) {after : ℕ} → base ≤ total → after ≤ limit_of base total slot → after ≤ total
  limit_low slot {after} order = go (ltb slot base)
    where
      go : (b : Bool) → after ≤ cond b base total → after ≤ total
      go true low = omega arith
      go false low = low

  pub going_turn :
      {t₀ t : List ℕ} {at slot count : ℕ} {op : Operation} {width next : ℕ} {after : Slot} → Going t₀ t at slot count →
      slot < total → base ≤ total →
      placed_at w base total slot at ≡ Ok (placing op width after next) →
      Going t₀ (sets t slot (replicate (after.0 - slot) (mark_word base (standing_of op) width slot))) next after.0
      (count + 1)
  going_turn {t₀} {t} {at} {slot} {count} {op} {width} {next} {after} going inside order placed =
      let is = placed-read w base total slot at placed in
      let few : count ≤ slot = going.few in
      let ends : after.0 ≡ slot + max 1 width = is.ends in
      let last : after.0 ≤ total = limit_low slot order is.within in
      let fewer : total - count - 1 ≡ total - (count + 1) = omega arith in
      let turn : cells_from w base total (total - count) slot at ≡ push here rest = cells_turn (total - count) slot
      at (omega arith) inside placed ∙ rw fewer in
      let many : length (cells_of w base total).items ≡ count + suc (length rest.items) = rw turn at going.many in
      record {
        low = last;
        few = omega arith;
        scan = rw turn at going.scan;
        many = omega arith;
        table = rw turn at going.table ∙ painted is rest.items;
        same = simp length-sets going.same;
      }
    where
      here : Placed
      here = record { slot = slot; cell = cell_at w at }

      rest : Reading Placed
      rest = cells_from w base total (total - (count + 1)) after.0 next

      painted :
          IsPlaced w base total slot at op width after.0 next → (cs : List Placed) →
          sets t slot (slot_words base (here ∷ cs)) ≡
          sets (sets t slot (replicate (after.0 - slot) (mark_word base (standing_of op) width slot))) after.0
          (slot_words base cs)
      painted is cs =
          let same_op : op ≡ op_at w at = is.record_is.same_op in
          let same_width : width ≡ output_len (cell_at w at) = is.record_is.same_width in
          let ends : after.0 ≡ slot + max 1 width = is.ends in
          let size : after.0 - slot ≡ max 1 width = omega arith in
          let word : mark_of base here ≡ mark_word base (standing_of op) width slot =
          rw (standing-at w at, same_op, same_width) in
          let count-is : slots_of (cell_at w at) ≡ after.0 - slot = rw (← same_width, size) in
          let length-is : slot + length (replicate (after.0 - slot) (mark_word base (standing_of op) width slot))
          ≡ after.0 = rw (length-replicate) (omega arith) in
          ap (sets t slot) (marks_cons base here cs) ∙ rw (word, count-is)
          (sets_append t slot (replicate (after.0 - slot) (mark_word base (standing_of op) width slot))
          (slot_words base cs)
          ∙ rw length-is)
