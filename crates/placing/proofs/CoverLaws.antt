-- Laws of the definitions of Cover.
use Prim.Native.Nat.{ℕ, zero, suc, ◌+◌, ◌/◌, ◌%◌, ◌<◌, ◌≤◌, max}
use mathlib.Core.Path.{◌≡◌, refl, ap, fun_ext, ◌∙◌}
use mathlib.Core.Bool.{Bool, true, false, cond, not, ◌&&◌}
use mathlib.Core.List.{List, [], ◌∷◌, ◌++◌}
use native.Mathlib.Omega.{arith}
use native.Mathlib.Nat.{add-zero}
use lib.ListN.{length, get_or, drop, replicate, length-append, length-replicate, length-map, get_or-map}
use lib.ListN.{get_or-append}
use lib.Seq.{sets, sets-eq}
use lib.Dec.{ltb, leb, eqb}
use borrow.Author.Tests.{ltb-true, ltb-false}
use Rattle.std.specs.Prelude.{Result, Ok, Err}
use Rattle.logic.specs.declared.Fault.{Fault}
use Rattle.logic.specs.declared.Slot.{Slot}
use Rattle.cell.specs.Cell.{output_len, slots_of, standing, stands_void}
use Rattle.cell.specs.Operation.{may_replace}
use Rattle.cell.specs.declared.Standing.{Standing}
use Rattle.cell.specs.declared.Standing.TheVariants as T
use Rattle.cell.specs.declared.Operation.{Operation}
use Rattle.cell.specs.Design.{Placed}
use Rattle.cell_reader.specs.Parse.{cell_at}
use Rattle.placing.specs.declared.Placing.{Placing}
use Rattle.placing.specs.Slots.{covering, nowhere, takes, at_slot, is_void, standing_number, mark_of, slot_words}
use Rattle.items.specs.Items.{stop, refuse, push, AtSlot, replaces}
use Rattle.placing.specs.Cells.{on_placing, placed_at, cells_from, cells_of}
use Rattle.items.specs.Marks.{at_slot_in}
use Rattle.voids.specs.Marks.{is_void_in}
use Rattle.placing.proofs.Laws.{placed-read, limit_low}
use Rattle.placing.specs.Cover.{Walk, done, placed}

module _ (w : List ℕ) (base total : ℕ) where
  pub walk-read :
      (turns slot at end : ℕ) → base ≤ total → slot ≤ total → total ≤ slot + turns →
      (cells_from w base total turns slot at).scan ≡ Ok end → (Walk w base total) slot
      at (cells_from w base total turns slot at).items end
  unfolding cells_from
  walk-read zero slot at end order low enough read =
      let full : slot ≡ total = omega arith in let ended : at ≡ end = cc in done full ended
  walk-read (suc turns) slot at end order low enough read =
      more (ltb slot total) refl read (λ after next. walk-read turns after next end order)
    where
      Rest : ℕ → ℕ → Type 0
      Rest after next =
          after ≤ total → total ≤ after + turns → (cells_from w base total turns after next).scan ≡ Ok end →
          (Walk w base total) after next (cells_from w base total turns after next).items end

      go :
          slot < total → (p : Result Placing Fault) → placed_at w base total slot at ≡ p →
          (on_placing p refuse (λ (op : Operation) (width : ℕ) (after : Slot) (next : ℕ).
          push (record { slot = slot; cell = cell_at w at }) (cells_from w base total turns after.0 next))).scan
          ≡ Ok end →
          ((after next : ℕ) → Rest after next) →
          (Walk w base total) slot at
          (on_placing p refuse (λ (op : Operation) (width : ℕ) (after : Slot) (next : ℕ).
          push (record { slot = slot; cell = cell_at w at }) (cells_from w base total turns after.0 next))).items end
      go inside (Err f) p e rest = let z : ◌≡◌ {A = ℕ} 0 1 = cc in absurd (omega arith)
      go inside (Ok cell) p e rest =
          let is = placed-read w base total slot at p in
          let last : cell.after.0 ≤ total = limit_low w base total slot order is.within in
          let ends : cell.after.0 ≡ slot + max 1 cell.width = is.ends in
          placed inside is (rest cell.after.0 cell.next last (omega arith) e)

      more :
          (b : Bool) → ltb slot total ≡ b →
          (cond b
          (on_placing (placed_at w base total slot at) refuse (λ (op : Operation) (width : ℕ) (after : Slot) (next : ℕ).
          push (record { slot = slot; cell = cell_at w at }) (cells_from w base total turns after.0 next)))
          (stop (Ok at))).scan ≡ Ok end →
          ((after next : ℕ) → Rest after next) →
          (Walk w base total) slot at
          (cond b
          (on_placing (placed_at w base total slot at) refuse (λ (op : Operation) (width : ℕ) (after : Slot) (next : ℕ).
          push (record { slot = slot; cell = cell_at w at }) (cells_from w base total turns after.0 next)))
          (stop (Ok at))).items end
      more true b e rest = go (ltb-true _ _ b) (placed_at w base total slot at) refl e rest
      more false b e rest =
          let past : total ≤ slot = ltb-false _ _ b in
          let full : slot ≡ total = omega arith in let ended : at ≡ end = cc in done full ended

-- Every slot from the first on is taken.
pub walk_covers :
    {w : List ℕ} {base total slot at end : ℕ} {cells : List Placed} → Walk w base total slot at cells end →
    slot + length (covering cells) ≡ total
unfolding covering
walk_covers {slot = slot} (done full ended) = rw add-zero full
walk_covers {slot = slot} (placed {at = at} {width = width} {after = after} {cells = cells} inside is rest) =
    let covered : after + length (covering cells) ≡ _ = walk_covers rest in
    let ends : after ≡ slot + max 1 width = is.ends in
    let same : width ≡ output_len (cell_at _ at) = is.record_is.same_width in
    simp (length-append, length-replicate) (rw (← same) (omega arith))

-- The cells of a list whose cells met no fault.
pub walk-cells :
    (w : List ℕ) (base added end : ℕ) → (cells_of w base (base + added)).scan ≡ Ok end →
    Walk w base (base + added) 0 4 (cells_of w base (base + added)).items end
unfolding cells_of
walk-cells w base added end read =
    walk-read w base (base + added) (base + added) 0 4 end (omega arith) (omega arith) (omega arith) read

pub walk-total :
    {w : List ℕ} {base total at end : ℕ} {cells : List Placed} → Walk w base total 0 at cells end →
    length (covering cells) ≡ total
walk-total {total = total} {cells = cells} walk = let covered : 0 + length (covering cells) ≡ total =
    walk_covers walk in omega arith

-- What holds of every cell holds of what takes a slot.
abbrev pub All : (Placed → Type 0) → List Placed → Type 0
All P [] = Unit {0}
All P (c ∷ cs) = P c × All P cs

module _ (P : Placed → Type 0) where
  replicate-all : (n : ℕ) (c : Placed) (l : List Placed) → P c → ((i : ℕ) → P (get_or l i nowhere)) → (i : ℕ) →
      P (get_or (replicate n c ++ l) i nowhere)
  replicate-all zero c l p q i = q i
  replicate-all (suc n) c l p q zero = p
  replicate-all (suc n) c l p q (suc i) = replicate-all n c l p q i

  pub takes_all : (cells : List Placed) → P nowhere → All P cells → (i : ℕ) → P (takes cells i)
  unfolding covering
  takes_all [] none all zero = none
  takes_all [] none all (suc i) = none
  takes_all (c ∷ cs) none all i =
      replicate-all (slots_of c.cell) c (covering cs) all.0 (takes_all cs none all.1) i

-- A cell that was read is at most 64 wide.
abbrev pub Narrow : Placed → Type 0
Narrow c = output_len c.cell ≤ 64

pub walk-narrow :
    {w : List ℕ} {base total slot at end : ℕ} {cells : List Placed} → Walk w base total slot at cells end →
    All Narrow cells
walk-narrow (done full ended) = tt
walk-narrow {w = w} (placed {at = at} {width = width} inside is rest) = (
  let same : width ≡ output_len (cell_at w at) = is.record_is.same_width in rw same at is.record_is.low-width,
  walk-narrow rest,
)

-- The numbers of what stands at a slot are 0, 1 and 2, and 0 is a Void's.
standing-low : (s : Standing) → standing_number s ≤ 2
standing-low T.Void = omega arith
standing-low T.Dff = omega arith
standing-low T.Other = omega arith

void-number : (s : Standing) → eqb (standing_number s) 0 ≡ stands_void s
void-number T.Void = refl
void-number T.Dff = refl
void-number T.Other = refl

-- The word of a slot gives back what stands there, the output width and the first slot.
module _ (base : ℕ) (c : Placed) (narrow : Narrow c) where
  added-low : (b : Bool) → cond b 0 1 ≤ 1
  added-low true = omega arith
  added-low false = omega arith

  mark-standing : mark_of base c % 4 ≡ standing_number (standing c.cell)
  mark-standing = omega (arith, standing-low (standing c.cell), added-low (ltb c.slot base))

  mark-width : mark_of base c / 8 % 128 ≡ output_len c.cell
  mark-width = omega (arith, standing-low (standing c.cell), added-low (ltb c.slot base))

  mark-first : mark_of base c / 1024 ≡ c.slot
  mark-first = omega (arith, standing-low (standing c.cell), added-low (ltb c.slot base))

get_d_any : {A : Type 0} (l : List A) (i : ℕ) (d e : A) → i < length l → get_or l i d ≡ get_or l i e
get_d_any [] i d e low = absurd (omega arith)
get_d_any (x ∷ l) zero d e low = refl
get_d_any (x ∷ l) (suc i) d e low = get_d_any l i d e (omega arith)

-- The table, read back at a slot.
module _ (base : ℕ) (cells : List Placed) (t : List ℕ) (room : length (covering cells) ≤ length t) where
  pub table_at : (i : ℕ) → i < length (covering cells) → get_or (sets t 0 (slot_words base cells)) i 0
      ≡ mark_of base (takes cells i)
  table_at i low =
      let size : length (slot_words base cells) ≡ length (covering cells) = length-map (covering cells) (mark_of base) in
      let below : i < length (slot_words base cells) = omega arith in
      let stored : sets t 0 (slot_words base cells)
      ≡ slot_words base cells ++ drop (0 + length (slot_words base cells)) t =
      sets-eq (slot_words base cells) t 0 (omega arith) in
      rw stored
      (get_or-append (slot_words base cells) (drop (0 + length (slot_words base cells)) t) 0 i below ∙
      get_d_any (slot_words base cells) i 0 (mark_of base nowhere) below ∙
      get_or-map (mark_of base) (covering cells) i nowhere)

  module _ (below-base : base ≤ length (covering cells)) (narrow : All Narrow cells) where
    at-slot-same : (slot : ℕ) → slot < base → at_slot_in (sets t 0 (slot_words base cells)) slot ≡ at_slot cells slot
    at-slot-same slot low =
        let word = table_at slot (omega arith) in
        let small = takes_all Narrow cells (omega arith) narrow slot in
        rw (
          word,
          mark-first base (takes cells slot) small,
          mark-standing base (takes cells slot) small,
          void-number (standing (takes cells slot).cell),
          mark-width base (takes cells slot) small,
        )

    pub replaces-same : replaces (at_slot_in (sets t 0 (slot_words base cells))) base ≡ replaces (at_slot cells) base
    unfolding replaces
    replaces-same =
        fun_ext (λ least. fun_ext (λ slot. fun_ext (λ op. fun_ext (λ width.
        go least slot op width (ltb slot base) refl))))
      where
        right : Bool → AtSlot → ℕ → ℕ → Operation → ℕ → Bool
        right b s least slot op width =
            (b && eqb s.first slot) && not s.void && leb least slot && eqb s.width width && may_replace op

        go :
            (least slot : ℕ) (op : Operation) (width : ℕ) (b : Bool) → ltb slot base ≡ b →
            right b (at_slot_in (sets t 0 (slot_words base cells)) slot) least slot op width
            ≡ right b (at_slot cells slot) least slot op width
        go least slot op width false b = refl
        go least slot op width true b =
            ap (λ (s : AtSlot). right true s least slot op width) (at-slot-same slot (ltb-true _ _ b))

    pub voids-same : is_void_in (sets t 0 (slot_words base cells)) base ≡ is_void cells base
    unfolding is_void_in is_void
    voids-same = fun_ext (λ slot. go slot (ltb slot base) refl)
      where
        go :
            (slot : ℕ) (b : Bool) → ltb slot base ≡ b →
            cond b (eqb (get_or (sets t 0 (slot_words base cells)) slot 0 % 4) 0) false
            ≡ cond b (stands_void (standing (takes cells slot).cell)) false
        go slot false b = refl
        go slot true b =
            let low : slot < base = ltb-true _ _ b in
            let word = table_at slot (omega arith) in
            let small = takes_all Narrow cells (omega arith) narrow slot in
            rw (
              word,
              mark-standing base (takes cells slot) small,
              void-number (standing (takes cells slot).cell),
            )
