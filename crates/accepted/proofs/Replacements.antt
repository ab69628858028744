-- What a clean run of cell replacements or net replacements says of each, and of their order.
use mathlib.Core.Path.{◌≡◌, refl, ap, sym}
use mathlib.Core.Bool.{Bool, true, false, cond}
use mathlib.Core.List.{List, [], ◌∷◌}
use Prim.Native.Nat.{ℕ, zero, suc, ◌+◌, ◌-◌, ◌^◌, ◌≤◌}
use native.Mathlib.Omega.{arith}
use lib.ListN.{length}
use lib.Dec.{ltb, leb}
use borrow.Author.Tests.{leb-true}
use Rattle.std.specs.Prelude.{Result, Ok, Err}
use Rattle.logic.specs.declared.Fault.{Fault}
use Rattle.logic.specs.Net.{payload_of_net}
use Rattle.logic.proofs.NetLaws.{payload_of_net_lem}
use Rattle.cell.specs.declared.Operation.{Operation}
use Rattle.cell.specs.Each.{Each}
use Rattle.cell.proofs.EachLaws.{each_map}
use Rattle.right.specs.Laid.{Ascending}
use Rattle.fields.specs.Field.{fault, on_number, on_read, number_at, net_at}
use Rattle.fields.specs.Accepted.{IsNumber}
use Rattle.fields.proofs.AcceptedLaws.{pair_parts, number_read, IsNet, net-read}
use Rattle.cell_reader.specs.declared.Record.{Record}
use Rattle.cell_reader.specs.Record.{on_record, record_at}
use Rattle.cell_reader.specs.Parse.{number_in, net_in}
use Rattle.cell_reader.specs.Accepted.{IsRecord}
use Rattle.cell_reader.proofs.AcceptedLaws.{record_read}
use Rattle.items.specs.Items.{refuse, push, ascending, listed_number_at, listed_net_at, AtSlot, replaces}
use Rattle.items.specs.Items.{replacement_at, pair_at}
use Rattle.items.proofs.Laws.{IsReplaced, replaces-read}
use Rattle.bound.specs.Costs.{sum_by}
use Rattle.cell_reader.specs.Record.{cell_record}

-- The items from a place on, up to the place `end`. R holds of what each is asked, its place, what it asks of the next,
-- and the place after it.
module _ {A : Type 0} (R : ℕ → ℕ → ℕ → ℕ → Type 0) (item : ℕ → A) where
  pub data Climb : ℕ → ℕ → List A → ℕ → Type 0 where
    done : {least at end : ℕ} → at ≡ end → Climb least at [] end
    taken :
        {least at above next : ℕ} {items : List A} {end : ℕ} → R least at above next → Climb above next items end →
        Climb least at (item at ∷ items) end

  -- A clean run of k items.
  pub record IsRun (k least at end : ℕ) (items : List A) : Type 0 where
    pub many : length items ≡ k
    pub climb : Climb least at items end

  module _
      (step : ℕ → ℕ → Result (ℕ × ℕ) Fault)
      (one : (least at above next : ℕ) → step least at ≡ Ok (above, next) → R least at above next) where
    pub climb_read :
        (k least at end : ℕ) → (ascending step item k least at).scan ≡ Ok end →
        IsRun k least at end (ascending step item k least at).items
    unfolding ascending
    climb_read zero least at end read = let ended : at ≡ end = cc in record { many = refl; climb = done ended }
    climb_read (suc k) least at end read = go (step least at) refl read (λ above next. climb_read k above next end)
      where
        go :
            (s : Result (ℕ × ℕ) Fault) → step least at ≡ s →
            (on_number s refuse (λ (above next : ℕ). push (item at) (ascending step item k above next))).scan
            ≡ Ok end →
            ((above next : ℕ) → (ascending step item k above next).scan ≡ Ok end →
            IsRun k above next end (ascending step item k above next).items) →
            IsRun (suc k) least at end
            (on_number s refuse (λ (above next : ℕ). push (item at) (ascending step item k above next))).items
        go (Err f) s e rest = let z : ◌≡◌ {A = ℕ} 0 1 = cc in absurd (omega arith)
        go (Ok (above, next)) s e rest =
            let later = rest above next e in
            record { many = ap suc later.many; climb = taken (one least at above next s) later.climb }

  pub climb_each :
      (P : A → Type 0) → ((least at above next : ℕ) → R least at above next → P (item at)) →
      {least at : ℕ} {items : List A} {end : ℕ} → Climb least at items end → Each P items
  climb_each P one (done ended) = tt
  climb_each P one (taken {least = least} {at = at} {above = above} {next = next} is rest) =
      (one least at above next is, climb_each P one rest)

  pub climb_words :
      (size : A → ℕ) → ((least at above next : ℕ) → R least at above next → next ≡ at + size (item at)) →
      {least at : ℕ} {items : List A} {end : ℕ} → Climb least at items end → end ≡ at + sum_by size items
  unfolding sum_by
  climb_words size one (done ended) = omega arith
  climb_words size one (taken {least = least} {at = at} {above = above} {next = next} is rest) =
      let here = one least at above next is in let later = climb_words size one rest in omega arith

  -- Each asks that the next be above it.
  pub climb_ascends :
      (key : A → ℕ) →
      ((least at above next : ℕ) → R least at above next → (least ≤ key (item at)) × (above ≡ key (item at) + 1)) →
      {least at : ℕ} {items : List A} {end : ℕ} → Climb least at items end →
      Each (λ (y : A). least ≤ key y) items × Ascending key items
  climb_ascends key one (done ended) = (tt, tt)
  climb_ascends key one (taken {least = least} {at = at} {above = above} {next = next} {items = items} is rest) =
      let here = one least at above next is in
      let later = climb_ascends key one rest in (
        (here.0, each_map items (λ y high. let low = here.0 in let up = here.1 in omega arith) later.0),
        (each_map items (λ y high. let up = here.1 in omega arith) later.0, later.1),
      )

listed-number :
    (w : List ℕ) (at : ℕ) {n next : ℕ} → listed_number_at w at ≡ Ok (n, next) →
    IsNumber w (2 ^ 29 - 1) (length w) at n next
unfolding listed_number_at
listed-number w at {n} {next} = go (ltb at (length w))
  where
    go :
        (b : Bool) → cond b (number_at w (2 ^ 29 - 1) (length w) at) (Err (fault 1 (length w))) ≡ Ok (n, next) →
        IsNumber w (2 ^ 29 - 1) (length w) at n next
    go true e = number_read w _ _ at e
    go false e = let z : ◌≡◌ {A = ℕ} 0 1 = cc in absurd (omega arith)

listed-net :
    (w : List ℕ) (total at : ℕ) {next : ℕ} → listed_net_at w total at ≡ Ok next →
    (next ≡ at + 1) × IsNet w total false (length w) at
unfolding listed_net_at
listed-net w total at {next} = go (ltb at (length w))
  where
    go :
        (b : Bool) → cond b (net_at w total false (length w) at) (Err (fault 1 (length w))) ≡ Ok next →
        (next ≡ at + 1) × IsNet w total false (length w) at
    go true e = net-read w total false (length w) at e
    go false e = let z : ◌≡◌ {A = ℕ} 0 1 = cc in absurd (omega arith)

-- A cell replacement that was read.
pub record IsReplacement (w : List ℕ) (total : ℕ) (stands : ℕ → AtSlot) (base least at above next : ℕ) : Type 0 where
  pub op : Operation
  pub width : ℕ
  pub up : above ≡ number_in w at + 1
  pub replaced : IsReplaced stands base least (number_in w at) op width
  pub record_is : IsRecord w total (at + 1) op width next

pub replacement-read :
    (w : List ℕ) (total : ℕ) (stands : ℕ → AtSlot) (base least at above next : ℕ) →
    replacement_at w total (replaces stands base) least at ≡ Ok (above, next) →
    IsReplacement w total stands base least at above next
unfolding replacement_at
replacement-read w total stands base least at above next read = slotted (listed_number_at w at) refl read
  where
    Goal : Type 0
    Goal = IsReplacement w total stands base least at above next

    right :
        (slot start : ℕ) → IsNumber w (2 ^ 29 - 1) (length w) at slot start → (op : Operation) (width after : ℕ) →
        IsRecord w total start op width after → (b : Bool) → replaces stands base least slot op width ≡ b →
        cond {A = Result (ℕ × ℕ) Fault} b (Ok (slot + 1, after)) (Err (fault 12 at)) ≡ Ok (above, next) → Goal
    right slot start is op width after new true b e =
        let value : slot ≡ number_in w at = is.value in
        let begins : start ≡ at + 1 = is.after in
        let parts = pair_parts e in
        let last : after ≡ next = parts.1 in
        let top : above ≡ slot + 1 = sym parts.0 in
        record {
          op = op;
          width = width;
          up = omega arith;
          replaced = rw value at (replaces-read stands base least slot op width b);
          record_is = rw last at (rw begins at new);
        }
    right slot start is op width after new false b e = let z : ◌≡◌ {A = ℕ} 0 1 = cc in absurd (omega arith)

    recorded :
        (slot start : ℕ) → IsNumber w (2 ^ 29 - 1) (length w) at slot start → (r : Result Record Fault) →
        record_at w total start ≡ r →
        on_record r Err (λ (op : Operation) (width after : ℕ).
        cond {A = Result (ℕ × ℕ) Fault} (replaces stands base least slot op width) (Ok (slot + 1, after)) (Err (fault 12 at)))
        ≡ Ok (above, next) → Goal
    recorded slot start is (Err f) r e = let z : ◌≡◌ {A = ℕ} 0 1 = cc in absurd (omega arith)
    recorded slot start is (Ok x) r e =
        right slot start is x.op x.width x.next (record_read w total start r) (replaces stands base least slot x.op x.width)
        refl e

    slotted :
        (v : Result (ℕ × ℕ) Fault) → listed_number_at w at ≡ v →
        on_number v Err (λ (slot start : ℕ).
        on_record (record_at w total start) Err (λ (op : Operation) (width after : ℕ).
        cond {A = Result (ℕ × ℕ) Fault} (replaces stands base least slot op width) (Ok (slot + 1, after)) (Err (fault 12 at))))
        ≡ Ok (above, next) → Goal
    slotted (Err f) v e = let z : ◌≡◌ {A = ℕ} 0 1 = cc in absurd (omega arith)
    slotted (Ok (slot, start)) v e = recorded slot start (listed-number w at v) (record_at w total start) refl e

-- A net replacement that was read.
pub record IsPair (w : List ℕ) (total least at above next : ℕ) : Type 0 where
  pub from_is : IsNet w total false (length w) at
  pub to_is : IsNet w total false (length w) (at + 1)
  pub low : least ≤ payload_of_net (net_in w at)
  pub up : above ≡ payload_of_net (net_in w at) + 1
  pub after : next ≡ at + 2

pub pair_read :
    (w : List ℕ) (total least at above next : ℕ) → pair_at w total least at ≡ Ok (above, next) →
    IsPair w total least at above next
unfolding pair_at
pair_read w total least at above next read = first (listed_net_at w total at) refl read
  where
    Goal : Type 0
    Goal = IsPair w total least at above next

    right :
        IsNet w total false (length w) at → IsNet w total false (length w) (at + 1) → (after : ℕ) → after ≡ at + 1 + 1 →
        (b : Bool) → leb least (number_in w at) ≡ b →
        cond {A = Result (ℕ × ℕ) Fault} b (Ok (number_in w at + 1, after)) (Err (fault 13 at)) ≡ Ok (above, next) → Goal
    right from to after place false b e = let z : ◌≡◌ {A = ℕ} 0 1 = cc in absurd (omega arith)
    right from to after place true b e =
        let low : least ≤ number_in w at = leb-true _ _ b in
        let same : payload_of_net (net_in w at) ≡ number_in w at = payload_of_net_lem (number_in w at) in
        let parts = pair_parts e in
        let top : above ≡ number_in w at + 1 = sym parts.0 in
        let last : next ≡ after = sym parts.1 in
        record { from_is = from; to_is = to; low = omega arith; up = omega arith; after = omega arith }

    second :
        IsNet w total false (length w) at → (s : Result ℕ Fault) → listed_net_at w total (at + 1) ≡ s →
        on_read s Err (λ (after : ℕ).
        cond {A = Result (ℕ × ℕ) Fault} (leb least (number_in w at)) (Ok (number_in w at + 1, after)) (Err (fault 13 at)))
        ≡ Ok (above, next) →
        Goal
    second from (Err f) s e = let z : ◌≡◌ {A = ℕ} 0 1 = cc in absurd (omega arith)
    second from (Ok after) s e =
        let is = listed-net w total (at + 1) s in right from is.1 after is.0 (leb least (number_in w at)) refl e

    first :
        (s : Result ℕ Fault) → listed_net_at w total at ≡ s →
        on_read s Err (λ (to : ℕ).
        on_read (listed_net_at w total to) Err (λ (after : ℕ).
        cond {A = Result (ℕ × ℕ) Fault} (leb least (number_in w at)) (Ok (number_in w at + 1, after)) (Err (fault 13 at))))
        ≡ Ok (above, next) →
        Goal
    first (Err f) s e = let z : ◌≡◌ {A = ℕ} 0 1 = cc in absurd (omega arith)
    first (Ok to) s e =
        let is = listed-net w total at s in
        let place : to ≡ at + 1 = is.0 in
        second is.1 (listed_net_at w total (at + 1)) refl (rw place at e)
