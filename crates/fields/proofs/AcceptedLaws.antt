-- Laws of the definitions of Accepted.
use Prim.Native.Nat.{ℕ, zero, suc, ◌+◌, ◌<◌, ◌≤◌, ◌/◌, ◌%◌}
use mathlib.Core.Path.{◌≡◌, refl, sym, ap}
use mathlib.Core.List.{List}
use mathlib.Core.Bool.{Bool, true, false, cond}
use native.Mathlib.Omega.{arith}
use native.Mathlib.Nat.{add-zero}
use lib.ListN.{get_or, length}
use lib.Dec.{ltb, leb, eqb}
use borrow.Author.Tests.{ltb-true, leb-true, eqb-true}
use Rattle.std.specs.Prelude.{Option, Some, None, Result, Ok, Err}
use Rattle.logic.specs.declared.Fault.{Fault}
use Rattle.logic.specs.Word.{kind_of, payload_of}
use Rattle.cell.specs.Operation.{operation_of}
use Rattle.cell.specs.declared.Operation.{Operation}
use Rattle.fields.specs.declared.Head.{Head}
use Rattle.fields.specs.Field.{fault, on_read, is_constant, is_known, most_kind, number_at, net_at, bit_at, scan_bit}
use Rattle.fields.specs.Field.{constant_at, scan_many, ends_at}
use Rattle.fields.specs.Head.{head, record_of, head_of, head_at}
use Rattle.fields.specs.Accepted.{IsNumber}

-- The parts of a pair, and of a head, that were read.
pub pair_parts : {A B : Type 0} {a x : A} {b y : B} → ◌≡◌ {A = Result (A × B) Fault} (Ok (a, b)) (Ok (x, y)) →
    (a ≡ x) × (b ≡ y)
pair_parts {A} {B} {a} {x} {b} {y} e =
    let same : ◌≡◌ {A = A × B} (a, b) (x, y) = cc in (ap (λ (p : A × B). p.0) same, ap (λ (p : A × B). p.1) same)

head_parts : {op o : Operation} {first f end n : ℕ} →
    ◌≡◌ {A = Result Head Fault} (Ok (head op first end)) (Ok (head o f n)) → (op ≡ o) × ((first ≡ f) × (end ≡ n))
head_parts {op} {o} {first} {f} {end} {n} e =
    let same : head op first end ≡ head o f n = cc in
    (ap (λ (h : Head). h.op) same, (ap (λ (h : Head). h.first) same, ap (λ (h : Head). h.end) same))

pub number_read : (w : List ℕ) (bound end at : ℕ) {n next : ℕ} → number_at w bound end at ≡ Ok (n, next) →
    IsNumber w bound end at n next
unfolding number_at
number_read w bound end at {n} {next} read =
    go (ltb at end) (eqb (kind_of (get_or w at 0)) 3) (leb (payload_of (get_or w at 0)) bound) refl refl refl read
  where
    value : ℕ
    value = payload_of (get_or w at 0)

    go :
        (inside right bounded : Bool) → ltb at end ≡ inside → eqb (kind_of (get_or w at 0)) 3 ≡ right → leb value bound
        ≡ bounded →
        cond {A = Result (ℕ × ℕ) Fault} inside
        (cond right (cond bounded (Ok (value, at + 1)) (Err (fault 4 at))) (Err (fault 2 at)))
        (Err (fault 5 at))
        ≡ Ok (n, next) → IsNumber w bound end at n next
    go true true true i k b e =
        let parts : (value ≡ n) × (at + 1 ≡ next) = pair_parts e in
        let low : value ≤ bound = leb-true _ _ b in
        record {
          inside = ltb-true _ _ i;
          kind = eqb-true _ _ k;
          value = sym parts.0;
          bounded = rw parts.0 at low;
          after = sym parts.1;
        }
    go true true false i k b e = let z : ◌≡◌ {A = ℕ} 0 1 = cc in absurd (omega arith)
    go true false b i k _ e = let z : ◌≡◌ {A = ℕ} 0 1 = cc in absurd (omega arith)
    go false r b i k _ e = let z : ◌≡◌ {A = ℕ} 0 1 = cc in absurd (omega arith)

-- A head that was read: a known operation, and a count that keeps the record in the list.
pub record IsHead (w : List ℕ) (at : ℕ) (op : Operation) (first end : ℕ) : Type 0 where
  pub inside : at < length w
  pub kind : kind_of (get_or w at 0) ≡ 2
  pub decoded : operation_of (payload_of (get_or w at 0) % 32) ≡ Some op
  pub start : first ≡ at + 1
  pub finish : end ≡ at + 1 + payload_of (get_or w at 0) / 32
  pub fits : end ≤ length w

pub head_read : (w : List ℕ) (at : ℕ) {op : Operation} {first end : ℕ} → head_at w at ≡ Ok (head op first end) → IsHead w
    at op first end
unfolding head_at record_of
head_read w at {op} {first} {end} read =
    go (ltb at (length w)) (eqb (kind_of (get_or w at 0)) 2) (operation_of (payload_of (get_or w at 0) % 32)) refl refl refl
    read
  where
    count : ℕ
    count = payload_of (get_or w at 0) / 32

    known :
        at < length w → kind_of (get_or w at 0) ≡ 2 → (o : Operation) →
        operation_of (payload_of (get_or w at 0) % 32) ≡ Some o → (fits : Bool) →
        leb (at + 1 + count) (length w) ≡ fits →
        cond fits (Ok (head o (at + 1) (at + 1 + count))) (Err (fault 1 (length w))) ≡ Ok (head op first end) →
        IsHead w at op first end
    known i k o d true f e =
        let parts : (o ≡ op) × ((at + 1 ≡ first) × (at + 1 + count ≡ end)) = head_parts e in
        let low : at + 1 + count ≤ length w = leb-true _ _ f in
        record {
          inside = i;
          kind = k;
          decoded = rw parts.0 at d;
          start = sym parts.1.0;
          finish = sym parts.1.1;
          fits = rw parts.1.1 at low;
        }
    known i k o d false f e = let z : ◌≡◌ {A = ℕ} 0 1 = cc in absurd (omega arith)

    go :
        (inside right : Bool) (d : Option Operation) → ltb at (length w) ≡ inside → eqb (kind_of (get_or w at 0)) 2 ≡ right →
        operation_of (payload_of (get_or w at 0) % 32) ≡ d →
        cond inside (cond right (head_of d count (length w) at) (Err (fault 2 at)))
        (Err (fault 1 (length w)))
        ≡ Ok (head op first end) → IsHead w at op first end
    go true true (Some o) i k d e =
        known (ltb-true _ _ i) (eqb-true _ _ k) o d (leb (at + 1 + count) (length w)) refl e
    go true true None i k d e = let z : ◌≡◌ {A = ℕ} 0 1 = cc in absurd (omega arith)
    go true false d i k _ e = let z : ◌≡◌ {A = ℕ} 0 1 = cc in absurd (omega arith)
    go false r d i k _ e = let z : ◌≡◌ {A = ℕ} 0 1 = cc in absurd (omega arith)

-- A record whose fields were read ends where its head says.
pub ends_read : (end at : ℕ) {next : ℕ} → ends_at end at ≡ Ok next → (at ≡ end) × (next ≡ end)
unfolding ends_at
ends_read end at {next} read = go (eqb at end) refl read
  where
    go : (right : Bool) → eqb at end ≡ right → cond right (Ok end) (Err (fault 5 at)) ≡ Ok next → (at ≡ end)
        × (next ≡ end)
    go true k e = (eqb-true _ _ k, cc)
    go false k e = let z : ◌≡◌ {A = ℕ} 0 1 = cc in absurd (omega arith)

-- A net that was read: it stands in the record and is a constant or a slot below the total.
pub record IsNet (w : List ℕ) (total : ℕ) (may_invert : Bool) (end at : ℕ) : Type 0 where
  pub inside : at < end
  pub kind : kind_of (get_or w at 0) ≤ most_kind may_invert
  pub known : is_known total (payload_of (get_or w at 0)) ≡ true

pub net-read :
    (w : List ℕ) (total : ℕ) (may_invert : Bool) (end at : ℕ) {next : ℕ} → net_at w total may_invert end at ≡ Ok next →
    (next ≡ at + 1) × IsNet w total may_invert end at
unfolding net_at
net-read w total may_invert end at {next} read =
    go (ltb at end) (leb (kind_of (get_or w at 0)) (most_kind may_invert)) (is_known total (payload_of (get_or w at 0)))
    refl refl refl read
  where
    go :
        (inside right known : Bool) → ltb at end ≡ inside → leb (kind_of (get_or w at 0)) (most_kind may_invert) ≡ right →
        is_known total (payload_of (get_or w at 0)) ≡ known →
        cond inside (cond right (cond known (Ok (at + 1)) (Err (fault 6 at))) (Err (fault 2 at)))
        (Err (fault 5 at)) ≡ Ok next →
        (next ≡ at + 1) × IsNet w total may_invert end at
    go true true true i k n e = (cc, record { inside = ltb-true _ _ i; kind = leb-true _ _ k; known = n })
    go true true false i k n e = let z : ◌≡◌ {A = ℕ} 0 1 = cc in absurd (omega arith)
    go true false n i k _ e = let z : ◌≡◌ {A = ℕ} 0 1 = cc in absurd (omega arith)
    go false r n i k _ e = let z : ◌≡◌ {A = ℕ} 0 1 = cc in absurd (omega arith)

-- A constant that was read.
pub constant-read : (w : List ℕ) (end at : ℕ) {next : ℕ} → constant_at w end at ≡ Ok next → next ≡ at + 1
unfolding constant_at bit_at
constant-read w end at {next} read =
    go (ltb at end) (eqb (kind_of (get_or w at 0)) 0) (is_constant (payload_of (get_or w at 0))) read
  where
    go :
        (inside right constant : Bool) →
        scan_bit (cond inside (cond right (cond constant (Ok (Some (at + 1))) (Ok None)) (Err (fault 2 at)))
        (Err (fault 5 at))) at ≡ Ok next →
        next ≡ at + 1
    go true true true e = cc
    go true true false e = let z : ◌≡◌ {A = ℕ} 0 1 = cc in absurd (omega arith)
    go true false n e = let z : ◌≡◌ {A = ℕ} 0 1 = cc in absurd (omega arith)
    go false r n e = let z : ◌≡◌ {A = ℕ} 0 1 = cc in absurd (omega arith)

-- A run of fields that was read: each was, and they stand one after another.
module _ (step : ℕ → Result ℕ Fault) (P : ℕ → Type 0) (one : (at next : ℕ) → step at ≡ Ok next → (next ≡ at + 1) × P at) where
  each : (n at : ℕ) → P at → ((i : ℕ) → i < n → P (at + 1 + i)) → (i : ℕ) → i < suc n → P (at + i)
  each n at p q zero below = rw add-zero p
  each n at p q (suc i) below = let shift : at + suc i ≡ at + 1 + i = omega arith in rw shift (q i (omega arith))

  pub many_read : (n at next : ℕ) → scan_many step n at ≡ Ok next → (next ≡ at + n) × ((i : ℕ) → i < n → P (at + i))
  unfolding scan_many
  many_read zero at next read = (rw add-zero (cc), λ i below. absurd (omega arith))
  many_read (suc n) at next read = go (step at) refl read (many_read n (at + 1) next)
    where
      go :
          (s : Result ℕ Fault) → step at ≡ s → on_read s Err (scan_many step n) ≡ Ok next →
          (scan_many step n (at + 1) ≡ Ok next → (next ≡ at + 1 + n) × ((i : ℕ) → i < n → P (at + 1 + i))) →
          (next ≡ at + suc n) × ((i : ℕ) → i < suc n → P (at + i))
      go (Err f) s e rest = let z : ◌≡◌ {A = ℕ} 0 1 = cc in absurd (omega arith)
      go (Ok k) s e rest =
          let first : (k ≡ at + 1) × P at = one at k s in
          let same : k ≡ at + 1 = first.0 in
          let later : (next ≡ at + 1 + n) × ((i : ℕ) → i < n → P (at + 1 + i)) = rest (rw same at e) in
          let ends : next ≡ at + 1 + n = later.0 in
          (omega arith, each n at first.1 later.1)

-- A scan followed by another was clean: both were.
pub record Both (s : Result ℕ Fault) (f : ℕ → Result ℕ Fault) (next : ℕ) : Type 0 where
  pub place : ℕ
  pub first : s ≡ Ok place
  pub second : f place ≡ Ok next

pub both_read : (s : Result ℕ Fault) (f : ℕ → Result ℕ Fault) {next : ℕ} → on_read s Err f ≡ Ok next → Both s f next
both_read (Ok k) f e = record { place = k; first = refl; second = e }
both_read (Err f₁) f e = let z : ◌≡◌ {A = ℕ} 0 1 = cc in absurd (omega arith)
