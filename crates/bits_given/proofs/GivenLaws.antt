-- Laws of the definitions of Given.
use mathlib.Core.Path.{◌≡◌, refl, ap, ◌∙◌}
use mathlib.Core.Bool.{Bool, true, false, not, cond, true≢false}
use mathlib.Core.List.{List, ◌∷◌}
use Rattle.std.specs.Prelude.{Option, Some, None}
use Prim.Native.Nat.{ℕ, suc, ◌+◌, ◌-◌, ◌^◌, ◌≤◌, ◌<◌}
use native.Mathlib.Nat.{add-zero}
use native.Mathlib.Numerals.{add-one}
use native.Mathlib.Omega.{arith}
use lib.ListN.{length, get_or, drop, drop_of_length-le}
use lib.Seq.{drop-cons}
use lib.Dec.{ltb}
use borrow.Author.Tests.{ltb-true, ltb-false}
use Rattle.bitvec.specs.Bits.{bit}
use Rattle.engine.specs.Call.{Call, Name}
use Rattle.engine.specs.Call as c
use Rattle.engine.specs.Encode.{Op, makes_term, operation_at, count_at, bare, next_at, call_of, calls_from, decode}
use Rattle.engine.specs.Encode as o
use Rattle.engine.proofs.Steps.{calls-end, calls-step, calls_enough}
use Rattle.call_list.specs.Operations.{is_declare}
use Rattle.call_list.specs.Literal.{payloads}
use Rattle.call_list.proofs.CursorsLaws.{nothing_read, cursor_next, bit-low}
use Rattle.call_list.specs.declared.Cursor.{Cursor}
use Rattle.bits_given.specs.Given.{bits_fault, bits_wrong, wrong_bits}

declare-fault : (k : ℕ) (n : Name) (w : ℕ) (cs : List Call) (l : List ℕ) (d : ℕ)
    → bits_fault k (c.declare n w ∷ cs) (drop d l)
    ≡ cond (bits_wrong l d w) (Some k) (bits_fault (suc k) cs (drop (suc d) l))
unfolding bits_fault
declare-fault k n w cs l d = go (ltb d (length l)) refl (ltb (get_or l d 0) (2 ^ w)) refl
  where
    go : (a : Bool) → ltb d (length l) ≡ a → (b : Bool) → ltb (get_or l d 0) (2 ^ w) ≡ b
        → bits_fault k (c.declare n w ∷ cs) (drop d l)
        ≡ cond (cond a (not b) true) (Some k) (bits_fault (suc k) cs (drop (suc d) l))
    go true p true q = rw (drop-cons l d 0 (ltb-true d (length l) p), q)
    go true p false q = rw (drop-cons l d 0 (ltb-true d (length l) p), q)
    go false p b q = rw (drop_of_length-le l (ltb-false d (length l) p))

-- The name that a declaration's payloads spell.
abbrev pub name_of : (ℕ → ℕ) → Name
name_of p = record { letter = get_or o.letters (p 0) c.n; index = p 1; suffix = get_or o.suffixes (p 2) c.none }

fault-op : (op : Op) (m : ℕ) (p : ℕ → ℕ) (cs : List Call) (l : List ℕ) (k d : ℕ)
    → bits_fault k (call_of op m p ∷ cs) (drop d l)
    ≡ cond (cond (is_declare op) (bits_wrong l d (p 3)) false) (Some k)
    (bits_fault (k + bit (makes_term op)) cs (drop (d + bit (is_declare op)) l))
unfolding bits_fault
fault-op (o.term op) m p cs l k d = rw (add-one k, add-zero d)
fault-op o.declare m p cs l k d = rw (add-one k, add-one d) (declare-fault k (name_of p) (p 3) cs l d)
fault-op o.assert m p cs l k d = rw (add-zero k, add-zero d)
fault-op o.check m p cs l k d = rw (add-zero k, add-zero d)
fault-op o.unknown m p cs l k d = rw (add-zero k, add-zero d)

module _ (w bits : List ℕ) (at terms declared : ℕ) (inside : at < length w) where
  -- At a record, the fault of the bits is there, or what remains says it.
  pub fault-step : (n : ℕ) → bits_fault terms (calls_from (suc n) w at) (drop declared bits)
      ≡ cond (wrong_bits w bits declared at) (Some terms)
      (bits_fault (terms + bit (makes_term (operation_at w at))) (calls_from n w (next_at bare w at))
      (drop (declared + bit (is_declare (operation_at w at))) bits))
  fault-step n =
      rw (calls-step n w at inside)
      (fault-op (operation_at w at) (count_at w at) (payloads w at) (calls_from n w (next_at bare w at)) bits terms
      declared)

  -- The same, where as many records may be read as words are left.
  fault_turn : bits_fault terms (calls_from (length w - at) w at) (drop declared bits)
      ≡ cond (wrong_bits w bits declared at) (Some terms)
      (bits_fault (terms + bit (makes_term (operation_at w at)))
      (calls_from (length w - next_at bare w at) w (next_at bare w at))
      (drop (declared + bit (is_declare (operation_at w at))) bits))
  fault_turn =
      let fuel : length w - at ≡ suc (length w - at - 1) = omega arith in
      rw (
        fuel,
        ← calls_enough (length w - at - 1) (length w - next_at bare w at) w (next_at bare w at) (omega arith)
            (omega arith),
      )
      (fault-step (length w - at - 1))

-- What the loop over the records keeps: the fault of the bits is what the records left say.
pub record BitsTo (w bits : List ℕ) (done : Cursor) : Type 0 where
  pub few-terms : done.terms ≤ done.at
  pub few-names : done.declared ≤ done.at
  pub left :
      bits_fault 0 (decode w) bits
      ≡ bits_fault done.terms (calls_from (length w - done.at) w done.at) (drop done.declared bits)

pub bits-start : (w bits : List ℕ) → BitsTo w bits nothing_read
bits-start w bits = record {
  few-terms = omega arith;
  few-names = omega arith;
  left = ap (λ (n : ℕ). bits_fault 0 (calls_from n w 0) bits) (let e : length w ≡ length w - 0 = omega arith in e);
}

module _ {w bits : List ℕ} {done : Cursor} (k : BitsTo w bits done) where
  pub bits-here : done.at < length w → wrong_bits w bits done.declared done.at ≡ true
      → bits_fault 0 (decode w) bits ≡ Some done.terms
  bits-here inside wrong = k.left ∙ fault_turn w bits done.at done.terms done.declared inside ∙ rw wrong

  pub bits-next : done.at < length w → wrong_bits w bits done.declared done.at ≡ false
      → BitsTo w bits (cursor_next w done)
  bits-next inside right = record {
    few-terms = omega (arith, k.few-terms, bit-low (makes_term (operation_at w done.at)));
    few-names = omega (arith, k.few-names, bit-low (is_declare (operation_at w done.at)));
    left = k.left ∙ fault_turn w bits done.at done.terms done.declared inside ∙ rw right;
  }

  pub bits-end : length w ≤ done.at → bits_fault 0 (decode w) bits ≡ None
  unfolding bits_fault
  bits-end past = k.left ∙ rw (calls-end (length w - done.at) w done.at past)

-- The bits fit where no fault of them is found.
pub no_fault : (b : Bool) (k : ℕ) (later : Option ℕ) → cond b (Some k) later ≡ None → (b ≡ false) × (later ≡ None)
no_fault true k later e = let z : ◌≡◌ {A = ℕ} 0 1 = cc in absurd (omega arith)
no_fault false k later e = (refl, e)

pub bits-low : (bits : List ℕ) (declared width : ℕ) → bits_wrong bits declared width ≡ false →
    get_or bits declared 0 < 2 ^ width
bits-low bits declared width = go (ltb declared (length bits)) (ltb (get_or bits declared 0) (2 ^ width)) refl
  where
    go : (a b : Bool) → ltb (get_or bits declared 0) (2 ^ width) ≡ b → cond a (not b) true ≡ false →
        get_or bits declared 0 < 2 ^ width
    go true true q e = ltb-true (get_or bits declared 0) (2 ^ width) q
    go true false q e = absurd (true≢false e)
    go false b q e = absurd (true≢false e)
