-- Laws of net replacements: what replaces a Void's slot, looked up, is what the list's pair of that slot says. Froms
-- ascend, so that a slot has one pair.
use mathlib.Core.Path.{◌≡◌, refl, ap}
use mathlib.Core.Bool.{Bool, true, false, not, cond, ◌&&◌, false≢true}
use mathlib.Core.Option.{some}
use mathlib.Core.List.{List, [], ◌∷◌}
use Prim.Native.Nat.{ℕ, ◌+◌, ◌<◌}
use native.Mathlib.Omega.{arith}
use lib.Dec.{eqb→eq}
use Rattle.working_out.proofs.OrderLaws.{eqb_same}
use Rattle.logic.specs.Net.{Net, constant, slot, payload_of_net}
use Rattle.cell.specs.Design.{Design, NetPair, cell_of}
use Rattle.cell.specs.Role.{role, is_void, is_dff}
use Rattle.cell.specs.Each.{Each}
use Rattle.right.specs.Laid.{Ascending}
use Rattle.working_out.specs.Reading.{same_net, replacement_in, equal, of_void, of_dffs, ordinary, net_role, pair_of}

pub same-slot : (n : Net) (i : ℕ) → same_net n (slot i) ≡ true → n ≡ slot i
same-slot (constant t) i e = absurd (false≢true e)
same-slot (slot j) i e = ap slot (eqb→eq j i (rw e tt))

-- The pair of a Void's net, of two nets that differ.
void-pair : (d : Design) (p : NetPair) → pair_of d p ≡ of_void
    → (same_net p.from p.to ≡ false) × (is_void (net_role d p.from) ≡ true)
void-pair d p e =
    go (same_net p.from p.to) refl (is_void (net_role d p.from)) refl
    (is_dff (net_role d p.from) && is_dff (net_role d p.to)) e
  where
    go : (a : Bool) → same_net p.from p.to ≡ a → (b : Bool) → is_void (net_role d p.from) ≡ b → (c : Bool)
        → cond a equal (cond b of_void (cond c of_dffs ordinary)) ≡ of_void
        → (same_net p.from p.to ≡ false) × (is_void (net_role d p.from) ≡ true)
    go false q true r c e = (q, r)
    go true q b r c e = absurd (let z : ◌≡◌ {A = ℕ} 0 1 = cc in omega arith)
    go false q false r true e = absurd (let z : ◌≡◌ {A = ℕ} 0 1 = cc in omega arith)
    go false q false r false e = absurd (let z : ◌≡◌ {A = ℕ} 0 1 = cc in omega arith)

pub pair-void : (d : Design) (p : NetPair) → same_net p.from p.to ≡ false → is_void (net_role d p.from) ≡ true
    → pair_of d p ≡ of_void
pair-void d p e v = rw (e, v)

-- What is looked up stands in the list.
above : (k : ℕ) (pairs : List NetPair) (i : ℕ) (to : Net) → Each (λ (q : NetPair). k < payload_of_net q.from) pairs
    → replacement_in pairs i ≡ some to → k < i + 2
unfolding replacement_in
above k [] i to low e = absurd (let z : ◌≡◌ {A = ℕ} 0 1 = cc in omega arith)
above k (p ∷ pairs) i to low e = go (above k pairs i to low.1) (same_net p.from (slot i)) refl e
  where
    go : (replacement_in pairs i ≡ some to → k < i + 2) → (a : Bool) → same_net p.from (slot i) ≡ a
        → cond (a && not (same_net p.from p.to)) (some p.to) (replacement_in pairs i) ≡ some to → k < i + 2
    go rec true q f = rw (same-slot p.from i q) at low.0
    go rec false q f = rec f

module _ (d : Design) (Q : ℕ → Net → Type 0) where
  -- Of a pair, and of a slot.
  abbrev pub OfPair : NetPair → Type 0
  OfPair p = pair_of d p ≡ of_void → (i : ℕ) → p.from ≡ slot i → Q i p.to

  abbrev pub OfSlot : List NetPair → Type 0
  OfSlot pairs = (i : ℕ) (to : Net) → is_void (role (cell_of d i).cell) ≡ true → replacement_in pairs i ≡ some to → Q i to

  pub slot_of_pairs : (pairs : List NetPair) → Each OfPair pairs → OfSlot pairs
  unfolding replacement_in
  slot_of_pairs [] each i to v e = absurd (let z : ◌≡◌ {A = ℕ} 0 1 = cc in omega arith)
  slot_of_pairs (p ∷ pairs) each i to v e =
      go (slot_of_pairs pairs each.1 i to v) (same_net p.from (slot i)) refl (same_net p.from p.to) refl e
    where
      go : (replacement_in pairs i ≡ some to → Q i to) → (a : Bool) → same_net p.from (slot i) ≡ a
          → (b : Bool) → same_net p.from p.to ≡ b
          → cond (a && not b) (some p.to) (replacement_in pairs i) ≡ some to → Q i to
      go rec true q true r f = rec f
      go rec true q false r f =
          let from = same-slot p.from i q in
          let same : p.to ≡ to = cc in
          rw same at (each.0 (pair-void d p r (rw from v)) i from)
      go rec false q b r f = rec f

  pub pairs_of_slot : (pairs : List NetPair) → Ascending (λ (p : NetPair). payload_of_net p.from) pairs → OfSlot pairs
      → Each OfPair pairs
  unfolding replacement_in
  pairs_of_slot [] low h = tt
  pairs_of_slot (p ∷ pairs) low h =
      (here, pairs_of_slot pairs low.1 (λ i to v e. h i to v (later i to e (same_net p.from (slot i)) refl)))
    where
      here : OfPair p
      here e i from =
          let k = void-pair d p e in
          let found : same_net p.from (slot i) ≡ true = rw from (eqb_same i) in
          h i p.to (rw from at k.1) (rw (found, k.0))

      later : (i : ℕ) (to : Net) → replacement_in pairs i ≡ some to → (a : Bool) → same_net p.from (slot i) ≡ a
          → replacement_in (p ∷ pairs) i ≡ some to
      later i to e false q = rw q e
      later i to e true q =
          let over = above (payload_of_net p.from) pairs i to low.0 e in
          let is = ap payload_of_net (same-slot p.from i q) in
          absurd (omega arith)
