-- The kind of a net replacement by the words of the table is the design's: numbers are equal where the nets are, and
-- the words give what the design's roles decide. Assumes nothing.
use mathlib.Core.Path.{◌≡◌, refl, sym, ap, ◌∙◌}
use mathlib.Core.Bool.{Bool, true, false, ◌&&◌, false≢true}
use mathlib.Core.List.{List}
use Prim.Native.Nat.{ℕ, zero, suc, ◌<◌, ◌^◌}
use native.Mathlib.Omega.{arith}
use lib.Dec.{eqb}
use borrow.Author.Tests.{eqb-true, eqb-false, eq-eqb, ne_eqb}
use Rattle.logic.specs.Net.{Net, constant, slot, net_of, driver_of, driver_of_net, payload_of_net}
use Rattle.logic.proofs.NetLaws.{driver_of_payload, payload_of_net_lem}
use Rattle.logic.specs.Trit.{trit_number}
use Rattle.logic.specs.declared.Trit.{Trit}
use Rattle.logic.specs.declared.Trit.TheVariants.{Zero, One, Undef}
use Rattle.cell.specs.Design.{Design, total}
use Rattle.right.specs.Nets.{Within}
use Rattle.working_out.specs.Reading.{same_net, net_role, pair_of}
use Rattle.slots.specs.Tells.{standing_of, Tells}
use Rattle.slots.specs.Pairs.{pair_kind, standing_at, standing_by, pair_in, IsKind}
use Rattle.slots.specs.declared.Standing.{Standing}
use Rattle.slots.specs.declared.Standing.TheVariants.{Void, Dff, Other}
use Rattle.slots.specs.declared.Pair.{Pair}
use Rattle.slots.specs.declared.Pair.TheVariants.{Equal, OfVoid, OfDffs, Ordinary}
use Rattle.slots.proofs.Roles.{void_stands, dff_stands}

-- ---- Equal nets have equal numbers.
same-trit : (t u : Trit) → trit_number t ≡ trit_number u → t ≡ u
same-trit Zero Zero e = refl
same-trit Zero One e = absurd (omega arith)
same-trit Zero Undef e = absurd (omega arith)
same-trit One Zero e = absurd (omega arith)
same-trit One One e = refl
same-trit One Undef e = absurd (omega arith)
same-trit Undef Zero e = absurd (omega arith)
same-trit Undef One e = absurd (omega arith)
same-trit Undef Undef e = refl

same-net : (a b : Net) → same_net a b ≡ true → a ≡ b
same-net (constant t) (constant u) e = ap constant (same-trit t u (eqb-true _ _ e))
same-net (constant t) (slot j) e = absurd (false≢true e)
same-net (slot i) (constant u) e = absurd (false≢true e)
same-net (slot i) (slot j) e = ap slot (eqb-true i j e)

itself : (a : Net) → same_net a a ≡ true
itself (constant t) = eq-eqb (trit_number t) (trit_number t) refl
itself (slot i) = eq-eqb i i refl

same_number : (from to : ℕ) → eqb from to ≡ same_net (net_of from) (net_of to)
same_number from to = go (eqb from to) refl (same_net (net_of from) (net_of to)) refl
  where
    go : (a : Bool) → eqb from to ≡ a → (b : Bool) → same_net (net_of from) (net_of to) ≡ b → a ≡ b
    go true a b e = sym (itself (net_of to)) ∙ ap (λ (n : ℕ). same_net (net_of n) (net_of to)) (sym (eqb-true from to a))
        ∙ e
    go false a false e = refl
    go false a true e =
        let same : from ≡ to =
        sym (payload_of_net_lem from) ∙ ap payload_of_net (same-net (net_of from) (net_of to) e) ∙ payload_of_net_lem to in
        absurd (eqb-false from to a same)

-- ---- What the table tells.
module _ {d : Design} {table : List ℕ} (tells : Tells d table) where
  standing-net : (n : Net) → Within (total d) n → standing_at table (driver_of_net n) ≡ standing_of (net_role d n)
  standing-net (constant t) within = refl
  standing-net (slot i) within = tells.roles i within

  standing_payload :
      (p : ℕ) → p < 2 ^ 29 → Within (total d) (net_of p) → standing_at table (driver_of p)
      ≡ standing_of (net_role d (net_of p))
  standing_payload p low within = ap (standing_at table) (driver_of_payload p low) ∙ standing-net (net_of p) within

  pub tells-pair :
      (from to : ℕ) → from < 2 ^ 29 → to < 2 ^ 29 → Within (total d) (net_of from) → Within (total d) (net_of to) →
      pair_in table from to ≡ pair_of d (record { from = net_of from; to = net_of to })
  tells-pair from to from_low to_low from_in to_in =
      let from-stands = standing_payload from from_low from_in in
      let to-stands = standing_payload to to_low to_in in
      rw (
        same_number from to,
        from-stands,
        to-stands,
        void_stands (net_role d (net_of from)),
        dff_stands (net_role d (net_of from)),
        dff_stands (net_role d (net_of to)),
      )

-- ---- The promise, from the tests of the words.
is-kind :
    {table : List ℕ} {from to : ℕ} (kind : Pair) → pair_kind kind ≡ pair_in table from to → IsKind table from to kind
is-kind {table} {from} {to} kind same = record {
  same = same;
  told = λ d tells from_low to_low from_in to_in. same ∙ tells-pair tells from to from_low to_low from_in to_in;
}

pub kind-equal : (table : List ℕ) (from to : ℕ) → from ≡ to → IsKind table from to Equal
kind-equal table from to same = is-kind Equal (rw (eq-eqb from to same))

-- ---- What a number says of what stands at a slot.
pub other-by : (n : ℕ) → (n ≡ 0 → ⊥) → (n ≡ 1 → ⊥) → Other ≡ standing_by n
other-by zero void dff = absurd (void refl)
other-by (suc zero) void dff = absurd (dff refl)
other-by (suc (suc n)) void dff = refl

void-by : (n : ℕ) → Void ≡ standing_by n → n ≡ 0
void-by zero e = refl
void-by (suc zero) e = let z : ◌≡◌ {A = ℕ} 0 1 = cc in absurd (omega arith)
void-by (suc (suc n)) e = let z : ◌≡◌ {A = ℕ} 0 1 = cc in absurd (omega arith)

dff-by : (n : ℕ) → Dff ≡ standing_by n → n ≡ 1
dff-by zero e = let z : ◌≡◌ {A = ℕ} 0 1 = cc in absurd (omega arith)
dff-by (suc zero) e = refl
dff-by (suc (suc n)) e = let z : ◌≡◌ {A = ℕ} 0 1 = cc in absurd (omega arith)

not-both : (x y : ℕ) → (x ≡ 1 → y ≡ 1 → ⊥) → eqb x 1 && eqb y 1 ≡ false
not-both x y apart = go (eqb x 1) (eqb y 1) refl refl
  where
    go : (p q : Bool) → eqb x 1 ≡ p → eqb y 1 ≡ q → eqb x 1 && eqb y 1 ≡ false
    go false q a b = rw a
    go true false a b = rw (a, b)
    go true true a b = absurd (apart (eqb-true x 1 a) (eqb-true y 1 b))

module _ (table : List ℕ) (from to : ℕ) (apart : from ≡ to → ⊥) {a b : Standing}
    (from_is : a ≡ standing_by (standing_at table (driver_of from)))
    (to_is : b ≡ standing_by (standing_at table (driver_of to))) where
  pub kind-void : a ≡ Void → IsKind table from to OfVoid
  kind-void void =
      let none = void-by _ (sym void ∙ from_is) in
      is-kind OfVoid (rw (ne_eqb from to apart, none))

  pub kind_dffs : a ≡ Dff → b ≡ Dff → IsKind table from to OfDffs
  kind_dffs one other =
      let first = dff-by _ (sym one ∙ from_is) in
      let second = dff-by _ (sym other ∙ to_is) in
      is-kind OfDffs (rw (ne_eqb from to apart, first, second))

  pub kind-ordinary : (a ≡ Void → ⊥) → (a ≡ Dff → b ≡ Dff → ⊥) → IsKind table from to Ordinary
  kind-ordinary no-void one =
      let void = ne_eqb (standing_at table (driver_of from)) 0 (λ e. no-void (from_is ∙ ap standing_by e)) in
      let dffs = not-both (standing_at table (driver_of from)) (standing_at table (driver_of to))
      (λ e f. one (from_is ∙ ap standing_by e) (to_is ∙ ap standing_by f)) in
      is-kind Ordinary (rw (ne_eqb from to apart, void, dffs))
