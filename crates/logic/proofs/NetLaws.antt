-- Laws of the definitions of Net.
use mathlib.Core.Path.{◌≡◌, refl, sym, ap}
use mathlib.Core.Bool.{Bool, true, false, cond}
use Prim.Native.Nat.{ℕ, ◌+◌, ◌-◌, ◌^◌, ◌<◌, ◌≤◌}
use native.Mathlib.Omega.{arith}
use borrow.Author.Tests.{lt-ltb, ne_eqb, eqb-true, eqb-false}
use lib.Dec.{eqb}
use Rattle.logic.specs.declared.Trit.{Trit}
use Rattle.logic.specs.declared.Trit.TheVariants.{Zero, One, Undef}
use Rattle.logic.specs.declared.Driver.TheVariants.{Constant, Output}
use Rattle.logic.specs.Net.{constant, slot, payload_of_net, net_of, driver_of_net, driver_of}

-- Reading a payload undoes writing it, for every slot that a payload can hold, and writing undoes reading.
pub net_of_payload : (i : ℕ) → i + 2 < 536870911 → net_of (payload_of_net (slot i)) ≡ slot i
net_of_payload i low =
    rw (
      ne_eqb (i + 2) 0 (λ e. omega arith),
      ne_eqb (i + 2) 1 (λ e. omega arith),
      ne_eqb (i + 2) 536870911 (λ e. omega arith),
    )
    (ap slot (omega arith))

pub driver_of_slot : (i : ℕ) → i + 2 < 536870911 → driver_of (payload_of_net (slot i)) ≡ Output (record { 0 = i })
driver_of_slot i low = rw (lt-ltb (i + 2) (2 ^ 29) (omega arith), net_of_payload i low)

pub driver_of_constant : (t : Trit) → driver_of (payload_of_net (constant t)) ≡ Constant t
driver_of_constant Zero = refl
driver_of_constant One = refl
driver_of_constant Undef = refl

pub driver_of_payload : (p : ℕ) → p < 2 ^ 29 → driver_of p ≡ driver_of_net (net_of p)
driver_of_payload p low = rw (lt-ltb p (2 ^ 29) low)

pub constant_of_payload : (t : Trit) → net_of (payload_of_net (constant t)) ≡ constant t
constant_of_payload Zero = refl
constant_of_payload One = refl
constant_of_payload Undef = refl

pub payload_of_net_lem : (p : ℕ) → payload_of_net (net_of p) ≡ p
payload_of_net_lem p = go (eqb p 0) refl (eqb p 1) refl (eqb p 536870911) refl
  where
    go : (a : Bool) → eqb p 0 ≡ a → (b : Bool) → eqb p 1 ≡ b → (c : Bool) → eqb p 536870911 ≡ c
        → payload_of_net (cond a (constant Zero) (cond b (constant One) (cond c (constant Undef) (slot (p - 2))))) ≡ p
    go true ea b eb c ec = sym (eqb-true p 0 ea)
    go false ea true eb c ec = sym (eqb-true p 1 eb)
    go false ea false eb true ec = sym (eqb-true p 536870911 ec)
    go false ea false eb false ec =
        let over : p ≡ 0 → ⊥ = eqb-false p 0 ea in
        let above : p ≡ 1 → ⊥ = eqb-false p 1 eb in
        sub_add_two (omega arith)
      where
        sub_add_two : 2 ≤ p → p - 2 + 2 ≡ p
        sub_add_two h = omega arith
