-- Document 01, "Words": net payload 0 is constant 0, 1 is constant 1, 2 + i is slot i, 536,870,911 is X.
use Rattle.std.specs.Prelude.{cond, ℕ, ◌+◌, ◌-◌, ◌%◌, ◌^◌, ltb, eqb}
use Rattle.logic.specs.declared.Trit.{Trit}
use Rattle.logic.specs.declared.Trit.TheVariants.{Zero, One, Undef}
use Rattle.logic.specs.declared.Driver.{Driver}
use Rattle.logic.specs.declared.Driver.TheVariants.{Constant, Output, NoNet}

-- A net of a design: a constant, or the current or past trit of a slot.
pub data Net : Type 0 where
  constant : Trit → Net
  slot : ℕ → Net

-- The payload of a net word.
abbrev pub payload_of_net : Net → ℕ
payload_of_net (constant Zero) = 0
payload_of_net (constant One) = 1
payload_of_net (constant Undef) = 536870911
payload_of_net (slot i) = i + 2

-- What a payload names; every payload names a net.
abbrev pub net_of : ℕ → Net
net_of p =
    cond (eqb p 0) (constant Zero)
    (cond (eqb p 1) (constant One)
    (cond (eqb p 536870911) (constant Undef) (slot (p - 2))))

-- What a net number names; a number above the payloads names no net.
abbrev pub driver_of_net : Net → Driver
driver_of_net (constant t) = Constant t
driver_of_net (slot i) = Output (record { 0 = i })

abbrev pub driver_of : ℕ → Driver
driver_of n = cond (ltb n (2 ^ 29)) (driver_of_net (net_of n)) NoNet

-- The net number of a slot is two above the slot's; as a payload it counts modulo 2 ^ 29.
abbrev pub net_of_slot : ℕ → ℕ
net_of_slot i = (i + 2) % 2 ^ 29
