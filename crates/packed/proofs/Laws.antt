-- The slice of counts: three numbers are stored in front of it, and where they are it has room for them; and what
-- `told` leaves, from what it calls. Assumes nothing.
use mathlib.Core.Path.{◌≡◌, refl}
use mathlib.Core.Bool.{Bool, true, false, cond}
use mathlib.Core.List.{List, [], ◌∷◌}
use Prim.Native.Nat.{ℕ, ◌≤◌}
use native.Mathlib.Omega.{arith}
use lib.Dec.{ltb}
use lib.ListN.{length, drop, set}
use borrow.Author.Tests.{ltb-false}
use Rattle.builder.specs.declared.Counts.{Counts}
use Rattle.requirement.specs.declared.Verified.{Verified}
use Rattle.std.specs.Prelude.{Result, Ok, Err}
use Rattle.logic.specs.declared.Fault.{Fault}
use Rattle.requirement.specs.declared.Verified.TheVariants.{NothingAsked, Asked}
use Rattle.packed.specs.Verified.{packed_verified, roomed, lent, counts_after, Told}

pub three_set : (l : List ℕ) (a b c : ℕ) → 3 ≤ length l → set (set (set l 0 a) 1 b) 2 c ≡ a ∷ b ∷ c ∷ drop 3 l
three_set [] a b c h = absurd (omega arith)
three_set (x ∷ []) a b c h = absurd (omega arith)
three_set (x ∷ y ∷ []) a b c h = absurd (omega arith)
three_set (x ∷ y ∷ z ∷ l) a b c h = refl

-- An answer with counts.
abbrev Answers : Result Verified Fault → Type 0
Answers (Err e) = ⊥
Answers (Ok a) = Unit {0}

roomed-room : (room : ℕ) (a : Result Verified Fault) → Answers (roomed room a) → 3 ≤ room
roomed-room room a = go (ltb room 3) refl
  where
    go : (b : Bool) → ltb room 3 ≡ b → Answers (cond b (Err (record { number = 14; place = 3 })) a) → 3 ≤ room
    go true is told = absurd told
    go false is told = ltb-false _ _ is

lent-room : (a : Result Verified Fault) (room : ℕ) → Answers (lent a room) → 3 ≤ room
lent-room (Err e) room told = absurd told
lent-room (Ok a) room told = roomed-room room (Ok a) told

pub nothing-room : (a : Result Verified Fault) (room : ℕ) {n : Counts} → Ok (NothingAsked n) ≡ lent a room → 3 ≤ room
nothing-room a room is = lent-room a room (rw (← is) tt)

pub asked-room : (a : Result Verified Fault) (room : ℕ) {n : Counts} → Ok (Asked n) ≡ lent a room → 3 ≤ room
asked-room a room is = lent-room a room (rw (← is) tt)

pub told_are : (a : Result Verified Fault) (before : List ℕ) {after : List ℕ} {r : ℕ} {b v : Result Verified Fault} → b ≡ lent a (length before)
    → b ≡ v → r ≡ packed_verified v → after ≡ counts_after v before → Told a before after r
told_are a before room is said wrote = record { answers = rw (← room, is, said); writes = rw (← room, is, wrote) }
