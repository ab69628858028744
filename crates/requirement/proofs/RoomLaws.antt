-- Laws of the room of the two slices, and of the answer by the number of obligations.
use mathlib.Core.Path.{◌≡◌, refl}
use mathlib.Core.Bool.{Bool, true, false, cond}
use Prim.Native.Nat.{ℕ, zero, suc, ◌≤◌, ◌<◌}
use native.Mathlib.Omega.{arith}
use lib.Dec.{ltb}
use borrow.Author.Tests.{lt-ltb, le-ltb, ltb-false}
use Rattle.std.specs.Prelude.{Result, Ok, Err}
use Rattle.builder.specs.declared.Counts.{Counts}
use Rattle.requirement.specs.declared.Verified.TheVariants.{NothingAsked, Asked}
use Rattle.requirement.specs.Verified.{room_for, told_by}

module _ (words room slots recorded : ℕ) where
  pub short-words : room < words → Err words ≡ room_for words room slots recorded
  unfolding room_for
  short-words short = rw (lt-ltb room words short)

  pub short-slots : words ≤ room → recorded < slots → Err slots ≡ room_for words room slots recorded
  unfolding room_for
  short-slots enough short = rw (le-ltb room words enough, lt-ltb recorded slots short)

  pub enough : words ≤ room → slots ≤ recorded → Ok tt ≡ room_for words room slots recorded
  unfolding room_for
  enough calls marks = rw (le-ltb room words calls, le-ltb recorded slots marks)

  -- Where there is room, there is room in both.
  pub both : Ok tt ≡ room_for words room slots recorded → (words ≤ room) × (slots ≤ recorded)
  unfolding room_for
  both is = go (ltb room words) (ltb recorded slots) refl refl is
    where
      go : (a b : Bool) → ltb room words ≡ a → ltb recorded slots ≡ b
          → ◌≡◌ {A = Result (Unit {0}) ℕ} (Ok tt) (cond a (Err words) (cond b (Err slots) (Ok tt))) → (words ≤ room) × (slots ≤ recorded)
      go true b calls marks is = let z : ◌≡◌ {A = ℕ} 0 1 = cc in absurd (omega arith)
      go false true calls marks is = let z : ◌≡◌ {A = ℕ} 0 1 = cc in absurd (omega arith)
      go false false calls marks is = (ltb-false _ _ calls, ltb-false _ _ marks)

pub told_none : (k : ℕ) (n : Counts) → k ≡ 0 → NothingAsked n ≡ told_by k n
told_none k n h = rw h

pub told-some : (k : ℕ) (n : Counts) → (k ≡ 0 → ⊥) → Asked n ≡ told_by k n
told-some zero n h = absurd (h refl)
told-some (suc k) n h = refl
