-- A word of the second pass, as its loop goes by it.
use Prim.Native.Nat.{ℕ, ◌+◌, ◌-◌, ◌<◌, ◌≤◌}
use native.Mathlib.Omega.{arith}
use mathlib.Core.Path.{◌≡◌}
use mathlib.Core.Bool.{Bool, true, false}
use mathlib.Core.List.{List}
use Rattle.std.specs.Prelude.{Ok, Err}
use Rattle.fields.specs.Field.{fault, scan_many}
use Rattle.fields.proofs.Laws.{many-none, many_turn, many-fault}
use Rattle.voids.specs.Voids.{offends, void_at}

-- A word of the second pass.
module _ (w : List ℕ) (void : ℕ → Bool) (clock at : ℕ) where
  pub void_clean : offends w void clock at ≡ false → void_at w void clock at ≡ Ok (at + 1)
  unfolding void_at
  void_clean right = rw right

  pub void-fault : offends w void clock at ≡ true → void_at w void clock at ≡ Err (fault 10 at)
  unfolding void_at
  void-fault wrong = rw wrong

-- A run of words that a loop over their places scans: before the word at `at`, those up to `start + n` are left.
module _ (w : List ℕ) (void : ℕ → Bool) (clock start n : ℕ) where
  pub words_all : (at : ℕ) → start + n ≤ at → scan_many (void_at w void clock) (start + n - at) at ≡ Ok at
  words_all at all = many-none (void_at w void clock) (start + n - at) at (omega arith)

  pub words_next : (at : ℕ) → at < start + n → offends w void clock at ≡ false →
      scan_many (void_at w void clock) (start + n - at) at
      ≡ scan_many (void_at w void clock) (start + n - (at + 1)) (at + 1)
  words_next at more right =
      let one : start + n - at - 1 ≡ start + n - (at + 1) = omega arith in
      rw (← one)
      (many_turn (void_at w void clock) (start + n - at) at (omega arith) (void_clean w void clock at right))

  pub words_err : (at : ℕ) → at < start + n → offends w void clock at ≡ true →
      scan_many (void_at w void clock) (start + n - at) at ≡ Err (fault 10 at)
  words_err at more wrong =
      many-fault (void_at w void clock) (start + n - at) at (omega arith) (void-fault w void clock at wrong)

pub ruleset words = (words_all, words_next, words_err)
