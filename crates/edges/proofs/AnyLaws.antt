-- Laws of `any`, and of the booleans it is made of.
use mathlib.Core.Path.{◌≡◌, refl, sym}
use mathlib.Core.Bool.{Bool, true, false, ◌||◌, or-true, or_assoc}
use mathlib.Core.List.{List, [], ◌∷◌, ◌++◌}
use Prim.Native.Nat.{ℕ}
use Rattle.working_out.specs.System.{any}

-- Two booleans are the same where each is true if the other is.
pub same_truth : (a b : Bool) → (a ≡ true → b ≡ true) → (b ≡ true → a ≡ true) → a ≡ b
same_truth true b f g = sym (f refl)
same_truth false true f g = g refl
same_truth false false f g = refl

-- What follows from either of two booleans follows from their disjunction.
pub either : {C : Type 0} (a b : Bool) → (a || b) ≡ true → (a ≡ true → C) → (b ≡ true → C) → C
either true b e f g = f refl
either false b e f g = g e

-- A disjunction is true where its first or its second part is.
pub or-first : (a b : Bool) → a ≡ true → (a || b) ≡ true
or-first a b e = rw e

pub or-second : (a b : Bool) → b ≡ true → (a || b) ≡ true
or-second a b e = rw e (or-true a)

-- An element of two lists, one after the other, is an element of one of them.
pub any_append : (p : ℕ → Bool) (k l : List ℕ) → any p (k ++ l) ≡ (any p k || any p l)
unfolding any
any_append p [] l = refl
any_append p (x ∷ k) l = rw (any_append p k l) (sym (or_assoc (p x) (any p k) (any p l)))

pub any_either : {C : Type 0} (p : ℕ → Bool) (k l : List ℕ) → any p (k ++ l) ≡ true → (any p k ≡ true → C)
    → (any p l ≡ true → C) → C
any_either p k l e = either (any p k) (any p l) (rw (any_append p k l) at e)

pub any-first : (p : ℕ → Bool) (k l : List ℕ) → any p k ≡ true → any p (k ++ l) ≡ true
any-first p k l e = rw (any_append p k l) (or-first (any p k) (any p l) e)

pub any-second : (p : ℕ → Bool) (k l : List ℕ) → any p l ≡ true → any p (k ++ l) ≡ true
any-second p k l e = rw (any_append p k l) (or-second (any p k) (any p l) e)
