-- Laws of the definitions of Made.
use mathlib.Core.Path.{◌≡◌, refl, sym, ap, ◌∙◌}
use mathlib.Core.Bool.{true, false}
use mathlib.Core.List.{List, [], ◌∷◌, ◌++◌}
use Prim.Native.Nat.{ℕ, ◌+◌, ◌<◌, ◌≤◌}
use native.Mathlib.Omega.{arith}
use lib.ListN.{length, get_or, length-append, get_or-append, get_or-eq_default}
use lib.Seq.{get_or-append_seam}
use Rattle.engine.specs.Call.{Call}
use Rattle.engine.specs.Call as c
use Rattle.engine.specs.Sorts.{no_sort, sort_at, Context, start, after, leaves}
use Rattle.engine.specs.Encode.{Op, makes_term, call_of}
use Rattle.engine.specs.Encode as o
use Rattle.call_list.specs.Made.{made, sorts_of, makes, sort_of_call}

-- An operation's calls make a term or not.
pub makes_operation : (op : Op) (n : ℕ) (a : ℕ → ℕ) → makes (call_of op n a) ≡ makes_term op
makes_operation (o.term op) n a = refl
makes_operation o.declare n a = refl
makes_operation o.assert n a = refl
makes_operation o.check n a = refl
makes_operation o.unknown n a = refl

-- A call that makes a term is the first of them, and any other is none.
pub made_more : (call : Call) (calls : List Call) → makes call ≡ true → made (call ∷ calls) ≡ call ∷ made calls
unfolding made
made_more (c.term t) calls e = refl
made_more (c.declare name w) calls e = refl
made_more (c.assert k) calls e = let z : ◌≡◌ {A = ℕ} 0 1 = cc in absurd (omega arith)
made_more c.check calls e = let z : ◌≡◌ {A = ℕ} 0 1 = cc in absurd (omega arith)

pub made-less : (call : Call) (calls : List Call) → makes call ≡ false → made (call ∷ calls) ≡ made calls
unfolding made
made-less (c.term t) calls e = let z : ◌≡◌ {A = ℕ} 0 1 = cc in absurd (omega arith)
made-less (c.declare name w) calls e = let z : ◌≡◌ {A = ℕ} 0 1 = cc in absurd (omega arith)
made-less (c.assert k) calls e = refl
made-less c.check calls e = refl

pub made_append : (a b : List Call) → made (a ++ b) ≡ made a ++ made b
unfolding made
made_append [] b = refl
made_append (c.term t ∷ a) b = rw (made_append a b)
made_append (c.declare name w ∷ a) b = rw (made_append a b)
made_append (c.assert k ∷ a) b = made_append a b
made_append (c.check ∷ a) b = made_append a b

pub leaves_append : (x : Context) (a b : List Call) → leaves x (a ++ b) ≡ leaves (leaves x a) b
unfolding leaves
leaves_append x [] b = refl
leaves_append x (call ∷ a) b = leaves_append (after x call) a b

-- Each call that makes a term gives one sort, after those before it.
sorts-many : (x : Context) (calls : List Call) → length (leaves x calls).sorts
    ≡ length x.sorts + length (made calls)
unfolding leaves made
sorts-many x [] = omega arith
sorts-many x (c.term t ∷ calls) = sorts-many (after x (c.term t)) calls ∙ rw length-append (omega arith)
sorts-many x (c.declare name w ∷ calls) = sorts-many (after x (c.declare name w)) calls ∙ rw length-append (omega arith)
sorts-many x (c.assert k ∷ calls) = sorts-many x calls
sorts-many x (c.check ∷ calls) = sorts-many (after x c.check) calls

pub length-sorts : (calls : List Call) → length (sorts_of calls) ≡ length (made calls)
length-sorts calls = sorts-many start calls ∙ omega arith

-- Later calls leave earlier sorts alone.
sorts-kept : (x : Context) (calls : List Call) (k : ℕ) → k < length x.sorts → sort_at (leaves x calls).sorts k
    ≡ sort_at x.sorts k
unfolding leaves
sorts-kept x [] k h = refl
sorts-kept x (c.term t ∷ calls) k h =
    sorts-kept (after x (c.term t)) calls k (rw length-append (omega arith)) ∙ get_or-append x.sorts _ no_sort k h
sorts-kept x (c.declare name w ∷ calls) k h =
    sorts-kept (after x (c.declare name w)) calls k (rw length-append (omega arith)) ∙ get_or-append x.sorts _ no_sort k h
sorts-kept x (c.assert a ∷ calls) k h = sorts-kept x calls k h
sorts-kept x (c.check ∷ calls) k h = sorts-kept (after x c.check) calls k h

-- The call that makes the next term: its place among the terms, and its sort.
module _ (before : List Call) (call : Call) (after' : List Call) where
  pub made-here : makes call ≡ true → get_or (made (before ++ (call ∷ after'))) (length (made before)) c.check ≡ call
  unfolding made
  made-here e = rw (made_append before (call ∷ after')) (go call e)
    where
      go : (call : Call) → makes call ≡ true → get_or (made before ++ made (call ∷ after')) (length (made before)) c.check
          ≡ call
      go (c.term t) e = get_or-append_seam (made before) _ _ c.check
      go (c.declare name w) e = get_or-append_seam (made before) _ _ c.check
      go (c.assert k) e = let z : ◌≡◌ {A = ℕ} 0 1 = cc in absurd (omega arith)
      go c.check e = let z : ◌≡◌ {A = ℕ} 0 1 = cc in absurd (omega arith)

  pub sort-here : makes call ≡ true → sort_at (sorts_of (before ++ (call ∷ after'))) (length (made before))
      ≡ sort_of_call (sorts_of before) call
  unfolding leaves
  sort-here e =
      ap (λ (k : ℕ). sort_at (sorts_of (before ++ (call ∷ after'))) k) (sym (length-sorts before))
      ∙ ap (λ (y : Context). sort_at y.sorts (length (sorts_of before))) (leaves_append start before (call ∷ after'))
      ∙ go call e
    where
      x : Context
      x = leaves start before

      go : (call : Call) → makes call ≡ true → sort_at (leaves (after x call) after').sorts (length x.sorts)
          ≡ sort_of_call x.sorts call
      go (c.term t) e = sorts-kept (after x (c.term t)) after' (length x.sorts) (rw length-append (omega arith))
          ∙ get_or-append_seam x.sorts _ [] no_sort
      go (c.declare name w) e =
          sorts-kept (after x (c.declare name w)) after' (length x.sorts) (rw length-append (omega arith))
          ∙ get_or-append_seam x.sorts _ [] no_sort
      go (c.assert k) e = let z : ◌≡◌ {A = ℕ} 0 1 = cc in absurd (omega arith)
      go c.check e = let z : ◌≡◌ {A = ℕ} 0 1 = cc in absurd (omega arith)

-- A term that is not made has no call and no sort.
pub made-past : (calls : List Call) (k : ℕ) → length (made calls) ≤ k → get_or (made calls) k c.check ≡ c.check
made-past calls k h = get_or-eq_default (made calls) c.check h

pub sort-past : (calls : List Call) (k : ℕ) → length (made calls) ≤ k → sort_at (sorts_of calls) k ≡ no_sort
sort-past calls k h = get_or-eq_default (sorts_of calls) no_sort (rw (length-sorts calls) h)
