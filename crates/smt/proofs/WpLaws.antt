-- Laws of the definitions of Wp.
use mathlib.Core.Path.{◌≡◌, refl, sym, ap, ap₂, ◌∙◌}
use mathlib.Core.Bool.{Bool, true, false, ◌&&◌, false≢true}
use mathlib.Core.List.{List, [], ◌∷◌, ◌++◌}
use Prim.Native.Nat.{ℕ, zero, suc}
use native.Mathlib.Omega.{arith}
use lib.ListN.{length, get_or, set}
use Rattle.bitvec.specs.Bits.{Bits}
use Rattle.bitvec.specs.Ops as bv
use Rattle.engine.specs.Call.{Name, Call}
use Rattle.engine.specs.Call as c
use Rattle.engine.specs.Meaning.{Value, bool, bits, equal_values, Assignment, denote, Holds}
use Rattle.smt.specs.Prog.{Prog, ret, op, declare, bind, bind2, ◌>>=◌, Age, curr, past, Half, is_undef, is_one}
use Rattle.smt.specs.Emit.{St, net_name, place, at, reread, learn, after, emit}
use Rattle.smt.specs.Wp.{Named, wp, Known, Sound}

module _ (ρ : Assignment) (v : ℕ → Value) where
  wp-bind : {A B : Type 0} (m : Prog A) (g : A → Prog B) (Q : B → Type 0) → (wp ρ v) m (λ a. (wp ρ v) (g a) Q) →
      (wp ρ v) (m >>= g) Q
  unfolding ◌>>=◌
  wp-bind (ret a) g Q w = w
  wp-bind (op t f) g Q w = λ k e. wp-bind (f k) g Q (w k e)
  wp-bind (declare a i h f) g Q w = λ k e. wp-bind (f k) g Q (w k e)
  wp-bind (bind n t f) g Q w = λ k e. wp-bind (f k) g Q (w k e)
  wp-bind (bind2 n x y f) g Q w = λ k l d e. wp-bind (f k l) g Q (w k l d e)

  pub wp_mono : {A : Type 0} (m : Prog A) (P Q : A → Type 0) → ((a : A) → P a → Q a) → (wp ρ v) m P → (wp ρ v) m Q
  wp_mono (ret a) P Q i w = i a w
  wp_mono (op t f) P Q i w = λ k e. wp_mono (f k) P Q i (w k e)
  wp_mono (declare a j h f) P Q i w = λ k e. wp_mono (f k) P Q i (w k e)
  wp_mono (bind n t f) P Q i w = λ k e. wp_mono (f k) P Q i (w k e)
  wp_mono (bind2 n x y f) P Q i w = λ k l d e. wp_mono (f k l) P Q i (w k l d e)

  -- One part, then the rest by what holds of its result.
  pub wp_seq : {A B : Type 0} (m : Prog A) (g : A → Prog B) (P : A → Type 0) (Q : B → Type 0)
      → (wp ρ v) m P → ((a : A) → P a → (wp ρ v) (g a) Q) → (wp ρ v) (m >>= g) Q
  wp_seq m g P Q w i = wp-bind m g Q (wp_mono m P (λ a. (wp ρ v) (g a) Q) i w)

-- ---- equal values

same-eq : (a b : Bool) → bv.same a b ≡ true → a ≡ b
same-eq true b e = sym e
same-eq false true e = absurd (false≢true e)
same-eq false false e = refl

pub and-true : (a b : Bool) → (a && b) ≡ true → (a ≡ true) × (b ≡ true)
and-true true b e = (refl, e)
and-true false b e = absurd (false≢true e)

pub equal-eq : (s t : Bits) → bv.equal s t ≡ true → s ≡ t
unfolding bv.equal
equal-eq [] [] e = refl
equal-eq [] (b ∷ t) e = absurd (false≢true e)
equal-eq (a ∷ s) [] e = absurd (false≢true e)
equal-eq (a ∷ s) (b ∷ t) e =
    let h = and-true (bv.same a b) (bv.equal s t) e in
    ap₂ (λ (c : Bool) (r : Bits). c ∷ r) (same-eq a b h.0) (equal-eq s t h.1)

pub equal_values-eq : (a b : Value) → equal_values a b ≡ true → a ≡ b
equal_values-eq (bool a) (bool b) e = ap bool (same-eq a b e)
equal_values-eq (bool a) (bits t) e = absurd (false≢true e)
equal_values-eq (bits s) (bool b) e = absurd (false≢true e)
equal_values-eq (bits s) (bits t) e = ap bits (equal-eq s t e)

-- ---- the names that are known

pub place_inj : (a : Age) (i : ℕ) (h : Half) (b : Age) (j : ℕ) (g : Half) → place a i h ≡ place b j g
    → net_name a i h ≡ net_name b j g
place_inj curr i is_undef curr j is_undef e = ap (λ (n : ℕ). net_name curr n is_undef) (omega arith)
place_inj curr i is_undef curr j is_one e = absurd (omega arith)
place_inj curr i is_undef past j is_undef e = absurd (omega arith)
place_inj curr i is_undef past j is_one e = absurd (omega arith)
place_inj curr i is_one curr j is_undef e = absurd (omega arith)
place_inj curr i is_one curr j is_one e = ap (λ (n : ℕ). net_name curr n is_one) (omega arith)
place_inj curr i is_one past j is_undef e = absurd (omega arith)
place_inj curr i is_one past j is_one e = absurd (omega arith)
place_inj past i is_undef curr j is_undef e = absurd (omega arith)
place_inj past i is_undef curr j is_one e = absurd (omega arith)
place_inj past i is_undef past j is_undef e = ap (λ (n : ℕ). net_name past n is_undef) (omega arith)
place_inj past i is_undef past j is_one e = absurd (omega arith)
place_inj past i is_one curr j is_undef e = absurd (omega arith)
place_inj past i is_one curr j is_one e = absurd (omega arith)
place_inj past i is_one past j is_undef e = absurd (omega arith)
place_inj past i is_one past j is_one e = ap (λ (n : ℕ). net_name past n is_one) (omega arith)

-- What stands in a list after a store: what was stored, at its place, or what stood there before.
pub stored : {X : Type 0} (l : List ℕ) (i a j k : ℕ) → get_or (set l i a) j 0 ≡ suc k
    → (i ≡ j → a ≡ suc k → X) → (get_or l j 0 ≡ suc k → X) → X
stored [] i a j k e here there = there e
stored (x ∷ l) zero a zero k e here there = here refl e
stored (x ∷ l) zero a (suc j) k e here there = there e
stored (x ∷ l) (suc i) a zero k e here there = there e
stored (x ∷ l) (suc i) a (suc j) k e here there = stored l i a j k e (λ p. here (ap suc p)) there

module _ (ρ : Assignment) (v : ℕ → Value) where
  renamed : (a : Age) (i : ℕ) (h : Half) (b : Age) (j : ℕ) (g : Half) (k : ℕ) → net_name a i h ≡ net_name b j g
      → Named ρ v a i h k → Named ρ v b j g k
  renamed a i h b j g k e n =
      record { is = n.is ∙ ap (λ (d : Name). bits (ρ d)) e; one = sym (ap (λ (d : Name). length (ρ d)) e) ∙ n.one }

  pub learnt : (a : Age) (i : ℕ) (h : Half) (k : ℕ) (names : List ℕ) → Named ρ v a i h k → (Known ρ v) names
      → (Known ρ v) (set names (place a i h) (suc k))
  learnt a i h k names new kn b j g l e =
      stored names (place a i h) (suc k) (place b j g) l e
      (λ p q. let m : k ≡ l = omega arith in rw m at (renamed a i h b j g k (place_inj a i h b j g p) new))
      (λ p. kn b j g l p)

  pub bound-eq : (k a b : ℕ) → v k ≡ denote v (c.equal a b) → v k ≡ bool true → v a ≡ v b
  bound-eq k a b p q = equal_values-eq (v a) (v b) (cc)

  pub wp_sound : {A : Type 0} (m : Prog A) (s : St) (Q : A → Type 0) (rest : List Call)
      → (Known ρ v) s.names → Holds ρ v s.next ((emit m s).calls ++ rest) → wp ρ v m Q
      → (Sound ρ v) (emit m s).res (emit m s).st rest Q
  unfolding emit
  wp_sound (ret a) s Q rest kn h w = record { post = w; names = kn; more = h }
  wp_sound (op t f) s Q rest kn h w = wp_sound (f s.next) _ Q rest kn h.1 (w s.next h.0)
  wp_sound {A} (declare a i d f) s Q rest kn h w =
      go (λ k s'. wp_sound (f k) s' Q rest) (get_or s.names (place a i d) 0) refl
    where
      go : ((k : ℕ) (s' : St) → (Known ρ v) s'.names → Holds ρ v s'.next ((emit (f k) s').calls ++ rest)
          → wp ρ v (f k) Q → (Sound ρ v) (emit (f k) s').res (emit (f k) s').st rest Q)
          → (o : ℕ) → get_or s.names (place a i d) 0 ≡ o
          → (Sound ρ v) (emit (declare a i d f) s).res (emit (declare a i d f) s).st rest Q
      go rec zero e =
          let g : Holds ρ v s.next (c.declare (net_name a i d) 1 ∷ ((emit (f s.next)
          (learn a i d s)).calls ++ rest)) =
          rw e at h in
          let new : Named ρ v a i d s.next = record { is = g.0; one = g.1 } in
          rw e (rec s.next (learn a i d s) (learnt a i d s.next s.names new kn) g.2 (w s.next new))
      go rec (suc k) e = rw e (rec k (reread a i s) kn (rw e at h) (w k (kn a i d k e)))
  wp_sound (bind n t f) s Q rest kn h w =
      wp_sound (f s.next) _ Q rest kn h.2.1.1
      (w s.next (bound-eq (suc s.next) s.next t h.2.0 h.2.1.0))
  wp_sound (bind2 n x y f) s Q rest kn h w =
      let k = s.next in
      let of_x = h.2.2 in
      let of_y = of_x.1.1 in
      wp_sound (f k (suc k)) _ Q rest kn of_y.1.1
      (w k (suc k) (bound-eq (suc (suc k)) k x of_x.0 of_x.1.0)
      (bound-eq (suc (suc (suc k))) (suc k) y of_y.0 of_y.1.0))

-- What a sequence emits: the first part's calls, then the second's from the state that it leaves.
pub emit_seq : {A B : Type 0} (m : Prog A) (g : A → Prog B) (s : St)
    → emit (m >>= g) s ≡ after (emit m s).calls (emit (g (emit m s).res) (emit m s).st)
unfolding emit ◌>>=◌
emit_seq (ret a) g s = refl
emit_seq (op t f) g s = rw (emit_seq (f s.next) g)
emit_seq (declare a i h f) g s = go (λ k s. emit_seq (f k) g s) (get_or s.names (place a i h) 0) refl
  where
    go : ((k : ℕ) (s : St) → emit (f k >>= g) s ≡ after (emit (f k) s).calls
        (emit (g (emit (f k) s).res) (emit (f k) s).st))
        → (o : ℕ) → get_or s.names (place a i h) 0 ≡ o
        → emit (declare a i h f >>= g) s
        ≡ after (emit (declare a i h f) s).calls (emit (g (emit (declare a i h f) s).res)
        (emit (declare a i h f) s).st)
    go rec zero e = rw e (rw rec)
    go rec (suc k) e = rw e (rec k (reread a i s))
emit_seq (bind w t f) g s = rw (emit_seq (f s.next) g)
emit_seq (bind2 w x y f) g s = rw (emit_seq (f s.next (suc s.next)) g)
