-- Temporaries are unique: two assignments that agree on the nets and meet the calls of a safe run agree on every name
-- it declares.
use mathlib.Core.Path.{◌≡◌, refl, sym, ap, ◌∙◌}
use mathlib.Core.List.{List, [], ◌∷◌, ◌++◌}
use Prim.Native.Nat.{ℕ, zero, suc, ◌≤◌, ◌<◌}
use native.Mathlib.Omega.{arith}
use native.Mathlib.Decide.{ℕ_discrete}
use lib.ListN.{get_or}
use Rattle.bitvec.specs.Bits.{Bits}
use Rattle.engine.specs.Call.{Call}
use Rattle.engine.specs.Call as c
use Rattle.engine.specs.Meaning.{Value, bits, Assignment, arguments_of, Holds}
use Rattle.engine.proofs.Laws.{All-map, denote_ext}
use Rattle.smt.specs.Prog.{Prog, ret, op, declare, bind, bind2, Age, Half}
use Rattle.smt.specs.Emit.{St, net_name, place, at, reread, learn, emit}
use Rattle.smt.specs.Wp.{Named}
use Rattle.smt.proofs.WpLaws.{learnt, bound-eq, stored}
use Rattle.soundness.proofs.Safe.{safe}
use Rattle.soundness.proofs.Solve.{sort_of_value, sorts, denote-sort, fine_arguments}

-- The two agree on the names that calls declare.
abbrev pub Agree : Assignment → Assignment → List Call → Type 0
Agree ρ η [] = Unit {0}
Agree ρ η (c.term t ∷ cs) = Agree ρ η cs
Agree ρ η (c.declare d w ∷ cs) = (ρ d ≡ η d) × Agree ρ η cs
Agree ρ η (c.assert k ∷ cs) = Agree ρ η cs
Agree ρ η (c.check ∷ cs) = Agree ρ η cs

bits_inj : (x y : Bits) → bits x ≡ bits y → x ≡ y
bits_inj x y e = cc

module _ (slots : ℕ) (ρ η : Assignment) (v u : ℕ → Value)
    (nets : (a : Age) (i : ℕ) (h : Half) → ρ (net_name a i h) ≡ η (net_name a i h)) where
  abbrev pub Upto : ℕ → Type 0
  Upto n = (k : ℕ) → k < n → v k ≡ u k

  upto_suc : (n : ℕ) → Upto n → v n ≡ u n → Upto (suc n)
  upto_suc n h e k l = go (ℕ_discrete k n)
    where
      go : Dec (k ≡ n) → v k ≡ u k
      go (yes q) = rw q e
      go (no q) = h k (omega arith)

  -- The known names' terms are there, and are the names' bits.
  abbrev pub KnownBelow : St → Type 0
  KnownBelow s = (a : Age) (i : ℕ) (h : Half) (k : ℕ) → get_or s.names
      (place a i h) 0 ≡ suc k → Named ρ v a i h k × (k < s.next)

  below_on : (s : St) (n m : ℕ) → s.next ≤ n → KnownBelow s → KnownBelow (at n m s)
  below_on s n m l kn a i h k e = ((kn a i h k e).0, let q = (kn a i h k e).1 in omega arith)

  below_learnt : (a : Age) (i : ℕ) (h : Half) (s : St) → Named ρ v a i h s.next → KnownBelow s
      → KnownBelow (learn a i h s)
  below_learnt a i h s new kn d j g k e = (
    learnt ρ v a i h s.next s.names new (λ a i h k e. (kn a i h k e).0) d j g k e,
    stored s.names (place a i h) (suc s.next) (place d j g) k e (λ p q. omega arith)
        (λ p. let q = (kn d j g k p).1 in omega arith),
  )

  pub temporaries_unique : {A : Type 0} (m : Prog A) (s : St) (rest : List Call) (Q : ℕ → A → Type 0) → KnownBelow s
      → Upto s.next
      → safe slots (sorts v) s.next m Q
      → Holds ρ v s.next ((emit m s).calls ++ rest) → Holds η u s.next ((emit m s).calls ++ rest)
      → Agree ρ η rest → Agree ρ η ((emit m s).calls ++ rest)
  unfolding emit
  temporaries_unique (ret a) s rest Q kn h e p q r = r
  temporaries_unique (op t f) s rest Q kn h e p q r =
      let n = s.next in
      let x : v n ≡ u n = p.0
      ∙ denote_ext v u t (All-map (λ a. a < n) (λ a. v a ≡ u a) (λ a l. h a l) (arguments_of t)
      (fine_arguments n (sorts v) t e.0))
      ∙ sym q.0 in
      temporaries_unique (f n) _ rest Q (below_on s (suc n) s.temp (omega arith) kn) (upto_suc n h x)
      (e.1 (record {
        k = n;
        m = suc n;
        le = omega arith;
        lt = omega arith;
        sort = ap sort_of_value p.0
            ∙ denote-sort v n t e.0;
      }))
      p.1 q.1 r
  temporaries_unique {A} (declare a i d f) s rest Q kn h e p q r =
      go (λ k s. temporaries_unique (f k) s rest Q) (get_or s.names (place a i d) 0) refl
    where
      go : ((k : ℕ) (s : St) → KnownBelow s → Upto s.next → safe slots (sorts v) s.next (f k) Q
          → Holds ρ v s.next ((emit (f k) s).calls ++ rest) → Holds η u s.next ((emit (f k) s).calls ++ rest)
          → Agree ρ η rest → Agree ρ η ((emit (f k) s).calls ++ rest))
          → (o : ℕ) → get_or s.names (place a i d) 0 ≡ o → Agree ρ η ((emit (declare a i d f) s).calls ++ rest)
      go rec zero z =
          let n = s.next in
          let tail : List Call = (emit (f n) (learn a i d s)).calls ++ rest in
          let p' : Holds ρ v n (c.declare (net_name a i d) 1 ∷ tail) = rw z at p in
          let q' : Holds η u n (c.declare (net_name a i d) 1 ∷ tail) = rw z at q in
          let new : Named ρ v a i d n = record { is = p'.0; one = p'.1 } in
          let x : v n ≡ u n = p'.0 ∙ ap bits (nets a i d) ∙ sym q'.0 in
          rw z (
            nets a i d,
            rec n (learn a i d s) (below_learnt a i d s new kn) (upto_suc n h x)
                (e.1 (record {
                  k = n;
                  m = suc n;
                  le = omega arith;
                  lt = omega arith;
                  sort = ap sort_of_value p'.0
                      ∙ p'.1;
                })) p'.2 q'.2 r,
          )
      go rec (suc k) z =
          let was = kn a i d k z in
          let l : k < s.next = was.1 in
          rw z (rec k (reread a i s) kn h
          (e.1 (record {
            k = k;
            m = s.next;
            le = omega arith;
            lt = l;
            sort = ap sort_of_value was.0.is
                ∙ was.0.one;
          })) (rw z at p) (rw z at q) r)
  temporaries_unique (bind w t f) s rest Q kn h e p q r =
      let n = s.next in
      let vt : v n ≡ v t = bound-eq ρ v (suc n) n t p.2.0 p.2.1.0 in
      let x : v n ≡ u n = vt ∙ h t e.0 ∙ sym (bound-eq η u (suc n) n t q.2.0 q.2.1.0) in
      let y : v (suc n) ≡ u (suc n) = p.2.1.0 ∙ sym q.2.1.0 in (
        bits_inj _ _ (sym p.0 ∙ x ∙ q.0),
        temporaries_unique (f n) _ rest Q (below_on s (suc (suc n)) (suc s.temp) (omega arith) kn)
            (upto_suc (suc n) (upto_suc n h x) y)
            (e.3 (record {
              k = n;
              m = suc (suc n);
              le = omega arith;
              lt = omega arith;
              sort = ap sort_of_value vt
                  ∙ e.1;
            })) p.2.1.1 q.2.1.1 r,
      )
  temporaries_unique (bind2 w a b f) s rest Q kn h e p q r =
      let n = s.next in
      let of_x = p.2.2 in
      let of_y = of_x.1.1 in
      let of_x' = q.2.2 in
      let of_y' = of_x'.1.1 in
      let va : v n ≡ v a = bound-eq ρ v (suc (suc n)) n a of_x.0 of_x.1.0 in
      let vb : v (suc n) ≡ v b = bound-eq ρ v (suc (suc (suc n))) (suc n) b of_y.0 of_y.1.0 in
      let x : v n ≡ u n = va ∙ h a e.0 ∙ sym (bound-eq η u (suc (suc n)) n a of_x'.0 of_x'.1.0) in
      let y : v (suc n) ≡ u (suc n) = vb ∙ h b e.1 ∙ sym
      (bound-eq η u (suc (suc (suc n))) (suc n) b of_y'.0 of_y'.1.0) in
      let z : v (suc (suc n)) ≡ u (suc (suc n)) = of_x.1.0 ∙ sym of_x'.1.0 in
      let o : v (suc (suc (suc n))) ≡ u (suc (suc (suc n))) = of_y.1.0 ∙ sym of_y'.1.0 in (
        bits_inj _ _ (sym p.0 ∙ x ∙ q.0),
        (
          bits_inj _ _ (sym p.2.0 ∙ y ∙ q.2.0),
          temporaries_unique (f n (suc n)) _ rest Q (below_on s (suc (suc (suc (suc n)))) (suc s.temp)
              (omega arith) kn)
              (upto_suc (suc (suc (suc n))) (upto_suc (suc (suc n)) (upto_suc (suc n) (upto_suc n h x) y) z) o)
              (e.5 (record {
                k = n;
                l = suc n;
                m = suc (suc (suc (suc n)));
                le = omega arith;
                ltk =
                    omega arith;
                ltl = omega arith;
                sortk = ap sort_of_value va ∙ e.2;
                sortl = ap sort_of_value vb ∙ e.3;
              }))
              of_y.1.1 of_y'.1.1 r,
        ),
      )
