-- A slot's mark is that of its last read, none where it is never read. Each read sets its slot's mark and no other,
-- whether its name is new or known, and nothing else sets one.
use mathlib.Core.Path.{◌≡◌, refl, sym, ap, ◌∙◌}
use mathlib.Core.Logic.{◌⊎◌, inl, inr, ⊎_elim}
use mathlib.Core.Bool.{Bool, true, false, cond}
use mathlib.Core.List.Memᴰ
use mathlib.Core.List.{List, [], ◌∷◌, ◌++◌, Memᴰ}
use Prim.Native.Nat.{ℕ, zero, suc, ◌≤◌, ◌<◌}
use native.Mathlib.Omega.{arith}
use lib.Dec.{eqb}
use lib.ListN.{length, get_or, set, length-set, replicate, length-replicate}
use lib.Seq.{get_or-set_same, get_or-set_other}
use borrow.Author.Tests.{eqb-true, eqb-false}
use Rattle.cell.specs.Design.{Design, total}
use Rattle.smt.specs.Prog.{Prog, ret, op, declare, bind, bind2, Age, curr, past, Half}
use Rattle.smt.specs.Emit.{St, Out, net_name, place, mark, reread, learn, after, known, emit}
use Rattle.engine.specs.Call as c
use Rattle.order.specs.Verify.{Step, declared, asserted, obliged, steps, work, start, built}
use Rattle.order.specs.Reads.{NetRead, net_read, reads, step_reads, reads_of, mark_after}

-- What marks a run leaves, of those before it and its reads: as many, and each by its last read.
pub record MarkedBy (before marks : List ℕ) (rs : List NetRead) : Type 0 where
  pub many : length marks ≡ length before
  pub last : (i : ℕ) → i < length before → get_or marks i 0 ≡ mark_after i (get_or before i 0) rs

after_append : (i m : ℕ) (rs qs : List NetRead) → mark_after i m (rs ++ qs) ≡ mark_after i (mark_after i m rs) qs
unfolding mark_after
after_append i m [] qs = refl
after_append i m (r ∷ rs) qs = after_append i (mark_after i m (r ∷ [])) rs qs

marked_then : {before mid marks : List ℕ} (rs qs : List NetRead) → MarkedBy before mid rs → MarkedBy mid marks qs
    → MarkedBy before marks (rs ++ qs)
marked_then {before} rs qs f g = record {
  many = g.many ∙ f.many;
  last = λ i l.
      g.last i (rw f.many l) ∙ ap (λ (m : ℕ). mark_after i m qs) (f.last i l)
      ∙ rw (after_append i (get_or before i 0) rs qs);
}

marked-none : (marks : List ℕ) → MarkedBy marks marks []
unfolding mark_after
marked-none marks = record { many = refl; last = λ i l. refl }

-- A mark that is set, seen from any slot.
set_at : (l : List ℕ) (j a i : ℕ) → i < length l → get_or (set l j a) i 0 ≡ cond (eqb j i) a (get_or l i 0)
set_at l j a i low = go (eqb j i) refl
  where
    go : (b : Bool) → eqb j i ≡ b → get_or (set l j a) i 0 ≡ cond b a (get_or l i 0)
    go true e =
        let same = eqb-true j i e in
        rw same (get_or-set_same l i a 0 low)
    go false e = get_or-set_other l j i a 0 (λ q. eqb-false j i e (sym q))

marked-read : (a : Age) (i : ℕ) (h : Half) (marks : List ℕ) → MarkedBy marks (set marks i (mark a)) (net_read a i h ∷ [])
unfolding mark_after
marked-read a i h marks =
    record { many = length-set marks i (mark a); last = λ j l. set_at marks i (mark a) j l }

emit-marks : {A : Type 0} (m : Prog A) (s : St) → MarkedBy s.marks (emit m s).st.marks (reads m s)
unfolding emit reads
emit-marks (ret a) s = marked-none s.marks
emit-marks (op t f) s = emit-marks (f s.next) _
emit-marks {A} (declare a i h f) s = go (λ k s. emit-marks (f k) s) (get_or s.names (place a i h) 0)
  where
    go : ((k : ℕ) (s : St) → MarkedBy s.marks (emit (f k) s).st.marks (reads (f k) s)) → (o : ℕ)
        → MarkedBy s.marks (known {X = Out A} o
        (after (c.declare (net_name a i h) 1 ∷ []) (emit (f s.next) (learn a i h s)))
        (λ k. emit (f k) (reread a i s))).st.marks
        (net_read a i h ∷ known o (reads (f s.next) (learn a i h s)) (λ k. reads (f k) (reread a i s)))
    go rec zero = marked_then (net_read a i h ∷ []) _ (marked-read a i h s.marks) (rec s.next (learn a i h s))
    go rec (suc k) = marked_then (net_read a i h ∷ []) _ (marked-read a i h s.marks) (rec k (reread a i s))
emit-marks (bind w t f) s = emit-marks (f s.next) _
emit-marks (bind2 w x y f) s = emit-marks (f s.next (suc s.next)) _

pub work-marks : (steps : List Step) (s : St) → MarkedBy s.marks (work steps s).st.marks (step_reads steps s)
unfolding work step_reads
work-marks [] s = marked-none s.marks
work-marks (declared m ∷ rest) s = marked_then (reads m s) _ (emit-marks m s) (work-marks rest (emit m s).st)
work-marks (asserted m ∷ rest) s = marked_then (reads m s) _ (emit-marks m s) (work-marks rest (emit m s).st)
work-marks (obliged m ∷ rest) s = marked_then (reads m s) _ (emit-marks m s) (work-marks rest (emit m s).st)

none-marked : (n i : ℕ) → ◌≡◌ {A = ℕ} (get_or (replicate n 0) i 0) 0
none-marked zero i = refl
none-marked (suc n) zero = refl
none-marked (suc n) (suc i) = none-marked n i

-- The marks of a design: one for each slot, by its last read, 0 where there is none.
pub marks-many : (d : Design) → length (built d).st.marks ≡ total d
marks-many d = (work-marks (steps d) (start (total d))).many ∙ length-replicate {A = ℕ} (total d) _

pub marks_by_last-read : (d : Design) (i : ℕ) → i < total d → get_or (built d).st.marks i 0
    ≡ mark_after i 0 (reads_of d)
marks_by_last-read d i low =
    (work-marks (steps d) (start (total d))).last i (rw length-replicate low)
    ∙ ap (λ (m : ℕ). mark_after i m (reads_of d)) (none-marked (total d) i)

-- ---- what a mark says of the reads

mark_inj : (a b : Age) → mark a ≡ mark b → a ≡ b
mark_inj curr curr e = refl
mark_inj curr past e = absurd (omega arith)
mark_inj past curr e = absurd (omega arith)
mark_inj past past e = refl

-- A slot marked n or p has such a read, unless it had the mark before.
pub marked-read_of : (i m : ℕ) (rs : List NetRead) (a : Age) → mark_after i m rs ≡ mark a
    → (m ≡ mark a) ⊎ ((h : Half) × Memᴰ (net_read a i h) rs)
unfolding mark_after
marked-read_of i m [] a e = inl e
marked-read_of i m (r ∷ rs) a e = go (eqb r.slot i) refl (marked-read_of i (mark_after i m (r ∷ [])) rs a e)
  where
    go : (b : Bool) → eqb r.slot i ≡ b
        → (cond b (mark r.age) m ≡ mark a) ⊎ ((h : Half) × Memᴰ (net_read a i h) rs)
        → (m ≡ mark a) ⊎ ((h : Half) × Memᴰ (net_read a i h) (r ∷ rs))
    go b q (inr later) = inr (later.0, Memᴰ.tail later.1)
    go false q (inl before) = inl before
    go true q (inl here) =
        let slot = eqb-true r.slot i q in
        let age = mark_inj r.age a here in
        inr (r.half, Memᴰ.head (λ t. record { age = sym age t; slot = sym slot t; half = r.half }))

-- A slot that is marked none was so before, and has no read.
pub unmarked-unread : (i m : ℕ) (rs : List NetRead) → mark_after i m rs ≡ 0
    → (m ≡ 0) × ((a : Age) (h : Half) → Memᴰ (net_read a i h) rs → ⊥)
unfolding mark_after
unmarked-unread i m [] e = (e, λ a h q. Memᴰ.not-nil q)
unmarked-unread i m (r ∷ rs) e = go (eqb r.slot i) refl (unmarked-unread i (mark_after i m (r ∷ [])) rs e)
  where
    some-mark : (a : Age) → mark a ≡ 0 → ⊥
    some-mark curr z = omega arith
    some-mark past z = omega arith

    go : (b : Bool) → eqb r.slot i ≡ b
        → (cond b (mark r.age) m ≡ 0) × ((a : Age) (h : Half) → Memᴰ (net_read a i h) rs → ⊥)
        → (m ≡ 0) × ((a : Age) (h : Half) → Memᴰ (net_read a i h) (r ∷ rs) → ⊥)
    go true q u = absurd (some-mark r.age u.0)
    go false q u = (
      u.0,
      λ a h m.
          ⊎_elim (λ p. eqb-false r.slot i q (ap (λ (n : NetRead). n.slot) (sym p))) (u.1 a h)
          (Memᴰ.cases_cons m),
    )

-- No mark is above 2.
pub mark-low : (i m : ℕ) (rs : List NetRead) → m ≤ 2 → mark_after i m rs ≤ 2
unfolding mark_after
mark-low i m [] low = low
mark-low i m (r ∷ rs) low = mark-low i (mark_after i m (r ∷ [])) rs (go (eqb r.slot i) r.age)
  where
    go : (b : Bool) (a : Age) → cond b (mark a) m ≤ 2
    go true curr = omega arith
    go true past = omega arith
    go false a = low
