-- Document 01: "The builder marks each slot in the recorded slice 0 (none), 1 (n) or 2 (p), by its last read." The
-- reads of nets of a run, in order: every name that is declared, a known one among them, whose declaring reuses its
-- number and adds no record.
use Rattle.std.specs.Prelude.{cond, List, [], ◌∷◌, ◌++◌, ℕ, suc, eqb, get_or}
use Rattle.cell.specs.Design.{Design, total}
use Rattle.smt.specs.Prog.{Prog, ret, op, declare, bind, bind2, Age, Half}
use Rattle.smt.specs.Emit.{St, place, mark, at, reread, learn, known, emit}
use Rattle.order.specs.Verify.{Step, declared, asserted, obliged, steps, start}

-- n or p of a slot, its x or its y.
pub record NetRead : Type 0 where
  pub age : Age
  pub slot : ℕ
  pub half : Half

abbrev pub net_read : Age → ℕ → Half → NetRead
net_read a i h = record { age = a; slot = i; half = h }

-- The reads of a run from the builder's state, which goes on as in `emit`.
unfoldable pub reads : {A : Type 0} → Prog A → St → List NetRead
reads (ret a) s = []
reads (op t f) s = reads (f s.next) (at (suc s.next) s.temp s)
reads (declare a i h f) s =
    net_read a i h
    ∷ known (get_or s.names (place a i h) 0) (reads (f s.next) (learn a i h s)) (λ k. reads (f k) (reread a i s))
reads (bind w t f) s = reads (f s.next) (at (suc (suc s.next)) (suc s.temp) s)
reads (bind2 w x y f) s = reads (f s.next (suc s.next)) (at (suc (suc (suc (suc s.next)))) (suc s.temp) s)

-- The reads of the steps, and of a design's order of work.
unfoldable pub step_reads : List Step → St → List NetRead
step_reads [] s = []
step_reads (declared m ∷ rest) s = reads m s ++ step_reads rest (emit m s).st
step_reads (asserted m ∷ rest) s = reads m s ++ step_reads rest (emit m s).st
step_reads (obliged m ∷ rest) s = reads m s ++ step_reads rest (emit m s).st

abbrev pub reads_of : Design → List NetRead
reads_of d = step_reads (steps d) (start (total d))

-- The mark of a slot after some reads: each read of the slot takes the place of the mark before it.
unfoldable pub mark_after : ℕ → ℕ → List NetRead → ℕ
mark_after i before [] = before
mark_after i before (r ∷ rest) = mark_after i (cond (eqb r.slot i) (mark r.age) before) rest
