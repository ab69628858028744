-- The reads of runs: a sequence's are its first part's and then its second's, and a slot's net is read by its x and its
-- y.
use mathlib.Core.Path.{◌≡◌, refl, ap}
use mathlib.Core.List.{List, [], ◌∷◌, ◌++◌}
use Prim.Native.Nat.{ℕ, zero, suc}
use lib.ListN.{get_or}
use Rattle.logic.specs.Net.{slot}
use Rattle.smt.specs.Prog.{Prog, ret, op, declare, bind, bind2, ◌>>=◌, Age, Half, is_undef, is_one}
use Rattle.smt.specs.Builder.{bv_const, tv_const, net_of}
use Rattle.smt.specs.Emit.{St, place, reread, emit}
use Rattle.order.specs.Reads.{NetRead, net_read, reads}

pub reads_seq : {A B : Type 0} (m : Prog A) (g : A → Prog B) (s : St)
    → reads (m >>= g) s ≡ reads m s ++ reads (g (emit m s).res) (emit m s).st
unfolding reads emit ◌>>=◌
reads_seq (ret a) g s = refl
reads_seq (op t f) g s = reads_seq (f s.next) g _
reads_seq (declare a i h f) g s = go (λ k s. reads_seq (f k) g s) (get_or s.names (place a i h) 0) refl
  where
    go : ((k : ℕ) (s : St) → reads (f k >>= g) s
        ≡ reads (f k) s ++ reads (g (emit (f k) s).res) (emit (f k) s).st)
        → (o : ℕ) → get_or s.names (place a i h) 0 ≡ o
        → reads (declare a i h f >>= g) s
        ≡ reads (declare a i h f) s ++ reads (g (emit (declare a i h f) s).res) (emit (declare a i h f) s).st
    go rec zero e = rw e (rw rec)
    go rec (suc k) e = rw e (ap (λ (l : List NetRead). net_read a i h ∷ l) (rec k (reread a i s)))
reads_seq (bind w t f) g s = reads_seq (f s.next) g _
reads_seq (bind2 w x y f) g s = reads_seq (f s.next (suc s.next)) g _

const_reads : (a : Age) (i : ℕ) (h : Half) (s : St) → reads (bv_const a i h) s ≡ net_read a i h ∷ []
unfolding reads
const_reads a i h s = go (get_or s.names (place a i h) 0) refl
  where
    go : (o : ℕ) → get_or s.names (place a i h) 0 ≡ o → reads (bv_const a i h) s ≡ net_read a i h ∷ []
    go zero e = rw e
    go (suc k) e = rw e

ret-reads : {A : Type 0} (a : A) (s : St) → reads (ret a) s ≡ []
unfolding reads
ret-reads a s = refl

pub slot-reads : (a : Age) (i : ℕ) (s : St) → reads (net_of a (slot i)) s ≡ net_read a i is_undef ∷ net_read a i is_one ∷ []
unfolding net_of tv_const
slot-reads a i s =
    rw (
      reads_seq (bv_const a i is_undef),
      reads_seq (bv_const a i is_one),
      const_reads a i is_undef,
      const_reads a i is_one,
      ret-reads,
    )
