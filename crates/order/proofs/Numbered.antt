-- The builder's next term number counts the calls that make a term.
use mathlib.Core.Path.{◌≡◌}
use mathlib.Core.List.{List, [], ◌∷◌, ◌++◌}
use Prim.Native.Nat.{ℕ, zero, suc, ◌+◌}
use native.Mathlib.Omega.{arith}
use lib.ListN.{get_or}
use Rattle.engine.specs.Call.{Call}
use Rattle.engine.specs.Call as c
use Rattle.engine.specs.Meaning.{terms}
use Rattle.smt.specs.Prog.{Prog, ret, op, declare, bind, bind2}
use Rattle.smt.specs.Emit.{St, Out, net_name, place, at, learn, reread, after, known, emit}
use Rattle.order.specs.Verify.{Step, declared, asserted, obliged, work}

pub terms_append : (cs ds : List Call) → terms (cs ++ ds) ≡ terms cs + terms ds
unfolding terms
terms_append [] ds = omega arith
terms_append (c.term t ∷ cs) ds = let h = terms_append cs ds in omega arith
terms_append (c.declare name w ∷ cs) ds = let h = terms_append cs ds in omega arith
terms_append (c.assert k ∷ cs) ds = terms_append cs ds
terms_append (c.check ∷ cs) ds = terms_append cs ds

pub emit-next : {A : Type 0} (m : Prog A) (s : St) → (emit m s).st.next ≡ s.next + terms (emit m s).calls
unfolding emit terms
emit-next (ret a) s = omega arith
emit-next (op t f) s = let h = emit-next (f s.next) (at (suc s.next) s.temp s) in omega arith
emit-next {A} (declare a i y f) s = go (λ k s. emit-next (f k) s) (get_or s.names (place a i y) 0)
  where
    go : ((k : ℕ) (s : St) → (emit (f k) s).st.next ≡ s.next + terms (emit (f k) s).calls) → (o : ℕ)
        → (known {X = Out A} o (after (c.declare (net_name a i y) 1 ∷ []) (emit (f s.next) (learn a i y s)))
        (λ k. emit (f k) (reread a i s))).st.next
        ≡ s.next + terms
        (known {X = Out A} o (after (c.declare (net_name a i y) 1 ∷ []) (emit (f s.next) (learn a i y s)))
        (λ k. emit (f k) (reread a i s))).calls
    go rec zero = let h = rec s.next (learn a i y s) in omega arith
    go rec (suc k) = rec k (reread a i s)
emit-next (bind w t f) s = let h = emit-next (f s.next) (at (suc (suc s.next)) (suc s.temp) s) in omega arith
emit-next (bind2 w x y f) s =
    let h = emit-next (f s.next (suc s.next)) (at (suc (suc (suc (suc s.next)))) (suc s.temp) s) in
    omega arith

pub work-next : (steps : List Step) (s : St) → (work steps s).st.next ≡ s.next + terms (work steps s).calls
unfolding work terms
work-next [] s = omega arith
work-next (declared m ∷ rest) s =
    let h = emit-next m s in
    let g = work-next rest (emit m s).st in
    let e = terms_append (emit m s).calls (work rest (emit m s).st).calls in
    omega arith
work-next (asserted m ∷ rest) s =
    let h = emit-next m s in
    let g = work-next rest (emit m s).st in
    let e = terms_append (emit m s).calls (c.assert (emit m s).res ∷ (work rest (emit m s).st).calls) in
    omega arith
work-next (obliged m ∷ rest) s =
    let h = emit-next m s in
    let g = work-next rest (emit m s).st in
    let e = terms_append (emit m s).calls (work rest (emit m s).st).calls in
    omega arith
