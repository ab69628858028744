-- One law for each way of putting runs together (`ran_op`, `ran_bind`, `ran_ret`, `ran_none`, `ran_assoc`), and for
-- writing calls one after the other (`wrote_call`, `wrote-calls`).
use mathlib.Core.Path.{◌≡◌, refl, sym, ap, ap₂, subst, ◌∙◌}
use mathlib.Core.List.{List, [], ◌∷◌, ◌++◌, append_assoc, append-nil}
use Prim.Native.Nat.{ℕ, zero, suc, ◌+◌, ◌<◌, ◌≤◌, ◌^◌}
use native.Mathlib.Omega.{arith}
use lib.ListN.{length, get_or}
use Rattle.engine.specs.Call.{Call, Term, term}
use Rattle.engine.specs.Call as k
use Rattle.engine.specs.Encode.{encode, record_of}
use Rattle.engine.specs.Emit.{Wrote}
use Rattle.engine.proofs.EmitLaws.{wrote_then, wrote_none, length-overwrite}
use Rattle.smt.specs.Prog.{Prog, ret, op, declare, bind, bind2, ◌>>=◌}
use Rattle.smt.specs.Emit.{St, Out, after, emit, at, learn, reread, place, known, net_name}
use Rattle.smt.proofs.WpLaws.{emit_seq}
use Rattle.builder.specs.declared.Counts.{Counts}
use Rattle.builder.specs.declared.Built.{Built}
use Rattle.builder.specs.Ran.{state_of, Lent, Fits, Ends, Ran, Writes, built_at}

-- ---- counts only grow

pub record Grows (s s' : St) : Type 0 where
  pub next : s.next ≤ s'.next
  pub temp : s.temp ≤ s'.temp

pub emit_grows : {A : Type 0} (m : Prog A) (s : St) → Grows s (emit m s).st
unfolding emit
emit_grows (ret a) s = record { next = omega arith; temp = omega arith }
emit_grows (op t f) s =
    let h = emit_grows (f s.next) (at (suc s.next) s.temp s) in
    record { next = omega arith; temp = omega arith }
emit_grows {A} (declare a i y f) s = go (λ j s. emit_grows (f j) s) (get_or s.names (place a i y) 0)
  where
    go : ((j : ℕ) (s : St) → Grows s (emit (f j) s).st) → (o : ℕ)
        → Grows s
        (known {X = Out A} o (after (k.declare (net_name a i y) 1 ∷ []) (emit (f s.next) (learn a i y s)))
        (λ j. emit (f j) (reread a i s))).st
    go rec zero = let h = rec s.next (learn a i y s) in record { next = omega arith; temp = omega arith }
    go rec (suc j) = let h = rec j (reread a i s) in record { next = omega arith; temp = omega arith }
emit_grows (bind w t f) s =
    let h = emit_grows (f s.next) (at (suc (suc s.next)) (suc s.temp) s) in
    record { next = omega arith; temp = omega arith }
emit_grows (bind2 w x y f) s =
    let h = emit_grows (f s.next (suc s.next)) (at (suc (suc (suc (suc s.next)))) (suc s.temp) s) in
    record { next = omega arith; temp = omega arith }

pub encode_append : (cs ds : List Call) → encode (cs ++ ds) ≡ encode cs ++ encode ds
unfolding encode
encode_append [] ds = refl
encode_append (c ∷ cs) ds = ap (λ (l : List ℕ). record_of c ++ l) (encode_append cs ds)
    ∙ sym (append_assoc (record_of c) (encode cs) (encode ds))

-- ---- one run after another

pub ran_bind : {A B : Type 0} {m : Prog A} (f : A → Prog B)
    {calls names marks calls₁ names₁ marks₁ calls₂ names₂ marks₂ : List ℕ} {c c₁ c₂ : Counts} {a : A} {b : B}
    → Ran m calls names marks c calls₁ names₁ marks₁ c₁ a → Ran (f a) calls₁ names₁ marks₁ c₁ calls₂ names₂ marks₂ c₂ b
    → Ran (m >>= f) calls names marks c calls₂ names₂ marks₂ c₂ b
ran_bind {A} {B} {m} f {calls} {names} {marks} {calls₁} {names₁} {marks₁} {calls₂} {names₂} {marks₂} {c} {c₁} {c₂} {a}
    {b} p q =
    record { ends = λ short fits. whole short fits }
  where
    s : St
    s = state_of c names marks

    s₁ : St
    s₁ = state_of c₁ names₁ marks₁

    whole : Lent calls c.words → Fits (emit (m >>= f) s).st
        → Ends (emit (m >>= f) s) calls c.words calls₂ c₂.words (state_of c₂ names₂ marks₂) b
    whole short fits =
        let seq = emit_seq m f s in
        let fits₁ : Fits (emit (f (emit m s).res) (emit m s).st).st =
        subst (λ (o : Out B). Fits o.st) seq fits in
        let grows = emit_grows (f (emit m s).res) (emit m s).st in
        let first = p.ends short record { next = omega arith; temp = omega arith } in
        let here : emit (f (emit m s).res) (emit m s).st ≡ emit (f a) s₁ =
        ap₂ (λ (r : A) (t : St). emit (f r) t) first.res first.state in
        let narrow = short.short in
        let long : length calls₁ ≡ length calls = ap length first.wrote.words
        ∙ length-overwrite calls c.words (encode (emit m s).calls) in
        let then =
        q.ends record { short = omega arith; low = let e = first.wrote.count in omega arith }
        (subst (λ (o : Out B). Fits o.st) here fits₁) in
        let same : emit (m >>= f) s ≡ after (emit m s).calls (emit (f a) s₁) = seq
        ∙ ap (after (emit m s).calls) here in
        subst (λ (o : Out B). Ends o calls c.words calls₂ c₂.words (state_of c₂ names₂ marks₂) b) (sym same)
        record {
          state = then.state;
          res = then.res;
          wrote = rw (encode_append (emit m s).calls (emit (f a) s₁).calls)
              (wrote_then first.wrote then.wrote short.short);
        }

-- ---- one call that makes a term

pub ran_op : {A : Type 0} (t : Term) (g : ℕ → A) {calls calls' : List ℕ} {c : Counts} {words : ℕ} {r : Built}
    → Wrote calls c.words (record_of (term t)) calls' words → r ≡ built_at c words
    → Writes (op t (λ k. ret (g k))) calls c calls' r.counts (g r.term.0)
unfolding emit encode
ran_op {A} t g {calls} {calls'} {c} {words} {r} wrote made names marks =
    subst (λ (b : Built). Ran (op t (λ k. ret (g k))) calls names marks c calls' names marks b.counts
    (g b.term.0)) (sym made)
    record {
      ends = λ short fits. record {
        state = ap (λ (n : ℕ). record { next = n; temp = c.temporaries; names = names; marks = marks })
            (let low = fits.next in omega arith);
        res = refl;
        wrote = rw (append-nil (record_of (term t))) wrote;
      };
    }

-- A result made of another's.
pub ran_ret : {A B : Type 0} {m : Prog A} (g : A → B) {calls names marks calls' names' marks' : List ℕ} {c c' : Counts}
    {a : A}
    → Ran m calls names marks c calls' names' marks' c' a
    → Ran (m >>= (λ x. ret (g x))) calls names marks c calls' names' marks' c' (g a)
unfolding emit
ran_ret {A} {B} {m} g {calls} {names} {marks} {calls'} {names'} {marks'} {c} {c'} {a} p =
    record { ends = λ short fits. go short fits }
  where
    s : St
    s = state_of c names marks

    go : Lent calls c.words → Fits (emit (m >>= (λ x. ret (g x))) s).st
        → Ends (emit (m >>= (λ x. ret (g x))) s) calls c.words calls' c'.words (state_of c' names' marks') (g a)
    go short fits =
        let seq = emit_seq m (λ x. ret (g x)) s in
        let first = p.ends short (subst (λ (o : Out B). Fits o.st) seq fits) in
        subst (λ (o : Out B). Ends o calls c.words calls' c'.words (state_of c' names' marks') (g a)) (sym seq)
        record {
          state = first.state;
          res = ap g first.res;
          wrote =
              rw (append-nil (emit m s).calls) first.wrote;
        }

-- ---- calls at the level of words

pub wrote_call : (call : Call) {calls calls' : List ℕ} {at next : ℕ} → Wrote calls at (record_of call) calls' next →
    Wrote calls at (encode (call ∷ [])) calls' next
unfolding encode
wrote_call call wrote = rw (append-nil (record_of call)) wrote

pub wrote-calls : (cs ds : List Call) {calls calls₁ calls₂ : List ℕ} {at mid next : ℕ}
    → Wrote calls at (encode cs) calls₁ mid → Wrote calls₁ mid (encode ds) calls₂ next → length calls < 2 ^ 64
    → Wrote calls at (encode (cs ++ ds)) calls₂ next
wrote-calls cs ds p q short = rw (encode_append cs ds) (wrote_then p q short)

-- Nothing run.
pub ran_none : {A : Type 0} (a : A) (calls names marks : List ℕ) (c : Counts) →
    Ran (ret a) calls names marks c calls names marks c a
unfolding emit encode
ran_none a calls names marks c =
    record { ends = λ lent fits. record { state = refl; res = refl; wrote = wrote_none calls c.words lent.low } }

-- ---- a part of a sequence as a function of its own

emit_assoc : {A B C : Type 0} (m : Prog A) (g : A → Prog B) (f : B → Prog C) (s : St)
    → emit ((m >>= g) >>= f) s ≡ emit (m >>= (λ x. g x >>= f)) s
emit_assoc {A} {B} {C} m g f s =
    emit_seq (m >>= g) f s
    ∙ ap (λ (o : Out B). after o.calls (emit (f o.res) o.st)) (emit_seq m g s)
    ∙ ap (λ (l : List Call). record { res = rest.res; st = rest.st; calls = l })
    (append_assoc (emit m s).calls mid.calls rest.calls)
    ∙ sym (emit_seq m (λ x. g x >>= f) s
    ∙ ap (after (emit m s).calls) (emit_seq (g (emit m s).res) f (emit m s).st))
  where
    mid : Out B
    mid = emit (g (emit m s).res) (emit m s).st

    rest : Out C
    rest = emit (f mid.res) mid.st

pub ran_assoc : {A B C : Type 0} (m : Prog A) (g : A → Prog B) (f : B → Prog C)
    {calls names marks calls' names' marks' : List ℕ} {c c' : Counts} {r : C}
    → Ran ((m >>= g) >>= f) calls names marks c calls' names' marks' c' r →
    Ran (m >>= (λ x. g x >>= f)) calls names marks c calls' names' marks' c' r
ran_assoc {A} {B} {C} m g f {calls} {names} {marks} {calls'} {names'} {marks'} {c} {c'} {r} p =
    let same = emit_assoc m g f (state_of c names marks) in
    record {
      ends = λ lent fits.
          subst (λ (o : Out C). Ends o calls c.words calls' c'.words (state_of c' names' marks') r) same
          (p.ends lent (subst (λ (o : Out C). Fits o.st) (sym same) fits));
    }

-- ---- the same result, said in another way

pub ran_as : {A : Type 0} {m : Prog A} {calls names marks calls' names' marks' : List ℕ} {c c' : Counts} {a b : A}
    → Ran m calls names marks c calls' names' marks' c' a → a ≡ b → Ran m calls names marks c calls' names' marks' c' b
ran_as p same = rw same at p
