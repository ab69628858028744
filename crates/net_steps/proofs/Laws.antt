-- One law for each step, for steps one after the other (`did_append`), and for a loop over steps (`Rest`). Assumes
-- nothing.
use mathlib.Core.Path.{◌≡◌, refl, sym, ap, ap₂, subst, ◌∙◌}
use mathlib.Core.List.{List, [], ◌∷◌, ◌++◌, append_assoc, append-nil}
use Prim.Native.Nat.{ℕ, ◌+◌}
use native.Mathlib.Omega.{arith}
use lib.ListN.{length}
use Rattle.engine.specs.Call.{assert, check}
use Rattle.engine.specs.Encode.{encode, record_of}
use Rattle.engine.specs.Emit.{Wrote}
use Rattle.engine.proofs.EmitLaws.{wrote_none, length-overwrite}
use Rattle.smt.specs.Prog.{Prog, TritVec, ◌>>=◌}
use Rattle.smt.specs.Emit.{St, Out, emit}
use Rattle.builder.specs.declared.Counts.{Counts}
use Rattle.builder.specs.declared.Built.{Built}
use Rattle.builder.specs.Ran.{state_of, Lent, Fits, Ends, Ran, Writes}
use Rattle.builder.proofs.Laws.{Grows, emit_grows, wrote_call, wrote-calls}
use Rattle.order.specs.Verify.{Step, declared, asserted, obliged, work, query, asked_calls}
use Rattle.net_steps.specs.Did.{Did, Asserts, Asks}

work_grows : (steps : List Step) (s : St) → Grows s (work steps s).st
unfolding work
work_grows [] s = record { next = omega arith; temp = omega arith }
work_grows (declared m ∷ rest) s =
    let p = emit_grows m s in let q = work_grows rest (emit m s).st in
    record { next = omega arith; temp = omega arith }
work_grows (asserted m ∷ rest) s =
    let p = emit_grows m s in let q = work_grows rest (emit m s).st in
    record { next = omega arith; temp = omega arith }
work_grows (obliged m ∷ rest) s =
    let p = emit_grows m s in let q = work_grows rest (emit m s).st in
    record { next = omega arith; temp = omega arith }

-- One list of steps after another.
both : Out (List ℕ) → Out (List ℕ) → Out (List ℕ)
both a b = record { res = a.res ++ b.res; st = b.st; calls = a.calls ++ b.calls }

work_append : (xs ys : List Step) (s : St) → work (xs ++ ys) s ≡ both (work xs s) (work ys (work xs s).st)
unfolding work both
work_append [] ys s = refl
work_append (declared m ∷ xs) ys s = rw (work_append xs ys (emit m s).st, append_assoc)
work_append (asserted m ∷ xs) ys s = rw (work_append xs ys (emit m s).st, append_assoc)
work_append (obliged m ∷ xs) ys s = rw (work_append xs ys (emit m s).st, append_assoc)

pub did_none : (calls names marks : List ℕ) (c : Counts) → Did [] calls names marks c calls names marks c []
unfolding work encode
did_none calls names marks c =
    record { ends = λ lent fits. record { state = refl; res = refl; wrote = wrote_none calls c.words lent.low } }

-- A claim, made and asserted.
pub did-asserted : {m : Prog ℕ} {calls names marks calls₁ names₁ marks₁ calls₂ : List ℕ} {c c₂ : Counts} {claim : Built}
    → Ran m calls names marks c calls₁ names₁ marks₁ claim.counts claim.term.0 → Asserts claim calls₁ calls₂ c₂
    → Did (asserted m ∷ []) calls names marks c calls₂ names₁ marks₁ c₂ []
unfolding work
did-asserted {m} {calls} {names} {marks} {names₁ = names₁} {marks₁ = marks₁} {c = c} {c₂ = c₂} {claim = claim} p done =
    record {
      ends = λ lent fits.
          let first = p.ends lent fits in
          let written = wrote_call (assert claim.term.0) done.wrote in
          record {
            state = first.state ∙ sym (ap (λ (d : Counts). state_of d names₁ marks₁) done.same);
            res = refl;
            wrote =
                rw first.res
                (wrote-calls (emit m (state_of c names marks)).calls (assert claim.term.0 ∷ []) first.wrote
                written lent.short);
          };
    }

pub did_append : (xs ys : List Step) {calls names marks calls₁ names₁ marks₁ calls₂ names₂ marks₂ : List ℕ}
    {c c₁ c₂ : Counts} {us bs : List ℕ}
    → Did xs calls names marks c calls₁ names₁ marks₁ c₁ us → Did ys calls₁ names₁ marks₁ c₁ calls₂ names₂ marks₂ c₂ bs
    → Did (xs ++ ys) calls names marks c calls₂ names₂ marks₂ c₂ (us ++ bs)
unfolding both
did_append xs ys {calls} {names} {marks} {calls₁} {names₁} {marks₁} {calls₂} {names₂} {marks₂} {c} {c₁} {c₂} {us} {bs} p
    q =
    record { ends = λ lent fits. whole lent fits }
  where
    s : St
    s = state_of c names marks

    s₁ : St
    s₁ = state_of c₁ names₁ marks₁

    whole : Lent calls c.words → Fits (work (xs ++ ys) s).st
        → Ends (work (xs ++ ys) s) calls c.words calls₂ c₂.words (state_of c₂ names₂ marks₂) (us ++ bs)
    whole lent fits =
        let seq = work_append xs ys s in
        let fits₁ : Fits (work ys (work xs s).st).st = subst (λ (o : Out (List ℕ)). Fits o.st) seq fits in
        let grows = work_grows ys (work xs s).st in
        let first = p.ends lent record { next = omega arith; temp = omega arith } in
        let narrow = lent.short in
        let long : length calls₁ ≡ length calls = ap length first.wrote.words
        ∙ length-overwrite calls c.words (encode (work xs s).calls) in
        let then =
        q.ends record { short = omega arith; low = let e = first.wrote.count in omega arith }
        (subst (λ (t : St). Fits (work ys t).st) first.state fits₁) in
        let same : work (xs ++ ys) s ≡ both (work xs s) (work ys s₁) = seq
        ∙ ap (λ (t : St). both (work xs s) (work ys t)) first.state in
        subst (λ (o : Out (List ℕ)). Ends o calls c.words calls₂ c₂.words (state_of c₂ names₂ marks₂) (us ++ bs))
        (sym same)
        record {
          state = then.state;
          res = ap₂ (λ (a b : List ℕ). a ++ b) first.res then.res;
          wrote = wrote-calls (work xs s).calls (work ys s₁).calls first.wrote then.wrote lent.short;
        }

-- ---- a loop over steps: the rest from here completes the whole

pub record Rest (whole left : List Step) (calls₀ names₀ marks₀ : List ℕ) (c₀ : Counts) (calls names marks : List ℕ)
    (c : Counts) (done : List ℕ) : Type 0 where
  pub rest : {calls' names' marks' : List ℕ} {c' : Counts} {more : List ℕ}
      → Did left calls names marks c calls' names' marks' c' more →
      Did whole calls₀ names₀ marks₀ c₀ calls' names' marks' c' (done ++ more)

pub rest_start : (whole : List Step) (calls names marks : List ℕ) (c : Counts) →
    Rest whole whole calls names marks c calls names marks c []
rest_start whole calls names marks c = record { rest = λ p. p }

pub rest_turn : (step left : List Step) {whole : List Step}
    {calls₀ names₀ marks₀ calls names marks calls₁ names₁ marks₁ : List ℕ} {c₀ c c₁ : Counts} {done terms : List ℕ}
    → Rest whole (step ++ left) calls₀ names₀ marks₀ c₀ calls names marks c done
    → Did step calls names marks c calls₁ names₁ marks₁ c₁ terms
    → Rest whole left calls₀ names₀ marks₀ c₀ calls₁ names₁ marks₁ c₁ (done ++ terms)
rest_turn step left {done = done} {terms = terms} p q =
    record { rest = λ r. rw (append_assoc done terms _) (p.rest (did_append step left q r)) }

pub rest_end : {whole : List Step} {calls₀ names₀ marks₀ calls names marks : List ℕ} {c₀ c : Counts} {done : List ℕ}
    → Rest whole [] calls₀ names₀ marks₀ c₀ calls names marks c done →
    Did whole calls₀ names₀ marks₀ c₀ calls names marks c done
rest_end {whole} {calls₀} {names₀} {marks₀} {calls} {names} {marks} {c₀} {c} {done} p =
    let all : Did whole calls₀ names₀ marks₀ c₀ calls names marks c (done ++ []) =
    p.rest (did_none calls names marks c) in
    rw (append-nil done) at all

pub did-declared : {m : Prog TritVec} {calls names marks calls₁ names₁ marks₁ : List ℕ} {c c₁ : Counts} {a : TritVec}
    → Ran m calls names marks c calls₁ names₁ marks₁ c₁ a →
    Did (declared m ∷ []) calls names marks c calls₁ names₁ marks₁ c₁ []
unfolding work
did-declared {m} {calls} {names} {marks} {c = c} p =
    record {
      ends = λ lent fits.
          let first = p.ends lent fits in
          record {
            state = first.state;
            res = refl;
            wrote =
                rw (append-nil (emit m (state_of c names marks)).calls) first.wrote;
          };
    }

pub did-obliged : {m : Prog ℕ} {calls names marks calls₁ names₁ marks₁ : List ℕ} {c c₁ : Counts} {a : ℕ}
    → Ran m calls names marks c calls₁ names₁ marks₁ c₁ a →
    Did (obliged m ∷ []) calls names marks c calls₁ names₁ marks₁ c₁ (a ∷ [])
unfolding work
did-obliged {m} {calls} {names} {marks} {c = c} p =
    record {
      ends = λ lent fits.
          let first = p.ends lent fits in
          record {
            state = first.state;
            res = ap (λ (a : ℕ). a ∷ []) first.res;
            wrote = rw (append-nil (emit m (state_of c names marks)).calls) first.wrote;
          };
    }

-- ---- check

pub asks_nothing : (eqs : List ℕ) → length eqs ≡ 0 → (calls : List ℕ) (c : Counts) → Asks eqs calls c calls c
unfolding asked_calls encode
asks_nothing [] none calls c names marks lent fits fits' =
    record { wrote = wrote_none calls c.words lent.low; terms = omega arith; temporaries = refl }
asks_nothing (o ∷ eqs) none calls c names marks lent fits fits' = absurd (omega arith)

pub asks-query : (eqs : List ℕ) → (length eqs ≡ 0 → ⊥) →
    {calls calls₁ calls₂ calls₃ : List ℕ} {c c₁ c₂ : Counts} {term words : ℕ}
    → Writes (query eqs) calls c calls₁ c₁ term
    → Wrote calls₁ c₁.words (record_of (assert term)) calls₂ words
    → Wrote calls₂ words (record_of check) calls₃ c₂.words
    → c₂.terms ≡ c₁.terms → c₂.temporaries ≡ c₁.temporaries
    → Asks eqs calls c calls₃ c₂
unfolding asked_calls query emit ◌>>=◌
asks-query [] some wrote w₁ w₂ t₁ t₂ names marks lent fits fits' = absurd (some refl)
asks-query (o ∷ eqs) some {calls} {calls₁} {calls₂} {calls₃} {c} {c₁} {c₂} {term} {words} made w₁ w₂ t₁ t₂ names marks
    lent fits fits' =
    let ran = (made names marks).ends lent record { next = omega arith; temp = fits' } in
    let narrow = lent.short in
    let long : length calls₁ ≡ length calls = ap length ran.wrote.words ∙ length-overwrite calls c.words _ in
    let ending =
    wrote-calls (assert term ∷ []) (check ∷ []) (wrote_call (assert term) w₁) (wrote_call check w₂) (omega arith) in
    record {
      wrote = rw ran.res (wrote-calls _ (assert term ∷ check ∷ []) ran.wrote ending lent.short);
      terms = t₁ ∙ sym (ap (λ (s : St). s.next) ran.state) ∙ omega arith;
      temporaries = t₂ ∙ sym (ap (λ (s : St). s.temp) ran.state);
    }
