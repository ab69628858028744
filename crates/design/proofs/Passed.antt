-- A pass: the steps of an accepted list, then check, leave its calls, its marks and its counts. That the counts fit is
-- met here, once, from the bound of the whole list. Assumes nothing.
use mathlib.Core.Path.{◌≡◌, refl, sym, ap, ap₂, subst, ◌∙◌}
use mathlib.Core.List.{List, [], ◌∷◌}
use Prim.Native.Nat.{ℕ, ◌+◌, ◌*◌, ◌<◌, ◌^◌}
use native.Mathlib.Omega.{arith}
use lib.ListN.{length, replicate}
use Rattle.cell.specs.Design.{Design, total}
use Rattle.engine.specs.Call.{Call}
use Rattle.engine.specs.Meaning.{terms}
use Rattle.engine.specs.Encode.{encode}
use Rattle.engine.specs.Emit.{Wrote}
use Rattle.engine.proofs.EmitLaws.{length-overwrite}
use Rattle.smt.specs.Prog.{◌>>=◌}
use Rattle.smt.specs.Emit.{St, emit}
use Rattle.design_list.specs.Read.{accepted}
use Rattle.order.specs.Verify.{steps, start, built, query, asked_calls, verify}
use Rattle.order.proofs.Numbered.{terms_append, work-next}
use Rattle.builder.specs.declared.Counts.{Counts}
use Rattle.builder.specs.Ran.{state_of}
use Rattle.builder.proofs.Laws.{wrote-calls}
use Rattle.net_steps.specs.Did.{Did, Asks, query_terms}
use Rattle.requirement.specs.Verified.{read_in}
use Rattle.requirement.proofs.AnsweredLaws.{few-counts, temporaries_are}
use Rattle.running.specs.Passes.{nothing}
use Rattle.requirement.proofs.Passes.{Passed}

-- The query makes two terms.
asked-terms : (l : List ℕ) (s : St) → terms (asked_calls l s) ≡ query_terms l
unfolding asked_calls query ◌>>=◌ emit terms
asked-terms [] s = refl
asked-terms (o ∷ l) s = refl

verify-terms : (d : Design) → terms (verify d) ≡ (built d).st.next + query_terms (built d).res
unfolding verify
verify-terms d =
    let all = terms_append (built d).calls (asked_calls (built d).res (built d).st) in
    let next = work-next (steps d) (start (total d)) in
    let more = asked-terms (built d).res (built d).st in
    omega arith

counts_are : (c : Counts) {t m n : ℕ} → c.terms ≡ t → c.temporaries ≡ m → c.words ≡ n
    → c ≡ record { terms = t; temporaries = m; words = n }
counts_are c p q r = rw (← p, ← q, ← r)

module _ (mode : ℕ) (w : List ℕ) {d : Design} {reps pairs : ℕ} (is : read_in mode w ≡ accepted d reps pairs) where
  pub passed : {calls calls₁ calls₂ names₁ marks₁ eqs : List ℕ} {c₁ c₂ : Counts} → length calls < 2 ^ 64
      → Did (steps d) calls (replicate (4 * total d) 0) (replicate (total d) 0) nothing calls₁ names₁ marks₁ c₁ eqs
      → Asks eqs calls₁ c₁ calls₂ c₂
      → Passed d calls calls₂ marks₁ c₂ eqs
  unfolding verify
  passed {calls} {calls₁} {calls₂} {names₁} {marks₁} {eqs} {c₁} {c₂} short did asks =
      let few = few-counts mode w is 0 0 in
      let many = verify-terms d in
      let temps = temporaries_are d in
      let ran =
      did.ends record { short = short; low = omega arith } record { next = omega arith; temp = omega arith } in
      let next : (built d).st.next ≡ c₁.terms = ap (λ (s : St). s.next) ran.state in
      let temp : (built d).st.temp ≡ c₁.temporaries = ap (λ (s : St). s.temp) ran.state in
      let long : length calls₁ ≡ length calls = ap length ran.wrote.words
      ∙ length-overwrite calls 0 (encode (built d).calls) in
      let ask =
      asks names₁ marks₁ record { short = omega arith; low = let e = ran.wrote.count in omega arith }
      (omega arith) (omega arith) in
      let same : asked_calls eqs (state_of c₁ names₁ marks₁) ≡ asked_calls (built d).res (built d).st =
      ap₂ asked_calls (sym ran.res) (sym ran.state) in
      let query =
      subst (λ (cs : List Call). Wrote calls₁ c₁.words (encode cs) calls₂ c₂.words) same ask.wrote in
      let all = wrote-calls (built d).calls (asked_calls (built d).res (built d).st) ran.wrote query short in
      let queried : query_terms eqs ≡ query_terms (built d).res = ap query_terms (sym ran.res) in
      let made = ask.terms in
      let kept = ask.temporaries in
      let written = all.count in
      let words = few.words in
      record {
        wrote = all;
        counts = counts_are c₂ (omega arith) (omega arith) (omega arith);
        marks = sym (ap (λ (s : St). s.marks) ran.state);
        asked = sym ran.res;
      }
