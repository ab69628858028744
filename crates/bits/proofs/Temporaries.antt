-- bv_bind and tv_bind: from the calls that the code makes to the model's `bind` and `bind2`. Assumes nothing.
use mathlib.Core.Path.{◌≡◌, refl, sym, ap, ap₂, subst, ◌∙◌}
use mathlib.Core.List.{List, [], ◌∷◌}
use Prim.Native.Nat.{ℕ, suc, ◌<◌, ◌^◌}
use native.Mathlib.Omega.{arith}
use lib.ListN.{length}
use Rattle.engine.specs.Call.{Call}
use Rattle.engine.specs.Call as k
use Rattle.engine.specs.Encode.{encode, record_of}
use Rattle.engine.specs.Emit.{Wrote}
use Rattle.engine.proofs.EmitLaws.{length-overwrite}
use Rattle.smt.specs.Prog.{ret, bind, bind2}
use Rattle.smt.specs.Emit.{emit, temp_name}
use Rattle.builder.specs.declared.Counts.{Counts}
use Rattle.builder.specs.declared.Built.{Built}
use Rattle.builder.specs.Ran.{state_of, Ends, Writes, following, built_at}
use Rattle.builder.proofs.Laws.{wrote_call, wrote-calls}
use Rattle.bits.specs.Called.{Called, next_temporary}

-- ---- calls of which one makes a term

pub called-one : (a : Call) {calls calls' : List ℕ} {c : Counts} {words : ℕ} {r : Built}
    → Wrote calls c.words (record_of a) calls' words → r ≡ built_at c words
    → Called (a ∷ []) r.term.0 calls c calls' r.counts
called-one a wrote made =
    rw made (record { wrote = wrote_call a wrote; made = refl; terms = refl; temporaries = refl })

pub called_two : (a b : Call) {calls calls₁ calls₂ : List ℕ} {c : Counts} {words₁ words₂ : ℕ} {r : Built} →
    length calls < 2 ^ 64
    → Wrote calls c.words (record_of a) calls₁ words₁ → Wrote calls₁ words₁ (record_of b) calls₂ words₂ → r
    ≡ built_at c words₂
    → Called (a ∷ b ∷ []) r.term.0 calls c calls₂ r.counts
called_two a b short first then made =
    let both = wrote-calls (a ∷ []) (b ∷ []) (wrote_call a first) (wrote_call b then) short in
    rw made (record { wrote = both; made = refl; terms = refl; temporaries = refl })

-- ---- the counts, as long as they fit

counts_are : (c : Counts) (names marks : List ℕ) {n m : ℕ} → n ≡ c.terms → m ≡ c.temporaries
    → record { next = n; temp = m; names = names; marks = marks } ≡ state_of c names marks
counts_are c names marks p q =
    ap₂ (λ (n m : ℕ). record { next = n; temp = m; names = names; marks = marks }) p q

fits_next : (n : ℕ) → suc n < 2 ^ 32 → following n ≡ suc n
fits_next n low = omega arith

-- ---- bv_bind

pub ran_bv-bind : {A : Type 0} (w t : ℕ) (g : ℕ → A) {calls calls₁ calls₂ : List ℕ} {c c₁ c₂ c₃ : Counts} {x e : ℕ}
    → Called (k.declare (temp_name c.temporaries k.none) w ∷ []) x calls c calls₁ c₁
    → c₂ ≡ next_temporary c₁
    → Called (k.term (k.equal x t) ∷ k.assert c₂.terms ∷ []) e calls₁ c₂ calls₂ c₃
    → Writes (bind w t (λ j. ret (g j))) calls c calls₂ c₃ (g x)
unfolding emit
ran_bv-bind {A} w t g {calls} {calls₁} {calls₂} {c} {c₁} {c₂} {c₃} {x} {e} named next equal names marks =
    record { ends = λ lent fits. go lent.short fits.next fits.temp }
  where
    n : ℕ
    n = c.terms

    equal' : Called (k.term (k.equal x t) ∷ k.assert c₁.terms ∷ []) e calls₁ (next_temporary c₁) calls₂ c₃
    equal' = subst (λ (d : Counts). Called (k.term (k.equal x t) ∷ k.assert d.terms ∷ []) e calls₁ d calls₂ c₃) next
        equal

    go : length calls < 2 ^ 64 → suc (suc n) < 2 ^ 32 → suc c.temporaries < 2 ^ 32
        → Ends (emit (bind w t (λ j. ret (g j))) (state_of c names marks)) calls c.words calls₂ c₃.words
        (state_of c₃ names marks) (g x)
    go short low low' =
        let n₁ : c₁.terms ≡ suc n = named.terms ∙ fits_next n (omega arith) in
        let n₂ : c₃.terms ≡ suc (suc n) = equal'.terms ∙ ap following n₁ ∙ fits_next (suc n) (omega arith) in
        let m : c₃.temporaries ≡ suc c.temporaries =
        equal'.temporaries ∙ ap following named.temporaries ∙ fits_next c.temporaries (omega arith) in
        let then = rw (named.made, n₁) at equal'.wrote in
        record {
          state = counts_are c₃ names marks (sym n₂) (sym m);
          res = ap g (sym named.made);
          wrote = wrote-calls (_ ∷ []) (_ ∷ _ ∷ []) named.wrote then short;
        }

-- ---- tv_bind

pub ran_tv-bind : {A : Type 0} (w t u : ℕ) (g : ℕ → ℕ → A) {calls calls₁ calls₂ calls₃ calls₄ : List ℕ}
    {c c₁ c₂ c₃ c₄ c₅ : Counts} {x y e f : ℕ}
    → Called (k.declare (temp_name c.temporaries k.x) w ∷ []) x calls c calls₁ c₁
    → Called (k.declare (temp_name c₁.temporaries k.y) w ∷ []) y calls₁ c₁ calls₂ c₂
    → c₃ ≡ next_temporary c₂
    → Called (k.term (k.equal x t) ∷ k.assert c₃.terms ∷ []) e calls₂ c₃ calls₃ c₄
    → Called (k.term (k.equal y u) ∷ k.assert c₄.terms ∷ []) f calls₃ c₄ calls₄ c₅
    → Writes (bind2 w t u (λ i j. ret (g i j))) calls c calls₄ c₅ (g x y)
unfolding emit
ran_tv-bind {A} w t u g {calls} {calls₁} {calls₂} {calls₃} {calls₄} {c} {c₁} {c₂} {c₃} {c₄} {c₅} {x} {y} {e} {f} named
    named₂ next equal equal₂ names marks =
    record { ends = λ lent fits. go lent.short fits.next fits.temp }
  where
    n : ℕ
    n = c.terms

    equal' : Called (k.term (k.equal x t) ∷ k.assert c₂.terms ∷ []) e calls₂ (next_temporary c₂) calls₃ c₄
    equal' = subst (λ (d : Counts). Called (k.term (k.equal x t) ∷ k.assert d.terms ∷ []) e calls₂ d calls₃ c₄) next
        equal

    same_length : {calls calls' : List ℕ} {cs : List Call} {j : ℕ} {c c' : Counts} → Called cs j calls c calls' c'
        → length calls' ≡ length calls
    same_length {calls} {calls'} {cs} {j} {c} called = ap length called.wrote.words
        ∙ length-overwrite calls c.words (encode cs)

    go : length calls < 2 ^ 64 → suc (suc (suc (suc n))) < 2 ^ 32 → suc c.temporaries < 2 ^ 32
        → Ends (emit (bind2 w t u (λ i j. ret (g i j))) (state_of c names marks)) calls c.words calls₄ c₅.words
        (state_of c₅ names marks) (g x y)
    go short low low' =
        let n₁ : c₁.terms ≡ suc n = named.terms ∙ fits_next n (omega arith) in
        let n₂ : c₂.terms ≡ suc (suc n) = named₂.terms ∙ ap following n₁ ∙ fits_next (suc n) (omega arith) in
        let n₃ : c₄.terms ≡ suc (suc (suc n)) = equal'.terms ∙ ap following n₂
        ∙ fits_next (suc (suc n)) (omega arith) in
        let n₄ : c₅.terms ≡ suc (suc (suc (suc n))) =
        equal₂.terms ∙ ap following n₃ ∙ fits_next (suc (suc (suc n))) (omega arith) in
        let m : c₅.temporaries ≡ suc c.temporaries =
        equal₂.temporaries ∙ equal'.temporaries ∙ ap following (named₂.temporaries ∙ named.temporaries)
        ∙ fits_next c.temporaries (omega arith) in
        let first = named.wrote in
        let second = rw named.temporaries at named₂.wrote in
        let third = rw (named.made, n₂) at equal'.wrote in
        let fourth = rw (named₂.made, n₁, n₃) at equal₂.wrote in
        let short₂ : length calls₂ < 2 ^ 64 = let a = same_length named in let b = same_length named₂ in omega arith in
        let names-wrote = wrote-calls (_ ∷ []) (_ ∷ []) first second short in
        let equals-wrote = wrote-calls (_ ∷ _ ∷ []) (_ ∷ _ ∷ []) third fourth short₂ in
        record {
          state = counts_are c₅ names marks (sym n₄) (sym m);
          res = ap₂ g (sym named.made) (sym (named₂.made ∙ n₁));
          wrote = wrote-calls (_ ∷ _ ∷ []) (_ ∷ _ ∷ _ ∷ _ ∷ []) names-wrote equals-wrote short;
        }
