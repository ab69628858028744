-- One law for each kind of step, for steps one after another (`does_append`), and for a loop over steps (`Left`).
-- Assumes nothing.
use mathlib.Core.Path.{◌≡◌, refl, sym, ap, ◌∙◌}
use mathlib.Core.List.{List, [], ◌∷◌, ◌++◌}
use Prim.Native.Nat.{ℕ, suc, ◌+◌, ◌≤◌}
use native.Mathlib.Nat.{add-zero}
use native.Mathlib.Omega.{arith}
use lib.ListN.{length, set, length-append}
use lib.Seq.{sets, length-sets}
use Rattle.stores.proofs.Laws.{sets_append}
use Rattle.builder.specs.declared.Built.{Built}
use Rattle.order.specs.Verify.{Step, declared, asserted, obliged}
use Rattle.net_steps.specs.Did.{Did}
use Rattle.net_steps.proofs.Laws.{did_none, did_append}
use Rattle.net_pairs.specs.declared.Walked.{Walked}
use Rattle.net_pairs.specs.Does.{obliged_in, Kept, Pushed, Does}

pub obliged_append : (xs ys : List Step) → obliged_in (xs ++ ys) ≡ obliged_in xs + obliged_in ys
unfolding obliged_in
obliged_append [] ys = omega arith
obliged_append (declared m ∷ xs) ys = obliged_append xs ys
obliged_append (asserted m ∷ xs) ys = obliged_append xs ys
obliged_append (obliged m ∷ xs) ys = let more = obliged_append xs ys in omega arith

pub does_none : (calls names marks eqs : List ℕ) (s : Walked) → Does [] calls names marks eqs s calls names marks eqs s
unfolding obliged_in
does_none calls names marks eqs s = record {
  terms = [];
  many = refl;
  did = did_none calls names marks s.counts;
  kept = λ room. record { words = refl; many = omega arith };
}

-- Steps without an obligation.
pub does_did : {steps : List Step} {calls names marks eqs calls' names' marks' : List ℕ} {s s' : Walked} →
    obliged_in steps ≡ 0
    → s'.obligations ≡ s.obligations → Did steps calls names marks s.counts calls' names' marks' s'.counts []
    → Does steps calls names marks eqs s calls' names' marks' eqs s'
does_did quiet same did = record {
  terms = [];
  many = sym quiet;
  did = did;
  kept = λ room. record { words = refl; many = omega arith };
}

-- An obligation, after steps without one; its term pushed.
pub does_pushed : {steps : List Step} {calls names marks eqs calls' names' marks' eqs' : List ℕ} {s s' : Walked}
    {made : Built}
    → obliged_in steps ≡ 1 →
    Did steps calls names marks s.counts calls' names' marks' made.counts (made.term.0 ∷ [])
    → Pushed eqs s.obligations made eqs' s' → Does steps calls names marks eqs s calls' names' marks' eqs' s'
does_pushed {made = made} one did pushed = record {
  terms = made.term.0 ∷ [];
  many = sym one;
  did = rw pushed.counts did;
  kept = λ room. record { words = pushed.words; many = pushed.many (omega arith) };
}

pub does_append : (xs ys : List Step)
    {calls names marks eqs calls₁ names₁ marks₁ eqs₁ calls₂ names₂ marks₂ eqs₂ : List ℕ} {s s₁ s₂ : Walked}
    → Does xs calls names marks eqs s calls₁ names₁ marks₁ eqs₁ s₁ →
    Does ys calls₁ names₁ marks₁ eqs₁ s₁ calls₂ names₂ marks₂ eqs₂ s₂
    → Does (xs ++ ys) calls names marks eqs s calls₂ names₂ marks₂ eqs₂ s₂
does_append xs ys {eqs = eqs} {eqs₁ = eqs₁} {eqs₂ = eqs₂} {s = s} {s₁ = s₁} {s₂ = s₂} p q = record {
  terms = p.terms ++ q.terms;
  many = let a = p.many in let b = q.many in length-append p.terms q.terms
      ∙ omega (arith, obliged_append xs ys);
  did = did_append xs ys p.did q.did;
  kept = λ room. both room;
}
  where
    both : s.obligations + obliged_in (xs ++ ys) ≤ length eqs →
        Kept eqs s.obligations (p.terms ++ q.terms) eqs₂ s₂.obligations
    both room =
        let split = obliged_append xs ys in
        let first = p.kept (omega arith) in
        let size : length eqs₁ ≡ length eqs = ap length first.words ∙ length-sets eqs s.obligations p.terms in
        let upto = first.many in
        let many = p.many in
        let then = q.kept (omega arith) in
        let words : eqs₂ ≡ sets (sets eqs s.obligations p.terms) (s.obligations + length p.terms) q.terms =
        then.words ∙ rw (first.words, first.many) in
        record {
          words = words ∙ sym (sets_append eqs s.obligations p.terms q.terms);
          many = then.many ∙ rw length-append (omega arith);
        }

-- ---- a loop over steps: the rest from here completes the whole

pub record Left (whole left : List Step) (calls₀ names₀ marks₀ eqs₀ : List ℕ) (s₀ : Walked)
    (calls names marks eqs : List ℕ) (s : Walked) : Type 0 where
  pub rest : {calls' names' marks' eqs' : List ℕ} {s' : Walked}
      → Does left calls names marks eqs s calls' names' marks' eqs' s' →
      Does whole calls₀ names₀ marks₀ eqs₀ s₀ calls' names' marks' eqs' s'

pub left-start : (whole : List Step) (calls names marks eqs : List ℕ) (s : Walked) →
    Left whole whole calls names marks eqs s calls names marks eqs s
left-start whole calls names marks eqs s = record { rest = λ p. p }

pub left_turn : (step left : List Step) {whole : List Step}
    {calls₀ names₀ marks₀ eqs₀ calls names marks eqs calls₁ names₁ marks₁ eqs₁ : List ℕ} {s₀ s s₁ : Walked}
    → Left whole (step ++ left) calls₀ names₀ marks₀ eqs₀ s₀ calls names marks eqs s
    → Does step calls names marks eqs s calls₁ names₁ marks₁ eqs₁ s₁
    → Left whole left calls₀ names₀ marks₀ eqs₀ s₀ calls₁ names₁ marks₁ eqs₁ s₁
left_turn step left p q = record { rest = λ r. p.rest (does_append step left q r) }

pub left_end : {whole : List Step} {calls₀ names₀ marks₀ eqs₀ calls names marks eqs : List ℕ} {s₀ s : Walked}
    → Left whole [] calls₀ names₀ marks₀ eqs₀ s₀ calls names marks eqs s →
    Does whole calls₀ names₀ marks₀ eqs₀ s₀ calls names marks eqs s
left_end {calls = calls} {names = names} {marks = marks} {eqs = eqs} {s = s} p =
    p.rest (does_none calls names marks eqs s)
