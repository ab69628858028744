-- The evaluator goes by what is written so far: numbers and sorts of earlier terms alone make the number of a term.
use Rattle.bitvec.proofs.Laws.{bv2nat-nat2bv, length-nat2bv}
use Rattle.bitvec.specs.Bits.{Bits, bv2nat}
use Rattle.eval.proofs.AssignedLaws.{Gives, first, rest}
use mathlib.Core.Path.{◌≡◌, refl, sym, ap, subst, ◌∙◌}
use mathlib.Core.Bool.{cond}
use mathlib.Core.List.{List, [], ◌∷◌, ◌++◌, map, append_assoc, append-nil}
use Prim.Native.Nat.{ℕ, zero, suc, ◌+◌, ◌≤◌, ◌<◌, ◌^◌}
use native.Mathlib.Nat.{le_of_suc-le-suc, mod-eq_of_lt}
use native.Mathlib.Omega.{arith}
use lib.ListN.{length, get_or, set, length-map, drop, get_or-append}
use lib.Seq.{sets, sets-eq}
use lib.Dec.{eqb}
use Rattle.engine.specs.Call.{Term, Call, Name}
use Rattle.engine.specs.Call as c
use Rattle.engine.specs.Meaning.{Value, value_at, denote, arguments_of, All, Assignment, run, bits}
use Rattle.engine.proofs.Laws.{All-map, run_append, run_keeps, length_snoc, length_run}
use Rattle.engine.specs.Sorts.{Sort, sort_at, sort_of, WellSorted, Context, start, after, Formed}
use Rattle.engine.proofs.SortsLaws.{OfSort}
use Rattle.engine.proofs.SortLaws.{Sorted, args_earlier, sorted_snoc, denote-sort, there}
use Rattle.engine.specs.Emit.{overwrite}
use Rattle.engine.proofs.EmitLaws.{overwrite_append}
use Rattle.eval.specs.Evaluated.{false_assertions}
use Rattle.term_values.specs.Values.{value_number, and_number, value_by}
use Rattle.term_values.proofs.ValuesLaws.{value-is}

-- The number given for a literal is that of its bits.
abbrev pub Told : (Bits → ℕ) → Term → Type 0
Told literal t = (x : Bits) → t ≡ c.lit x → literal x ≡ bv2nat x

-- Numbers and sorts of the arguments alone make the number of a term.
and_ext : (v u : ℕ → ℕ) (args : List ℕ) → All (λ a. v a ≡ u a) args → and_number v args ≡ and_number u args
and_ext v u [] h = refl
and_ext v u (a ∷ args) h = rw (h.0, and_ext v u args h.1)

pub value_by_ext : (s r : ℕ → Sort) (v u : ℕ → ℕ) (literal : Bits → ℕ) (given : ℕ) (t : Term)
    → All (λ a. s a ≡ r a) (arguments_of t) → All (λ a. v a ≡ u a) (arguments_of t) → Told literal t
    → value_by s v literal given (c.term t) ≡ value_by r u bv2nat given (c.term t)
value_by_ext s r v u literal given (c.bool_lit b) p q h = refl
value_by_ext s r v u literal given (c.bool_ite i a b) p q h = rw (q.0, q.1.0, q.1.1.0)
value_by_ext s r v u literal given (c.not a) p q h = rw q.0
value_by_ext s r v u literal given (c.and args) p q h = and_ext v u args q
value_by_ext s r v u literal given (c.lit x) p q h = h x refl
value_by_ext s r v u literal given (c.equal a b) p q h = rw (q.0, q.1.0)
value_by_ext s r v u literal given (c.ite i a b) p q h = rw (q.0, q.1.0, q.1.1.0)
value_by_ext s r v u literal given (c.concat a b) p q h = rw (p.0, p.1.0, q.0, q.1.0)
value_by_ext s r v u literal given (c.extract i j a) p q h = rw (p.0, q.0)
value_by_ext s r v u literal given (c.bvnot a) p q h = rw (p.0, q.0)
value_by_ext s r v u literal given (c.op2 o a b) p q h = rw (p.0, q.0, q.1.0)
value_by_ext s r v u literal given (c.compare o a b) p q h = rw (p.0, q.0, q.1.0)

-- A slice with the numbers of the terms so far.
abbrev pub numbers : List Value → List ℕ
numbers l = map value_number l

number_at_lem : (l : List Value) (k : ℕ) → k < length l → get_or (numbers l) k 0 ≡ value_number (value_at l k)
number_at_lem [] k h = absurd (omega arith)
number_at_lem (v ∷ l) zero h = refl
number_at_lem (v ∷ l) (suc k) h = number_at_lem l k (le_of_suc-le-suc h)

-- The numbers written are read back.
written_at : (slice new : List ℕ) (k : ℕ) → k < length new → length new ≤ length slice
    → get_or (overwrite slice 0 new) k 0 ≡ get_or new k 0
unfolding overwrite
written_at slice new k h room =
    ap (λ (l : List ℕ). get_or l k 0) (sets-eq new slice 0 (omega arith))
    ∙ get_or-append new (drop (0 + length new) slice) 0 k h

pub slice_at : (slice : List ℕ) (l : List Value) (k : ℕ) → k < length l → length l ≤ length slice
    → get_or (overwrite slice 0 (numbers l)) k 0 ≡ value_number (value_at l k)
slice_at slice l k h room =
    let e = length-map l value_number in
    written_at slice (numbers l) k (omega arith) (omega arith) ∙ number_at_lem l k h

-- One more number.
pub slice-more : (slice : List ℕ) (l : List Value) (v : Value)
    → overwrite slice 0 (numbers (l ++ (v ∷ []))) ≡ set (overwrite slice 0 (numbers l)) (length l) (value_number v)
unfolding overwrite
slice-more slice l v =
    ap (overwrite slice 0) (map-append l v)
    ∙ overwrite_append slice 0 (numbers l) (value_number v ∷ [])
    ∙ ap (λ (k : ℕ). set (sets slice 0 (numbers l)) k (value_number v)) (let e = length-map l value_number in omega arith)
  where
    map-append : (l : List Value) (v : Value) → numbers (l ++ (v ∷ [])) ≡ numbers l ++ (value_number v ∷ [])
    map-append [] v = refl
    map-append (u ∷ l) v = ap (λ (r : List ℕ). value_number u ∷ r) (map-append l v)

-- The number worked out for a well-sorted term, from the slice and the sorts so far, is that of its value.
pub term-number : (slice : List ℕ) (sorts : List Sort) (l : List Value) (s : ℕ → Sort)
    (literal : Bits → ℕ) (given : ℕ) (t : Term) → Sorted sorts l
    → length l ≤ length slice → ((k : ℕ) → k < length sorts → s k ≡ sort_at sorts k) → WellSorted sorts t
    → Told literal t
    → value_by s (λ k. get_or (overwrite slice 0 (numbers l)) k 0) literal given (c.term t)
    ≡ value_number (denote (value_at l) t)
term-number slice sorts l s literal given t g room agrees h told =
    value_by_ext s (sort_at sorts) (λ k. get_or (overwrite slice 0 (numbers l)) k 0) (λ k. value_number (value_at l k))
    literal given t
    (All-map (λ k. k < length sorts) _ agrees (arguments_of t) (args_earlier sorts t h))
    (All-map (λ k. k < length sorts) _ (λ k b. slice_at slice l k (let e = g.many in omega arith) room) (arguments_of t)
    (args_earlier sorts t h)) told
    ∙ value-is g given t h

-- Where a list is evaluated up to a call: the calls done, which leave a context, and to do, and what is written and
-- counted.
pub record Evaluating (cs : List Call) (ρ : Assignment) (slice₀ slice : List ℕ) (given : List ℕ) (todo : List Call)
    (terms falses : ℕ) (context : Context) : Type 0 where
  pub done : List Call
  pub split : cs ≡ done ++ todo
  pub formed : Formed context todo
  pub sorted : Sorted context.sorts (run ρ [] done)
  pub gives : Gives ρ todo given
  pub written : slice ≡ overwrite slice₀ 0 (numbers (run ρ [] done))
  pub counts : terms ≡ length (run ρ [] done)
  pub judged : falses + false_assertions (value_at (run ρ [] cs)) todo ≡ false_assertions (value_at (run ρ [] cs)) cs

pub evaluating_start : (cs : List Call) (ρ : Assignment) (slice given : List ℕ) → Formed start cs → Gives ρ cs given
    → Evaluating cs ρ slice slice given cs 0 0 start
unfolding run overwrite
evaluating_start cs ρ slice given f g = record {
  done = [];
  split = refl;
  formed = f;
  sorted = record { many = refl; each = λ k h. absurd (omega arith) };
  gives = g;
  written = refl;
  counts = refl;
  judged = omega arith;
}

-- One more call that makes a term.
run_more : (ρ : Assignment) (done : List Call) (call : Call) (v : Value) → run ρ (run ρ [] done) (call ∷ [])
    ≡ run ρ [] done ++ (v ∷ [])
    → run ρ [] (done ++ (call ∷ [])) ≡ run ρ [] done ++ (v ∷ [])
run_more ρ done call v e = run_append ρ [] done (call ∷ []) ∙ e

-- The terms so far fit where all do.
fits : (ρ : Assignment) (cs done todo : List Call) (room : ℕ) → cs ≡ done ++ todo → length (run ρ [] cs) ≤ room
    → length (run ρ [] done) ≤ room
fits ρ cs done todo room e h =
    let all = ap (λ (l : List Call). length (run ρ [] l)) e ∙ ap length (run_append ρ [] done todo)
    ∙ length_run ρ (run ρ [] done) todo in
    omega arith

module _ {cs : List Call} {ρ : Assignment} {slice₀ slice given given' : List ℕ} {terms falses : ℕ} {call : Call}
    {todo : List Call} {context : Context} (e : Evaluating cs ρ slice₀ slice given (call ∷ todo) terms falses context)
    (s : Sort) (v : Value) where
  -- A call that makes a term of a sort and a value: its number is written.
  pub evaluating_made : run ρ (run ρ [] e.done) (call ∷ []) ≡ run ρ [] e.done ++ (v ∷ [])
      → (after (context) call).sorts ≡ context.sorts ++ (s ∷ []) → OfSort s v → Gives ρ todo given'
      → false_assertions (value_at (run ρ [] cs)) (call ∷ todo) ≡ false_assertions (value_at (run ρ [] cs)) todo
      → Evaluating cs ρ slice₀ (set slice terms (value_number v)) given' todo (terms + 1) falses (after context call)
  evaluating_made more sorts of_sort gives same =
      let l = run ρ [] e.done in
      let grown = run_more ρ e.done call v more in
      record {
        done = e.done ++ (call ∷ []);
        split = e.split ∙ sym (append_assoc e.done (call ∷ []) todo);
        formed = e.formed.2;
        sorted = rw (grown, sorts) (sorted_snoc e.sorted s v of_sort);
        gives = gives;
        written = rw (grown, slice-more slice₀ l v, ← e.written, ← e.counts);
        counts = rw (grown, length_snoc l v) (let k = e.counts in omega arith);
        judged = ap (λ (n : ℕ). falses + n) (sym same) ∙ e.judged;
      }

-- A term, a declaration, an assertion and check, each from the slice and the sorts so far.
module _ {cs : List Call} {ρ : Assignment} {slice₀ slice given : List ℕ} {terms falses : ℕ} {todo : List Call}
    {context : Context} where
  pub evaluating_term : (t : Term) (s : ℕ → Sort) (literal : Bits → ℕ) (g : ℕ)
      (e : Evaluating cs ρ slice₀ slice given (c.term t ∷ todo) terms falses context)
      → length (run ρ [] cs) ≤ length slice₀ → ((k : ℕ) → k < length context.sorts → s k ≡ sort_at context.sorts k)
      → Told literal t
      → Evaluating cs ρ slice₀ (set slice terms (value_by s (λ k. get_or slice k 0) literal g (c.term t))) given todo
      (terms + 1) falses (after context (c.term t))
  unfolding run Gives false_assertions
  evaluating_term t s literal g e room agrees told =
      let l = run ρ [] e.done in
      let number : value_by s (λ k. get_or slice k 0) literal g (c.term t) ≡ value_number (denote (value_at l) t) =
      subst (λ (w : List ℕ). value_by s (λ k. get_or w k 0) literal g (c.term t) ≡ value_number (denote (value_at l) t))
      (sym e.written)
      (term-number slice₀ context.sorts l s literal g t e.sorted
      (fits ρ cs e.done (c.term t ∷ todo) (length slice₀) e.split room) agrees e.formed.1.0 told) in
      rw number
      (evaluating_made e (sort_of context.sorts t) (denote (value_at l) t) refl refl
      (denote-sort e.sorted t e.formed.1.0) e.gives refl)

  pub evaluating_check : (e : Evaluating cs ρ slice₀ slice given (c.check ∷ todo) terms falses context)
      → Evaluating cs ρ slice₀ slice given todo terms falses (after context c.check)
  unfolding run Gives false_assertions
  evaluating_check e =
      let same : run ρ [] (e.done ++ (c.check ∷ [])) ≡ run ρ [] e.done = run_append ρ [] e.done (c.check ∷ []) in
      record {
        done = e.done ++ (c.check ∷ []);
        split = e.split ∙ sym (append_assoc e.done (c.check ∷ []) todo);
        formed = e.formed.2;
        sorted = rw same e.sorted;
        gives = e.gives;
        written = rw same e.written;
        counts = rw same e.counts;
        judged = e.judged;
      }

  pub evaluating_declare : (n : Name) (w : ℕ)
      (e : Evaluating cs ρ slice₀ slice given (c.declare n w ∷ todo) terms falses context)
      → first given < 2 ^ w →
      Evaluating cs ρ slice₀ (set slice terms (first given)) (rest given) todo (terms + 1) falses
      (after context (c.declare n w))
  unfolding run Gives false_assertions
  evaluating_declare n w e low =
      let number : first given ≡ value_number (bits (ρ n)) =
      sym (ap bv2nat e.gives.0 ∙ bv2nat-nat2bv w (first given) ∙ mod-eq_of_lt low) in
      rw number
      (evaluating_made e w (bits (ρ n)) refl refl
      (e.formed.1.1, ap length e.gives.0 ∙ length-nat2bv w (first given)) e.gives.1 refl)

  pub evaluating_assert : (k : ℕ) (e : Evaluating cs ρ slice₀ slice given (c.assert k ∷ todo) terms falses context)
      → length (run ρ [] cs) ≤ length slice₀
      → Evaluating cs ρ slice₀ slice given todo terms (falses + cond (eqb (get_or slice k 0) 0) 1 0)
      (after context (c.assert k))
  unfolding run Gives false_assertions
  evaluating_assert k e room =
      let l = run ρ [] e.done in
      let same : run ρ [] (e.done ++ (c.assert k ∷ [])) ≡ l = run_append ρ [] e.done (c.assert k ∷ []) in
      let known : k < length l =
      (let m = e.sorted.many in let h = there context.sorts k (let z = e.formed.1.0 in omega arith) in
      omega arith) in
      let last : value_at (run ρ [] cs) k ≡ value_at l k =
      ap (λ (d : List Call). value_at (run ρ [] d) k) e.split
      ∙ ap (λ (r : List Value). value_at r k) (run_append ρ [] e.done (c.assert k ∷ todo))
      ∙ run_keeps ρ l (c.assert k ∷ todo) k known in
      let number : get_or slice k 0 ≡ value_number (value_at (run ρ [] cs) k) =
      ap (λ (r : List ℕ). get_or r k 0) e.written
      ∙ slice_at slice₀ l k known (fits ρ cs e.done (c.assert k ∷ todo) (length slice₀) e.split room)
      ∙ ap value_number (sym last) in
      record {
        done = e.done ++ (c.assert k ∷ []);
        split = e.split ∙ sym (append_assoc e.done (c.assert k ∷ []) todo);
        formed = e.formed.2;
        sorted = rw same e.sorted;
        gives = e.gives;
        written = rw same e.written;
        counts = rw same e.counts;
        judged = rw number (let j = e.judged in omega arith);
      }

-- At the end, every term's number is written and every false assertion counted.
pub evaluating_end : (cs : List Call) (ρ : Assignment) (slice₀ slice given : List ℕ) (terms falses : ℕ)
    (context : Context) → Evaluating cs ρ slice₀ slice given [] terms falses context
    → (slice ≡ overwrite slice₀ 0 (numbers (run ρ [] cs))) × (falses ≡ false_assertions (value_at (run ρ [] cs)) cs)
unfolding false_assertions
evaluating_end cs ρ slice₀ slice given terms falses context e =
    let all : e.done ≡ cs = sym (e.split ∙ append-nil e.done) in (
      e.written ∙ ap (λ (d : List Call). overwrite slice₀ 0 (numbers (run ρ [] d))) all,
      (let j = e.judged in omega arith),
    )
