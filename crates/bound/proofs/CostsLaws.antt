-- Laws of the definitions of Costs.
use mathlib.Core.Path.{◌≡◌, refl, ap, ◌∙◌}
use mathlib.Core.List.{List, [], ◌∷◌, ◌++◌}
use Prim.Native.Nat.{ℕ, zero, suc, ◌+◌, ◌-◌, ◌*◌, ◌≤◌}
use native.Mathlib.Omega.{arith}
use native.Mathlib.Nat.{suc-mul}
use lib.ListN.{length, length-append, length-map, get_or}
use Rattle.logic.specs.Word.{number_word}
use Rattle.bitvec.specs.Bits.{bv2nat}
use Rattle.engine.specs.Call.{Term, Call}
use Rattle.engine.specs.Call as c
use Rattle.engine.specs.Encode.{record_of, encode, term_words, digits, digit_count}
use Rattle.smt.specs.Prog.{Prog, ret, op, declare, bind, bind2, ◌>>=◌}
use Rattle.smt.specs.Emit.{St, Out, emit, place, learn, reread, at, after, known, net_name}
use Rattle.bound.specs.Costs.{sum_by}

-- The words of a term's record, its head among them.
abbrev pub term_cost : Term → ℕ
term_cost (c.bool_lit b) = 2
term_cost (c.bool_ite i a b) = 4
term_cost (c.not a) = 2
term_cost (c.and args) = 1 + length args
term_cost (c.lit s) = 2 + digit_count (length s)
term_cost (c.equal a b) = 3
term_cost (c.ite i a b) = 4
term_cost (c.concat a b) = 3
term_cost (c.extract i j a) = 4
term_cost (c.bvnot a) = 2
term_cost (c.op2 o a b) = 3
term_cost (c.compare o a b) = 3

-- A run's calls take at most n words, and Q holds of its result. A name takes five words; a bind a name, an equality
-- and its assertion, a bind of two twice that.
unfoldable pub Costs : {A : Type 0} → ℕ → Prog A → (A → Type 0) → Type 0
Costs n (ret a) Q = Q a
Costs n (op t f) Q = (term_cost t ≤ n) × ((k : ℕ) → Costs (n - term_cost t) (f k) Q)
Costs n (declare a i h f) Q = (5 ≤ n) × ((k : ℕ) → Costs (n - 5) (f k) Q)
Costs n (bind w t f) Q = (10 ≤ n) × ((k : ℕ) → Costs (n - 10) (f k) Q)
Costs n (bind2 w x y f) Q = (20 ≤ n) × ((k l : ℕ) → Costs (n - 20) (f k l) Q)

-- A bound alone.
abbrev pub CostsOnly : {A : Type 0} → ℕ → Prog A → Type 0
CostsOnly n m = Costs n m (λ _. Unit {0})

pub costs_ret : {A : Type 0} (n : ℕ) (a : A) (Q : A → Type 0) → Q a → Costs n (ret a) Q
unfolding Costs
costs_ret n a Q q = q

-- More room does no harm.
pub costs_more : {A : Type 0} (a b : ℕ) (m : Prog A) (Q : A → Type 0) → a ≤ b → Costs a m Q → Costs b m Q
unfolding Costs
costs_more a b (ret x) Q l h = h
costs_more a b (op t f) Q l h =
    (omega arith, λ k. costs_more (a - term_cost t) (b - term_cost t) (f k) Q (omega arith) (h.1 k))
costs_more a b (declare g i y f) Q l h = (omega arith, λ k. costs_more (a - 5) (b - 5) (f k) Q (omega arith) (h.1 k))
costs_more a b (bind w t f) Q l h = (omega arith, λ k. costs_more (a - 10) (b - 10) (f k) Q (omega arith) (h.1 k))
costs_more a b (bind2 w x y f) Q l h =
    (omega arith, λ k j. costs_more (a - 20) (b - 20) (f k j) Q (omega arith) (h.1 k j))

pub costs_weaken : {A : Type 0} (n : ℕ) (m : Prog A) (P Q : A → Type 0) → ((x : A) → P x → Q x) → Costs n m P →
    Costs n m Q
unfolding Costs
costs_weaken n (ret x) P Q i h = i x h
costs_weaken n (op t f) P Q i h = (h.0, λ k. costs_weaken (n - term_cost t) (f k) P Q i (h.1 k))
costs_weaken n (declare a j y f) P Q i h = (h.0, λ k. costs_weaken (n - 5) (f k) P Q i (h.1 k))
costs_weaken n (bind w t f) P Q i h = (h.0, λ k. costs_weaken (n - 10) (f k) P Q i (h.1 k))
costs_weaken n (bind2 w x y f) P Q i h = (h.0, λ k l. costs_weaken (n - 20) (f k l) P Q i (h.1 k l))

-- A part, then the rest by what holds of its result.
module _ {A B : Type 0} (b : ℕ) (g : A → Prog B) (P : A → Type 0) (Q : B → Type 0)
    (rest : (x : A) → P x → Costs b (g x) Q) where
  pub costs_seq : (a : ℕ) (m : Prog A) → Costs a m P → Costs (a + b) (m >>= g) Q
  unfolding ◌>>=◌ Costs
  costs_seq a (ret x) h = costs_more b (a + b) (g x) Q (omega arith) (rest x h)
  costs_seq a (op t f) h = (
    omega arith,
    λ k. costs_more (a - term_cost t + b) (a + b - term_cost t) (f k >>= g) Q (omega arith)
        (costs_seq (a - term_cost t) (f k) (h.1 k)),
  )
  costs_seq a (declare z j y f) h = (
    omega arith,
    λ k. costs_more (a - 5 + b) (a + b - 5) (f k >>= g) Q (omega arith) (costs_seq (a - 5) (f k) (h.1 k)),
  )
  costs_seq a (bind w t f) h = (
    omega arith,
    λ k. costs_more (a - 10 + b) (a + b - 10) (f k >>= g) Q (omega arith)
        (costs_seq (a - 10) (f k) (h.1 k)),
  )
  costs_seq a (bind2 w x y f) h = (
    omega arith,
    λ k j. costs_more (a - 20 + b) (a + b - 20) (f k j >>= g) Q (omega arith)
        (costs_seq (a - 20) (f k j) (h.1 k j)),
  )

pub sum-each : {A : Type 0} (n : ℕ) (l : List A) → sum_by (λ _. n) l ≡ length l * n
unfolding sum_by
sum-each n [] = omega arith
sum-each n (a ∷ l) = let h = sum-each n l in omega (arith, suc-mul (length l) n)

-- ---- the words of calls

pub encode_append : (cs ds : List Call) → length (encode (cs ++ ds)) ≡ length (encode cs) + length (encode ds)
unfolding encode
encode_append [] ds = omega arith
encode_append (call ∷ cs) ds =
    length-append (record_of call) (encode (cs ++ ds))
    ∙ (let h = encode_append cs ds in let g = length-append (record_of call) (encode cs) in omega arith)

length_digits : (k n : ℕ) → length (digits k n) ≡ k
unfolding digits
length_digits zero n = refl
length_digits (suc k) n = ap suc (length_digits k _)

pub term_words_lem : (t : Term) → suc (length (term_words t)) ≡ term_cost t
term_words_lem (c.bool_lit b) = refl
term_words_lem (c.bool_ite i a b) = refl
term_words_lem (c.not a) = refl
term_words_lem (c.and args) = rw (length-map args _) (omega arith)
term_words_lem (c.lit s) =
    rw (
      length-map (digits (digit_count (length s)) (bv2nat s)) number_word,
      length_digits (digit_count (length s)) (bv2nat s),
    )
    (omega arith)
term_words_lem (c.equal a b) = refl
term_words_lem (c.ite i a b) = refl
term_words_lem (c.concat a b) = refl
term_words_lem (c.extract i j a) = refl
term_words_lem (c.bvnot a) = refl
term_words_lem (c.op2 o a b) = refl
term_words_lem (c.compare o a b) = refl

-- What a run that costs at most n emits takes at most n words.
pub emit-words : {A : Type 0} (n : ℕ) (m : Prog A) (Q : A → Type 0) (s : St) → Costs n m Q →
    length (encode (emit m s).calls) ≤ n
unfolding emit encode Costs
emit-words n (ret a) Q s h = omega arith
emit-words n (op t f) Q s h =
    let rest = emit-words (n - term_cost t) (f s.next) Q (at (suc s.next) s.temp s) (h.1 s.next) in
    let head = term_words_lem t in
    let all =
    length-append (record_of (c.term t)) (encode (emit (f s.next) (at (suc s.next) s.temp s)).calls) in
    omega (arith, h.0)
emit-words {A} n (declare a i y f) Q s h =
    go (λ k s. emit-words (n - 5) (f k) Q s (h.1 k)) (get_or s.names (place a i y) 0)
  where
    go : ((k : ℕ) (s : St) → length (encode (emit (f k) s).calls) ≤ n - 5) → (known-term : ℕ)
        → length (encode (known {X = Out A} known-term
        (after (c.declare (net_name a i y) 1 ∷ []) (emit (f s.next) (learn a i y s)))
        (λ k. emit (f k) (reread a i s))).calls) ≤ n
    go rec zero = let rest = rec s.next (learn a i y s) in omega (arith, h.0)
    go rec (suc k) = let rest = rec k (reread a i s) in omega arith
emit-words n (bind w t f) Q s h =
    let rest = emit-words (n - 10) (f s.next) Q (at (suc (suc s.next)) (suc s.temp) s) (h.1 s.next) in
    omega (arith, h.0)
emit-words n (bind2 w x y f) Q s h =
    let rest =
    emit-words (n - 20) (f s.next (suc s.next)) Q (at (suc (suc (suc (suc s.next)))) (suc s.temp) s)
    (h.1 s.next (suc s.next)) in
    omega (arith, h.0)
