-- A formed call list, written as words, is well formed, and its reading leaves what its calls leave.
use mathlib.Core.Path.{◌≡◌, refl, sym, ap, ◌∙◌, subst}
use mathlib.Core.Bool.{Bool, true, false, not, ◌&&◌}
use mathlib.Core.List.{List, [], ◌∷◌, ◌++◌, map, append_assoc, Memᴰ}
use mathlib.Core.Option.{none}
use Prim.Native.Nat.{ℕ, zero, suc, ◌+◌, ◌-◌, ◌*◌, ◌/◌, ◌%◌, ◌^◌, ◌≤◌, ◌<◌, min, zero-le, suc-le-suc}
use native.Mathlib.Nat.{le_of_suc-le-suc, le_refl}
use native.Mathlib.Omega.{arith}
use lib.ListN.{length, get_or, length-append, length-map}
use lib.Dec.{eqb, leb, eqb-suc-zero}
use native.Mathlib.Numerals.{sub-one}
use lib.Pow.{pow_mono, shr_lt}
use borrow.Author.Tests.{lt-ltb, le-leb, eq-eqb, eqb-true, leb-true, leb-false}
use Rattle.logic.specs.Word.{kind_of, payload_of, word_of, number_word, term_word}
use Rattle.logic.proofs.WordLaws.{kind_of_word, payload_of_word}
use Rattle.bitvec.specs.Bits.{bit, bv2nat}
use Rattle.bitvec.proofs.Laws.{bv2nat_lt}
use Rattle.engine.specs.Call.{Letter, Suffix, Name, Call}
use Rattle.engine.specs.Call as c
use Rattle.engine.specs.Meaning.{All}
use Rattle.engine.specs.Sorts.{Sort, IsBool, IsVector, sort_at, Context, start, after, Allowed, Formed}
use Rattle.engine.specs.Sorts.{leaves, payload_limit}
use Rattle.engine.specs.Encode.{digits, digit_count, operation_of, words, record_of, encode, letter_number}
use Rattle.engine.specs.Encode.{suffix_number, operation_at, count_at, bare, argument_at}
use Rattle.engine.specs.WellFormed.{is_number, is_vector, is_width, sort_of_word, count_fits, argument_of, admits}
use Rattle.engine.specs.WellFormed.{is_number_of, spells, known, declares, again, head_stands, admitted}
use Rattle.engine.specs.WellFormed.{wrong_argument, well_formed, read_from, outcome}
use Rattle.engine.proofs.Tests.{both, left_of, right_of, refuted}
use Rattle.engine.proofs.Steps.{none_failing, read-end, read_step}
use Rattle.engine.proofs.Written.{length_literal, letter_back, suffix_back, letter-low}
use Rattle.engine.proofs.Written.{suffix-low, bit-low, head_at_lem, operation_at_lem, count_at_lem, argument_at_lem, call_at_lem}
use Rattle.engine.proofs.Written.{next-at, before-end}

-- ---- single words

number_is : (n : ℕ) {word : ℕ} → word ≡ number_word n → is_number word ≡ true
number_is n e = eq-eqb _ 3 (ap kind_of e ∙ kind_of_word 3 n)

number_of_lem : (n : ℕ) {word : ℕ} → word ≡ number_word n → n < payload_limit → payload_of word ≡ n
number_of_lem n e low = ap payload_of e ∙ payload_of_word 3 n low

vector-is : (s : Sort) → IsVector s → is_vector s ≡ true
vector-is s h = both (le-leb 1 s h.0) (le-leb s 64 h.1)

width_is : (n : ℕ) {word : ℕ} → word ≡ number_word n → IsVector n → is_width word ≡ true
width_is n e h = both (number_is n e) (vector-is _ (subst IsVector (sym (number_of_lem n e (omega arith))) h))

-- The sort of a reference is that of its term.
reference-sort : (sorts : List Sort) (k : ℕ) {word : ℕ} → word ≡ term_word k → k < payload_limit
    → sort_of_word sorts word ≡ sort_at sorts k
reference-sort sorts k {word} e low =
    rw (eq-eqb (kind_of word) 4 (ap kind_of e ∙ kind_of_word 4 k), ap payload_of e ∙ payload_of_word 4 k low)

-- ---- the head

name_eq : (m k : Name) → m.letter ≡ k.letter → m.index ≡ k.index → m.suffix ≡ k.suffix → m ≡ k
name_eq m k p q r = λ i. record { letter = p i; index = q i; suffix = r i }

letter_inj : (m k : Letter) → letter_number m ≡ letter_number k → m ≡ k
letter_inj m k e = sym (letter_back m refl) ∙ letter_back k e

suffix_inj : (m k : Suffix) → suffix_number m ≡ suffix_number k → m ≡ k
suffix_inj m k e = sym (suffix_back m refl) ∙ suffix_back k e

read_number_lem : (n word : ℕ) → is_number_of n word ≡ true → payload_of word ≡ n
read_number_lem n word h = eqb-true (payload_of word) n (right_of (is_number word) (eqb (payload_of word) n) h)

-- A name spelled by the words of a name is that name.
spelled : (m k : Name) (l i s : ℕ) → k.index < payload_limit → l ≡ number_word (letter_number k.letter)
    → i ≡ number_word k.index → s ≡ number_word (suffix_number k.suffix) → spells m l i s ≡ true → k ≡ m
spelled m k l i s low el ei es h =
    let a = is_number_of (letter_number m.letter) l in
    let b = is_number_of m.index i in
    let d = is_number_of (suffix_number m.suffix) s in
    let two = left_of (a && b) d h in
    let letter-small : letter_number k.letter < payload_limit = (let z = letter-low k.letter in omega arith) in
    let suffix-small : suffix_number k.suffix < payload_limit = (let z = suffix-low k.suffix in omega arith) in
    name_eq k m
    (letter_inj _ _ (sym (number_of_lem _ el letter-small) ∙ read_number_lem _ l (left_of a b two)))
    (sym (number_of_lem _ ei low) ∙ read_number_lem _ i (right_of a b two))
    (suffix_inj _ _ (sym (number_of_lem _ es suffix-small) ∙ read_number_lem _ s (right_of (a && b) d h)))

fresh : (names : List Name) (n : Name) (l i s : ℕ) → (Memᴰ n names → ⊥) → n.index < payload_limit
    → l ≡ number_word (letter_number n.letter) → i ≡ number_word n.index → s ≡ number_word (suffix_number n.suffix)
    → known names l i s ≡ false
unfolding known
fresh [] n l i s h low el ei es = refl
fresh (m ∷ names) n l i s h low el ei es =
    rw (
      refuted (spells m l i s) (λ t. h (Memᴰ.head (spelled m n l i s low el ei es t))),
      fresh names n l i s (λ t. h (Memᴰ.tail t)) low el ei es,
    )

-- The words of a call, as its record has them: arguments a, each after the word before it.
module _ (x : Context) (call : Call) (a : ℕ → ℕ) where
  abbrev Words : Type 0
  Words = (i : ℕ) → i < length (words call) → a i ≡ get_or (words call) i 0

count_fits_lem : (x : Context) (call : Call) (a : ℕ → ℕ) → Allowed x call → Words x call a
    → count_fits (operation_of call) (length (words call)) (a 0) ≡ true
count_fits_lem x (c.term (c.bool_lit b)) a h e = refl
count_fits_lem x (c.term (c.bool_ite i p q)) a h e = refl
count_fits_lem x (c.term (c.not p)) a h e = refl
count_fits_lem x (c.term (c.and args)) a h e =
    le-leb 1 (length (map term_word args)) (rw (length-map args term_word) h.0.0)
count_fits_lem x (c.term (c.lit s)) a h e =
    let first = e 0 (suc-le-suc zero-le) in
    rw (width_is (length s) first h.0)
    (eq-eqb _ _
    (length_literal s ∙ ap (λ (n : ℕ). suc (digit_count n)) (sym (number_of_lem (length s) first (omega arith)))
    ∙ omega arith))
count_fits_lem x (c.term (c.equal p q)) a h e = refl
count_fits_lem x (c.term (c.ite i p q)) a h e = refl
count_fits_lem x (c.term (c.concat p q)) a h e = refl
count_fits_lem x (c.term (c.extract i j p)) a h e = refl
count_fits_lem x (c.term (c.bvnot p)) a h e = refl
count_fits_lem x (c.term (c.op2 op p q)) a h e = refl
count_fits_lem x (c.term (c.compare op p q)) a h e = refl
count_fits_lem x (c.declare name w) a h e = refl
count_fits_lem x (c.assert k) a h e = refl
count_fits_lem x c.check a h e = refl

not-again : (x : Context) (call : Call) (a : ℕ → ℕ) → Allowed x call → Words x call a
    → (declares call && known x.names (a 0) (a 1) (a 2)) ≡ false
not-again x (c.term t) a h e = refl
not-again x (c.declare name w) a h e =
    fresh x.names name (a 0) (a 1) (a 2) h.0 h.2 (e 0 (omega arith)) (e 1 (omega arith)) (e 2 (omega arith))
not-again x (c.assert k) a h e = refl
not-again x c.check a h e = refl

-- ---- the arguments

-- The word at a place of a list of words of one kind.
word_at : (kind : ℕ) (P Q : ℕ → Type 0) (ks : List ℕ) (i : ℕ) → i < length (map (word_of kind) ks) → All P ks → All Q ks
    → (k : ℕ) × (get_or (map (word_of kind) ks) i 0 ≡ word_of kind k) × P k × Q k
word_at kind P Q [] i h p q = absurd (omega arith)
word_at kind P Q (k ∷ ks) zero h p q = (k, refl, p.0, q.0)
word_at kind P Q (k ∷ ks) (suc i) h p q = word_at kind P Q ks i (le_of_suc-le-suc h) p.1 q.1

-- The lowest 16 bits of a number of a width, and the rest.
low_part : (n width : ℕ) → n < 2 ^ width → n % 2 ^ 16 < 2 ^ min 16 width
low_part n width h = go (leb 16 width) refl
  where
    go : (b : Bool) → leb 16 width ≡ b → n % 2 ^ 16 < 2 ^ min 16 width
    go true t = let e : min 16 width ≡ 16 = (let z = leb-true 16 width t in omega arith) in rw e (omega arith)
    go false t = let e : min 16 width ≡ width = (let z = leb-false 16 width t in omega arith) in rw e (omega arith)

high_part : (n width : ℕ) → n < 2 ^ width → n / 2 ^ 16 < 2 ^ (width - 16)
high_part n width h = go (leb 16 width) refl
  where
    go : (b : Bool) → leb 16 width ≡ b → n / 2 ^ 16 < 2 ^ (width - 16)
    go true t =
        let e : width ≡ width - 16 + 16 = (let z = leb-true 16 width t in omega arith) in
        shr_lt (width - 16) 16 (subst (λ (k : ℕ). n < 2 ^ k) e h)
    go false t =
        let z = leb-false 16 width t in
        let e : width - 16 ≡ 0 = omega arith in
        let low : 2 ^ width ≤ 2 ^ 16 = pow_mono {i = width} {j = 16} (omega arith) in
        rw e (omega arith)

-- Number j of a literal's 16-bit numbers lies below what its width leaves.
digit-bound : (k n width j : ℕ) → n < 2 ^ width → j < length (map number_word (digits k n))
    → (d : ℕ) × (get_or (map number_word (digits k n)) j 0 ≡ number_word d) × (d < 2 ^ min 16 (width - 16 * j))
unfolding digits
digit-bound zero n width j h l = absurd (omega arith)
digit-bound (suc k) n width zero h l =
    let e : width ≡ width - 16 * 0 = omega arith in
    (n % 2 ^ 16, refl, subst (λ (v : ℕ). n % 2 ^ 16 < 2 ^ min 16 v) e (low_part n width h))
digit-bound (suc k) n width (suc j) h l =
    let rest = digit-bound k (n / 2 ^ 16) (width - 16) j (high_part n width h) (le_of_suc-le-suc l) in
    let e : width - 16 - 16 * j ≡ width - 16 * suc j = omega arith in
    (rest.0, rest.1, subst (λ (v : ℕ). rest.0 < 2 ^ min 16 v) e rest.2)

-- Every argument of an allowed call may stand where it does.
module _ (x : Context) (a b : ℕ → ℕ) (follows : (i : ℕ) → b (suc i) ≡ a i) where
  abbrev Stands : Call → ℕ → Type 0
  Stands call i =
      admits (argument_of (operation_of call) i) (a 0) (b i) (a i) (sort_of_word x.sorts (b i))
      (sort_of_word x.sorts (a i))
      ≡ true

  sort-is : (i k : ℕ) → a i ≡ term_word k → k < payload_limit → sort_of_word x.sorts (a i) ≡ sort_at x.sorts k
  sort-is i k = reference-sort x.sorts k

  before-is : (i k : ℕ) → a i ≡ term_word k → k < payload_limit → sort_of_word x.sorts (b (suc i)) ≡ sort_at x.sorts k
  before-is i k e low = ap (sort_of_word x.sorts) (follows i) ∙ sort-is i k e low

  bool_stands : (i k : ℕ) → a i ≡ term_word k → k < payload_limit → IsBool (sort_at x.sorts k)
      → eqb (sort_of_word x.sorts (a i)) 0 ≡ true
  bool_stands i k e low h = eq-eqb (sort_of_word x.sorts (a i)) 0 (sort-is i k e low ∙ h)

  vector_stands : (i k : ℕ) → a i ≡ term_word k → k < payload_limit → IsVector (sort_at x.sorts k)
      → is_vector (sort_of_word x.sorts (a i)) ≡ true
  vector_stands i k e low h = ap is_vector (sort-is i k e low) ∙ vector-is (sort_at x.sorts k) h

  same_stands : (i k m : ℕ) → a i ≡ term_word k → a (suc i) ≡ term_word m → k < payload_limit → m < payload_limit
      → sort_at x.sorts m ≡ sort_at x.sorts k
      → eqb (sort_of_word x.sorts (a (suc i))) (sort_of_word x.sorts (b (suc i))) ≡ true
  same_stands i k m e f low low' h =
      eq-eqb (sort_of_word x.sorts (a (suc i))) (sort_of_word x.sorts (b (suc i)))
      (sort-is (suc i) m f low' ∙ h ∙ sym (before-is i k e low))

  number_stands : (i n bound : ℕ) → a i ≡ number_word n → n < payload_limit → n ≤ bound
      → (is_number (a i) && leb (payload_of (a i)) bound) ≡ true
  number_stands i n bound e low h =
      both (number_is n e) (le-leb (payload_of (a i)) bound (let z = number_of_lem n e low in omega arith))

  stands : (call : Call) → Allowed x call → Words x call a → (i : ℕ) → i < length (words call) → Stands call i
  stands (c.term (c.bool_lit f)) h e zero l =
      number_stands 0 (bit f) 1 (e 0 l) (let z = bit-low f in omega arith) (bit-low f)
  stands (c.term (c.bool_lit f)) h e (suc i) l = absurd (omega arith)
  stands (c.term (c.bool_ite i p q)) h e zero l = bool_stands 0 i (e 0 l) h.1.0 h.0.0
  stands (c.term (c.bool_ite i p q)) h e (suc zero) l = bool_stands 1 p (e 1 l) h.1.1.0 h.0.1
  stands (c.term (c.bool_ite i p q)) h e (suc (suc zero)) l = bool_stands 2 q (e 2 l) h.1.1.1.0 h.0.2
  stands (c.term (c.bool_ite i p q)) h e (suc (suc (suc n))) l = absurd (omega arith)
  stands (c.term (c.not p)) h e zero l = bool_stands 0 p (e 0 l) h.1.0 h.0
  stands (c.term (c.not p)) h e (suc n) l = absurd (omega arith)
  stands (c.term (c.and args)) h e n l =
      let k = word_at 4 (λ k. k < payload_limit) (λ k. IsBool (sort_at x.sorts k)) args n l h.1 h.0.1 in
      bool_stands n k.0 (e n l ∙ k.1) k.2 k.3
  stands (c.term (c.lit s)) h e zero l = width_is (length s) (e 0 l) h.0
  stands (c.term (c.lit s)) h e (suc n) l =
      let d = digit-bound (digit_count (length s)) (bv2nat s) (length s) n (bv2nat_lt s) (le_of_suc-le-suc l) in
      let e-n : a (suc n) ≡ number_word d.0 = e (suc n) l ∙ d.1 in
      let cap = pow_mono {i = min 16 (length s - 16 * n)} {j = 16} (omega arith) in
      let low : d.0 < payload_limit = omega (arith, d.2) in
      rw (eqb-suc-zero n, sub-one (suc n), number_of_lem (length s) (e 0 (suc-le-suc zero-le)) (omega arith))
      (both (number_is d.0 e-n)
      (lt-ltb (payload_of (a (suc n))) (2 ^ min 16 (length s - 16 * n)) (rw (number_of_lem d.0 e-n low) d.2)))
  stands (c.term (c.equal p q)) h e zero l =
      rw (sort-is 0 p (e 0 (omega arith)) h.1.0) (le-leb (sort_at x.sorts p) 64 h.0.0)
  stands (c.term (c.equal p q)) h e (suc zero) l =
      same_stands 0 p q (e 0 (omega arith)) (e 1 l) h.1.0 h.1.1.0 h.0.1
  stands (c.term (c.equal p q)) h e (suc (suc n)) l = absurd (omega arith)
  stands (c.term (c.ite i p q)) h e zero l = bool_stands 0 i (e 0 l) h.1.0 h.0.0
  stands (c.term (c.ite i p q)) h e (suc zero) l = vector_stands 1 p (e 1 l) h.1.1.0 h.0.1
  stands (c.term (c.ite i p q)) h e (suc (suc zero)) l =
      same_stands 1 p q (e 1 (omega arith)) (e 2 l) h.1.1.0 h.1.1.1.0 h.0.2
  stands (c.term (c.ite i p q)) h e (suc (suc (suc n))) l = absurd (omega arith)
  stands (c.term (c.concat p q)) h e zero l = vector_stands 0 p (e 0 l) h.1.0 h.0.0
  stands (c.term (c.concat p q)) h e (suc zero) l =
      let sq = sort-is 1 q (e 1 l) h.1.1.0 in
      let sp = before-is 0 p (e 0 (omega arith)) h.1.0 in
      both (le-leb 1 (sort_of_word x.sorts (a 1)) (omega arith))
      (le-leb (sort_of_word x.sorts (b 1) + sort_of_word x.sorts (a 1)) 64 (omega arith))
  stands (c.term (c.concat p q)) h e (suc (suc n)) l = absurd (omega arith)
  stands (c.term (c.extract i j p)) h e zero l = number_stands 0 i 63 (e 0 l) (omega arith) h.0.0
  stands (c.term (c.extract i j p)) h e (suc zero) l =
      number_stands 1 j (payload_of (b 1)) (e 1 l) (omega arith)
      (rw (follows 0, number_of_lem i (e 0 (omega arith)) (omega arith)) h.0.1)
  stands (c.term (c.extract i j p)) h e (suc (suc zero)) l =
      let sp = sort-is 2 p (e 2 l) h.1.0 in
      let high = number_of_lem i (e 0 (omega arith)) (omega arith) in
      both (lt-ltb (payload_of (a 0)) (sort_of_word x.sorts (a 2)) (omega arith))
      (le-leb (sort_of_word x.sorts (a 2)) 64 (omega arith))
  stands (c.term (c.extract i j p)) h e (suc (suc (suc n))) l = absurd (omega arith)
  stands (c.term (c.bvnot p)) h e zero l = vector_stands 0 p (e 0 l) h.1.0 h.0
  stands (c.term (c.bvnot p)) h e (suc n) l = absurd (omega arith)
  stands (c.term (c.op2 op p q)) h e zero l = vector_stands 0 p (e 0 l) h.1.0 h.0.0
  stands (c.term (c.op2 op p q)) h e (suc zero) l =
      same_stands 0 p q (e 0 (omega arith)) (e 1 l) h.1.0 h.1.1.0 h.0.1
  stands (c.term (c.op2 op p q)) h e (suc (suc n)) l = absurd (omega arith)
  stands (c.term (c.compare op p q)) h e zero l = vector_stands 0 p (e 0 l) h.1.0 h.0.0
  stands (c.term (c.compare op p q)) h e (suc zero) l =
      same_stands 0 p q (e 0 (omega arith)) (e 1 l) h.1.0 h.1.1.0 h.0.1
  stands (c.term (c.compare op p q)) h e (suc (suc n)) l = absurd (omega arith)
  stands (c.declare name w) h e zero l =
      let low = letter-low name.letter in number_stands 0 (letter_number name.letter) 2 (e 0 l) (omega arith) low
  stands (c.declare name w) h e (suc zero) l = number_is name.index (e 1 l)
  stands (c.declare name w) h e (suc (suc zero)) l =
      let low = suffix-low name.suffix in number_stands 2 (suffix_number name.suffix) 2 (e 2 l) (omega arith) low
  stands (c.declare name w) h e (suc (suc (suc zero))) l = width_is w (e 3 l) h.1
  stands (c.declare name w) h e (suc (suc (suc (suc n)))) l = absurd (omega arith)
  stands (c.assert k) h e zero l = bool_stands 0 k (e 0 l) h.1 h.0
  stands (c.assert k) h e (suc n) l = absurd (omega arith)
  stands c.check h e n l = absurd (omega arith)

-- ---- the whole list

head_holds : (x : Context) (w : List ℕ) (at : ℕ) → x.checked ≡ false → kind_of (get_or w at 0) ≡ 2
    → at + count_at w at < length w → count_fits (operation_at w at) (count_at w at) (argument_at bare w at 0) ≡ true
    → again x w at ≡ false → head_stands x w at ≡ true
head_holds x w at p q r s t =
    both (both (both (both (ap not p) (eq-eqb (kind_of (get_or w at 0)) 2 q)) (lt-ltb (at + count_at w at) (length w) r)) s)
    (ap not t)

module _ (x : Context) (call : Call) (open-list : x.checked ≡ false) (ok : Allowed x call) (pre post : List ℕ) where
  abbrev list : List ℕ
  list = pre ++ (record_of call ++ post)

  head_stands_lem : head_stands x list (length pre) ≡ true
  head_stands_lem =
      let n = count_at_lem x call ok pre post in
      head_holds x list (length pre) open-list
      (ap kind_of (head_at_lem x call ok pre post) ∙ kind_of_word 2 _)
      (let e = length-append pre (record_of call ++ post) in let f = length-append (words call) post in omega arith)
      (rw (operation_at_lem x call ok pre post, n)
      (count_fits_lem x call (argument_at bare list (length pre)) ok (argument_at_lem x call ok pre post)))
      (rw (call_at_lem x call ok pre post)
      (not-again x call (argument_at bare list (length pre)) ok (argument_at_lem x call ok pre post)))

  admitted-at : (i : ℕ) → i < length (words call) → admitted x.sorts list (length pre) i ≡ true
  admitted-at i l =
      rw (operation_at_lem x call ok pre post)
      (stands x (argument_at bare list (length pre)) (λ k. get_or list (length pre + k) 0)
      (λ k. ap (λ (j : ℕ). get_or list j 0) (let e : length pre + suc k ≡ length pre + 1 + k = omega arith in e))
      call ok (argument_at_lem x call ok pre post) i l)

  no_wrong : wrong_argument x.sorts list (length pre) ≡ none
  no_wrong =
      none_failing (admitted x.sorts list (length pre)) 0 (count_at list (length pre))
      (λ i _ l. admitted-at i (let n = count_at_lem x call ok pre post in omega arith))

read-written : (x : Context) (cs : List Call) → Formed x cs → (n : ℕ) (pre : List ℕ) → length (encode cs) ≤ n
    → read_from n (pre ++ encode cs) (length pre) x ≡ well_formed (leaves x cs)
unfolding encode leaves
read-written x [] f n pre h = read-end n (pre ++ []) (length pre) x (let e = length-append pre [] in omega arith)
read-written x (call ∷ cs) f zero pre h = absurd (omega arith)
read-written x (call ∷ cs) f (suc n) pre h =
    let post = encode cs in
    let w = pre ++ (record_of call ++ post) in
    let step =
    read_step n w (length pre) x (before-end x call f.1 pre post)
    (head_stands_lem x call f.0 f.1 pre post) (no_wrong x call f.0 f.1 pre post) in
    let rest =
    read-written (after x call) cs f.2 n (pre ++ record_of call)
    (let l = length-append (words call) post in omega arith) in
    step
    ∙ rw (call_at_lem x call f.1 pre post, next-at x call f.1 pre post, ← append_assoc pre (record_of call) post) rest

-- Written calls are well formed.
pub encode-formed : (cs : List Call) → Formed start cs → outcome (encode cs) ≡ well_formed (leaves start cs)
encode-formed cs f = read-written start cs f (length (encode cs)) [] (le_refl (length (encode cs)))
