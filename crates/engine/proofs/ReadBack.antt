-- A well-formed list of words is the writing of the calls that it reads as, and these are formed.
use mathlib.Core.Path.{◌≡◌, refl, sym, ap, ap₂, ◌∙◌, subst}
use mathlib.Core.Bool.{Bool, true, false, not, cond, ◌&&◌, ◌||◌, false≢true}
use mathlib.Core.List.Memᴰ
use mathlib.Core.List.{List, [], ◌∷◌, ◌++◌, Memᴰ}
use mathlib.Core.Logic.{⊎_elim}
use mathlib.Core.Option.{Option, some, none}
use Prim.Native.Nat.{ℕ, zero, suc, ◌+◌, ◌-◌, ◌*◌, ◌/◌, ◌%◌, ◌^◌, ◌≤◌, ◌<◌, min, zero-le, suc-le-suc}
use native.Mathlib.Nat.{zero-lt-suc, mod-eq_of_lt}
use native.Mathlib.Omega.{arith}
use native.Mathlib.Numerals.{add-one, sub-one}
use lib.ListN.{length, get_or, drop, drop_of_length-le}
use lib.Seq.{drop-cons}
use lib.Dec.{eqb, leb, ltb, eqb-suc-zero}
use lib.Pow.{pow_mono, pow_pos, pow-add}
use borrow.Author.Tests.{eq-eqb, eqb-true, leb-true, leb-false, ltb-true, ltb-false}
use Rattle.logic.specs.Word.{kind_of, payload_of, word_of, head_word, number_word, term_word}
use Rattle.logic.proofs.WordLaws.{word_of_parts}
use Rattle.logic.specs.Table.{tab}
use Rattle.logic.proofs.TableLaws.{length-tab, tab_ext, map-tab}
use Rattle.bitvec.specs.Bits.{bit, nat2bv}
use Rattle.bitvec.proofs.Laws.{length-nat2bv, bv2nat-nat2bv}
use Rattle.engine.specs.Call.{Name, BinaryOp, Compare, Call}
use Rattle.engine.specs.Call as c
use Rattle.engine.specs.Meaning.{All, Earlier}
use Rattle.engine.proofs.SortLaws.{formed-earlier}
use Rattle.engine.specs.Sorts.{Sort, IsBool, IsVector, sort_at, Context, start, after, Allowed, Formed}
use Rattle.engine.specs.Sorts.{leaves, payload_limit, count_limit}
use Rattle.engine.specs.Encode.{Op, op_of, operations, number_of, digits, digit_count, from_digits, operation_of}
use Rattle.engine.specs.Encode.{words, record_of, encode, letter_number, suffix_number, call_of, operation_at, count_at}
use Rattle.engine.specs.Encode.{bare, argument_at, next_at, call_at, calls_from, decode}
use Rattle.engine.specs.Encode as o
use Rattle.engine.specs.WellFormed.{is_number, is_vector, is_width, sort_of_word, literal_count, count_fits, argument_of}
use Rattle.engine.specs.WellFormed.{admits, spells, known, declares, again, head_stands, admitted}
use Rattle.engine.specs.WellFormed.{wrong_argument, well_formed, malformed, read_from}
use Rattle.engine.specs.WellFormed.{outcome}
use Rattle.engine.proofs.Tests.{both, left_of, right_of, not_of}
use Rattle.engine.proofs.Steps.{failing_free, read-end, read_step, read_head, read_wrong}

-- ---- single words

kind_word : (kind word : ℕ) → kind_of word ≡ kind → word_of kind (payload_of word) ≡ word
kind_word kind word e = ap (λ (k : ℕ). word_of k (payload_of word)) (sym e) ∙ word_of_parts word

number_word_lem : (word : ℕ) → is_number word ≡ true → number_word (payload_of word) ≡ word
number_word_lem word h = kind_word 3 word (eqb-true (kind_of word) 3 h)

payload_low : (word : ℕ) → payload_of word < payload_limit
payload_low word = omega arith

-- A word with a sort refers to a term of that sort.
pub record Reference (sorts : List Sort) (word : ℕ) : Type 0 where
  pub word_is : term_word (payload_of word) ≡ word
  pub sort-is : sort_of_word sorts word ≡ sort_at sorts (payload_of word)

pub reference : (sorts : List Sort) (word : ℕ) → sort_of_word sorts word ≤ 64 → Reference sorts word
reference sorts word h = go (eqb (kind_of word) 4) refl
  where
    go : (b : Bool) → eqb (kind_of word) 4 ≡ b → Reference sorts word
    go true e = record { word_is = kind_word 4 word (eqb-true (kind_of word) 4 e); sort-is = rw e }
    go false e = absurd (let z : 65 ≤ 64 = rw e at h in omega arith)

vector_of : (s : Sort) → is_vector s ≡ true → IsVector s
vector_of s h = (leb-true 1 s (left_of (leb 1 s) (leb s 64) h), leb-true s 64 (right_of (leb 1 s) (leb s 64) h))

number-at_most : (word bound : ℕ) → (is_number word && leb (payload_of word) bound) ≡ true → payload_of word ≤ bound
number-at_most word bound h =
    leb-true (payload_of word) bound (right_of (is_number word) (leb (payload_of word) bound) h)

-- ---- lists of words

module _ (a : ℕ → ℕ) where
  tab-one : {n : ℕ} → n ≡ 1 → tab n a ≡ a 0 ∷ []
  unfolding tab
  tab-one e = rw e

  tab_two : {n : ℕ} → n ≡ 2 → tab n a ≡ a 0 ∷ a 1 ∷ []
  unfolding tab
  tab_two e = rw e

  tab_three : {n : ℕ} → n ≡ 3 → tab n a ≡ a 0 ∷ a 1 ∷ a 2 ∷ []
  unfolding tab
  tab_three e = rw e

  tab_four : {n : ℕ} → n ≡ 4 → tab n a ≡ a 0 ∷ a 1 ∷ a 2 ∷ a 3 ∷ []
  unfolding tab
  tab_four e = rw e

all-tab : (P : ℕ → Type 0) (n : ℕ) (f : ℕ → ℕ) → ((i : ℕ) → i < n → P (f i)) → All P (tab n f)
unfolding tab
all-tab P zero f h = tt
all-tab P (suc n) f h = (h zero (zero-lt-suc n), all-tab P n (λ i. f (suc i)) (λ i l. h (suc i) (suc-le-suc l)))

-- ---- literals

digits_of : (ds : List ℕ) → All (λ d. d < 2 ^ 16) ds → digits (length ds) (from_digits ds) ≡ ds
unfolding digits from_digits
digits_of [] h = refl
digits_of (d ∷ ds) h =
    let low : (d + 2 ^ 16 * from_digits ds) % 2 ^ 16 ≡ d = (let z = h.0 in omega arith) in
    let high : (d + 2 ^ 16 * from_digits ds) / 2 ^ 16 ≡ from_digits ds = (let z = h.0 in omega arith) in
    ap₂ (λ (p : ℕ) (r : List ℕ). p ∷ r) low (ap (digits (length ds)) high ∙ digits_of ds h.1)

-- One more digit below a number of a width.
grow : (d n width : ℕ) → d < 2 ^ min 16 width → n < 2 ^ (width - 16) → d + 2 ^ 16 * n < 2 ^ width
grow d n width p q = go (leb 16 width) refl
  where
    go : (b : Bool) → leb 16 width ≡ b → d + 2 ^ 16 * n < 2 ^ width
    go true t =
        let z = leb-true 16 width t in
        let e : min 16 width ≡ 16 = omega arith in
        let f : 2 ^ width ≡ 2 ^ (width - 16) * 2 ^ 16 =
        ap (λ (k : ℕ). 2 ^ k) (let g : width ≡ width - 16 + 16 = omega arith in g) ∙ pow-add 2 (width - 16) 16 in
        let low : d < 2 ^ 16 = rw e at p in
        rw f (omega arith)
    go false t =
        let z = leb-false 16 width t in
        let e : min 16 width ≡ width = omega arith in
        let g : width - 16 ≡ 0 = omega arith in
        let low : d < 2 ^ width = rw e at p in
        let high : n < 1 = rw g at q in
        omega arith

digits_lt : (n : ℕ) (f : ℕ → ℕ) (width : ℕ) → ((j : ℕ) → j < n → f j < 2 ^ min 16 (width - 16 * j))
    → from_digits (tab n f) < 2 ^ width
unfolding tab from_digits
digits_lt zero f width h = pow_pos width
digits_lt (suc n) f width h =
    let e : width - 16 * 0 ≡ width = omega arith in
    grow (f 0) (from_digits (tab n (λ i. f (suc i)))) width (rw e at (h 0 (zero-lt-suc n)))
    (digits_lt n (λ i. f (suc i)) (width - 16) (λ j l.
    let g : width - 16 * suc j ≡ width - 16 - 16 * j = omega arith in rw g at (h (suc j) (suc-le-suc l))))

tab_cons : (a : ℕ → ℕ) (n : ℕ) → 0 < n → tab n a ≡ a 0 ∷ tab (n - 1) (λ i. a (suc i))
unfolding tab
tab_cons a zero h = absurd (omega arith)
tab_cons a (suc n) h = rw (sub-one (suc n))

-- The words of a literal read from words a, the digits p of which lie below its width.
literal_words : (a p : ℕ → ℕ) (k : ℕ) → k ≡ digit_count (payload_of (a 0)) → number_word (payload_of (a 0)) ≡ a 0
    → ((j : ℕ) → j < k → p j < 2 ^ min 16 (payload_of (a 0) - 16 * j)) → ((j : ℕ) → j < k → number_word (p j) ≡ a (suc j))
    → words (c.term (c.lit (nat2bv (payload_of (a 0)) (from_digits (tab k p))))) ≡ a 0 ∷ tab k (λ i. a (suc i))
literal_words a p k counts number small digit =
    let width = payload_of (a 0) in
    let value = from_digits (tab k p) in
    let all_small =
    all-tab (λ d. d < 2 ^ 16) k p
    (λ j l. let cap = pow_mono {i = min 16 (width - 16 * j)} {j = 16} (omega arith) in omega (arith, small j l)) in
    let back : digits k value ≡ tab k p =
    ap (λ (m : ℕ). digits m value) (sym (length-tab k p)) ∙ digits_of (tab k p) all_small in
    rw (
      length-nat2bv width value,
      bv2nat-nat2bv width value,
      mod-eq_of_lt (digits_lt k p width small),
      ← counts,
      back,
      map-tab number_word k p,
      tab_ext k (λ i. number_word (p i)) (λ i. a (suc i)) digit,
      number,
    )

-- ---- names

letter-number : (p : ℕ) → p ≤ 2 → letter_number (get_or o.letters p c.n) ≡ p
letter-number zero h = refl
letter-number (suc zero) h = refl
letter-number (suc (suc zero)) h = refl
letter-number (suc (suc (suc p))) h = absurd (omega arith)

suffix-number : (p : ℕ) → p ≤ 2 → suffix_number (get_or o.suffixes p c.none) ≡ p
suffix-number zero h = refl
suffix-number (suc zero) h = refl
suffix-number (suc (suc zero)) h = refl
suffix-number (suc (suc (suc p))) h = absurd (omega arith)

flag_number : (p : ℕ) → p ≤ 1 → bit (eqb p 1) ≡ p
flag_number zero h = refl
flag_number (suc zero) h = refl
flag_number (suc (suc p)) h = absurd (omega arith)

-- A name among those known is known by its words.
known_of : (names : List Name) (name : Name) (l i s : ℕ) → spells name l i s ≡ true → Memᴰ name names
    → known names l i s ≡ true
unfolding known
known_of [] name l i s h m = absurd (Memᴰ.not-nil m)
known_of (k ∷ names) name l i s h m =
    ⊎_elim (λ e. rw (← e, h)) (λ t. rw (known_of names name l i s h t) (or-true (spells k l i s)))
    (Memᴰ.cases_cons m)
  where
    or-true : (b : Bool) → (b || true) ≡ true
    or-true true = refl
    or-true false = refl

-- ---- a record

-- The record of an operation with n arguments a: its call is allowed, and these are the words that it is written in.
pub record Reads (x : Context) (op : Op) (n : ℕ) (a : ℕ → ℕ) : Type 0 where
  pub allowed : Allowed x (call_of op n (λ i. payload_of (a i)))
  pub written : words (call_of op n (λ i. payload_of (a i))) ≡ tab n a
  pub operation : operation_of (call_of op n (λ i. payload_of (a i))) ≡ op

module _ (x : Context) (n : ℕ) (a b : ℕ → ℕ) (follows : (i : ℕ) → b (suc i) ≡ a i) (few : n < count_limit) where
  abbrev sort : ℕ → Sort
  sort i = sort_of_word x.sorts (a i)

  abbrev Admitted : Op → Type 0
  Admitted op =
      (i : ℕ) → i < n → admits (argument_of op i) (a 0) (b i) (a i) (sort_of_word x.sorts (b i)) (sort i) ≡ true

  ref : (i : ℕ) → sort i ≤ 64 → Reference x.sorts (a i)
  ref i h = reference x.sorts (a i) h

  -- The sort of the term before.
  before : (i : ℕ) → sort_of_word x.sorts (b (suc i)) ≡ sort i
  before i = ap (sort_of_word x.sorts) (follows i)

  reads-bool_lit : n ≡ 1 → Admitted (o.term o.bool_lit) → Reads x (o.term o.bool_lit) n a
  reads-bool_lit e t =
      let h = t 0 (omega arith) in
      let num = number_word_lem (a 0) (left_of (is_number (a 0)) (leb (payload_of (a 0)) 1) h) in
      record {
        allowed = (tt, tt, omega arith);
        written =
            ap (λ (p : ℕ). number_word p ∷ []) (flag_number (payload_of (a 0)) (number-at_most (a 0) 1 h))
            ∙ ap (λ (w : ℕ). w ∷ []) num ∙ sym (tab-one a e);
        operation = refl;
      }

  reads-bool_ite : n ≡ 3 → Admitted (o.term o.bool_ite) → Reads x (o.term o.bool_ite) n a
  reads-bool_ite e t =
      let s0 = eqb-true (sort 0) 0 (t 0 (omega arith)) in
      let s1 = eqb-true (sort 1) 0 (t 1 (omega arith)) in
      let s2 = eqb-true (sort 2) 0 (t 2 (omega arith)) in
      let r0 = ref 0 (omega arith) in
      let r1 = ref 1 (omega arith) in
      let r2 = ref 2 (omega arith) in
      record {
        allowed = (
          (sym r0.sort-is ∙ s0, sym r1.sort-is ∙ s1, sym r2.sort-is ∙ s2),
          (payload_low (a 0), (payload_low (a 1), (payload_low (a 2), tt))),
          omega arith,
        );
        written = rw (tab_three a e, r0.word_is, r1.word_is, r2.word_is);
        operation = refl;
      }

  -- One Bool.
  bool-one : n ≡ 1 → (eqb (sort 0) 0 ≡ true) → IsBool (sort_at x.sorts (payload_of (a 0)))
      × (term_word (payload_of (a 0)) ∷ [] ≡ tab n a)
  bool-one e h =
      let s0 = eqb-true (sort 0) 0 h in
      let r0 = ref 0 (omega arith) in
      (sym r0.sort-is ∙ s0, rw (tab-one a e, r0.word_is))

  reads-not : n ≡ 1 → Admitted (o.term o.not) → Reads x (o.term o.not) n a
  reads-not e t =
      let one = bool-one e (t 0 (omega arith)) in
      record { allowed = (one.0, (payload_low (a 0), tt), omega arith); written = one.1; operation = refl }

  reads-assert : n ≡ 1 → Admitted o.assert → Reads x o.assert n a
  reads-assert e t =
      let one = bool-one e (t 0 (omega arith)) in
      record { allowed = (one.0, payload_low (a 0)); written = one.1; operation = refl }

  reads-and : 1 ≤ n → Admitted (o.term o.and) → Reads x (o.term o.and) n a
  reads-and e t =
      let bool_at : (i : ℕ) → i < n → sort i ≡ 0 = λ i l. eqb-true (sort i) 0 (t i l) in
      let refs : (i : ℕ) → i < n → Reference x.sorts (a i) = λ i l. ref i (let z = bool_at i l in omega arith) in
      record {
        allowed = (
          (
            rw (length-tab n (λ i. payload_of (a i))) e,
            all-tab (λ k. IsBool (sort_at x.sorts k)) n (λ i. payload_of (a i))
                (λ i l. sym (refs i l).sort-is ∙ bool_at i l),
          ),
          all-tab (λ k. k < payload_limit) n (λ i. payload_of (a i)) (λ i l. payload_low (a i)),
          rw (length-tab n (λ i. payload_of (a i))) few,
        );
        written = map-tab term_word n (λ i. payload_of (a i)) ∙ tab_ext n _ a (λ i l. (refs i l).word_is);
        operation = refl;
      }

  -- A term and another of its sort.
  same_two : n ≡ 2 → sort 0 ≤ 64 → eqb (sort 1) (sort_of_word x.sorts (b 1)) ≡ true
      → (sort_at x.sorts (payload_of (a 1)) ≡ sort_at x.sorts (payload_of (a 0)))
      × (term_word (payload_of (a 0)) ∷ term_word (payload_of (a 1)) ∷ [] ≡ tab n a)
      × (sort 0 ≡ sort_at x.sorts (payload_of (a 0)))
  same_two e low h =
      let s1 : sort 1 ≡ sort 0 = eqb-true (sort 1) (sort_of_word x.sorts (b 1)) h ∙ before 0 in
      let r0 = ref 0 low in
      let r1 = ref 1 (omega arith) in
      (sym r1.sort-is ∙ s1 ∙ r0.sort-is, rw (tab_two a e, r0.word_is, r1.word_is), r0.sort-is)

  reads-equal : n ≡ 2 → Admitted (o.term o.equal) → Reads x (o.term o.equal) n a
  reads-equal e t =
      let s0 = leb-true (sort 0) 64 (t 0 (omega arith)) in
      let two = same_two e s0 (t 1 (omega arith)) in
      record {
        allowed =
            ((rw (← two.2) s0, two.0), (payload_low (a 0), (payload_low (a 1), tt)), omega arith);
        written = two.1;
        operation = refl;
      }

  vector_two : n ≡ 2 → is_vector (sort 0) ≡ true → eqb (sort 1) (sort_of_word x.sorts (b 1)) ≡ true
      → IsVector (sort_at x.sorts (payload_of (a 0)))
      × (sort_at x.sorts (payload_of (a 1)) ≡ sort_at x.sorts (payload_of (a 0)))
      × (term_word (payload_of (a 0)) ∷ term_word (payload_of (a 1)) ∷ [] ≡ tab n a)
  vector_two e v h =
      let s0 = vector_of (sort 0) v in
      let two = same_two e s0.1 h in
      (subst IsVector two.2 s0, two.0, two.1)

  reads-op2 : (op : BinaryOp) → n ≡ 2 → Admitted (o.term (o.op2 op)) → Reads x (o.term (o.op2 op)) n a
  reads-op2 op e t =
      let two = vector_two e (t 0 (omega arith)) (t 1 (omega arith)) in
      record {
        allowed = ((two.0, two.1), (payload_low (a 0), (payload_low (a 1), tt)), omega arith);
        written = two.2;
        operation = refl;
      }

  reads-compare : (op : Compare) → n ≡ 2 → Admitted (o.term (o.compare op)) → Reads x (o.term (o.compare op)) n a
  reads-compare op e t =
      let two = vector_two e (t 0 (omega arith)) (t 1 (omega arith)) in
      record {
        allowed = ((two.0, two.1), (payload_low (a 0), (payload_low (a 1), tt)), omega arith);
        written = two.2;
        operation = refl;
      }

  reads-ite : n ≡ 3 → Admitted (o.term o.ite) → Reads x (o.term o.ite) n a
  reads-ite e t =
      let s0 = eqb-true (sort 0) 0 (t 0 (omega arith)) in
      let s1 = vector_of (sort 1) (t 1 (omega arith)) in
      let s2 : sort 2 ≡ sort 1 = eqb-true (sort 2) (sort_of_word x.sorts (b 2)) (t 2 (omega arith)) ∙ before 1 in
      let r0 = ref 0 (omega arith) in
      let r1 = ref 1 s1.1 in
      let r2 = ref 2 (omega arith) in
      record {
        allowed = (
          (sym r0.sort-is ∙ s0, subst IsVector r1.sort-is s1, sym r2.sort-is ∙ s2 ∙ r1.sort-is),
          (payload_low (a 0), (payload_low (a 1), (payload_low (a 2), tt))),
          omega arith,
        );
        written = rw (tab_three a e, r0.word_is, r1.word_is, r2.word_is);
        operation = refl;
      }

  reads-concat : n ≡ 2 → Admitted (o.term o.concat) → Reads x (o.term o.concat) n a
  reads-concat e t =
      let s0 = vector_of (sort 0) (t 0 (omega arith)) in
      let h = t 1 (omega arith) in
      let q = leb (sort_of_word x.sorts (b 1) + sort 1) 64 in
      let low = leb-true 1 (sort 1) (left_of (leb 1 (sort 1)) q h) in
      let high = leb-true (sort_of_word x.sorts (b 1) + sort 1) 64 (right_of (leb 1 (sort 1)) q h) in
      let b0 = before 0 in
      let r0 = ref 0 s0.1 in
      let r1 = ref 1 (omega arith) in
      let q0 = r0.sort-is in
      let q1 = r1.sort-is in
      record {
        allowed = (
          (omega arith, omega arith, omega arith),
          (payload_low (a 0), (payload_low (a 1), tt)),
          omega arith,
        );
        written = rw (tab_two a e, r0.word_is, r1.word_is);
        operation = refl;
      }

  reads-extract : n ≡ 3 → Admitted (o.term o.extract) → Reads x (o.term o.extract) n a
  reads-extract e t =
      let h0 = t 0 (omega arith) in
      let h1 = t 1 (omega arith) in
      let h2 = t 2 (omega arith) in
      let w0 = number_word_lem (a 0) (left_of (is_number (a 0)) (leb (payload_of (a 0)) 63) h0) in
      let w1 = number_word_lem (a 1) (left_of (is_number (a 1)) (leb (payload_of (a 1)) (payload_of (b 1))) h1) in
      let high = number-at_most (a 0) 63 h0 in
      let low = number-at_most (a 1) (payload_of (b 1)) h1 in
      let b1 = ap payload_of (follows 0) in
      let q = ltb (payload_of (a 0)) (sort 2) in
      let above = ltb-true (payload_of (a 0)) (sort 2) (left_of q (leb (sort 2) 64) h2) in
      let fits = leb-true (sort 2) 64 (right_of q (leb (sort 2) 64) h2) in
      let r2 = ref 2 fits in
      let q2 = r2.sort-is in
      record {
        allowed = ((high, omega arith, omega arith, omega arith), (payload_low (a 2), tt), omega arith);
        written = rw (tab_three a e, w0, w1, r2.word_is);
        operation = refl;
      }

  reads-bvnot : n ≡ 1 → Admitted (o.term o.bvnot) → Reads x (o.term o.bvnot) n a
  reads-bvnot e t =
      let s0 = vector_of (sort 0) (t 0 (omega arith)) in
      let r0 = ref 0 s0.1 in
      record {
        allowed = (subst IsVector r0.sort-is s0, (payload_low (a 0), tt), omega arith);
        written = rw (tab-one a e, r0.word_is);
        operation = refl;
      }

  reads-check : n ≡ 0 → Reads x o.check n a
  unfolding tab
  reads-check e = record { allowed = tt; written = rw e; operation = refl }

  reads-declare : n ≡ 4 → Admitted o.declare → known x.names (a 0) (a 1) (a 2) ≡ false → Reads x o.declare n a
  reads-declare e t new =
      let h0 = t 0 (omega arith) in
      let h2 = t 2 (omega arith) in
      let h3 = t 3 (omega arith) in
      let n0 = left_of (is_number (a 0)) (leb (payload_of (a 0)) 2) h0 in
      let n1 = t 1 (omega arith) in
      let n2 = left_of (is_number (a 2)) (leb (payload_of (a 2)) 2) h2 in
      let n3 = left_of (is_number (a 3)) (is_vector (payload_of (a 3))) h3 in
      let letter = letter-number (payload_of (a 0)) (number-at_most (a 0) 2 h0) in
      let suffix = suffix-number (payload_of (a 2)) (number-at_most (a 2) 2 h2) in
      let name : Name =
      record {
        letter = get_or o.letters (payload_of (a 0)) c.n;
        index = payload_of (a 1);
        suffix = get_or o.suffixes (payload_of (a 2)) c.none;
      } in
      let spelled : spells name (a 0) (a 1) (a 2) ≡ true =
      both
      (both (both n0 (eq-eqb _ _ (sym letter))) (both n1 (eq-eqb (payload_of (a 1)) (payload_of (a 1)) refl)))
      (both n2 (eq-eqb _ _ (sym suffix))) in
      record {
        allowed = (
          λ m. false≢true (sym new ∙ known_of x.names name (a 0) (a 1) (a 2) spelled m),
          vector_of (payload_of (a 3)) (right_of (is_number (a 3)) (is_vector (payload_of (a 3))) h3),
          payload_low (a 1),
        );
        written =
            rw (
              letter,
              suffix,
              number_word_lem (a 0) n0,
              number_word_lem (a 1) n1,
              number_word_lem (a 2) n2,
              number_word_lem (a 3) n3,
              tab_four a e,
            );
        operation = refl;
      }

  digit_word : Admitted (o.term o.lit) → (j : ℕ) → suc j < n
      → (is_number (a (suc j)) && ltb (payload_of (a (suc j))) (2 ^ min 16 (payload_of (a 0) - 16 * j))) ≡ true
  digit_word t j l = rw (eqb-suc-zero j, sub-one (suc j)) at (t (suc j) l)

  reads-lit : literal_count n (a 0) ≡ true → 0 < n → Admitted (o.term o.lit) → Reads x (o.term o.lit) n a
  reads-lit counted some_words t =
      let h0 = t 0 some_words in
      let width = payload_of (a 0) in
      let p : ℕ → ℕ = λ i. payload_of (a (suc i)) in
      let counts : n ≡ 1 + digit_count width = eqb-true n (1 + digit_count width) (rw h0 at counted) in
      let vector = vector_of width (right_of (is_number (a 0)) (is_vector width) h0) in
      let number = number_word_lem (a 0) (left_of (is_number (a 0)) (is_vector width) h0) in
      let small : (j : ℕ) → j < n - 1 → p j < 2 ^ min 16 (width - 16 * j) =
      λ j l. ltb-true (p j) (2 ^ min 16 (width - 16 * j))
      (right_of (is_number (a (suc j))) (ltb (p j) (2 ^ min 16 (width - 16 * j))) (digit_word t j (omega arith))) in
      let digit : (j : ℕ) → j < n - 1 → number_word (p j) ≡ a (suc j) =
      λ j l. number_word_lem (a (suc j))
      (left_of (is_number (a (suc j))) (ltb (p j) (2 ^ min 16 (width - 16 * j))) (digit_word t j (omega arith))) in
      record {
        allowed = (rw (length-nat2bv width (from_digits (tab (n - 1) p))) vector, tt, omega arith);
        written = literal_words a p (n - 1) (omega arith) number small digit ∙ sym (tab_cons a n some_words);
        operation = refl;
      }

  reads : (op : Op) → count_fits op n (a 0) ≡ true → Admitted op
      → (declares (call_of op n (λ i. payload_of (a i))) && known x.names (a 0) (a 1) (a 2)) ≡ false → Reads x op n a
  reads (o.term o.bool_lit) e t new = reads-bool_lit (eqb-true n 1 e) t
  reads (o.term o.bool_ite) e t new = reads-bool_ite (eqb-true n 3 e) t
  reads (o.term o.not) e t new = reads-not (eqb-true n 1 e) t
  reads (o.term o.and) e t new = reads-and (leb-true 1 n e) t
  reads (o.term o.lit) e t new = reads-lit e (some_literal (is_width (a 0)) e) t
    where
      some_literal : (b : Bool) → cond b (eqb n (1 + digit_count (payload_of (a 0)))) (leb 2 n && leb n 5) ≡ true → 0 < n
      some_literal true h = let z = eqb-true n (1 + digit_count (payload_of (a 0))) h in omega arith
      some_literal false h = let z = leb-true 2 n (left_of (leb 2 n) (leb n 5) h) in omega arith
  reads (o.term o.equal) e t new = reads-equal (eqb-true n 2 e) t
  reads (o.term o.ite) e t new = reads-ite (eqb-true n 3 e) t
  reads (o.term o.concat) e t new = reads-concat (eqb-true n 2 e) t
  reads (o.term o.extract) e t new = reads-extract (eqb-true n 3 e) t
  reads (o.term o.bvnot) e t new = reads-bvnot (eqb-true n 1 e) t
  reads (o.term (o.op2 op)) e t new = reads-op2 op (eqb-true n 2 e) t
  reads (o.term (o.compare op)) e t new = reads-compare op (eqb-true n 2 e) t
  reads o.declare e t new = reads-declare (eqb-true n 4 e) t new
  reads o.assert e t new = reads-assert (eqb-true n 1 e) t
  reads o.check e t new = reads-check (eqb-true n 0 e)
  reads o.unknown e t new = absurd (false≢true e)

-- ---- the head

-- Operations from s on, by their numbers.
abbrev numbered : ℕ → List Op → Bool
numbered s [] = true
numbered s (op ∷ ops) = eqb (number_of op) s && numbered (suc s) ops

number_of_lem : (ops : List Op) (s k : ℕ) → numbered s ops ≡ true → (get_or ops k o.unknown ≡ o.unknown → ⊥)
    → number_of (get_or ops k o.unknown) ≡ s + k
number_of_lem [] s k h known = absurd (known refl)
number_of_lem (op ∷ ops) s zero h known =
    eqb-true (number_of op) s (left_of (eqb (number_of op) s) (numbered (suc s) ops) h) ∙ omega arith
number_of_lem (op ∷ ops) s (suc k) h known =
    number_of_lem ops (suc s) k (right_of (eqb (number_of op) s) (numbered (suc s) ops) h) known ∙ omega arith

number-op_of : (k : ℕ) → (op_of k ≡ o.unknown → ⊥) → number_of (op_of k) ≡ k
unfolding op_of
number-op_of k known = number_of_lem operations 0 k refl known ∙ omega arith

known-op : (op : Op) (n first : ℕ) → count_fits op n first ≡ true → op ≡ o.unknown → ⊥
known-op op n first h e =
    false≢true (sym (ap (λ (p : Op). count_fits p n first) e) ∙ h)

head_back : (word : ℕ) → kind_of word ≡ 2 → head_word (payload_of word % 32) (payload_of word / 32) ≡ word
head_back word e = omega arith

-- ---- a record at its place

-- What a head that stands says.
pub record HeadStands (x : Context) (w : List ℕ) (at : ℕ) : Type 0 where
  pub unchecked : x.checked ≡ false
  pub head : kind_of (get_or w at 0) ≡ 2
  pub whole : at + count_at w at < length w
  pub counted : count_fits (operation_at w at) (count_at w at) (argument_at bare w at 0) ≡ true
  pub new : again x w at ≡ false

pub stands : (x : Context) (w : List ℕ) (at : ℕ) → head_stands x w at ≡ true → HeadStands x w at
stands x w at h =
    let t0 = not x.checked in
    let t1 = eqb (kind_of (get_or w at 0)) 2 in
    let t2 = ltb (at + count_at w at) (length w) in
    let t3 = count_fits (operation_at w at) (count_at w at) (argument_at bare w at 0) in
    let t4 = not (again x w at) in
    let h3 = left_of (t0 && t1 && t2 && t3) t4 h in
    let h2 = left_of (t0 && t1 && t2) t3 h3 in
    let h1 = left_of (t0 && t1) t2 h2 in
    record {
      unchecked = not_of x.checked (left_of t0 t1 h1);
      head = eqb-true (kind_of (get_or w at 0)) 2 (right_of t0 t1 h1);
      whole = ltb-true (at + count_at w at) (length w) (right_of (t0 && t1) t2 h2);
      counted = right_of (t0 && t1 && t2) t3 h3;
      new = not_of (again x w at) (right_of (t0 && t1 && t2 && t3) t4 h);
    }

few_words : (w : List ℕ) (at : ℕ) → count_at w at < count_limit
few_words w at = omega arith

pub reads_at : (x : Context) (w : List ℕ) (at : ℕ) → head_stands x w at ≡ true → wrong_argument x.sorts w at ≡ none
    → Reads x (operation_at w at) (count_at w at) (argument_at bare w at)
reads_at x w at h q =
    let s = stands x w at h in
    reads x (count_at w at) (argument_at bare w at) (λ k. get_or w (at + k) 0)
    (λ k. ap (λ (j : ℕ). get_or w j 0) (let e : at + suc k ≡ at + 1 + k = omega arith in e)) (few_words w at)
    (operation_at w at) s.counted
    (λ i l. failing_free (admitted x.sorts w at) 0 (count_at w at) q i zero-le (omega arith)) s.new

-- The words from a place on, in a table and the rest.
drop-tab : (w : List ℕ) (k n : ℕ) → k + n ≤ length w → drop k w ≡ tab n (λ i. get_or w (k + i) 0) ++ drop (k + n) w
unfolding tab
drop-tab w k zero h = ap (λ (j : ℕ). drop j w) (let e : k ≡ k + 0 = omega arith in e)
drop-tab w k (suc n) h =
    drop-cons w k 0 (omega arith)
    ∙ ap₂ (λ (a : ℕ) (r : List ℕ). a ∷ r) (ap (λ (j : ℕ). get_or w j 0) (let e : k ≡ k + 0 = omega arith in e))
    (drop-tab w (suc k) n (omega arith)
    ∙ ap₂ (λ (l r : List ℕ). l ++ r)
    (tab_ext n (λ i. get_or w (suc k + i) 0) (λ i. get_or w (k + suc i) 0)
    (λ i l. ap (λ (j : ℕ). get_or w j 0) (let e : suc k + i ≡ k + suc i = omega arith in e)))
    (ap (λ (j : ℕ). drop j w) (let e : suc k + n ≡ k + suc n = omega arith in e)))

-- A record that stands is the record of its call, and the rest of the list follows.
record_at_lem : (x : Context) (w : List ℕ) (at : ℕ) → head_stands x w at ≡ true → wrong_argument x.sorts w at ≡ none
    → record_of (call_at w at) ++ drop (next_at bare w at) w ≡ drop at w
record_at_lem x w at h q =
    let s = stands x w at h in
    let r = reads_at x w at h q in
    let inside = s.whole in
    let number : number_of (operation_of (call_at w at)) ≡ payload_of (get_or w at 0) % 32 =
    ap number_of r.operation
    ∙ number-op_of (payload_of (get_or w at 0) % 32) (known-op (operation_at w at) _ _ s.counted) in
    let count : length (words (call_at w at)) ≡ count_at w at = ap length r.written ∙ length-tab (count_at w at) _ in
    sym (drop-cons w at 0 (omega arith)
    ∙ ap₂ (λ (a : ℕ) (l : List ℕ). a ∷ l)
    (sym (ap₂ head_word number count ∙ head_back (get_or w at 0) s.head))
    (drop-one w at (count_at w at) (omega arith)
    ∙ ap (λ (l : List ℕ). l ++ drop (next_at bare w at) w) (sym r.written)))
  where
    drop-one : (w : List ℕ) (at n : ℕ) → at + n < length w
        → drop (suc at) w ≡ tab n (λ i. get_or w (at + 1 + i) 0) ++ drop (at + 1 + n) w
    drop-one w at n l = rw (add-one at) (drop-tab w (suc at) n (omega arith))

-- From a place on, what reads well is formed, is what its calls are written in, and leaves what they leave.
pub record ReadsAll (x y : Context) (cs : List Call) (ws : List ℕ) : Type 0 where
  pub formed : Formed x cs
  pub written : encode cs ≡ ws
  pub left : leaves x cs ≡ y

reads_end : (x y : Context) (w : List ℕ) (at : ℕ) → length w ≤ at → well_formed x ≡ well_formed y →
    ReadsAll x y [] (drop at w)
unfolding encode leaves
reads_end x y w at h e =
    record { formed = tt; written = sym (drop_of_length-le w h); left = cc }

never : {k : ℕ} {y : Context} → malformed k ≡ well_formed y → ⊥
never e = let z : ◌≡◌ {A = ℕ} 0 1 = cc in omega arith

reads-from : (n : ℕ) (w : List ℕ) (at : ℕ) (x y : Context) → length w - at ≤ n → read_from n w at x ≡ well_formed y
    → ReadsAll x y (calls_from n w at) (drop at w)
unfolding read_from calls_from encode leaves
reads-from zero w at x y h e = reads_end x y w at (omega arith) e
reads-from (suc n) w at x y h e =
    go (reads-from n) (ltb at (length w)) refl (head_stands x w at) refl (wrong_argument x.sorts w at) refl
  where
    go : ((w : List ℕ) (at : ℕ) (x y : Context) → length w - at ≤ n → read_from n w at x ≡ well_formed y
        → ReadsAll x y (calls_from n w at) (drop at w))
        → (inside : Bool) → ltb at (length w) ≡ inside → (head : Bool) → head_stands x w at ≡ head
        → (wrong : Option ℕ) → wrong_argument x.sorts w at ≡ wrong
        → ReadsAll x y (calls_from (suc n) w at) (drop at w)
    go rest false i head p wrong q =
        let end = ltb-false at (length w) i in
        rw i (reads_end x y w at end (sym (read-end (suc n) w at x end) ∙ e))
    go rest true i false p wrong q =
        absurd (never (sym (read_head n w at x (ltb-true at (length w) i) p) ∙ e))
    go rest true i true p (some k) q =
        absurd (never (sym (read_wrong n w at x k (ltb-true at (length w) i) p q) ∙ e))
    go rest true i true p none q =
        let inside = ltb-true at (length w) i in
        let whole = (stands x w at p).whole in
        let r =
        rest w (next_at bare w at) (after x (call_at w at)) y (omega arith) (sym (read_step n w at x inside p q) ∙ e) in
        rw i record {
          formed = ((stands x w at p).unchecked, (reads_at x w at p q).allowed, r.formed);
          written = ap (λ (l : List ℕ). record_of (call_at w at) ++ l) r.written ∙ record_at_lem x w at p q;
          left = r.left;
        }

-- A well-formed list of words: its calls are formed, it is what they are written in, and it leaves what they leave.
pub decode-formed : (w : List ℕ) (y : Context) → outcome w ≡ well_formed y → ReadsAll start y (decode w) w
decode-formed w y e = reads-from (length w) w 0 start y (omega arith) e

pub encode-decode : (w : List ℕ) (y : Context) → outcome w ≡ well_formed y → encode (decode w) ≡ w
encode-decode w y e = (decode-formed w y e).written

-- Its terms are never forward.
pub decode-earlier : (w : List ℕ) (y : Context) → outcome w ≡ well_formed y → Earlier 0 (decode w)
decode-earlier w y e = formed-earlier start (decode w) (decode-formed w y e).formed
