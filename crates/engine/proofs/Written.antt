-- A formed call list, written as words, is well formed and reads back as itself.
use mathlib.Core.Path.{◌≡◌, refl, ap, ap₂, ◌∙◌}
use mathlib.Core.Bool.{Bool, true, false, not}
use mathlib.Core.List.{List, [], ◌∷◌, ◌++◌, map, append_assoc}
use mathlib.Core.Option.{none}
use Prim.Native.Nat.{ℕ, zero, suc, ◌+◌, ◌-◌, ◌*◌, ◌/◌, ◌%◌, ◌^◌, ◌≤◌, ◌<◌, suc-le-suc}
use native.Mathlib.Nat.{zero-lt-suc, div-lt_iff_lt-mul, lt_of_lt_of_le, le_refl}
use native.Mathlib.Numerals.{sub-one}
use native.Mathlib.Omega.{arith}
use lib.ListN.{length, get_or, length-append, length-map, get_or-append}
use lib.Seq.{get_or-append_seam, get_or-append-add}
use lib.Pow.{pow-add, pow_mono}
use lib.Dec.{eqb}
use Rattle.logic.specs.Word.{payload_of, word_of, head_word, number_word, term_word}
use Rattle.logic.proofs.WordLaws.{payload_of_word}
use Rattle.logic.specs.Table.{tab}
use Rattle.bitvec.specs.Bits.{Bits, bit, bv2nat, nat2bv}
use Rattle.bitvec.proofs.Laws.{nat2bv-bv2nat, bv2nat_lt}
use Rattle.engine.specs.Call.{Letter, Suffix, Call}
use Rattle.engine.specs.Call as c
use Rattle.engine.specs.Meaning.{All}
use Rattle.engine.proofs.Laws.{All-map}
use Rattle.engine.specs.Sorts.{Context, start, after, Allowed, Formed}
use Rattle.engine.specs.Sorts.{payload_limit, count_limit}
use Rattle.engine.specs.Encode.{op_of, number_of}
use Rattle.engine.specs.Encode.{digits, digit_count, operation_of, term_words}
use Rattle.engine.specs.Encode.{words, record_of, encode, from_digits, letter_number, suffix_number, call_of}
use Rattle.engine.specs.Encode.{operation_at, count_at, bare, argument_at, next_at, call_at, calls_from, decode}
use Rattle.engine.specs.Encode as o
use Rattle.engine.proofs.Numbered.{op_of-number, number_lt}
use Rattle.engine.proofs.Steps.{calls-end, calls-step}

-- ---- the head

head-op : (k n : ℕ) → k < 32 → n < 2 ^ 24 → payload_of (head_word k n) % 32 ≡ k
head-op k n h l = omega arith

head-count : (k n : ℕ) → k < 32 → n < 2 ^ 24 → payload_of (head_word k n) / 32 ≡ n
head-count k n h l = omega arith

-- ---- the arguments

-- Words of one kind carry their payloads.
pub payloads_back : (kind : ℕ) (ks : List ℕ) (a : ℕ → ℕ) → All (λ k. k < payload_limit) ks
    → ((i : ℕ) → i < length (map (word_of kind) ks) → a i ≡ get_or (map (word_of kind) ks) i 0)
    → tab (length (map (word_of kind) ks)) (λ i. payload_of (a i)) ≡ ks
unfolding tab
payloads_back kind [] a low e = refl
payloads_back kind (k ∷ ks) a low e =
    ap₂ (λ (p : ℕ) (r : List ℕ). p ∷ r) (ap payload_of (e zero (zero-lt-suc _)) ∙ payload_of_word kind k low.0)
    (payloads_back kind ks (λ i. a (suc i)) low.1 (λ i h. e (suc i) (suc-le-suc h)))

pub length_digits : (k n : ℕ) → length (digits k n) ≡ k
unfolding digits
length_digits zero n = refl
length_digits (suc k) n = ap suc (length_digits k (n / 2 ^ 16))

pub digits_low : (k n : ℕ) → All (λ d. d < 2 ^ 16) (digits k n)
unfolding digits
digits_low zero n = tt
digits_low (suc k) n = (omega arith, digits_low k (n / 2 ^ 16))

-- A number in 16-bit numbers, and back.
pub digits_back : (k n : ℕ) → n < 2 ^ (16 * k) → from_digits (digits k n) ≡ n
unfolding digits from_digits
digits_back zero n h = omega arith
digits_back (suc k) n h =
    let step : 2 ^ (16 * suc k) ≡ 2 ^ (16 * k) * 2 ^ 16 =
    ap (λ (j : ℕ). 2 ^ j) (let e : 16 * suc k ≡ 16 * k + 16 = omega arith in e) ∙ pow-add 2 (16 * k) 16 in
    let high : n / 2 ^ 16 < 2 ^ (16 * k) =
    (div-lt_iff_lt-mul {k = 2 ^ 16} {x = n} {y = 2 ^ (16 * k)} (omega arith)).1 (omega arith) in
    rw (digits_back k (n / 2 ^ 16) high) (omega arith)

-- The number of a vector fits its digits.
vector-digits : (s : Bits) → bv2nat s < 2 ^ (16 * digit_count (length s))
vector-digits s =
    lt_of_lt_of_le (bv2nat_lt s) (pow_mono {i = length s} {j = 16 * digit_count (length s)} (omega arith))

-- A word of a payload carries it.
carried : (kind k : ℕ) {word : ℕ} → word ≡ word_of kind k → k < payload_limit → payload_of word ≡ k
carried kind k e low = ap payload_of e ∙ payload_of_word kind k low

low-digits : (ds : List ℕ) → All (λ d. d < 2 ^ 16) ds → All (λ d. d < payload_limit) ds
low-digits ds h = All-map (λ d. d < 2 ^ 16) (λ d. d < payload_limit) (λ d l. omega arith) ds h

flag_back : (b : Bool) {n : ℕ} → n ≡ bit b → eqb n 1 ≡ b
flag_back true e = rw e
flag_back false e = rw e

pub letter_back : (l : Letter) {n : ℕ} → n ≡ letter_number l → get_or o.letters n c.n ≡ l
letter_back c.n e = rw e
letter_back c.p e = rw e
letter_back c.t e = rw e

pub suffix_back : (l : Suffix) {n : ℕ} → n ≡ suffix_number l → get_or o.suffixes n c.none ≡ l
suffix_back c.none e = rw e
suffix_back c.x e = rw e
suffix_back c.y e = rw e

pub letter-low : (l : Letter) → letter_number l ≤ 2
letter-low c.n = omega arith
letter-low c.p = omega arith
letter-low c.t = omega arith

pub suffix-low : (l : Suffix) → suffix_number l ≤ 2
suffix-low c.none = omega arith
suffix-low c.x = omega arith
suffix-low c.y = omega arith

pub bit-low : (b : Bool) → bit b ≤ 1
bit-low true = omega arith
bit-low false = omega arith

-- Argument words a that are those of a call give the call back.
pub call_back : (x : Context) (call : Call) → Allowed x call → (a : ℕ → ℕ)
    → ((i : ℕ) → i < length (words call) → a i ≡ get_or (words call) i 0)
    → call_of (operation_of call) (length (words call)) (λ i. payload_of (a i)) ≡ call
call_back x (c.term (c.bool_lit b)) h a e =
    let low = bit-low b in
    ap (λ (b : Bool). c.term (c.bool_lit b)) (flag_back b (carried 3 (bit b) (e 0 (omega arith)) (omega arith)))
call_back x (c.term (c.bool_ite i p q)) h a e =
    rw (
      carried 4 i (e 0 (omega arith)) h.1.0,
      carried 4 p (e 1 (omega arith)) h.1.1.0,
      carried 4 q (e 2 (omega arith)) h.1.1.1.0,
    )
call_back x (c.term (c.not p)) h a e = rw (carried 4 p (e 0 (omega arith)) h.1.0)
call_back x (c.term (c.and args)) h a e =
    ap (λ (l : List ℕ). c.term (c.and l)) (payloads_back 4 args a h.1 e)
call_back x (c.term (c.lit s)) h a e =
    let ds = digits (digit_count (length s)) (bv2nat s) in
    let back : tab (length (map number_word ds)) (λ i. payload_of (a (suc i))) ≡ ds =
    payloads_back 3 ds (λ i. a (suc i)) (low-digits ds (digits_low (digit_count (length s)) (bv2nat s)))
    (λ i l. e (suc i) (suc-le-suc l)) in
    rw (carried 3 (length s) (e 0 (zero-lt-suc _)) (omega arith), sub-one (suc (length (map number_word ds))), back)
    (ap (λ (r : Bits). c.term (c.lit r))
    (ap (nat2bv (length s)) (digits_back (digit_count (length s)) (bv2nat s) (vector-digits s)) ∙ nat2bv-bv2nat s))
call_back x (c.term (c.equal p q)) h a e =
    rw (carried 4 p (e 0 (omega arith)) h.1.0, carried 4 q (e 1 (omega arith)) h.1.1.0)
call_back x (c.term (c.ite i p q)) h a e =
    rw (
      carried 4 i (e 0 (omega arith)) h.1.0,
      carried 4 p (e 1 (omega arith)) h.1.1.0,
      carried 4 q (e 2 (omega arith)) h.1.1.1.0,
    )
call_back x (c.term (c.concat p q)) h a e =
    rw (carried 4 p (e 0 (omega arith)) h.1.0, carried 4 q (e 1 (omega arith)) h.1.1.0)
call_back x (c.term (c.extract i j p)) h a e =
    rw (
      carried 3 i (e 0 (omega arith)) (omega arith),
      carried 3 j (e 1 (omega arith)) (omega arith),
      carried 4 p (e 2 (omega arith)) h.1.0,
    )
call_back x (c.term (c.bvnot p)) h a e = rw (carried 4 p (e 0 (omega arith)) h.1.0)
call_back x (c.term (c.op2 op p q)) h a e =
    rw (carried 4 p (e 0 (omega arith)) h.1.0, carried 4 q (e 1 (omega arith)) h.1.1.0)
call_back x (c.term (c.compare op p q)) h a e =
    rw (carried 4 p (e 0 (omega arith)) h.1.0, carried 4 q (e 1 (omega arith)) h.1.1.0)
call_back x (c.declare name w) h a e =
    let low = letter-low name.letter in
    let low' = suffix-low name.suffix in
    rw (
      letter_back name.letter (carried 3 _ (e 0 (omega arith)) (omega arith)),
      carried 3 name.index (e 1 (omega arith)) h.2,
      suffix_back name.suffix (carried 3 _ (e 2 (omega arith)) (omega arith)),
      carried 3 w (e 3 (omega arith)) (omega arith),
    )
call_back x (c.assert k) h a e = rw (carried 4 k (e 0 (omega arith)) h.1)
call_back x c.check h a e = refl

-- ---- a record at its place

pub length_literal : (s : Bits) → length (term_words (c.lit s)) ≡ suc (digit_count (length s))
length_literal s = ap suc (length-map (digits (digit_count (length s)) (bv2nat s)) number_word ∙ length_digits _ _)

words_count : (x : Context) (call : Call) → Allowed x call → length (words call) < count_limit
words_count x (c.term (c.bool_lit b)) h = omega arith
words_count x (c.term (c.bool_ite i p q)) h = omega arith
words_count x (c.term (c.not p)) h = omega arith
words_count x (c.term (c.and args)) h = rw (length-map args term_word) h.2
words_count x (c.term (c.lit s)) h = rw (length_literal s) (omega arith)
words_count x (c.term (c.equal p q)) h = omega arith
words_count x (c.term (c.ite i p q)) h = omega arith
words_count x (c.term (c.concat p q)) h = omega arith
words_count x (c.term (c.extract i j p)) h = omega arith
words_count x (c.term (c.bvnot p)) h = omega arith
words_count x (c.term (c.op2 op p q)) h = omega arith
words_count x (c.term (c.compare op p q)) h = omega arith
words_count x (c.declare name w) h = omega arith
words_count x (c.assert k) h = omega arith
words_count x c.check h = omega arith

module _ (x : Context) (call : Call) (ok : Allowed x call) (pre post : List ℕ) where
  abbrev here : List ℕ
  here = pre ++ (record_of call ++ post)

  pub head_at_lem : get_or here (length pre) 0 ≡ head_word (number_of (operation_of call)) (length (words call))
  head_at_lem = get_or-append_seam pre _ (words call ++ post) 0

  pub operation_at_lem : operation_at here (length pre) ≡ operation_of call
  operation_at_lem =
      ap op_of (ap (λ (word : ℕ). payload_of word % 32) head_at_lem
      ∙ head-op (number_of (operation_of call)) (length (words call)) (number_lt call)
      (words_count x call ok))
      ∙ op_of-number call

  pub count_at_lem : count_at here (length pre) ≡ length (words call)
  count_at_lem =
      ap (λ (word : ℕ). payload_of word / 32) head_at_lem
      ∙ head-count (number_of (operation_of call)) (length (words call)) (number_lt call)
      (words_count x call ok)

  pub argument_at_lem : (i : ℕ) → i < length (words call) → argument_at bare here (length pre) i ≡ get_or (words call) i 0
  argument_at_lem i h =
      ap (λ (k : ℕ). get_or here k 0) (let e : length pre + 1 + i ≡ length pre + suc i = omega arith in e)
      ∙ get_or-append-add pre (record_of call ++ post) (suc i) 0 ∙ get_or-append (words call) post 0 i h

  pub call_at_lem : call_at here (length pre) ≡ call
  call_at_lem =
      rw (operation_at_lem, count_at_lem) (call_back x call ok (argument_at bare here (length pre)) argument_at_lem)

  pub next-at : next_at bare here (length pre) ≡ length (pre ++ record_of call)
  next-at = let e = length-append pre (record_of call) in let n = count_at_lem in omega arith

  pub before-end : length pre < length here
  before-end = let e = length-append pre (record_of call ++ post) in omega arith

-- ---- reading back what was written

calls_back : (x : Context) (cs : List Call) → Formed x cs → (n : ℕ) (pre : List ℕ) → length (encode cs) ≤ n
    → calls_from n (pre ++ encode cs) (length pre) ≡ cs
unfolding encode
calls_back x [] f n pre h = calls-end n (pre ++ []) (length pre) (let e = length-append pre [] in omega arith)
calls_back x (call ∷ cs) f zero pre h = absurd (omega arith)
calls_back x (call ∷ cs) f (suc n) pre h =
    let post = encode cs in
    let w = pre ++ (record_of call ++ post) in
    let step = calls-step n w (length pre) (before-end x call f.1 pre post) in
    let rest =
    calls_back (after x call) cs f.2 n (pre ++ record_of call)
    (let l = length-append (words call) post in omega arith) in
    step ∙ ap₂ (λ (k : Call) (r : List Call). k ∷ r) (call_at_lem x call f.1 pre post)
    (rw (next-at x call f.1 pre post, ← append_assoc pre (record_of call) post) rest)

-- Written calls read back as themselves.
pub decode-encode : (cs : List Call) → Formed start cs → decode (encode cs) ≡ cs
decode-encode cs f = calls_back start cs f (length (encode cs)) [] (le_refl _)
