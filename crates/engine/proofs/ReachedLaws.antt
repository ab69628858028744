-- Laws of the definitions of Reached.
use mathlib.Core.Path.{◌≡◌, refl, sym, ap, ap₂, ◌∙◌, subst}
use mathlib.Core.Bool.{Bool, true, false, not, cond, ◌&&◌, ◌||◌, or-false, or-true}
use mathlib.Core.List.{List, [], ◌∷◌, ◌++◌}
use mathlib.Core.Option.{Option, some, none}
use Prim.Native.Nat.{ℕ, zero, suc, ◌+◌, ◌-◌, ◌≤◌, ◌<◌}
use native.Mathlib.Omega.{arith}
use native.Mathlib.Decide.{ℕ_discrete}
use native.Mathlib.Numerals.{sub-one}
use lib.ListN.{length, get_or, get_or-append}
use lib.Seq.{get_or-append_seam}
use lib.Dec.{eqb, ltb}
use borrow.Author.Tests.{lt-ltb, eq-eqb, eqb-true, eqb-false, ltb-true}
use native.Mathlib.Nat.{le_of_suc-le-suc}
use Rattle.logic.specs.Table.{tab}
use Rattle.logic.proofs.TableLaws.{length-tab}
use Rattle.logic.specs.Word.{kind_of, payload_of, number_word}
use Rattle.logic.proofs.WordLaws.{kind_of_word, payload_of_word}
use Rattle.engine.specs.Call.{Name, BinaryOp, Term, Call}
use Rattle.engine.specs.Call as c
use Rattle.engine.proofs.Laws.{length_snoc}
use Rattle.engine.specs.Sorts.{Sort, sort_at, one_bit, binary_sort, sort_of, WellSorted, Context, start, after}
use Rattle.engine.specs.Sorts.{Allowed, payload_limit}
use Rattle.engine.proofs.SortLaws.{there}
use Rattle.engine.specs.Encode.{words, makes_term, operation_of, operation_at, bare, argument_at, count_at, next_at}
use Rattle.engine.specs.Encode.{call_at}
use Rattle.engine.specs.WellFormed.{is_number, is_number_of, head_stands, wrong_argument, declares, spells, known}
use Rattle.engine.specs.WellFormed.{well_formed, malformed, read_from}
use Rattle.engine.proofs.Steps.{read_step, read_head, read_wrong}
use Rattle.engine.proofs.Tests.{both, left_of, right_of, refuted}
use Rattle.engine.proofs.Written.{letter-low, suffix-low}
use Rattle.engine.proofs.ReadBack.{reads_at}
use Rattle.engine.specs.Structure.{choose, binary_origin, origin_of, guarded, sort_from, capped, term_place}
use Rattle.engine.specs.Structure.{place_of_term, sort_through, declares_at, declared_from}
use Rattle.engine.proofs.StructureLaws.{Below, sort_from_ext, place_here, place-next, place_skip, declared-end}
use Rattle.engine.proofs.StructureLaws.{declared-here, declared-next}
use Rattle.engine.specs.declared.Origin.{Origin}
use Rattle.engine.specs.declared.Origin.TheVariants.{Given, Same, Joined}
use Rattle.engine.specs.Reached.{Right, Passes, Tabled}

-- Where reading from a place meets no fault, its record is right, and reading the rest meets none.
pub right-read : (n : ℕ) (w : List ℕ) (at : ℕ) (x y : Context) → at < length w → read_from (suc n) w at x ≡ well_formed y
    → Right w at x × (read_from n w (next_at bare w at) (after x (call_at w at)) ≡ well_formed y)
right-read n w at x y inside e = go (head_stands x w at) refl (wrong_argument x.sorts w at) refl
  where
    never : {k : ℕ} → malformed k ≡ well_formed y → ⊥
    never f = let z : ◌≡◌ {A = ℕ} 0 1 = cc in omega arith

    go : (h : Bool) → head_stands x w at ≡ h → (a : Option ℕ) → wrong_argument x.sorts w at ≡ a
        → Right w at x × (read_from n w (next_at bare w at) (after x (call_at w at)) ≡ well_formed y)
    go false p a q = absurd (never (sym (read_head n w at x inside p) ∙ e))
    go true p (some i) q = absurd (never (sym (read_wrong n w at x i inside p q) ∙ e))
    go true p none q =
        (record { inside = inside; head = p; arguments = q }, sym (read_step n w at x inside p q) ∙ e)

pub passes_snoc : (n : ℕ) (w : List ℕ) (at : ℕ) (x : Context) (end : ℕ) (y : Context) → Passes n w at x end y
    → Right w end y → Passes (suc n) w at x (next_at bare w end) (after y (call_at w end))
passes_snoc zero w at x end y p r = (
  subst (λ (k : ℕ). Right w k x) (sym p.0) (subst (λ (z : Context). Right w end z) (sym p.1) r),
  (
    ap₂ (λ (k : ℕ) (z : Context). next_at bare w k) p.0 p.1,
    ap₂ (λ (k : ℕ) (z : Context). after z (call_at w k)) p.0 p.1,
  ),
)
passes_snoc (suc n) w at x end y p r =
    (p.0, passes_snoc n w (next_at bare w at) (after x (call_at w at)) end y p.1 r)

-- Reading goes forward, in at least as many words as records.
pub passes_forward : (n : ℕ) (w : List ℕ) (at : ℕ) (x : Context) (end : ℕ) (y : Context) → Passes n w at x end y →
    at + n ≤ end
passes_forward zero w at x end y p = let e = p.0 in omega arith
passes_forward (suc n) w at x end y p = let h =
    passes_forward n w (next_at bare w at) (after x (call_at w at)) end y p.1 in
    omega arith

-- ---- sorts

guarded_below : (k : ℕ) (d : Origin) → Below k d → guarded k d ≡ d
guarded_below k (Given s) h = refl
guarded_below k (Same a) h = rw (lt-ltb a.0 k h)
guarded_below k (Joined a b) h = rw (lt-ltb a.0 k h.0, lt-ltb b.0 k h.1)

capped_is : (s : ℕ) → s ≤ 64 → capped s ≡ s
capped_is s h = omega arith

-- An operation of two vectors makes one bit or a vector of their sort.
binary_said : (sorts : List Sort) (op : BinaryOp) (a : ℕ) → a < length sorts
    → (binary_sort op (sort_at sorts a) ≡ sort_from (sort_at sorts) (binary_origin op a))
    × Below (length sorts) (binary_origin op a)
binary_said sorts op a h = go (one_bit op)
  where
    go : (b : Bool)
        → (cond b 1 (sort_at sorts a) ≡ sort_from (sort_at sorts) (choose b (Given 1) (Same (record { 0 = a }))))
        × Below (length sorts) (choose b (Given 1) (Same (record { 0 = a })))
    go true = (refl, tt)
    go false = (refl, h)

binary_small : (op : BinaryOp) (s : Sort) → s ≤ 64 → binary_sort op s ≤ 64
binary_small op s h = go (one_bit op)
  where
    go : (b : Bool) → cond b 1 s ≤ 64
    go true = omega arith
    go false = h

-- A well-sorted term has the sort that its call says, by earlier terms.
pub said : (sorts : List Sort) (t : Term) → WellSorted sorts t
    → (sort_of sorts t ≡ sort_from (sort_at sorts) (origin_of (c.term t))) × Below (length sorts) (origin_of (c.term t))
said sorts (c.bool_lit b) h = (refl, tt)
said sorts (c.bool_ite i a b) h = (refl, tt)
said sorts (c.not a) h = (refl, tt)
said sorts (c.and args) h = (refl, tt)
said sorts (c.lit s) h = (sym (capped_is (length s) h.1), tt)
said sorts (c.equal a b) h = (refl, tt)
said sorts (c.ite i a b) h = (refl, there sorts a (omega arith))
said sorts (c.concat a b) h = (
  sym (capped_is (sort_at sorts a + sort_at sorts b) h.2),
  (there sorts a (omega arith), there sorts b (omega arith)),
)
said sorts (c.extract i j a) h = (sym (capped_is (suc i - j) (omega arith)), tt)
said sorts (c.bvnot a) h = (refl, there sorts a (omega arith))
said sorts (c.op2 op a b) h = binary_said sorts op a (there sorts a (omega arith))
said sorts (c.compare op a b) h = (refl, tt)

-- What an allowed call does to the sorts: one more, that it says itself, or none.
pub data Makes (x : Context) (call : Call) : Type 0 where
  one : (s : Sort) → (after x call).sorts ≡ x.sorts ++ (s ∷ []) → makes_term (operation_of call) ≡ true
      → s ≡ sort_from (sort_at x.sorts) (origin_of call) → Below (length x.sorts) (origin_of call) → Makes x call
  nothing : (after x call).sorts ≡ x.sorts → makes_term (operation_of call) ≡ false → Makes x call

pub makes : (x : Context) (call : Call) → Allowed x call → Makes x call
makes x (c.term t) h = let q = said x.sorts t h.0 in one (sort_of x.sorts t) refl refl q.0 q.1
makes x (c.declare name w) h = one w refl refl (sym (capped_is w h.1.1)) tt
makes x (c.assert k) h = nothing refl refl
makes x c.check h = nothing refl refl

-- At a right record, its own operation tells which.
pub makes-at : (w : List ℕ) (at : ℕ) (x : Context) → Right w at x → Makes x (call_at w at)
makes-at w at x r = makes x (call_at w at) (reads_at x w at r.head r.arguments).allowed

pub makes-op : (w : List ℕ) (at : ℕ) (x : Context) → Right w at x → makes_term (operation_at w at)
    ≡ makes_term (operation_of (call_at w at))
makes-op w at x r = ap makes_term (sym (reads_at x w at r.head r.arguments).operation)

-- Sorts so far stay.
stays : (x : Context) (call : Call) → Makes x call → (k : ℕ) → k < length x.sorts
    → (k < length (after x call).sorts) × (sort_at (after x call).sorts k ≡ sort_at x.sorts k)
stays x call (one s e m q b) k h = (
  rw (e, length_snoc x.sorts s) (omega arith),
  ap (λ (l : List Sort). sort_at l k) e
      ∙ get_or-append x.sorts (s ∷ []) 65 k h,
)
stays x call (nothing e m) k h = (rw e h, ap (λ (l : List Sort). sort_at l k) e)

pub grows : (n : ℕ) (w : List ℕ) (at : ℕ) (x : Context) (end : ℕ) (y : Context) → Passes n w at x end y → (k : ℕ)
    → k < length x.sorts → (k < length y.sorts) × (sort_at y.sorts k ≡ sort_at x.sorts k)
grows zero w at x end y p k h =
    (subst (λ (z : Context). k < length z.sorts) p.1 h, ap (λ (z : Context). sort_at z.sorts k) (sym p.1))
grows (suc n) w at x end y p k h =
    let now = stays x (call_at w at) (makes-at w at x p.0) k h in
    let later = grows n w (next_at bare w at) (after x (call_at w at)) end y p.1 k now.0 in
    (later.0, later.1 ∙ now.1)

-- The record at a place says the sort of term k.
pub record Says (w : List ℕ) (y : Context) (k at : ℕ) : Type 0 where
  pub sort-is : sort_at y.sorts k ≡ sort_from (sort_at y.sorts) (origin_of (call_at w at))
  pub earlier : Below k (origin_of (call_at w at))

-- A scan for term k, from a place before its record, finds the record.
pub finds : (n m : ℕ) (w : List ℕ) (at : ℕ) (x : Context) (end : ℕ) (y : Context) → Passes n w at x end y → n ≤ m →
    (k : ℕ)
    → length x.sorts ≤ k → k < length y.sorts → Says w y k (term_place m w at (k - length x.sorts))
finds zero m w at x end y p h k lo hi =
    absurd (let e = ap (λ (z : Context). length z.sorts) p.1 in omega arith)
finds (suc n) zero w at x end y p h k lo hi = absurd (omega arith)
finds (suc n) (suc m) w at x end y p h k lo hi =
    go (λ lo' hi'. finds n m w (next_at bare w at) (after x (call_at w at)) end y p.1 (omega arith) k lo' hi')
    (makes-at w at x p.0) (ℕ_discrete k (length x.sorts))
  where
    here : k ≡ length x.sorts → (s : Sort) → (after x (call_at w at)).sorts ≡ x.sorts ++ (s ∷ [])
        → s ≡ sort_from (sort_at x.sorts) (origin_of (call_at w at)) → Below (length x.sorts) (origin_of (call_at w at))
        → Says w y k at
    here e s a q b =
        let made : sort_at (after x (call_at w at)).sorts k ≡ s =
        ap₂ sort_at a e ∙ get_or-append_seam x.sorts s [] 65 in
        let inside : k < length (after x (call_at w at)).sorts = rw (a, length_snoc x.sorts s) (omega arith) in
        let later = (grows n w (next_at bare w at) (after x (call_at w at)) end y p.1 k inside).1 in
        record {
          sort-is =
              later ∙ made ∙ q
              ∙ sort_from_ext (length x.sorts) (sort_at x.sorts) (sort_at y.sorts) (origin_of (call_at w at)) b
              (λ a l. sym (grows (suc n) w at x end y p a l).1);
          earlier = subst (λ (j : ℕ). Below j (origin_of (call_at w at))) (sym e) b;
        }

    go : (length (after x (call_at w at)).sorts ≤ k → k < length y.sorts
        → Says w y k (term_place m w (next_at bare w at) (k - length (after x (call_at w at)).sorts)))
        → Makes x (call_at w at) → Dec (k ≡ length x.sorts) →
        Says w y k (term_place (suc m) w at (k - length x.sorts))
    go rest (one s a t q b) (yes e) =
        let zero_left : k - length x.sorts ≡ 0 = omega arith in
        subst (Says w y k)
        (sym (place_here w
        at (k - length x.sorts) p.0.inside (suc m) (omega arith) (makes-op w at x p.0 ∙ t) zero_left))
        (here e s a q b)
    go rest (one s a t q b) (no e) =
        let more : length (after x (call_at w at)).sorts ≡ suc (length x.sorts) = ap length a
        ∙ length_snoc x.sorts s in
        let next =
        place-next w at (k - length x.sorts) p.0.inside (suc m) (omega arith) (makes-op w at x p.0 ∙ t)
        (λ z. absurd (omega arith)) in
        subst (Says w y k)
        (sym (next ∙ ap₂ (λ (f j : ℕ). term_place f w (next_at bare w at) j) (sub-one (suc m))
        (let f : k - length x.sorts - 1 ≡ k - length (after x (call_at w at)).sorts = omega arith in f)))
        (rest (omega arith) hi)
    go rest (nothing a t) d =
        let same : length (after x (call_at w at)).sorts ≡ length x.sorts = ap length a in
        let next = place_skip w
        at (k - length x.sorts) p.0.inside (suc m) (omega arith) (makes-op w at x p.0 ∙ t) in
        subst (Says w y k)
        (sym (next ∙ ap₂ (λ (f j : ℕ). term_place f w (next_at bare w at) j) (sub-one (suc m))
        (let f : k - length x.sorts ≡ k - length (after x (call_at w at)).sorts = omega arith in f)))
        (rest (omega arith) hi)

-- Sorts are at most 64.
small : (sorts : List Sort) (t : Term) → WellSorted sorts t → sort_of sorts t ≤ 64
small sorts (c.bool_lit b) h = omega arith
small sorts (c.bool_ite i a b) h = omega arith
small sorts (c.not a) h = omega arith
small sorts (c.and args) h = omega arith
small sorts (c.lit s) h = h.1
small sorts (c.equal a b) h = omega arith
small sorts (c.ite i a b) h = h.1.1
small sorts (c.concat a b) h = h.2
small sorts (c.extract i j a) h = omega arith
small sorts (c.bvnot a) h = h.1
small sorts (c.op2 op a b) h = binary_small op (sort_at sorts a) h.0.1
small sorts (c.compare op a b) h = omega arith

abbrev pub Low : List Sort → Type 0
Low sorts = (k : ℕ) → k < length sorts → sort_at sorts k ≤ 64

low_snoc : (sorts : List Sort) (s : Sort) → s ≤ 64 → Low sorts → Low (sorts ++ (s ∷ []))
low_snoc sorts s h low k l = go (ℕ_discrete k (length sorts))
  where
    go : Dec (k ≡ length sorts) → sort_at (sorts ++ (s ∷ [])) k ≤ 64
    go (yes e) = rw (e, get_or-append_seam sorts s [] 65) h
    go (no e) =
        let before : k < length sorts = (let z = length_snoc sorts s in omega arith) in
        rw (get_or-append sorts (s ∷ []) 65 k before) (low k before)

low-after : (x : Context) (call : Call) → Allowed x call → Low x.sorts → Low (after x call).sorts
low-after x (c.term t) h low = low_snoc x.sorts (sort_of x.sorts t) (small x.sorts t h.0) low
low-after x (c.declare name w) h low = low_snoc x.sorts w h.1.1 low
low-after x (c.assert k) h low = low
low-after x c.check h low = low

pub low-passes : (n : ℕ) (w : List ℕ) (at : ℕ) (x : Context) (end : ℕ) (y : Context) → Passes n w at x end y →
    Low x.sorts
    → Low y.sorts
low-passes zero w at x end y p low = subst (λ (z : Context). Low z.sorts) p.1 low
low-passes (suc n) w at x end y p low =
    low-passes n w (next_at bare w at) (after x (call_at w at)) end y p.1
    (low-after x (call_at w at) (reads_at x w at p.0.head p.0.arguments).allowed low)

pub low-start : Low start.sorts
low-start k h = absurd (omega arith)

-- The table and the records say the sort of every term read so far.
pub sort_said : (n : ℕ) (table w : List ℕ) (end : ℕ) (y : Context) → Passes n w 0 start end y → end ≤ length w
    → Tabled table y.sorts → (f k : ℕ) → k < f → k < length y.sorts → sort_through f table w k
    ≡ sort_at y.sorts k
unfolding sort_through
sort_said n table w end y p h tabled zero k l inside = absurd (omega arith)
sort_said n table w end y p h tabled (suc f) k l inside =
    go (λ a b c. sort_said n table w end y p h tabled f a b c) (ltb k (length table)) refl
  where
    go : ((a : ℕ) → a < f → a < length y.sorts → sort_through f table w a ≡ sort_at y.sorts a)
        → (b : Bool) → ltb k (length table) ≡ b → sort_through (suc f) table w k ≡ sort_at y.sorts k
    go rest true t =
        let l = ltb-true k (length table) t in
        rw t (ap capped (tabled k l inside)
        ∙ capped_is (sort_at y.sorts k) (low-passes n w 0 start end y p low-start k inside))
    go rest false t =
        let ahead = passes_forward n w 0 start end y p in
        let at_k : term_place (length w) w 0 (k - 0) ≡ term_place (length w) w 0 k =
        ap (term_place (length w) w 0) (let e : k - 0 ≡ k = omega arith in e) in
        let said-k =
        subst (Says w y k) at_k (finds n (length w) w 0 start end y p (omega arith) k (omega arith) inside) in
        rw (t, guarded_below k (origin_of (call_at w (place_of_term w k))) said-k.earlier)
        (sort_from_ext k (sort_through f table w) (sort_at y.sorts) (origin_of (call_at w (place_of_term w k)))
        said-k.earlier
        (λ a b. rest a (omega arith) (omega arith))
        ∙ sym said-k.sort-is)

-- ---- names

number_word_lem : (word : ℕ) → kind_of word ≡ 3 → number_word (payload_of word) ≡ word
number_word_lem word h = omega arith

-- A word is the number n exactly if it equals the word of n.
word_same : (n a word : ℕ) → a ≡ number_word n → n < payload_limit → is_number_of n word ≡ eqb a word
word_same n a word e low = go (eqb a word) refl
  where
    go : (b : Bool) → eqb a word ≡ b → is_number_of n word ≡ b
    go true t =
        let same = sym (eqb-true a word t) ∙ e in
        both (eq-eqb (kind_of word) 3 (ap kind_of same ∙ kind_of_word 3 n))
        (eq-eqb (payload_of word) n (ap payload_of same ∙ payload_of_word 3 n low))
    go false t =
        refuted (is_number_of n word)
        (λ u. eqb-false a word t
        (e ∙ ap number_word (sym (eqb-true (payload_of word) n (right_of (is_number word) (eqb (payload_of word) n) u)))
        ∙ number_word_lem word (eqb-true (kind_of word) 3 (left_of (is_number word) (eqb (payload_of word) n) u))))

pub get_d_tab : (n i : ℕ) (f : ℕ → ℕ) → i < n → get_or (tab n f) i 0 ≡ f i
unfolding tab
get_d_tab zero i f h = absurd (omega arith)
get_d_tab (suc n) zero f h = refl
get_d_tab (suc n) (suc i) f h = get_d_tab n i (λ j. f (suc j)) (le_of_suc-le-suc h)

-- The words of a declaration spell its name and no other.
spelled_same : (x : Context) (name : Name) (width n : ℕ) (a : ℕ → ℕ) → Allowed x (c.declare name width)
    → words (c.declare name width) ≡ tab n a → (letter index suffix : ℕ)
    → spells name letter index suffix ≡ (eqb (a 0) letter && eqb (a 1) index && eqb (a 2) suffix)
spelled_same x name width n a h e letter index suffix =
    let four : 4 ≡ n = ap length e ∙ length-tab n a in
    let low = letter-low name.letter in
    let low' = suffix-low name.suffix in
    ap₂ ◌&&◌
    (ap₂ ◌&&◌
    (word_same _ (a 0) letter (sym (get_d_tab n 0 a (omega arith)) ∙ ap (λ (l : List ℕ). get_or l 0 0) (sym e))
    (omega arith))
    (word_same _ (a 1) index (sym (get_d_tab n 1 a (omega arith)) ∙ ap (λ (l : List ℕ). get_or l 1 0) (sym e)) h.2))
    (word_same _ (a 2) suffix (sym (get_d_tab n 2 a (omega arith)) ∙ ap (λ (l : List ℕ). get_or l 2 0) (sym e))
    (omega arith))

-- A right record makes known just the name that it declares.
pub known-after : (x : Context) (call : Call) (n : ℕ) (a : ℕ → ℕ) → Allowed x call → words call ≡ tab n a → (l i s : ℕ)
    → known (after x call).names l i s
    ≡ ((declares call && eqb (a 0) l && eqb (a 1) i && eqb (a 2) s) || known x.names l i s)
unfolding known
known-after x (c.term t) n a h e l i s = refl
known-after x (c.declare name w) n a h e l i s =
    ap (λ (b : Bool). b || known x.names l i s) (spelled_same x name w n a h e l i s)
known-after x (c.assert k) n a h e l i s = refl
known-after x c.check n a h e l i s = refl

-- A name is known exactly if it was, or a record on the way declares it.
pub known-declared : (n m : ℕ) (w : List ℕ) (at : ℕ) (x : Context) (end : ℕ) (y : Context) → Passes n w at x end y →
    n ≤ m
    → (l i s : ℕ) → known y.names l i s ≡ (known x.names l i s || declared_from m w at end l i s)
known-declared zero m w at x end y p h l i s =
    rw (declared-end w end l i s m at (let e = p.0 in omega arith), ← p.1) (sym (or-false (known x.names l i s)))
known-declared (suc n) zero w at x end y p h l i s = absurd (omega arith)
known-declared (suc n) (suc m) w at x end y p h l i s =
    let r = reads_at x w at p.0.head p.0.arguments in
    let ahead = passes_forward (suc n) w at x end y p in
    known-declared n m w (next_at bare w at) (after x (call_at w at)) end y p.1 (omega arith) l i s
    ∙ ap (λ (b : Bool). b || declared_from m w (next_at bare w at) end l i s)
    (known-after x (call_at w at) (count_at w at) (argument_at bare w at) r.allowed r.written l i s)
    ∙ go (omega arith) (declares_at w at l i s) refl
  where
    go : at < end → (d : Bool) → declares_at w at l i s ≡ d
        → (d || known x.names l i s || declared_from m w (next_at bare w at) end l i s)
        ≡ (known x.names l i s || declared_from (suc m) w at end l i s)
    go a true e = rw (declared-here w end l i s (suc m) at (omega arith) a e) (sym (or-true (known x.names l i s)))
    go a false e =
        rw (declared-next w end l i s (suc m) at (omega arith) a e, sub-one (suc m))
