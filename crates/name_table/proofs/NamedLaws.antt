-- Laws of the definitions of Named.
use mathlib.Core.Path.{◌≡◌, refl, sym, ap, ◌∙◌, subst}
use mathlib.Core.Bool.{Bool, true, false, cond, ◌&&◌, ◌||◌, false≢true}
use mathlib.Core.List.{List, [], ◌∷◌}
use Prim.Native.Nat.{ℕ, ◌+◌, ◌*◌, ◌≤◌, ◌<◌, min}
use native.Mathlib.Omega.{arith}
use native.Mathlib.Decide.{ℕ_discrete}
use lib.ListN.{length, get_or, set, length-set, get_or-eq_default}
use lib.Seq.{get_or-set_same, get_or-set_other}
use lib.Dec.{eqb, leb, ltb}
use borrow.Author.Tests.{leb-true, le-leb, ltb-true, ltb-false, eqb-true, eq-eqb, ne_eqb}
use Rattle.logic.specs.Word.{payload_of, number_word}
use Rattle.logic.proofs.WordLaws.{payload_of_word}
use Rattle.logic.specs.Table.{tab}
use Rattle.logic.proofs.TableLaws.{length-tab}
use Rattle.engine.specs.Sorts.{Context, start, after, Allowed}
use Rattle.engine.specs.Structure.{declares_at, declared_before}
use Rattle.engine.proofs.ReadBack.{reads_at}
use Rattle.engine.proofs.ReachedLaws.{passes_forward, known-declared, get_d_tab}
use Rattle.engine.specs.Reached.{Right}
use Rattle.engine.specs.Encode.{words, operation_at, count_at, bare, argument_at, call_at, letter_number, suffix_number}
use Rattle.engine.specs.WellFormed.{declares, is_number, is_number_of, spells, known}
use Rattle.engine.proofs.Tests.{both, left_of, right_of, refuted}
use Rattle.engine.proofs.Written.{letter-low, suffix-low}
use Rattle.engine.specs.Call.{Name, Call}
use Rattle.engine.specs.Call as c
use Rattle.call_list.specs.Operations.{is_declare}
use Rattle.call_list.proofs.OperationsLaws.{declares_of}
use Rattle.call_list.specs.Literal.{payloads}
use Rattle.term_table.specs.Sorted.{ReadTo}
use Rattle.name_table.specs.Names.{slot_of, name_entry, top_of, at_most, by_search, known_by, note_name, note_top}
use Rattle.name_table.specs.Named.{is_name, named, NamesTo, TopsTo}

pub at_most_lem : (word bound : ℕ) → at_most word bound ≡ true → payload_of word ≤ bound
at_most_lem word bound h =
    leb-true (payload_of word) bound (right_of (is_number word) (leb (payload_of word) bound) h)

-- A record that declares a name, by its words.
pub declares-words : (w : List ℕ) (at letter index suffix : ℕ)
    → declares_at w at letter index suffix
    ≡ (is_declare (operation_at w at) && eqb (argument_at bare w at 0) letter && eqb (argument_at bare w at 1) index &&
    eqb
    (argument_at bare w at 2) suffix)
declares-words w at letter index suffix = rw (declares_of (operation_at w at) (count_at w at) (payloads w at))

-- ---- names in words

number-low : (n word bound : ℕ) → n ≤ bound → is_number_of n word ≡ true → at_most word bound ≡ true
number-low n word bound h e =
    both (left_of (is_number word) (eqb (payload_of word) n) e)
    (le-leb (payload_of word) bound
    (let z = eqb-true (payload_of word) n (right_of (is_number word) (eqb (payload_of word) n) e) in omega arith))

-- A known name has a letter and a suffix.
known_parts : (names : List Name) (l i s : ℕ) → known names l i s ≡ true → (at_most l 2 ≡ true) × (at_most s 2 ≡ true)
unfolding known
known_parts [] l i s h = absurd (false≢true h)
known_parts (name ∷ names) l i s h = go (spells name l i s) refl (known_parts names l i s)
  where
    go : (b : Bool) → spells name l i s ≡ b → (known names l i s ≡ true → (at_most l 2 ≡ true) × (at_most s 2 ≡ true))
        → (at_most l 2 ≡ true) × (at_most s 2 ≡ true)
    go true e rest =
        let a = is_number_of (letter_number name.letter) l in
        let b = is_number_of name.index i in
        let d = is_number_of (suffix_number name.suffix) s in (
          number-low _ l 2 (letter-low name.letter) (left_of a b (left_of (a && b) d e)),
          number-low _ s 2 (suffix-low name.suffix) (right_of (a && b) d e),
        )
    go false e rest = rest (rw e at h)

not_known : (names : List Name) (l i s : ℕ) → ((at_most l 2 ≡ true) × (at_most s 2 ≡ true) → ⊥) → known names l i s
    ≡ false
not_known names l i s h = refuted (known names l i s) (λ t. h (known_parts names l i s t))

-- A name's index is a number.
not-number : (names : List Name) (l i s : ℕ) → is_number i ≡ false → known names l i s ≡ false
unfolding known
not-number [] l i s h = refl
not-number (name ∷ names) l i s h =
    rw (h, not-number names l i s h)
    (never (is_number_of (letter_number name.letter) l) (is_number_of (suffix_number name.suffix) s))
  where
    never : (a b : Bool) → (a && false && b || false) ≡ false
    never true b = refl
    never false b = refl

-- Words that are numbers spell a name by their payloads.
pub known-named : (names : List Name) (l i s : ℕ) → is_number l ≡ true → is_number i ≡ true → is_number s ≡ true
    → known names l i s ≡ named names (payload_of l) (payload_of i) (payload_of s)
unfolding known named
known-named [] l i s p q r = refl
known-named (name ∷ names) l i s p q r = rw (p, q, r, known-named names l i s p q r)

none-known : (l i s : ℕ) (b : Bool) → (known [] l i s || b) ≡ b
unfolding known
none-known l i s b = refl

module _ {w : List ℕ} {at : ℕ} {x : Context} {table : List ℕ} {terms : ℕ} (r : ReadTo w at x table terms)
    (names tops : List ℕ) (named-to : NamesTo names x.names) (topped : TopsTo tops x.names) where
  pub known_is : (l i s : ℕ) → known_by names tops w at l i s ≡ known x.names l i s
  known_is l i s = go (at_most l 2) refl (at_most s 2) refl (is_number i) refl
    where
      searched : declared_before w (min at (length w)) l i s ≡ known x.names l i s
      searched =
          let here : min at (length w) ≡ at = (let z = r.within in omega arith) in
          let few = passes_forward r.records w 0 start at x r.passes in
          let z = r.within in
          rw here
          (sym (known-declared r.records (length w) w 0 start at x r.passes (omega arith) l i s
          ∙ none-known l i s _))

      below : payload_of l ≤ 2 → payload_of s ≤ 2
          → known x.names l i s ≡ named x.names (payload_of l) (payload_of i) (payload_of s)
          → (b : Bool) → ltb (payload_of i) (top_of tops (payload_of l) (payload_of s)) ≡ b
          → cond b (declared_before w (min at (length w)) l i s) false ≡ known x.names l i s
      below hl hs k true e = searched
      below hl hs k false e =
          sym (refuted (known x.names l i s)
          (λ t. let low = topped (payload_of l) (payload_of i) (payload_of s) hl hs (sym k ∙ t) in
          let high = ltb-false (payload_of i) (top_of tops (payload_of l) (payload_of s)) e in
          omega arith))

      by : (e : ℕ) → name_entry names (payload_of l) (payload_of i) (payload_of s) ≡ e → payload_of l ≤ 2 → payload_of s ≤ 2
          → known x.names l i s ≡ named x.names (payload_of l) (payload_of i) (payload_of s)
          → Dec (e ≡ 2) → by_search e (cond (ltb (payload_of i) (top_of tops (payload_of l) (payload_of s)))
          (declared_before w (min at (length w)) l i s) false)
          ≡ known x.names l i s
      by e f hl hs k (yes q) =
          rw (eq-eqb e 2 q) (below hl hs k (ltb (payload_of i) (top_of tops (payload_of l) (payload_of s))) refl)
      by e f hl hs k (no q) =
          rw (ne_eqb e 2 q, ← f) (named-to (payload_of l) (payload_of i) (payload_of s) hl hs (λ t. q (sym f ∙ t)) ∙ sym k)

      go : (a : Bool) → at_most l 2 ≡ a → (b : Bool) → at_most s 2 ≡ b → (d : Bool) → is_number i ≡ d
          → cond (a && b && d) (by_search (name_entry names (payload_of l) (payload_of i) (payload_of s))
          (cond (ltb (payload_of i) (top_of tops (payload_of l) (payload_of s)))
          (declared_before w (min at (length w)) l i s) false)) false
          ≡ known x.names l i s
      go true e true f true g =
          by (name_entry names (payload_of l) (payload_of i) (payload_of s)) refl (at_most_lem l 2 e) (at_most_lem s 2 f)
          (known-named x.names l i s (left_of (is_number l) (leb (payload_of l) 2) e) g
          (left_of (is_number s) (leb (payload_of s) 2) f))
          (ℕ_discrete (name_entry names (payload_of l) (payload_of i) (payload_of s)) 2)
      go true e true f false g = sym (not-number x.names l i s g)
      go true e false f d g = sym (not_known x.names l i s (λ t. false≢true (sym f ∙ t.1)))
      go false e b f d g = sym (not_known x.names l i s (λ t. false≢true (sym e ∙ t.0)))

-- ---- one name more

-- A call's three numbers, where it declares a name.
abbrev NumbersOf : Call → ℕ → ℕ → ℕ → Type 0
NumbersOf (c.term t) p q r = Unit {0}
NumbersOf (c.declare name w) p q r =
    (letter_number name.letter ≡ p) × (name.index ≡ q) × (suffix_number name.suffix ≡ r)
NumbersOf (c.assert k) p q r = Unit {0}
NumbersOf c.check p q r = Unit {0}

-- The words of a call that declares a name are its numbers.
name_numbers : (x : Context) (call : Call) (n : ℕ) (a : ℕ → ℕ) → Allowed x call → words call ≡ tab n a
    → NumbersOf call (payload_of (a 0)) (payload_of (a 1)) (payload_of (a 2))
name_numbers x (c.term t) n a h e = tt
name_numbers x (c.assert k) n a h e = tt
name_numbers x c.check n a h e = tt
name_numbers x (c.declare name w) n a h e =
    let four : 4 ≡ n = ap length e ∙ length-tab n a in
    let at_i : (i : ℕ) → i < n → a i ≡ get_or (words (c.declare name w)) i 0 =
    λ i l. sym (get_d_tab n i a l) ∙ ap (λ (k : List ℕ). get_or k i 0) (sym e) in
    let low = letter-low name.letter in
    let low' = suffix-low name.suffix in (
      number (letter_number name.letter) (at_i 0 (omega arith)) (omega arith),
      number name.index (at_i 1 (omega arith)) h.2,
      number (suffix_number name.suffix) (at_i 2 (omega arith)) (omega arith),
    )
  where
    number : (k : ℕ) {word : ℕ} → word ≡ number_word k → k < 536870912 → k ≡ payload_of word
    number k f l = sym (ap payload_of f ∙ payload_of_word 3 k l)

slot_inj : (l i s l' i' s' : ℕ) → l ≤ 2 → s ≤ 2 → l' ≤ 2 → s' ≤ 2 → slot_of l i s ≡ slot_of l' i' s'
    → (l ≡ l') × (i ≡ i') × (s ≡ s')
slot_inj l i s l' i' s' hl hs hl' hs' e = (omega arith, omega arith, omega arith)

-- A table with one more name.
name_more : (table : List ℕ) (names : List Name) (name : Name) → NamesTo table names
    → NamesTo (set table (slot_of (letter_number name.letter) name.index (suffix_number name.suffix)) 1)
    (name ∷ names)
unfolding named
name_more table names name named-to l i s hl hs reached =
    go (ltb i 4294967296) refl (ltb (slot_of l i s) (length table)) refl (is_name l i s name) refl
  where
    slot : ℕ
    slot = slot_of (letter_number name.letter) name.index (suffix_number name.suffix)

    here : is_name l i s name ≡ true → slot_of l i s ≡ slot
    here t =
        let ab = left_of (eqb l (letter_number name.letter) && eqb i name.index)
        (eqb s (suffix_number name.suffix)) t in
        let el = eqb-true l _ (left_of (eqb l (letter_number name.letter)) (eqb i name.index) ab) in
        let ei = eqb-true i _ (right_of (eqb l (letter_number name.letter)) (eqb i name.index) ab) in
        let es = eqb-true s _
        (right_of (eqb l (letter_number name.letter) && eqb i name.index) (eqb s (suffix_number name.suffix))
        t) in
        omega arith

    there : is_name l i s name ≡ false → slot_of l i s ≡ slot → ⊥
    there t e =
        let parts =
        slot_inj l i s (letter_number name.letter) name.index (suffix_number name.suffix) hl hs
        (letter-low name.letter) (suffix-low name.suffix) e in
        false≢true (sym t ∙ both (both (eq-eqb l _ parts.0) (eq-eqb i _ parts.1)) (eq-eqb s _ parts.2))

    same : length (set table slot 1) ≡ length table
    same = length-set table slot 1

    go : (a : Bool) → ltb i 4294967296 ≡ a → (b : Bool) → ltb (slot_of l i s) (length table) ≡ b → (d : Bool) →
        is_name l i s name ≡ d
        → eqb (name_entry (set table slot 1) l i s) 1 ≡ (d || named names l i s)
    go true e true f true g =
        rw (e, same, f, here g)
        (ap (λ (k : ℕ). eqb k 1)
        (get_or-set_same table slot 1 0
        (let z = ltb-true (slot_of l i s) (length table) f in let y = here g in omega arith)))
    go true e true f false g =
        let old : get_or (set table slot 1) (slot_of l i s) 0 ≡ get_or table (slot_of l i s) 0 =
        get_or-set_other table slot (slot_of l i s) 1 0 (there g) in
        rw (e, same, f, old)
        (rw (e, f) at (named-to l i s hl hs (λ t. reached (rw (e, same, f, old) (rw (e, f) at t)))))
    go true e false f d g = absurd (reached (rw (e, same, f)))
    go false e b f d g = absurd (reached (rw e))

names_more : (table : List ℕ) (x : Context) (call : Call) (p q r : ℕ) → NumbersOf call p q r → NamesTo table x.names
    → NamesTo (cond (declares call) (set table (slot_of p q r) 1) table) (after x call).names
names_more table x (c.term t) p q r e named-to = named-to
names_more table x (c.declare name w) p q r e named-to =
    rw (← e.0, ← e.1, ← e.2) (name_more table x.names name named-to)
names_more table x (c.assert k) p q r e named-to = named-to
names_more table x c.check p q r e named-to = named-to

-- What a right record adds to the table of names.
pub names-next : (table w : List ℕ) (at : ℕ) (x : Context) → Right w at x → NamesTo table x.names
    → NamesTo (note_name table w at) (after x (call_at w at)).names
names-next table w at x right named-to =
    let read = reads_at x w at right.head right.arguments in
    let numbers = name_numbers x (call_at w at) (count_at w at) (argument_at bare w at) read.allowed read.written in
    rw (← declares_of (operation_at w at) (count_at w at) (payloads w at))
    (names_more table x (call_at w at) (payloads w at 0) (payloads w at 1) (payloads w at 2) numbers named-to)

-- The highest indexes with one more name.
top_more : (tops : List ℕ) (names : List Name) (name : Name) → 9 ≤ length tops → TopsTo tops names
    → TopsTo (cond (ltb (top_of tops (letter_number name.letter) (suffix_number name.suffix)) (name.index + 1))
    (set tops (3 * letter_number name.letter + suffix_number name.suffix) (name.index + 1)) tops) (name ∷ names)
unfolding named
top_more tops names name nine topped l i s hl hs t =
    go (ltb (top_of tops (letter_number name.letter) (suffix_number name.suffix)) (name.index + 1)) refl
    (is_name l i s name) refl t
  where
    inside : 3 * letter_number name.letter + suffix_number name.suffix < length tops
    inside = let a = letter-low name.letter in let b = suffix-low name.suffix in omega arith

    same : is_name l i s name ≡ true → (l ≡ letter_number name.letter) × (i ≡ name.index)
        × (s ≡ suffix_number name.suffix)
    same q =
        let ab = left_of (eqb l (letter_number name.letter) && eqb i name.index)
        (eqb s (suffix_number name.suffix)) q in (
          eqb-true l _ (left_of (eqb l (letter_number name.letter)) (eqb i name.index) ab),
          eqb-true i _ (right_of (eqb l (letter_number name.letter)) (eqb i name.index) ab),
          eqb-true s _
              (right_of (eqb l (letter_number name.letter) && eqb i name.index)
              (eqb s (suffix_number name.suffix)) q),
        )

    at_slot_lem : get_or (set tops (3 * letter_number name.letter + suffix_number name.suffix) (name.index + 1))
        (3 * letter_number name.letter + suffix_number name.suffix) 0 ≡ name.index + 1
    at_slot_lem =
        get_or-set_same tops (3 * letter_number name.letter + suffix_number name.suffix) (name.index + 1) 0 inside

    old : Dec (3 * l + s ≡ 3 * letter_number name.letter + suffix_number name.suffix) → i < top_of tops l s
        → top_of tops (letter_number name.letter) (suffix_number name.suffix) < name.index + 1
        → i < get_or (set tops (3 * letter_number name.letter + suffix_number name.suffix) (name.index + 1))
        (3 * l + s) 0
    old (yes q) h low =
        let h' : i < top_of tops (letter_number name.letter) (suffix_number name.suffix) =
        subst (λ (k : ℕ). i < get_or tops k 0) q h in
        rw (q, at_slot_lem) (omega arith)
    old (no q) h low =
        rw (get_or-set_other tops (3 * letter_number name.letter + suffix_number name.suffix) (3 * l + s)
        (name.index + 1) 0 q) h

    go : (a : Bool) → ltb (top_of tops (letter_number name.letter) (suffix_number name.suffix)) (name.index + 1) ≡ a
        → (d : Bool) → is_name l i s name ≡ d → (d || named names l i s) ≡ true
        → i < top_of
        (cond a (set tops (3 * letter_number name.letter + suffix_number name.suffix) (name.index + 1))
        tops) l s
    go true e true f t =
        let q = same f in
        rw (q.0, q.2, at_slot_lem) (let z = q.1 in omega arith)
    go true e false f t =
        old (ℕ_discrete (3 * l + s) (3 * letter_number name.letter + suffix_number name.suffix))
        (topped l i s hl hs t) (ltb-true _ _ e)
    go false e true f t =
        let q = same f in
        let high =
        ltb-false (top_of tops (letter_number name.letter) (suffix_number name.suffix)) (name.index + 1) e in
        rw (q.0, q.2) (let z = q.1 in omega arith)
    go false e false f t = topped l i s hl hs t

tops_more : (tops : List ℕ) (x : Context) (call : Call) (p q r : ℕ) → NumbersOf call p q r → 9 ≤ length tops →
    TopsTo tops x.names
    → TopsTo (cond (declares call && ltb (top_of tops p r) (q + 1)) (set tops (3 * p + r) (q + 1)) tops)
    (after x call).names
tops_more tops x (c.term t) p q r e nine topped = topped
tops_more tops x (c.declare name w) p q r e nine topped =
    rw (← e.0, ← e.1, ← e.2) (top_more tops x.names name nine topped)
tops_more tops x (c.assert k) p q r e nine topped = topped
tops_more tops x c.check p q r e nine topped = topped

-- What a right record adds to the highest indexes.
pub tops_next : (tops w : List ℕ) (at : ℕ) (x : Context) → Right w at x → 9 ≤ length tops → TopsTo tops x.names
    → TopsTo (note_top tops w at) (after x (call_at w at)).names
tops_next tops w at x right nine topped =
    let read = reads_at x w at right.head right.arguments in
    let numbers = name_numbers x (call_at w at) (count_at w at) (argument_at bare w at) read.allowed read.written in
    rw (← declares_of (operation_at w at) (count_at w at) (payloads w at))
    (tops_more tops x (call_at w at) (payloads w at 0) (payloads w at 1) (payloads w at 2) numbers nine topped)

pub tops_none : (tops : List ℕ) → TopsTo tops []
unfolding named
tops_none tops l i s hl hs t = absurd (false≢true t)

-- A table of zeros has no name.
pub names-none : (table : List ℕ) → ((k : ℕ) → get_or table k 0 ≡ 0) → NamesTo table []
unfolding named
names-none table zeros l i s hl hs reached = go (ltb i 4294967296 && ltb (slot_of l i s) (length table)) refl
  where
    go : (b : Bool) → (ltb i 4294967296 && ltb (slot_of l i s) (length table)) ≡ b → eqb (name_entry table l i s) 1
        ≡ false
    go true e = rw (e, zeros (slot_of l i s))
    go false e = absurd (reached (rw e))

-- One more zero, and a whole table of them.
pub zeros-more : (table : List ℕ) (at : ℕ) →
    at < length table → ((k : ℕ) → k < at → get_or table k 0 ≡ 0) → (k : ℕ) → k < at + 1
    → get_or (set table at 0) k 0 ≡ 0
zeros-more table at inside zeros k low = go (ℕ_discrete k at)
  where
    go : Dec (k ≡ at) → get_or (set table at 0) k 0 ≡ 0
    go (yes e) = rw e (get_or-set_same table at 0 0 inside)
    go (no e) = get_or-set_other table at k 0 0 e ∙ zeros k (omega arith)

pub zeros-all : (table : List ℕ) (at : ℕ) → length table ≤ at → ((k : ℕ) → k < at → get_or table k 0 ≡ 0) → (k : ℕ)
    → get_or table k 0 ≡ 0
zeros-all table at end zeros k = go (ltb k at) refl
  where
    go : (b : Bool) → ltb k at ≡ b → get_or table k 0 ≡ 0
    go true e = zeros k (ltb-true k at e)
    go false e = get_or-eq_default table 0 (let z = ltb-false k at e in omega arith)
