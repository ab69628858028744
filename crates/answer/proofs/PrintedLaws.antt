-- Laws of the definitions of Printed.
use mathlib.Core.Path.{◌≡◌, refl, ap, ◌∙◌}
use mathlib.Core.Bool.{Bool, true, false, ◌||◌}
use mathlib.Core.List.{List, [], ◌∷◌, ◌++◌, append_assoc}
use Rattle.std.specs.Prelude.{None, Ok}
use Prim.Native.Nat.{ℕ, zero, suc, ◌+◌, ◌<◌, ◌≤◌, ◌%◌, ◌/◌}
use native.Mathlib.Nat.{suc_inj}
use native.Mathlib.Omega.{arith}
use lib.Dec.{ltb}
use lib.ListN.{length, drop}
use borrow.Author.Tests.{eq-eqb, ne_eqb, ltb-true, ltb-false}
use Rattle.logic.specs.Trit.{shows, x_of, trit_number}
use Rattle.logic.specs.declared.Trit.{Trit}
use Rattle.logic.specs.declared.Trit.TheVariants.{Zero, One, Undef}
use Rattle.engine.specs.Call.{Name, Letter}
use Rattle.engine.specs.Call as c
use Rattle.text.specs.Bytes.{ascii, decimal}
use Rattle.text.proofs.BytesLaws.{decimal_digit, decimal-more}
use Rattle.text.specs.Names.{name_text, letter_text, suffix_text, asked_names, asked_from}
use Rattle.answer.specs.declared.Answer.TheVariants.{Sat}
use Rattle.tokens.specs.Token.{tokens, tokens_of, run, white, parenthesis}
use Rattle.reply.specs.Reply.{got, same, expect, expect_name, value, pair_spelled}
use Rattle.reply.specs.Reply.{pair, pairs, model, ended, reply, sat, satisfied}
use Rattle.answer.specs.Reply.{table, bad_mark, Read}
use Rattle.answer.proofs.ModelLaws.{reply-text, read_as}
use Rattle.answer.specs.Printed.{Fits, none, absent, current, past, bits_of_entry, bits_of_table, value_text, pair_text}
use Rattle.answer.specs.Printed.{pairs_text, printed, All}

abbrev ends : ℕ → Bool
ends b = white b || parenthesis b

-- White space is passed over.
tokens_gap : (gap rest : List ℕ) → All white true gap → (p : ℕ) → (q : ℕ) × (tokens p 0 (gap ++ rest) ≡ tokens q 0 rest)
unfolding tokens
tokens_gap [] rest h p = (p, refl)
tokens_gap (b ∷ gap) rest h p = let r = tokens_gap gap rest h.1 (suc p) in (r.0, rw h.0 r.1)

run_word : (word rest : List ℕ) → All ends false word → run rest ≡ [] → run (word ++ rest) ≡ word
unfolding run
run_word [] rest h e = e
run_word (b ∷ word) rest h e = rw (h.0, run_word word rest h.1 e)

covers : (p : ℕ) (word rest : List ℕ) → (q : ℕ) × (tokens p (length word) (word ++ rest) ≡ tokens q 0 rest)
unfolding tokens
covers p [] rest = (p, refl)
covers p (b ∷ word) rest = covers (suc p) word rest

not_white : (b : ℕ) → ends b ≡ false → (white b ≡ false) × (parenthesis b ≡ false)
not_white b e = go (white b) (parenthesis b) e
  where
    go : (w p : Bool) → (w || p) ≡ false → (w ≡ false) × (p ≡ false)
    go true p e = let z : ◌≡◌ {A = ℕ} 0 1 = cc in absurd (omega arith)
    go false p e = (refl, e)

-- A word before what ends a run is one token.
tokens_word : (b : ℕ) (word rest : List ℕ) → All ends false (b ∷ word) → run rest ≡ [] → (p : ℕ)
    → (q : ℕ) × (tokens p 0 (b ∷ word ++ rest) ≡ record { place = p; spelling = b ∷ word } ∷ tokens q 0 rest)
unfolding tokens
tokens_word b word rest h e p =
    let r = covers (suc p) word rest in
    let n = not_white b h.0 in (
      r.0,
      rw (n.0, n.1, run_word word rest h.1 e)
          (ap (λ l. record { place = p; spelling = b ∷ word } ∷ l) r.1),
    )

same_refl : (word : List ℕ) → same word word ≡ true
unfolding same
same_refl [] = refl
same_refl (b ∷ word) = rw (eq-eqb b b refl, same_refl word)

All_append : (test : ℕ → Bool) (answer : Bool) (a b : List ℕ) → All test answer a → All test answer b →
    All test answer (a ++ b)
All_append test answer [] b p q = q
All_append test answer (x ∷ a) b p q = (p.0, All_append test answer a b p.1 q)

digit : (d : ℕ) → d < 10 → ends (48 + d) ≡ false
digit d low =
    rw (
      ne_eqb (48 + d) 9 (λ e. omega arith),
      ne_eqb (48 + d) 10 (λ e. omega arith),
      ne_eqb (48 + d) 13 (λ e. omega arith),
      ne_eqb (48 + d) 32 (λ e. omega arith),
      ne_eqb (48 + d) 40 (λ e. omega arith),
      ne_eqb (48 + d) 41 (λ e. omega arith),
    )

decimal-run : (most n : ℕ) → n < most → All ends false (decimal n)
decimal-run zero n h = let z : ⊥ = omega arith in absurd z
decimal-run (suc most) n h = go (ltb n 10) refl (λ large. decimal-run most (n / 10) (omega arith))
  where
    go : (small : Bool) → ltb n 10 ≡ small → (10 ≤ n → All ends false (decimal (n / 10))) → All ends false (decimal n)
    go true e ih = rw (decimal_digit n (ltb-true _ _ e)) (digit n (ltb-true _ _ e), tt)
    go false e ih =
        let large = ltb-false _ _ e in
        rw (decimal-more n large)
        (All_append ends false (decimal (n / 10)) _ (ih large) (digit (n % 10) (omega arith), tt))

-- A name is a run: its letter, digits and suffix.
data Spelled : List ℕ → Type 0 where
  spelled : (b : ℕ) (word : List ℕ) → All ends false (b ∷ word) → Spelled (b ∷ word)

suffix-run : (suffix : c.Suffix) → All ends false (suffix_text suffix)
suffix-run c.none = tt
suffix-run c.x = (refl, tt)
suffix-run c.y = (refl, tt)

name_spelled : (name : Name) → Spelled (name_text name)
name_spelled name = go name.letter
  where
    rest : All ends false (decimal name.index ++ suffix_text name.suffix)
    rest = All_append ends false (decimal name.index) (suffix_text name.suffix)
        (decimal-run (suc name.index) name.index (omega arith)) (suffix-run name.suffix)

    go : (letter : Letter) → Spelled (letter_text letter ++ decimal name.index ++ suffix_text name.suffix)
    go c.n = spelled _ _ (refl, rest)
    go c.p = spelled _ _ (refl, rest)
    go c.t = spelled _ _ (refl, rest)

-- The tokens of a printed pair, one after the other.
module _ (p : ℕ) (rest : List ℕ) where
  read_open : expect "(" (tokens p 0 (ascii "(" ++ rest)) ≡ got tt (tokens (suc p) 0 rest)
  unfolding tokens same
  read_open = refl

  read_close : expect ")" (tokens p 0 (ascii ")" ++ rest)) ≡ got tt (tokens (suc p) 0 rest)
  unfolding tokens same
  read_close = refl

  read-value : (bit : Bool)
      → value (tokens p 0 (ascii " " ++ (value_text bit ++ (ascii ")" ++ rest))))
      ≡ got bit (tokens (suc (suc (suc (suc p)))) 0 (ascii ")" ++ rest))
  unfolding tokens run same
  read-value true = refl
  read-value false = refl

  read_name : {word : List ℕ} → Spelled word
      → (q : ℕ) × (expect_name word (tokens p 0 (word ++ (ascii " " ++ rest))) ≡ got tt (tokens q 0 (ascii " " ++ rest)))
  unfolding run
  read_name (spelled b word h) =
      let r = tokens_word b word (ascii " " ++ rest) h refl p in
      (r.0, rw (r.1, same_refl (b ∷ word)))

pair-spelled : {name : List ℕ} → Spelled name → (bit : Bool) (rest : List ℕ) (p : ℕ)
    → (q : ℕ)
    × (pair_spelled name (tokens p 0 (ascii "(" ++ (name ++ (ascii " " ++ (value_text bit ++ (ascii ")" ++ rest))))))
    ≡ got bit (tokens q 0 rest))
unfolding pair_spelled
pair-spelled {name} spelt bit rest p =
    let named = read_name (suc p) (value_text bit ++ (ascii ")" ++ rest)) spelt in
    let q = suc (suc (suc (suc named.0))) in
    (suc q, rw (read_open p, named.1, read-value named.0 rest bit, read_close q rest))

pair_reads : (name : Name) (bit : Bool) (rest : List ℕ) (p : ℕ)
    → (q : ℕ) × (pair name (tokens p 0 (pair_text name bit ++ rest)) ≡ got bit (tokens q 0 rest))
pair_reads name bit rest p =
    let r = pair-spelled (name_spelled name) bit rest p in
    (r.0, ap (λ l. pair name (tokens p 0 l)) (joined (name_text name) (value_text bit)) ∙ r.1)
  where
    joined : (a b : List ℕ) → (ascii "(" ++ (a ++ (ascii " " ++ (b ++ ascii ")")))) ++ rest
        ≡ ascii "(" ++ (a ++ (ascii " " ++ (b ++ (ascii ")" ++ rest))))
    joined a b = simp append_assoc

over : (p : ℕ) → ended (tokens p 0 (ascii "\n")) ≡ got tt []
unfolding tokens
over p = refl

-- Printed pairs are read, whatever white space is between them.
module _ (gap : List ℕ) (blank : All white true gap) where
  pairs-read : (names : List Name) (bits : List Bool) → length bits ≡ length names → (rest : List ℕ) (p : ℕ)
      → (q : ℕ) × (pairs names (tokens p 0 (pairs_text gap names bits ++ rest)) ≡ got bits (tokens q 0 rest))
  unfolding pairs pairs_text
  pairs-read [] [] e rest p = (p, refl)
  pairs-read [] (bit ∷ bits) e rest p = absurd (omega arith)
  pairs-read (name ∷ names) [] e rest p = absurd (omega arith)
  pairs-read (name ∷ names) (bit ∷ bits) e rest p =
      let after = pairs_text gap names bits ++ rest in
      let start = tokens_gap gap (pair_text name bit ++ after) blank p in
      let first = pair_reads name bit after start.0 in
      let more = pairs-read names bits (suc_inj e) rest first.0 in (
        more.0,
        rw (
          append_assoc gap (pair_text name bit ++ pairs_text gap names bits) rest,
          append_assoc (pair_text name bit) (pairs_text gap names bits) rest,
          start.1,
          first.1,
          more.1,
        ),
      )

  listed : (name : Name) (names : List Name) (bit : Bool) (bits : List Bool) → length (bit ∷ bits)
      ≡ length (name ∷ names)
      → model (name ∷ names)
      (tokens 4 0 (ascii "(" ++ (pair_text name bit ++ (pairs_text gap names bits ++ ascii ")\n"))))
      ≡ got (bit ∷ bits) []
  unfolding pairs
  listed name names bit bits e =
      let first = pair_reads name bit (pairs_text gap names bits ++ ascii ")\n") 5 in
      let more = pairs-read names bits (suc_inj e) (ascii ")\n") first.0 in
      rw (read_open 4, first.1, more.1, read_close more.0 (ascii "\n"), over (suc more.0))

  -- The whole list, and the text's end.
  model-reads : (names : List Name) (bits : List Bool) → length bits ≡ length names
      → reply names (tokens_of (printed gap names bits)) ≡ sat bits
  unfolding reply tokens run same
  model-reads [] [] e = refl
  model-reads [] (bit ∷ bits) e = absurd (omega arith)
  model-reads (name ∷ names) [] e = absurd (omega arith)
  model-reads (name ∷ names) (bit ∷ bits) e = ap satisfied (listed name names bit bits e)

-- Two bits are printed for a trit, and they show it.
trit-bits : (hidden : Bool) (t : Trit) → (y : Bool) × (bits_of_entry hidden (trit_number t) ≡ x_of t ∷ y ∷ [])
    × (shows (x_of t) y ≡ t)
trit-bits hidden Zero = (false, refl, refl)
trit-bits hidden One = (true, refl, refl)
trit-bits hidden Undef = (hidden, refl, refl)

-- The bits of a table that fits the marks are as many as the names asked, and show the table.
module _ (hidden : ℕ → Bool) where
  bits-length : {marks entries : List ℕ} → Fits marks entries → (slot : ℕ)
      → length (bits_of_table hidden slot entries) ≡ length (asked_from slot marks)
  unfolding bits_of_table asked_from
  bits-length none slot = refl
  bits-length (absent f) slot = bits-length f (suc slot)
  bits-length (current t f) slot = rw ((trit-bits (hidden slot) t).1, bits-length f (suc slot))
  bits-length (past t f) slot = rw ((trit-bits (hidden slot) t).1, bits-length f (suc slot))

  bits-table : {marks entries : List ℕ} → Fits marks entries → (slot : ℕ) →
      table marks (bits_of_table hidden slot entries) ≡ entries
  unfolding bits_of_table table
  bits-table none slot = refl
  bits-table (absent f) slot = rw (bits-table f (suc slot))
  bits-table (current t f) slot = let b = trit-bits (hidden slot) t in rw (b.1, b.2, bits-table f (suc slot))
  bits-table (past t f) slot = let b = trit-bits (hidden slot) t in rw (b.1, b.2, bits-table f (suc slot))

marks_fine : {marks entries : List ℕ} → Fits marks entries → (slot : ℕ) → bad_mark slot marks ≡ None
unfolding bad_mark
marks_fine none slot = refl
marks_fine (absent f) slot = marks_fine f (suc slot)
marks_fine (current t f) slot = marks_fine f (suc slot)
marks_fine (past t f) slot = marks_fine f (suc slot)

-- For marks up to 2 and a table with 3 exactly where the mark is 0: what a solver prints for it, with either y under an
-- X and any white space between the pairs, reads back as that table.
pub reads_back : {marks entries : List ℕ} → Fits marks entries → (hidden : ℕ → Bool) (gap : List ℕ) → All white true gap
    → (before : List ℕ) → length marks ≤ length before
    → Read (printed gap (asked_names marks) (bits_of_table hidden 0 entries)) marks before
    (entries ++ drop (length marks) before) (Ok Sat)
reads_back {marks} {entries} fits hidden gap blank before room =
    let bits = bits_of_table hidden 0 entries in
    let said = model-reads gap blank (asked_names marks) bits (bits-length hidden fits 0) in
    let whole =
    reply-text (printed gap (asked_names marks) bits) marks (length before) (marks_fine fits 0) room ∙ said in
    read_as _ marks before whole (rw (bits-table hidden fits 0))
