-- Laws of the definitions of Entries.
use mathlib.Core.Path.{◌≡◌, refl}
use mathlib.Core.Bool.{Bool, true, false}
use mathlib.Core.List.{List, [], ◌∷◌}
use Rattle.std.specs.Prelude.{Some}
use Prim.Native.Nat.{ℕ, suc, ◌+◌, ◌<◌, ◌≤◌}
use native.Mathlib.Numerals.{add-one}
use native.Mathlib.Omega.{arith}
use lib.Dec.{eqb}
use lib.ListN.{length, drop, get_or, set, drop_of_length-le}
use lib.Seq.{drop-cons}
use Rattle.logic.specs.Trit.{shows, readback_number}
use Rattle.logic.specs.declared.Fault.{Fault}
use Rattle.engine.specs.Emit.{overwrite}
use Rattle.text.proofs.Write.{overwrite-none, overwrite-more}
use Rattle.text.specs.Names.{spelling, asked_from}
use Rattle.tokens.specs.Token.{Token}
use Rattle.reply.specs.Reply.{Result, Reader, got, refused, return, on_got, pairs, pair_spelled}
use Rattle.reply.specs.Step.{slot_pair, trit, entry_of}
use Rattle.answer.specs.Reply.{shown_first, table}
use Rattle.answer.specs.Entries.{entries, entries_written, forget}

-- One slot more.
module _ (marks : List ℕ) (i : ℕ) (inside : i < length marks) (tokens : List Token) where
  pub entries_turn : {number : ℕ} {rest : List Token} → entry_of i (get_or marks i 0) tokens ≡ got number rest
      → forget (entries i (drop i marks) tokens) ≡ forget (entries (i + 1) (drop (i + 1) marks) rest)
  unfolding entries
  entries_turn {number} {rest} e =
      rw (drop-cons marks i 0 inside, e, add-one i) (same (entries (suc i) (drop (suc i) marks) rest))
    where
      same : (r : Result (List ℕ)) → forget (on_got r (λ numbers. return (number ∷ numbers))) ≡ forget r
      same (got numbers left) = refl
      same (refused e) = refl

  pub entries-fault : {e : Fault} → entry_of i (get_or marks i 0) tokens ≡ refused e → entries i (drop i marks) tokens
      ≡ refused e
  unfolding entries
  entries-fault e = rw (drop-cons marks i 0 inside, e)

  pub put_turn : (trits : List ℕ) {trits1 : List ℕ} {number : ℕ} {rest : List Token} → entry_of i (get_or marks i 0) tokens
      ≡ got number rest
      → trits1 ≡ set trits i number
      → overwrite trits i (entries_written i (drop i marks) tokens)
      ≡ overwrite trits1 (i + 1) (entries_written (i + 1) (drop (i + 1) marks) rest)
  unfolding entries_written
  put_turn trits e put = rw (put, drop-cons marks i 0 inside, e, add-one i, overwrite-more trits i, add-one i)

  pub put_fault : (trits : List ℕ) {e : Fault} → entry_of i (get_or marks i 0) tokens ≡ refused e
      → overwrite trits i (entries_written i (drop i marks) tokens) ≡ trits
  unfolding entries_written
  put_fault trits e = rw (drop-cons marks i 0 inside, e) (overwrite-none trits i)

module _ (marks : List ℕ) (i : ℕ) (past : length marks ≤ i) (tokens : List Token) where
  pub entries-done : entries i (drop i marks) tokens ≡ got [] tokens
  unfolding entries
  entries-done = rw (drop_of_length-le marks past)

  pub put_done : (trits : List ℕ) → overwrite trits i (entries_written i (drop i marks) tokens) ≡ trits
  unfolding entries_written
  put_done trits = rw (drop_of_length-le marks past) (overwrite-none trits i)

-- What was read before a result that met no fault.
got_before : {A B : Type 0} (r : Result A) (f : A → Reader B) {b : B} {left : List Token} → on_got r f ≡ got b left
    → (a : A) × (rest : List Token) × (r ≡ got a rest) × (f a rest ≡ got b left)
got_before (got a rest) f e = (a, rest, refl, e)
got_before (refused x) f e = let z : ◌≡◌ {A = ℕ} 0 1 = cc in absurd (omega arith)

-- Where no fault is met, what is written are all entries, one for each mark.
pub record Whole (slot : ℕ) (marks : List ℕ) (tokens : List Token) (numbers : List ℕ) : Type 0 where
  pub all : entries_written slot marks tokens ≡ numbers
  pub each : length numbers ≡ length marks

more : (slot mark : ℕ) (marks : List ℕ) (tokens : List Token) {number : ℕ} {rest : List Token} {numbers all : List ℕ}
    → entry_of slot mark tokens ≡ got number rest → Whole (suc slot) marks rest numbers → all ≡ number ∷ numbers
    → Whole slot (mark ∷ marks) tokens all
unfolding entries_written
more slot mark marks tokens e rest split = record { all = rw (e, rest.all, split); each = rw (split, rest.each) }

pub whole : (slot : ℕ) (marks : List ℕ) (tokens : List Token) {numbers : List ℕ} {left : List Token}
    → entries slot marks tokens ≡ got numbers left → Whole slot marks tokens numbers
unfolding entries entries_written
whole slot [] tokens {numbers} e = let none : numbers ≡ [] = cc in record { all = cc; each = rw none }
whole slot (mark ∷ marks) tokens {numbers} e =
    let first = got_before (entry_of slot mark tokens) _ e in
    let after = got_before (entries (suc slot) marks first.1) _ first.3 in
    let rest = whole (suc slot) marks first.1 after.2 in
    more slot mark marks tokens first.2 rest (cc after.3)

-- A slot's two pairs, and then the rest, read for the names or for the table.
both : (rx : Result Bool) (ry : List Token → Result Bool) (numbers : Reader (List ℕ)) (bits : Reader (List Bool))
    (tabled : List Bool → List ℕ) →
    ((tokens : List Token) → numbers tokens ≡ on_got (bits tokens) (λ b. return (tabled b)))
    → on_got (on_got rx (λ x t. on_got (ry t) (λ y. return (readback_number (Some (shows x y))))))
    (λ n t. on_got (numbers t) (λ ns. return (n ∷ ns)))
    ≡ on_got (on_got rx (λ x t. on_got (on_got (ry t) (λ y u. on_got (bits u) (λ b. return (y ∷ b)))) (λ b. return (x ∷ b))))
    (λ b. return (shown_first b tabled))
both (refused e) ry numbers bits tabled same = refl
both (got x t) ry numbers bits tabled same = second (ry t)
  where
    last : (x y : Bool) (r : Result (List Bool))
        → on_got (on_got r (λ b. return (tabled b))) (λ ns. return (readback_number (Some (shows x y)) ∷ ns))
        ≡ on_got (on_got (on_got r (λ b. return (y ∷ b))) (λ b. return (x ∷ b))) (λ b. return (shown_first b tabled))
    last x y (got b u) = refl
    last x y (refused e) = refl

    second : (r : Result Bool)
        → on_got (on_got r (λ y. return (readback_number (Some (shows x y)))))
        (λ n t. on_got (numbers t) (λ ns. return (n ∷ ns)))
        ≡ on_got (on_got (on_got r (λ y u. on_got (bits u) (λ b. return (y ∷ b)))) (λ b. return (x ∷ b)))
        (λ b. return (shown_first b tabled))
    second (got y u) = rw (same u) (last x y (bits u))
    second (refused e) = refl

pub entries-table : (slot : ℕ) (marks : List ℕ) (tokens : List Token)
    → entries slot marks tokens ≡ on_got (pairs (asked_from slot marks) tokens) (λ bits. return (table marks bits))
unfolding entries entry_of trit slot_pair pairs asked_from table
entries-table slot [] tokens = refl
entries-table slot (mark ∷ marks) tokens = go (eqb mark 1) refl (eqb mark 2) refl (entries-table (suc slot) marks)
  where
    numbers : Reader (List ℕ)
    numbers = entries (suc slot) marks

    bits : Reader (List Bool)
    bits = pairs (asked_from (suc slot) marks)

    go : (one : Bool) → eqb mark 1 ≡ one → (two : Bool) → eqb mark 2 ≡ two
        → ((tokens : List Token) → entries (suc slot) marks tokens
        ≡ on_got (pairs (asked_from (suc slot) marks) tokens) (λ bits. return (table marks bits)))
        → entries slot (mark ∷ marks) tokens
        ≡ on_got (pairs (asked_from slot (mark ∷ marks)) tokens) (λ bits. return (table (mark ∷ marks) bits))
    go true e two f same =
        rw e (both (pair_spelled (spelling 110 slot 120) tokens) (pair_spelled (spelling 110 slot 121)) numbers bits
        (table marks) same)
    go false e true f same =
        rw (e, f)
        (both (pair_spelled (spelling 112 slot 120) tokens) (pair_spelled (spelling 112 slot 121)) numbers bits
        (table marks) same)
    go false e false f same = rw (e, f, same tokens) (last (pairs (asked_from (suc slot) marks) tokens))
      where
        last : (r : Result (List Bool)) → on_got (on_got r (λ bits. return (table marks bits))) (λ ns. return (3 ∷ ns))
            ≡ on_got r (λ bits. return (3 ∷ table marks bits))
        last (got b u) = refl
        last (refused e) = refl
