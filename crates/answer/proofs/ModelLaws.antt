-- Laws of the definitions of Model.
use mathlib.Core.Path.{◌≡◌, refl, ap, ◌∙◌}
use mathlib.Core.Bool.{Bool, true, false, cond, not, ◌&&◌}
use mathlib.Core.List.{List, [], ◌∷◌, ◌++◌}
use Rattle.std.specs.Prelude.{Some, None}
use Rattle.std.specs.List.{list_all, position_from}
use lib.Dec.{ltb, eqb}
use Prim.Native.Nat.{ℕ, suc, ◌<◌, ◌≤◌}
use native.Mathlib.Numerals.{add-one}
use native.Mathlib.Omega.{arith}
use lib.ListN.{length, drop}
use borrow.Author.Tests.{lt-ltb, le-ltb}
use Rattle.logic.specs.declared.Fault.{Fault}
use Rattle.engine.specs.Call.{Name}
use Rattle.text.specs.Names.{asked_from, asked_names}
use Rattle.engine.specs.Emit.{overwrite}
use Rattle.text.proofs.Write.{overwrite-fits}
use Rattle.tokens.specs.Token.{Token, tokens_of}
use Rattle.reply.specs.Reply.{Result, Reader, Reply, got, refused, return}
use Rattle.reply.specs.Reply.{on_got, pairs, expect, ended, model, refuse, reply}
use Rattle.answer.specs.Reply.{table, bad_mark, reply_to, table_after, answer_of, Read}
use Rattle.answer.specs.Entries.{entries, entries_written, forget, nothing}
use Rattle.answer.proofs.EntriesLaws.{entries-table, whole, entries_turn, entries-fault, entries-done, put_turn}
use Rattle.answer.proofs.EntriesLaws.{put_fault, put_done}
use Rattle.answer.specs.Model.{listed}

-- The first bad mark is the first that a test finds.
pub bad_mark_position : (slot : ℕ) (marks : List ℕ) → bad_mark slot marks ≡ position_from (ltb 2) slot marks
unfolding bad_mark
bad_mark_position slot [] = refl
bad_mark_position slot (mark ∷ marks) =
    rw (add-one slot) (ap (cond (ltb 2 mark) (Some slot)) (bad_mark_position (suc slot) marks))

-- Nothing is asked where each mark is neither 1 nor 2.
abbrev pub unasked : ℕ → Bool
unasked mark = not (eqb mark 1) && not (eqb mark 2)

pub nothing_all : (slot : ℕ) (marks : List ℕ) → nothing (asked_from slot marks) ≡ list_all unasked marks
unfolding asked_from
nothing_all slot [] = refl
nothing_all slot (mark ∷ marks) = go (eqb mark 1) refl (eqb mark 2) refl (nothing_all (suc slot) marks)
  where
    go : (one : Bool) → eqb mark 1 ≡ one → (two : Bool) → eqb mark 2 ≡ two
        → nothing (asked_from (suc slot) marks) ≡ list_all unasked marks
        → nothing (asked_from slot (mark ∷ marks)) ≡ list_all unasked (mark ∷ marks)
    go true e two f same = rw e
    go false e true f same = rw (e, f)
    go false e false f same = rw (e, f) same

-- Reading in turn, taken together in either way.
regroup : {A B C : Type 0} (r : Result A) (f : A → Reader B) (g : B → Reader C)
    → on_got (on_got r f) g ≡ on_got r (λ a tokens. on_got (f a tokens) g)
regroup (got a tokens) f g = refl
regroup (refused e) f g = refl

-- With nothing asked, the text ends; otherwise a list, its pairs, and the end.
module _ (names : List Name) (tokens : List Token) where
  pub model-none : nothing names ≡ true → model names tokens ≡ on_got (ended tokens) (λ _. return [])
  model-none e = go names e
    where
      go : (names : List Name) → nothing names ≡ true → model names tokens ≡ on_got (ended tokens) (λ _. return [])
      go [] e = refl
      go (name ∷ names) e = let z : ◌≡◌ {A = ℕ} 0 1 = cc in absurd (omega arith)

  pub model-some : nothing names ≡ false → model names tokens ≡ on_got (expect "(" tokens) (λ _. listed names)
  model-some e = go names e
    where
      go : (names : List Name) → nothing names ≡ false → model names tokens
          ≡ on_got (expect "(" tokens) (λ _. listed names)
      go [] e = let z : ◌≡◌ {A = ℕ} 0 1 = cc in absurd (omega arith)
      go (name ∷ names) e = regroup (expect "(" tokens) _ _

-- The entries scanned tell of the pairs.
module _ (marks : List ℕ) (tokens : List Token) where
  pub scanned_fault : {e : Fault} → forget (entries 0 marks tokens) ≡ refused e
      → pairs (asked_names marks) tokens ≡ refused e
  scanned_fault {e} scanned = go (pairs (asked_names marks) tokens) (rw (entries-table 0 marks tokens) at scanned)
    where
      go : (r : Result (List Bool)) → forget (on_got r (λ bits. return (table marks bits))) ≡ refused e → r ≡ refused e
      go (got bits left) q = let z : ◌≡◌ {A = ℕ} 0 1 = cc in absurd (omega arith)
      go (refused x) q = q' q
        where
          q' : {A B : Type 0} {x y : Fault} → ◌≡◌ {A = Result A} (refused x) (refused y) →
              ◌≡◌ {A = Result B} (refused x) (refused y)
          q' h = cc

  pub scanned : {left : List Token} → forget (entries 0 marks tokens) ≡ got tt left
      → (bits : List Bool) × (pairs (asked_names marks) tokens ≡ got bits left)
      × (entries 0 marks tokens ≡ got (table marks bits) left)
  scanned {left} scan = go (pairs (asked_names marks) tokens) refl (rw (entries-table 0 marks tokens) at scan)
    where
      go : (r : Result (List Bool)) → pairs (asked_names marks) tokens ≡ r →
          forget (on_got r (λ bits. return (table marks bits))) ≡ got tt left
          → (bits : List Bool) × (pairs (asked_names marks) tokens ≡ got bits left)
          × (entries 0 marks tokens ≡ got (table marks bits) left)
      go (got bits u) e q = let same : u ≡ left = cc in (bits, rw same at e, rw (entries-table 0 marks tokens, e, same))
      go (refused x) e q = let z : ◌≡◌ {A = ℕ} 0 1 = cc in absurd (omega arith)

-- With nothing asked, every entry is absent.
pub nothing-table : (marks : List ℕ) (tokens : List Token) → nothing (asked_names marks) ≡ true → entries 0 marks tokens
    ≡ got (table marks []) tokens
unfolding pairs
nothing-table marks tokens e = rw (entries-table 0 marks tokens, empty (asked_names marks) e)
  where
    empty : (names : List Name) → nothing names ≡ true → names ≡ []
    empty [] e = refl
    empty (name ∷ names) e = let z : ◌≡◌ {A = ℕ} 0 1 = cc in absurd (omega arith)

-- Marks first, then room, then the text.
module _ (text marks : List ℕ) (room : ℕ) where
  pub reply-marks : {slot : ℕ} → bad_mark 0 marks ≡ Some slot → reply_to text marks room ≡ refuse 2 slot
  unfolding reply_to
  reply-marks e = rw e

  pub reply-room : bad_mark 0 marks ≡ None → room < length marks → reply_to text marks room ≡ refuse 15 (length marks)
  unfolding reply_to
  reply-room e short = rw (e, lt-ltb _ _ short)

  pub reply-text : bad_mark 0 marks ≡ None → length marks ≤ room → reply_to text marks room
      ≡ reply (asked_names marks) (tokens_of text)
  unfolding reply_to
  reply-text e fits = rw (e, le-ltb _ _ fits)

-- A reading told as a whole by its reply.
module _ (text marks before : List ℕ) where
  pub read_as : {after : List ℕ} {r : Reply} → reply_to text marks (length before) ≡ r → after
      ≡ table_after r marks before
      → Read text marks before after (answer_of r)
  read_as e w = record { answers = rw e; writes = rw e w }

-- The table that the entries write is the reply's.
pub table-written : (marks before : List ℕ) (tokens : List Token) {after : List ℕ} (bits : List Bool)
    {left : List Token}
    → length marks ≤ length before → entries 0 marks tokens ≡ got (table marks bits) left
    → after ≡ overwrite before 0 (entries_written 0 marks tokens)
    → after ≡ table marks bits ++ drop (length marks) before
table-written marks before tokens bits room e w =
    let all = whole 0 marks tokens e in
    let fits : length (table marks bits) ≤ length before = rw all.each room in
    w ∙ rw (all.all, overwrite-fits before (table marks bits) fits, all.each)

-- What a step of the code goes by.
pub ruleset steps = (
  entries_turn,
  entries-fault,
  entries-done,
  put_turn,
  put_fault,
  put_done,
  model-none,
  nothing-table,
  scanned,
  scanned_fault,
  reply-marks,
  reply-room,
  reply-text,
  read_as,
  table-written,
)
