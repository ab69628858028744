-- The script of an accepted list: the writer, given the call words and the marks that the list is answered with, never
-- answers 19 or 2.
use mathlib.Core.Path.{◌≡◌, refl, sym, ap, ◌∙◌, subst}
use mathlib.Core.Bool.{Bool, true, false, ◌||◌}
use mathlib.Core.List.Memᴰ
use mathlib.Core.List.{List, [], ◌∷◌}
use mathlib.Core.Option.{Option}
use Prim.Native.Nat.{ℕ, zero, suc, ◌+◌}
use native.Mathlib.Omega.{arith}
use lib.ListN.{length, get_or, take, drop}
use borrow.Author.Tests.{eq-eqb}
use Rattle.std.specs.Prelude.{Result}
use Rattle.logic.specs.declared.Fault.{Fault}
use Rattle.cell.specs.Design.{Design, total}
use Rattle.engine.specs.Call.{Name, Call}
use Rattle.engine.specs.Call as c
use Rattle.engine.specs.Encode.{decode, letter_number, suffix_number}
use Rattle.engine.specs.WellFormed.{place_of}
use Rattle.design_list.specs.Read.{accepted}
use Rattle.smt.specs.Prog.{Age, curr, past, is_undef, is_one}
use Rattle.smt.specs.Emit.{net_name}
use Rattle.requirement.specs.Requirement3.{declared_names, IsDeclared, Declared}
use Rattle.requirement.specs.Verified.{read_in, call_words, marks}
use Rattle.requirement.proofs.Required.{never_malformed}
use Rattle.requirement.specs.Marks.{Marked}
use Rattle.requirement.proofs.MarksLaws.{list-marked}
use Rattle.builder.specs.declared.Counts.{Counts}
use Rattle.requirement.specs.declared.Verified.{Verified}
use Rattle.design.specs.Said.{Said}
use Rattle.asked.specs.Marks.{any, declares_name, declared, all_declared, mark_stands, bad_mark}
use Rattle.asked.proofs.Marks.{mark_fine, marks-done}
use Rattle.script.specs.Written.{script_of, room_for, on_formed, marked, written}
use Rattle.script.proofs.WrittenLaws.{marked_fine}

-- A declared name is found.
same_name_lem : (name : Name) (w : ℕ)
    → declares_name (letter_number name.letter) name.index (suffix_number name.suffix) (c.declare name w) ≡ true
same_name_lem name w =
    rw (
      eq-eqb (letter_number name.letter) _ refl,
      eq-eqb name.index _ refl,
      eq-eqb (suffix_number name.suffix) _ refl,
    )

or-true : (b : Bool) → (b || true) ≡ true
or-true true = refl
or-true false = refl

is_declared : (calls : List Call) (name : Name) → IsDeclared calls name → declared calls name ≡ true
unfolding any declared_names
is_declared [] name m = elim m [ ]
is_declared (c.term t ∷ calls) name m = is_declared calls name m
is_declared (c.declare other w ∷ calls) name (Memᴰ.head e) =
    ap (λ (b : Bool). b || declared calls name) (subst (λ (n : Name).
    declares_name (letter_number name.letter) name.index (suffix_number name.suffix) (c.declare n w) ≡ true) e
    (same_name_lem name w))
is_declared (c.declare other w ∷ calls) name (Memᴰ.tail m) =
    rw (is_declared calls name m)
    (or-true (declares_name (letter_number name.letter) name.index (suffix_number name.suffix)
    (c.declare other w)))
is_declared (c.assert k ∷ calls) name m = is_declared calls name m
is_declared (c.check ∷ calls) name m = is_declared calls name m

-- The marks of a list all stand.
module _ {slots : ℕ} {recorded : List ℕ} {calls : List Call} (is : Marked slots recorded calls) where
  both : (a : Age) (i : ℕ) → Declared calls a i → all_declared calls (net_name a i is_undef ∷ net_name a i is_one ∷ [])
      ≡ true
  unfolding all_declared
  both a i m = rw (is_declared calls (net_name a i is_undef) (m is_undef), is_declared calls (net_name a i is_one) (m is_one))

  stands : (i mark : ℕ) → mark ≡ get_or recorded i 0 → mark_stands calls i mark ≡ true
  stands i zero e = unfold all_declared in refl
  stands i (suc zero) e = both curr i (is.current i (sym e))
  stands i (suc (suc zero)) e = both past i (is.past i (sym e))
  stands i (suc (suc (suc m))) e = let low = is.low i in absurd (omega arith)

  -- From any slot on, as from past the last.
  fine_from : (more slot : ℕ) → more + slot ≡ length recorded
      → bad_mark calls slot (drop slot recorded) ≡ bad_mark calls (length recorded) (drop (length recorded) recorded)
  fine_from zero slot e = ap (λ (i : ℕ). bad_mark calls i (drop i recorded)) (omega arith)
  fine_from (suc more) slot e =
      mark_fine calls recorded slot (omega arith) (stands slot (get_or recorded slot 0) refl)
      ∙ fine_from more (slot + 1) (omega arith)

-- The writer's answer for an accepted list: its script, or 15 at the room needed.
pub list_scripted : (mode : ℕ) (w : List ℕ) {d : Design} {reps pairs : ℕ} → read_in mode w ≡ accepted d reps pairs →
    (room : ℕ) → written (call_words mode w) (marks mode w) room
    ≡ room_for (length (script_of (call_words mode w) (marks mode w))) room
unfolding written
list_scripted mode w is room =
    ap (λ (place : Option ℕ). on_formed place (marked (call_words mode w) (marks mode w) room))
    (ap place_of (never_malformed mode w is))
    ∙ marked_fine (call_words mode w) (marks mode w) room
    (fine_from (list-marked mode w is) (length (marks mode w)) 0 (omega arith)
    ∙ marks-done (decode (call_words mode w)) (marks mode w) (length (marks mode w)) (omega arith))

-- So for the words and the marks that `verify` leaves in the caller's slices: never 19, never 2.
pub said_scripted : {mode : ℕ} {w calls recorded : List ℕ} {r : Result Verified Fault} {n : Counts}
    (s : Said mode w calls recorded r n) (room : ℕ)
    → written (take n.words calls) (take (total s.d) recorded) room
    ≡ room_for (length (script_of (take n.words calls) (take (total s.d) recorded))) room
said_scripted {mode} {w} s room = rw (s.words, s.marks) (list_scripted mode w s.is room)
