-- Laws of the definitions of Written.
use mathlib.Core.Path.{◌≡◌, refl, sym, ◌∙◌, subst}
use mathlib.Core.List.{List, ◌++◌}
use Prim.Native.Nat.{ℕ, ◌+◌, ◌^◌, ◌<◌, ◌≤◌}
use native.Mathlib.Omega.{arith}
use lib.ListN.{length, drop}
use borrow.Author.Tests.{lt-ltb, le-ltb}
use Rattle.engine.specs.Encode.{decode}
use Rattle.engine.specs.Sorts.{Context}
use Rattle.engine.specs.WellFormed.{Outcome, outcome, well_formed, malformed}
use Rattle.std.specs.Prelude.{Some, None, Ok}
use Rattle.checker.specs.declared.Counts.{Counts}
use Rattle.engine.specs.Emit.{counted, Wrote}
use Rattle.text.proofs.Write.{overwrite-fits}
use Rattle.asked.specs.Marks.{bad_mark}
use Rattle.engine.proofs.ReadBack.{decode-formed}
use Rattle.name_table.specs.Named.{NamesTo}
use Rattle.checker.specs.Checking.{checked_as, CheckedBy}
use Rattle.script.specs.Walk.{HasTables, HasNames}
use Rattle.script.specs.Written.{script_of, refuse, room_for, marked, written}

-- Marks first, then room.
module _ (w marks : List ℕ) (room : ℕ) where
  pub marked-bad : {slot : ℕ} → bad_mark (decode w) 0 marks ≡ Some slot → marked w marks room ≡ refuse 2 slot
  unfolding marked
  marked-bad e = rw e

  pub marked_fine : bad_mark (decode w) 0 marks ≡ None → marked w marks room ≡ room_for (length (script_of w marks)) room
  unfolding marked
  marked_fine e = rw e

-- The room that a dry run counts.
module _ (text : List ℕ) (room needed : ℕ) (short : room < 2 ^ 63) (is-length : needed ≡ counted (0 + length text))
  where
    pub room-short : room < needed → room_for (length text) room ≡ refuse 15 needed
    room-short h =
        let long : room < length text = omega arith in
        let same : counted (length text) ≡ needed = omega arith in
        rw (lt-ltb room (length text) long, same)

    pub room_enough : needed ≤ room → room_for (length text) room ≡ Ok needed
    room_enough h =
        let fits : length text ≤ room = omega arith in
        let same : length text ≡ needed = omega arith in
        rw (le-ltb room (length text) fits, same)

pub whole-text : {text before after : List ℕ} {r : ℕ} → Wrote before 0 text after r → length text ≤ length before
    → after ≡ text ++ drop (length text) before
whole-text {text} {before} wrote fits = wrote.words ∙ overwrite-fits before text fits

-- What the checker answers.
checked-formed : (o : Outcome) {made : Counts} → checked_as o ≡ Ok made → (y : Context)
    × (o ≡ well_formed y)
checked-formed (well_formed y) e = (y, refl)
checked-formed (malformed at) e = let z : ◌≡◌ {A = ℕ} 0 1 = cc in absurd (omega arith)

-- The tables that the check leaves.
pub has_tables : {gap : ℕ} {w places sorts names : List ℕ} {made : Counts} →
    CheckedBy gap w places sorts names (Ok made)
    → HasTables gap w places sorts × HasNames w names
has_tables {gap} {w} {places} {sorts} {names} k =
    let f = checked-formed (outcome w) (sym k.is) in
    let tables = k.tabled f.0 f.1 in
    let left = (decode-formed w f.0 f.1).left in (
      record { leaving = f.0; formed = f.1; spaced = tables.spaced; tabled = tables.read.tabled },
      subst (λ (x : Context). NamesTo names x.names) (sym left) tables.named,
    )

pub written-formed : (w marks : List ℕ) (room : ℕ) {y : Context} → outcome w ≡ well_formed y → written w marks room
    ≡ marked w marks room
unfolding written
written-formed w marks room e = rw e
