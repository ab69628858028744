-- Requirement 3 of every list of words that is read as accepted and has no current loop, stated of the call words that
-- it is answered with; and what else holds of those words.
use mathlib.Core.Path.{◌≡◌, refl, sym, ap, ◌∙◌, subst}
use mathlib.Core.List.{List}
use Prim.Native.Nat.{ℕ, ◌*◌, ◌≤◌}
use native.Mathlib.Omega.{arith}
use lib.ListN.{length}
use Rattle.std.specs.Prelude.{Option, Some, None}
use Rattle.cell.specs.declared.Mode.{Mode}
use Rattle.cell.specs.Mode.{mode_of, number_of}
use Rattle.cell.proofs.Modes.{number-mode}
use Rattle.cell.specs.Design.{Design}
use Rattle.engine.specs.Sorts as sorts
use Rattle.engine.specs.Encode.{encode, decode}
use Rattle.engine.specs.WellFormed.{outcome, well_formed}
use Rattle.design_list.specs.Read.{Read, refused, accepted, read}
use Rattle.design_list.proofs.AcceptedLaws.{accepted-read}
use Rattle.bound.specs.Words.{design_words}
use Rattle.accepted.proofs.Laid.{accepted-laid}
use Rattle.accepted.proofs.Bounds.{accepted-bounds, accepted-words}
use Rattle.requirement.proofs.Accepted.{Accepted}
use Rattle.order.specs.Verify.{verify}
use Rattle.requirement.specs.Requirement3.{Requirement3}
use Rattle.requirement.proofs.Theorem.{requirement_3}
use Rattle.requirement.proofs.Bound.{verify-words}
use Rattle.requirement.proofs.WellFormed.{verify_well_formed, verify_decoded}
use Rattle.requirement.specs.Verified.{read_by, read_in, written_calls, call_words, Required}

-- ---- the mode

-- A mode other than 0 or 1 is 23 at 0, whatever the list.
pub mode-unknown : (mode : ℕ) (w : List ℕ) → mode_of mode ≡ None →
    read_in mode w ≡ refused (record { number = 23; place = 0 })
unfolding read_in
mode-unknown mode w none = ap (λ (c : Option Mode). read_by c w) none

pub read-numbered : (mode : Mode) (w : List ℕ) → read_in (number_of mode) w ≡ read mode w
unfolding read_in
read-numbered mode w = ap (λ (c : Option Mode). read_by c w) (number-mode mode)

-- ---- a list that is read as accepted

-- A list that is accepted is read in a mode.
pub read_known : (mode : ℕ) (w : List ℕ) {d : Design} {r p : ℕ} → read_in mode w ≡ accepted d r p →
    (m : Mode) × (read m w ≡ accepted d r p)
unfolding read_in
read_known mode w {d} {r} {p} e = go (mode_of mode) e
  where
    go : (c : Option Mode) → read_by c w ≡ accepted d r p → (m : Mode) × (read m w ≡ accepted d r p)
    go None e = absurd (let z : ◌≡◌ {A = ℕ} 0 1 = cc in omega arith)
    go (Some m) e = (m, e)

-- It has the words of its design.
words_count : (mode : ℕ) (w : List ℕ) {d : Design} {r p : ℕ} → read_in mode w ≡ accepted d r p → length w ≡ design_words d
words_count mode w e = let known = read_known mode w e in accepted-words known.0 w known.1

pub is-accepted : (mode : ℕ) (w : List ℕ) {d : Design} {r p : ℕ} → read_in mode w ≡ accepted d r p → Accepted d
is-accepted mode w {d} {r} {p} e = go (read_known mode w e)
  where
    go : (m : Mode) × (read m w ≡ accepted d r p) → Accepted d
    go known =
        let is = accepted-read known.0 w known.1 in
        let words = words_count mode w e in
        let short = is.short in
        record {
          laid = accepted-laid known.0 w known.1;
          bounds = accepted-bounds known.0 w known.1;
          slots = is.low;
          words = omega arith;
        }

module _ (mode : ℕ) (w : List ℕ) {d : Design} {r p : ℕ} (is : read_in mode w ≡ accepted d r p) where
  pub words_are : call_words mode w ≡ encode (verify d)
  unfolding call_words
  words_are = ap written_calls is

  -- The calls, read back from their words, are those of the order of work.
  pub calls_are : decode (call_words mode w) ≡ verify d
  calls_are = ap decode words_are ∙ verify_decoded d (is-accepted mode w is)

  -- Never fault 19.
  pub never_malformed : outcome (call_words mode w) ≡ well_formed (sorts.leaves sorts.start (verify d))
  never_malformed = ap outcome words_are ∙ verify_well_formed d (is-accepted mode w is)

-- Requirement 3.
pub required : (mode : ℕ) (w : List ℕ) → Required mode w
required mode w d reps pairs is no_loop =
    let a = is-accepted mode w is in
    subst (Requirement3 d) (sym (calls_are mode w is)) (requirement_3 d a.laid a.bounds no_loop)

-- ---- the room

-- At most 8,192 call words for each word of the list, so that every term number and count fits a payload.
pub within-room : (mode : ℕ) (w : List ℕ) → length (call_words mode w) ≤ 8192 * length w
unfolding call_words
within-room mode w = go (read_in mode w) refl
  where
    go : (r : Read) → read_in mode w ≡ r → length (written_calls r) ≤ 8192 * length w
    go (refused f) e = omega arith
    go (accepted d reps pairs) e =
        let a = is-accepted mode w e in
        let words = words_count mode w e in
        let most = verify-words d a.laid a.bounds in
        omega arith
