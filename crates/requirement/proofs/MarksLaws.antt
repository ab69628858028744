-- Laws of the definitions of Marks.
use mathlib.Core.Path.{◌≡◌, refl, sym, ap, ◌∙◌, subst₂}
use mathlib.Core.Logic.{⊎_elim}
use mathlib.Core.List.{List, [], ◌∷◌}
use Prim.Native.Nat.{ℕ, zero, suc, ◌≤◌, ◌<◌}
use native.Mathlib.Omega.{arith}
use lib.ListN.{length, get_or}
use Rattle.cell.specs.Design.{Design, total}
use Rattle.engine.specs.Call.{Name}
use Rattle.engine.specs.Encode.{decode}
use Rattle.design_list.specs.Read.{accepted}
use Rattle.smt.specs.Prog.{Age, curr, past, Half}
use Rattle.smt.specs.Emit.{net_name, mark}
use Rattle.order.specs.Verify.{built, verify}
use Rattle.order.specs.Reads.{net_read, reads_of, mark_after}
use Rattle.order.proofs.Marks.{marks-many, marks_by_last-read, marked-read_of, unmarked-unread, mark-low}
use Rattle.requirement.proofs.Declares.{declared-left, declared_cases, read-declared, declared-read}
use Rattle.requirement.proofs.Declares.{built-together}
use Rattle.requirement.specs.Requirement3.{IsDeclared, Declared}
use Rattle.requirement.proofs.Theorem.{query-none, query-calls}
use Rattle.requirement.specs.Verified.{read_in, written_marks, call_words, marks}
use Rattle.requirement.proofs.Required.{calls_are}
use Rattle.requirement.specs.Marks.{Marked}

-- ---- the query declares nothing

verify-left : (d : Design) (name : Name) → IsDeclared (built d).calls name → IsDeclared (verify d) name
unfolding verify
verify-left d name m = declared-left (built d).calls _ name m

verify-only : (d : Design) (name : Name) → IsDeclared (verify d) name → IsDeclared (built d).calls name
unfolding verify
verify-only d name m =
    ⊎_elim (λ m. m)
    (λ m. absurd (query-none _ (built d).res name (rw (query-calls (built d).res (built d).st) at m)))
    (declared_cases (built d).calls _ name m)

-- Past the end there is no mark.
below : (l : List ℕ) (i k : ℕ) → get_or l i 0 ≡ suc k → i < length l
below [] i k e = absurd (omega arith)
below (x ∷ l) zero k e = omega arith
below (x ∷ l) (suc i) k e = let h = below l i k e in omega arith

pub marked : (d : Design) → Marked (total d) (built d).st.marks (verify d)
marked d = record {
  many = marks-many d;
  low = λ i. low i (get_or (built d).st.marks i 0) refl;
  unread = unread;
  current = λ i e. declared-names curr i 0 e e;
  past = λ i e. declared-names past i 1 e e;
}
  where
    inside : (i k : ℕ) → get_or (built d).st.marks i 0 ≡ suc k → i < total d
    inside i k e = rw (marks-many d) at (below (built d).st.marks i k e)

    low : (i m : ℕ) → get_or (built d).st.marks i 0 ≡ m → m ≤ 2
    low i zero e = omega arith
    low i (suc k) e =
        let is = marks_by_last-read d i (inside i k e) in
        let most = mark-low i 0 (reads_of d) (omega arith) in
        omega arith

    declared-names : (a : Age) (i k : ℕ) → get_or (built d).st.marks i 0 ≡ suc k → get_or (built d).st.marks i 0
        ≡ mark a
        → Declared (verify d) a i
    declared-names a i k e is h =
        let last = sym (marks_by_last-read d i (inside i k e)) ∙ is in
        ⊎_elim (λ (z : _). absurd (some-mark a z))
        (λ (r : _). verify-left d (net_name a i h)
        (built-together d a i r.0 (read-declared d (net_read a i r.0) r.1) h))
        (marked-read_of i 0 (reads_of d) a last)
      where
        some-mark : (a : Age) → 0 ≡ mark a → ⊥
        some-mark curr z = omega arith
        some-mark past z = omega arith

    unread : (i : ℕ) → i < total d → get_or (built d).st.marks i 0 ≡ 0 → (a : Age) (h : Half)
        → IsDeclared (verify d) (net_name a i h) → ⊥
    unread i l e a h m =
        (unmarked-unread i 0 (reads_of d) (sym (marks_by_last-read d i l) ∙ e)).1 a h
        (declared-read d a i h (verify-only d (net_name a i h) m))

-- ---- of an accepted list: the marks and the call words that it is answered with

pub list-marked : (mode : ℕ) (w : List ℕ) {d : Design} {reps pairs : ℕ} → read_in mode w ≡ accepted d reps pairs
    → Marked (total d) (marks mode w) (decode (call_words mode w))
unfolding marks
list-marked mode w {d} is = subst₂ (Marked (total d)) (sym (ap written_marks is)) (sym (calls_are mode w is)) (marked d)

-- Each slot's mark is that of its last read in the order of work, none where there is none.
pub list-last-read : (mode : ℕ) (w : List ℕ) {d : Design} {reps pairs : ℕ} → read_in mode w ≡ accepted d reps pairs
    → (i : ℕ) → i < total d → get_or (marks mode w) i 0 ≡ mark_after i 0 (reads_of d)
unfolding marks
list-last-read mode w {d} is i low = ap (λ r. get_or (written_marks r) i 0) is ∙ marks_by_last-read d i low
