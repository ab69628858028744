-- Laws of the definitions of Answered.
use mathlib.Core.Path.{◌≡◌, refl, sym, ap, ◌∙◌, subst}
use mathlib.Core.Logic.{◌↔◌}
use mathlib.Core.List.{List, [], ◌∷◌, ◌++◌}
use Prim.Native.Nat.{ℕ, zero, suc, ◌+◌, ◌≤◌, ◌<◌}
use native.Mathlib.Omega.{arith}
use lib.ListN.{length, get_or}
use Rattle.logic.specs.declared.Fault.{Fault}
use Rattle.builder.specs.declared.Counts.{Counts}
use Rattle.std.specs.Prelude.{Result, Ok, Err}
use Rattle.requirement.specs.declared.Verified.{Verified}
use Rattle.requirement.specs.declared.Verified.TheVariants.{NothingAsked}
use Rattle.cell.specs.Design.{Design, total}
use Rattle.engine.specs.Call.{Call}
use Rattle.engine.specs.Call as c
use Rattle.engine.specs.Encode.{encode}
use Rattle.working_out.specs.Obligations.{obligations}
use Rattle.smt.specs.Prog.{Prog, ret, op, declare, bind, bind2, ◌>>=◌, Age, curr, past}
use Rattle.smt.specs.Emit.{St, Out, net_name, place, at, learn, reread, after, known, emit}
use Rattle.design_list.specs.Read.{refused, accepted}
use Rattle.order.specs.Verify.{Step, declared, asserted, obliged, steps, work, start, built, query, asked_calls, verify}
use Rattle.order.proofs.StepsMean.{steps_are}
use Rattle.requirement.proofs.Exists as terms-asked
use Rattle.requirement.proofs.Theorem.{asked-each}
use Rattle.requirement.proofs.WellFormed.{few_words, few-terms, few-temporaries}
use Rattle.requirement.specs.Verified.{roomed, temporaries, counted, told, of_design, read_in, of_read, verified}
use Rattle.requirement.specs.Verified.{room_for, in_room, of_read_unroomed}
use Rattle.requirement.proofs.RoomLaws.{short-words, short-slots, enough}
use Rattle.requirement.specs.Verified.{unroomed, over, on_success, call_words, marks, calls_after, recorded_after}
use Rattle.requirement.proofs.Required.{is-accepted, words_are}
use Rattle.requirement.specs.Answered.{Few}

-- ---- the temporaries counted in the calls are those that the builder numbered

temporaries_append : (cs ds : List Call) → temporaries (cs ++ ds) ≡ temporaries cs + temporaries ds
unfolding temporaries
temporaries_append [] ds = omega arith
temporaries_append (c.term t ∷ cs) ds = temporaries_append cs ds
temporaries_append (c.declare name w ∷ cs) ds = let h = temporaries_append cs ds in omega arith
temporaries_append (c.assert k ∷ cs) ds = temporaries_append cs ds
temporaries_append (c.check ∷ cs) ds = temporaries_append cs ds

emit-temp : {A : Type 0} (m : Prog A) (s : St) → (emit m s).st.temp ≡ s.temp + temporaries (emit m s).calls
unfolding emit temporaries
emit-temp (ret a) s = omega arith
emit-temp (op t f) s = emit-temp (f s.next) (at (suc s.next) s.temp s)
emit-temp {A} (declare a i y f) s = go (λ k s. emit-temp (f k) s) (get_or s.names (place a i y) 0) a
  where
    go : ((k : ℕ) (s : St) → (emit (f k) s).st.temp ≡ s.temp + temporaries (emit (f k) s).calls) →
        (o : ℕ) (b : Age)
        → (known {X = Out A} o (after (c.declare (net_name b i y) 1 ∷ []) (emit (f s.next) (learn a i y s)))
        (λ k. emit (f k) (reread a i s))).st.temp
        ≡ s.temp + temporaries
        (known {X = Out A} o (after (c.declare (net_name b i y) 1 ∷ []) (emit (f s.next) (learn a i y s)))
        (λ k. emit (f k) (reread a i s))).calls
    go rec zero curr = let h = rec s.next (learn a i y s) in omega arith
    go rec zero past = let h = rec s.next (learn a i y s) in omega arith
    go rec (suc k) b = rec k (reread a i s)
emit-temp (bind w t f) s = let h = emit-temp (f s.next) (at (suc (suc s.next)) (suc s.temp) s) in omega arith
emit-temp (bind2 w x y f) s =
    let h = emit-temp (f s.next (suc s.next)) (at (suc (suc (suc (suc s.next)))) (suc s.temp) s) in
    omega arith

work-temp : (steps : List Step) (s : St) → (work steps s).st.temp ≡ s.temp + temporaries (work steps s).calls
unfolding work temporaries
work-temp [] s = omega arith
work-temp (declared m ∷ rest) s =
    let h = emit-temp m s in
    let g = work-temp rest (emit m s).st in
    let e = temporaries_append (emit m s).calls (work rest (emit m s).st).calls in
    omega arith
work-temp (asserted m ∷ rest) s =
    let h = emit-temp m s in
    let g = work-temp rest (emit m s).st in
    let e = temporaries_append (emit m s).calls (c.assert (emit m s).res ∷ (work rest (emit m s).st).calls) in
    omega arith
work-temp (obliged m ∷ rest) s =
    let h = emit-temp m s in
    let g = work-temp rest (emit m s).st in
    let e = temporaries_append (emit m s).calls (work rest (emit m s).st).calls in
    omega arith

-- The query has none.
query-temporaries : (l : List ℕ) (s : St) → temporaries (asked_calls l s) ≡ 0
unfolding asked_calls query emit ◌>>=◌ temporaries
query-temporaries [] s = refl
query-temporaries (o ∷ l) s = refl

pub temporaries_are : (d : Design) → temporaries (verify d) ≡ (built d).st.temp
unfolding verify
temporaries_are d =
    let h = work-temp (steps d) (start (total d)) in
    let q = query-temporaries (built d).res (built d).st in
    let e = temporaries_append (built d).calls (asked_calls (built d).res (built d).st) in
    omega arith

pub refused_as_read : (mode : ℕ) (w : List ℕ) {e : Fault} → read_in mode w ≡ refused e → (room recorded : ℕ) →
    verified mode w room recorded ≡ Err e
unfolding verified
refused_as_read mode w is room recorded = ap (λ r. of_read r room recorded) is

pub unroomed-refused : (mode : ℕ) (w : List ℕ) {e : Fault} → read_in mode w ≡ refused e → unroomed mode w ≡ Err e
unfolding unroomed
unroomed-refused mode w is = ap of_read_unroomed is

pub unroomed-accepted : (mode : ℕ) (w : List ℕ) {d : Design} {reps pairs : ℕ} → read_in mode w ≡ accepted d reps pairs
    → unroomed mode w ≡ Ok (of_design d)
unfolding unroomed
unroomed-accepted mode w is = ap of_read_unroomed is

module _ (mode : ℕ) (w : List ℕ) {d : Design} {reps pairs : ℕ} (is : read_in mode w ≡ accepted d reps pairs)
    (room recorded : ℕ) where
  -- An accepted list is answered by its room.
  pub roomed_as : verified mode w room recorded ≡ roomed d room recorded
  unfolding verified
  roomed_as = ap (λ r. of_read r room recorded) is

  by_room : {r : Result (Unit {0}) ℕ} → r ≡ room_for (length (encode (verify d))) room (total d) recorded
      → verified mode w room recorded ≡ in_room r (of_design d)
  by_room found = roomed_as ∙ ap (λ (r : Result (Unit {0}) ℕ). in_room r (of_design d)) (sym found)

  -- With room, every accepted list is answered.
  pub answered : length (call_words mode w) ≤ room → total d ≤ recorded → verified mode w room recorded
      ≡ Ok (told (built d).res (counted (verify d)))
  answered calls marks =
      let words : length (encode (verify d)) ≤ room = rw (words_are mode w is) at calls in
      by_room (enough (length (encode (verify d))) room (total d) recorded words marks)

  -- What it is answered is what `unroomed` says.
  pub answered-unroomed : length (call_words mode w) ≤ room → total d ≤ recorded →
      verified mode w room recorded ≡ unroomed mode w
  answered-unroomed calls marks = answered calls marks ∙ sym (unroomed-accepted mode w is)

  -- Its counts are at most 2^27 each.
  pub few-counts : Few (counted (verify d))
  few-counts =
      let a = is-accepted mode w is in
      let temps = few-temporaries d a in
      let same = temporaries_are d in
      record { terms = few-terms d a; temporaries = omega arith; words = few_words d a }

  -- 14 at the room needed: the call slice first, then the recorded one.
  pub short_of_words : room < length (call_words mode w) → verified mode w room recorded
      ≡ Err (record { number = 14; place = length (call_words mode w) })
  short_of_words short =
      let few : room < length (encode (verify d)) = rw (words_are mode w is) at short in
      by_room (short-words (length (encode (verify d))) room (total d) recorded few) ∙ rw (words_are mode w is)

  pub short_of_marks : length (call_words mode w) ≤ room → recorded < total d
      → verified mode w room recorded ≡ Err (record { number = 14; place = total d })
  short_of_marks calls short =
      let words : length (encode (verify d)) ≤ room = rw (words_are mode w is) at calls in
      by_room (short-slots (length (encode (verify d))) room (total d) recorded words short)

  -- An obligation's term for each obligation.
  pub asked-obligations : length (built d).res ≡ length (obligations d)
  unfolding terms-asked.asked
  asked-obligations =
      subst (λ (l : List Step). length (work l (start (total d))).res ≡ length (obligations d)) (steps_are d)
      (asked-each d (is-accepted mode w is).laid)

  -- With room, nothing is asked exactly where there is no obligation.
  pub nothing-asked : length (call_words mode w) ≤ room → total d ≤ recorded
      → (verified mode w room recorded ≡ Ok (NothingAsked (counted (verify d)))) ↔ (obligations d ≡ [])
  nothing-asked calls marks = (
    λ e. none-asked (built d).res (obligations d) asked-obligations (answer-of (sym (answered calls marks) ∙ e)),
    λ e. answered calls marks ∙ ap Ok (none_told (built d).res (asked-obligations ∙ ap length e)),
  )
    where
      answer-of : {a b : Verified} → ◌≡◌ {A = Result Verified Fault} (Ok a) (Ok b) → a ≡ b
      answer-of e = cc

      none-asked : {A : Type 0} (terms : List ℕ) (l : List A) → length terms ≡ length l
          → told terms (counted (verify d)) ≡ NothingAsked (counted (verify d)) → l ≡ []
      none-asked [] [] q e = refl
      none-asked [] (o ∷ l) q e = absurd (omega arith)
      none-asked (k ∷ terms) l q e = absurd (let z : ◌≡◌ {A = ℕ} 0 1 = cc in omega arith)

      none_told : (terms : List ℕ) → length terms ≡ 0 → told terms (counted (verify d))
          ≡ NothingAsked (counted (verify d))
      none_told [] q = refl
      none_told (k ∷ terms) q = absurd (omega arith)

-- ---- the lent slices

told_writes : (l : List ℕ) (n : Counts) (new old : List ℕ) → on_success (Ok (told l n)) new old ≡ over new old
told_writes [] n new old = refl
told_writes (o ∷ l) n new old = refl

module _ (mode : ℕ) (w calls recorded : List ℕ) where
  -- A refusal leaves both as they were.
  pub untouched : {e : Fault} → verified mode w (length calls) (length recorded) ≡ Err e
      → (calls_after mode w calls recorded ≡ calls) × (recorded_after mode w calls recorded ≡ recorded)
  unfolding calls_after recorded_after
  untouched e = (ap (λ v. on_success v (call_words mode w) calls) e, ap (λ v. on_success v (marks mode w) recorded) e)

  -- With room, the call words and the marks are written, and nothing past them.
  pub slices_after : {d : Design} {reps pairs : ℕ} → read_in mode w ≡ accepted d reps pairs →
      length (call_words mode w) ≤ length calls
      → total d ≤ length recorded
      → (calls_after mode w calls recorded ≡ over (call_words mode w) calls)
      × (recorded_after mode w calls recorded ≡ over (marks mode w) recorded)
  unfolding calls_after recorded_after
  slices_after {d} is room more =
      let e = answered mode w is (length calls) (length recorded) room more in (
        ap (λ v. on_success v (call_words mode w) calls) e
            ∙ told_writes (built d).res (counted (verify d)) (call_words mode w) calls,
        ap (λ v. on_success v (marks mode w) recorded) e
            ∙ told_writes (built d).res (counted (verify d)) (marks mode w) recorded,
      )
