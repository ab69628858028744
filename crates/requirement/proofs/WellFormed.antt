-- The calls of an accepted list are well formed: never fault 19. Each argument is an earlier term of its sort, each
-- name is declared once, every number fits a word, and nothing follows check.
use mathlib.Core.Path.{◌≡◌, refl, sym, ap, ◌∙◌, subst}
use mathlib.Core.Bool.{Bool, true, false, cond}
use mathlib.Core.List.Memᴰ
use mathlib.Core.List.{List, [], ◌∷◌, ◌++◌, append_assoc}
use Prim.Native.Nat.{ℕ, zero, suc, ◌+◌, ◌*◌, ◌≤◌, ◌<◌}
use native.Mathlib.Omega.{arith}
use lib.Dec.{eqb}
use lib.ListN.{length, get_or, length-append, length-replicate, get_or-eq_default}
use Rattle.cell.specs.declared.Mode.{Mode}
use Rattle.cell.specs.declared.Mode.TheVariants.{Ported, Inductive}
use Rattle.cell.specs.Cell.{output_len}
use Rattle.cell.specs.Design.{Design, Placed, NetPair, total}
use Rattle.cell.specs.Each.{Each}
use Rattle.engine.specs.Call.{Call}
use Rattle.engine.specs.Call as c
use Rattle.engine.specs.Meaning.{Value, bool, terms, All}
use Rattle.engine.specs.Sorts.{Sort, Formed, payload_limit, count_limit}
use Rattle.engine.specs.Sorts as sorts
use Rattle.engine.specs.Encode.{record_of, encode, decode}
use Rattle.engine.specs.WellFormed.{outcome, well_formed}
use Rattle.engine.proofs.Written.{decode-encode}
use Rattle.engine.proofs.Accepted.{encode-formed}
use Rattle.working_out.specs.Reading.{Pair, equal, of_void, of_dffs, ordinary, pair_of}
use Rattle.working_out.specs.Obligations as obligation
use Rattle.working_out.specs.Obligations.{obligations, cell_obligations, net_obligations, of_pair}
use Rattle.bound.specs.Costs.{sum_by}
use Rattle.bound.specs.Words.{record_words, design_words}
use Rattle.smt.specs.Prog.{Prog, ret, op, declare, bind, bind2}
use Rattle.smt.specs.Emit.{St, Out, emit, place, net_name, at, learn, reread, after, known}
use Rattle.smt.specs.Formula.{NetBits}
use Rattle.soundness.proofs.Safe.{safe, Truth}
use Rattle.soundness.proofs.Solve.{Extends, extends_refl, Temp, no_temp, exec, WellSorted, Here, σ, sort_of_value}
use Rattle.soundness.proofs.Solve.{assigned-net}
use Rattle.soundness.proofs.Formed.{NewNames, formed, Declared, temps_grow, Then, KnownSorts, emit-new}
use Rattle.requirement.proofs.Accepted.{Accepted}
use Rattle.order.specs.Verify.{Step, declared, asserted, obliged, work, start, built, verify}
use Rattle.order.specs.Meant.{Meant, meant_steps}
use Rattle.order.proofs.MeantLaws.{steps_of}
use Rattle.order.proofs.StepsMean.{steps_are}
use Rattle.order.proofs.Numbered.{terms_append, work-next}
use Rattle.requirement.proofs.WorkMeets.{StepSafe, Safe, exec_work, WorkMet, work_meets, met_by}
use Rattle.requirement.proofs.StepsSafe.{steps_safe}
use Rattle.requirement.proofs.Exists.{but, asked, whole, L, TS, here, met}
use Rattle.requirement.proofs.Bound.{verify-words}
use Rattle.requirement.proofs.Theorem.{verify-is, asked-each}
use Rattle.requirement.specs.Requirement3.{query_calls}

-- ---- counts

-- No more temporaries than terms.
temps_terms : {A : Type 0} (m : Prog A) (s : St) → (emit m s).st.temp + s.next ≤ s.temp + (emit m s).st.next
unfolding emit
temps_terms (ret a) s = omega arith
temps_terms (op t f) s = let h = temps_terms (f s.next) (at (suc s.next) s.temp s) in omega arith
temps_terms {A} (declare a i y f) s = go (λ k s. temps_terms (f k) s) (get_or s.names (place a i y) 0)
  where
    go : ((k : ℕ) (s : St) → (emit (f k) s).st.temp + s.next ≤ s.temp + (emit (f k) s).st.next) → (o : ℕ)
        → (known {X = Out A} o (after (c.declare (net_name a i y) 1 ∷ []) (emit (f s.next) (learn a i y s)))
        (λ k. emit (f k) (reread a i s))).st.temp + s.next
        ≤ s.temp
        + (known {X = Out A} o (after (c.declare (net_name a i y) 1 ∷ []) (emit (f s.next) (learn a i y s)))
        (λ k. emit (f k) (reread a i s))).st.next
    go rec zero = let h = rec s.next (learn a i y s) in omega arith
    go rec (suc k) = rec k (reread a i s)
temps_terms (bind w t f) s = let h = temps_terms (f s.next) (at (suc (suc s.next)) (suc s.temp) s) in
    omega arith
temps_terms (bind2 w x y f) s =
    let h = temps_terms (f s.next (suc s.next)) (at (suc (suc (suc (suc s.next)))) (suc s.temp) s) in
    omega arith

work_temps : (steps : List Step) (s : St) → (work steps s).st.temp + s.next ≤ s.temp + (work steps s).st.next
unfolding work
work_temps [] s = omega arith
work_temps (declared m ∷ rest) s = let h = temps_terms m s in let g = work_temps rest (emit m s).st in omega arith
work_temps (asserted m ∷ rest) s = let h = temps_terms m s in let g = work_temps rest (emit m s).st in omega arith
work_temps (obliged m ∷ rest) s = let h = temps_terms m s in let g = work_temps rest (emit m s).st in omega arith

work_grow : (steps : List Step) (s : St) → s.temp ≤ (work steps s).st.temp
unfolding work
work_grow [] s = omega arith
work_grow (declared m ∷ rest) s = let h = temps_grow 0 m s in let g = work_grow rest (emit m s).st in omega arith
work_grow (asserted m ∷ rest) s = let h = temps_grow 0 m s in let g = work_grow rest (emit m s).st in omega arith
work_grow (obliged m ∷ rest) s = let h = temps_grow 0 m s in let g = work_grow rest (emit m s).st in omega arith

-- A term is a word at least.
terms-words : (cs : List Call) → terms cs ≤ length (encode cs)
unfolding terms encode
terms-words [] = omega arith
terms-words (c.term t ∷ cs) = let h = terms-words cs in
    rw (length-append (record_of (c.term t)) (encode cs)) (omega arith)
terms-words (c.declare name w ∷ cs) = let h = terms-words cs in omega arith
terms-words (c.assert k ∷ cs) = let h = terms-words cs in omega arith
terms-words (c.check ∷ cs) = let h = terms-words cs in omega arith

-- ---- names declared once

module _ (slots : ℕ) (b : NetBits) (Ls : List Value) (Ts : List Temp) (few-slots : slots ≤ payload_limit) where
  abbrev srt : ℕ → Sort
  srt = σ slots b Ls Ts

  known-sorts : (s : St) (l : List Value) (ts : List Temp) → Here slots b Ls Ts s l ts → KnownSorts slots srt s
  known-sorts s l ts h a i g k e =
      let n = h.names a i g k e in
      (ap sort_of_value n.0 ∙ ap length (assigned-net b Ts a i g), n.1)

  work-new : (ms : List Meant) (s : St) (l : List Value) (ts : List Temp) → Each (Safe slots) ms →
      Here slots b Ls Ts s l ts
      → Extends (bool false) (exec_work b (steps_of ms) s l ts).values Ls →
      Extends no_temp (exec_work b (steps_of ms) s l ts).temps Ts
      → (work (steps_of ms) s).st.temp ≤ payload_limit → (rest : List Call) →
      WellSorted srt (work (steps_of ms) s).st.next rest
      → Then slots (work (steps_of ms) s).st rest → Then slots s ((work (steps_of ms) s).calls ++ rest)
  unfolding work exec_work
  work-new [] s l ts fits h x y few rest sorted then names d = then names d
  work-new (m ∷ ms) s l ts fits h x y few rest sorted then names d =
      go (λ s' l' ts' h' x' y'. work_meets slots b Ls Ts ms s' l' ts' fits.1 h' x' y')
      (λ s' l' ts'. work-new ms s' l' ts' fits.1) m.step
      (fits.0.fits srt s.next) x y few sorted then
    where
      go : ((s' : St) (l' : List Value) (ts' : List Temp) → Here slots b Ls Ts s' l' ts'
          → Extends (bool false) (exec_work b (steps_of ms) s' l' ts').values Ls →
          Extends no_temp (exec_work b (steps_of ms) s' l' ts').temps Ts
          → WorkMet slots b Ls Ts ms s' (exec_work b (steps_of ms) s' l' ts'))
          → ((s' : St) (l' : List Value) (ts' : List Temp) → Here slots b Ls Ts s' l' ts'
          → Extends (bool false) (exec_work b (steps_of ms) s' l' ts').values Ls →
          Extends no_temp (exec_work b (steps_of ms) s' l' ts').temps Ts
          → (work (steps_of ms) s').st.temp ≤ payload_limit → (rest : List Call) →
          WellSorted srt (work (steps_of ms) s').st.next rest
          → Then slots (work (steps_of ms) s').st rest → Then slots s' ((work (steps_of ms) s').calls ++ rest))
          → (p : Step) → StepSafe slots srt s.next p
          → Extends (bool false) (exec_work b (p ∷ steps_of ms) s l ts).values Ls →
          Extends no_temp (exec_work b (p ∷ steps_of ms) s l ts).temps Ts
          → (work (p ∷ steps_of ms) s).st.temp ≤ payload_limit →
          WellSorted srt (work (p ∷ steps_of ms) s).st.next rest
          → Then slots (work (p ∷ steps_of ms) s).st rest → NewNames names ((work (p ∷ steps_of ms) s).calls ++ rest)
      go meets new (declared q) safe x y few sorted then =
          let met = met_by slots b Ls Ts q s l ts (steps_of ms) _ h x y safe in
          let s₁ = (emit q s).st in
          let l₁ = (exec b q s l ts).values in
          let ts₁ = (exec b q s l ts).temps in
          let w = meets s₁ l₁ ts₁ met.here x y in
          let grown = work_grow (steps_of ms) s₁ in
          rw append_assoc
          (emit-new slots srt q s _ names _ few-slots (omega arith) safe (known-sorts s l ts h)
          (met.sorted _ (w.sorted rest sorted)) d
          (new s₁ l₁ ts₁ met.here x y few rest sorted then))
      go meets new (asserted q) safe x y few sorted then =
          let met = met_by slots b Ls Ts q s l ts (steps_of ms) _ h x y safe in
          let s₁ = (emit q s).st in
          let l₁ = (exec b q s l ts).values in
          let ts₁ = (exec b q s l ts).temps in
          let w = meets s₁ l₁ ts₁ met.here x y in
          let grown = work_grow (steps_of ms) s₁ in
          rw append_assoc
          (emit-new slots srt q s _ names _ few-slots (omega arith) safe (known-sorts s l ts h)
          (met.sorted _ (met.post, w.sorted rest sorted)) d
          (new s₁ l₁ ts₁ met.here x y few rest sorted then))
      go meets new (obliged q) safe x y few sorted then =
          let met = met_by slots b Ls Ts q s l ts (steps_of ms) _ h x y safe in
          let s₁ = (emit q s).st in
          let l₁ = (exec b q s l ts).values in
          let ts₁ = (exec b q s l ts).temps in
          let w = meets s₁ l₁ ts₁ met.here x y in
          let grown = work_grow (steps_of ms) s₁ in
          rw append_assoc
          (emit-new slots srt q s _ names _ few-slots (omega arith) safe (known-sorts s l ts h)
          (met.sorted _ (w.sorted rest sorted)) d
          (new s₁ l₁ ts₁ met.here x y few rest sorted then))

-- ---- the whole list

-- A word at least for each replacement, and two for each pair.
reps_words : (reps : List Placed) → length reps ≤ sum_by (λ (p : Placed). 1 + record_words p.cell) reps
unfolding sum_by
reps_words [] = omega arith
reps_words (r ∷ reps) = let h = reps_words reps in omega arith

cell-obligations : (reps : List Placed) → length (cell_obligations reps) ≤ length reps
unfolding cell_obligations
cell-obligations [] = omega arith
cell-obligations (r ∷ reps) = go (eqb (output_len r.cell) 0) (cell-obligations reps)
  where
    go : (z : Bool) → length (cell_obligations reps) ≤ length reps →
        length (cond z [] (obligation.cell r ∷ []) ++ cell_obligations reps) ≤ suc (length reps)
    go true h = omega arith
    go false h = omega arith

pair-obligations : (mode : Mode) (k : Pair) (p : NetPair) → length (of_pair mode k p) ≤ 2
pair-obligations mode equal p = omega arith
pair-obligations mode of_void p = omega arith
pair-obligations Ported of_dffs p = omega arith
pair-obligations Inductive of_dffs p = omega arith
pair-obligations mode ordinary p = omega arith

net-obligations : (d : Design) (pairs : List NetPair) → length (net_obligations d pairs) ≤ 2 * length pairs
unfolding net_obligations
net-obligations d [] = omega arith
net-obligations d (p ∷ pairs) =
    let here = pair-obligations d.mode (pair_of d p) p in
    let rest = net-obligations d pairs in
    rw (length-append (of_pair d.mode (pair_of d p) p) (net_obligations d pairs)) (omega arith)

pub few-obligations : (d : Design) → length (obligations d) ≤ design_words d
few-obligations d =
    let cells = cell-obligations d.cell_reps in
    let reps = reps_words d.cell_reps in
    let pairs = net-obligations d d.net_reps in
    rw (length-append (cell_obligations d.cell_reps) (net_obligations d d.net_reps)) (omega arith)

module _ (d : Design) (a : Accepted d) where
  none : NetBits
  none x i h = false

  abbrev srt₀ : ℕ → Sort
  srt₀ = σ (total d) none (L d a.laid a.bounds none) (TS d a.laid a.bounds none)

  done : WorkMet (total d) none (L d a.laid a.bounds none) (TS d a.laid a.bounds none) (meant_steps d)
      (start (total d)) (whole d a.laid a.bounds none)
  done = met d a.laid a.bounds none

  -- A term after the last has no value yet: as a Bool it is false.
  later_bool : (k : ℕ) → (work (steps_of (meant_steps d)) (start (total d))).st.next ≤ k → srt₀ k ≡ 0
  later_bool k l =
      ap sort_of_value
      (get_or-eq_default (L d a.laid a.bounds none) (bool false)
      (let e = done.here.terms in omega arith))

  query_sorted : (l : List ℕ) → All (Truth (work (steps_of (meant_steps d)) (start (total d))).st.next srt₀) l →
      length l < count_limit
      → WellSorted srt₀ (work (steps_of (meant_steps d)) (start (total d))).st.next
      (query_calls (work (steps_of (meant_steps d)) (start (total d))).st.next l)
  query_sorted [] t few = tt
  query_sorted (o ∷ l) t few =
      let n = (work (steps_of (meant_steps d)) (start (total d))).st.next in
      let zero-n = later_bool n (omega arith) in
      let zero-next = later_bool (suc n) (omega arith) in
      ((omega arith, few, t), zero-n, ((omega arith, zero-n), zero-next, ((omega arith, zero-next), tt)))

  query-new : (n : ℕ) (l : List ℕ) (s : St) → Then (total d) s (query_calls n l)
  query-new n [] s names h = tt
  query-new n (o ∷ l) s names h = refl

  none-declared : Declared (total d) [] (start (total d))
  none-declared = record {
    size = length-replicate {A = ℕ} (4 * total d) 0;
    nets = λ b i h m. absurd (Memᴰ.not-nil m);
    temps = λ j u m. absurd (Memᴰ.not-nil m);
  }

  -- As few words, terms and temporaries as a word can number.
  pub few_words : length (encode (verify d)) ≤ 134217728
  few_words = let h = verify-words d a.laid a.bounds in let w = a.words in omega arith

  pub few-terms : terms (verify d) ≤ 134217728
  few-terms = let h = terms-words (verify d) in let w = few_words in omega arith

  next-is : (work (steps_of (meant_steps d)) (start (total d))).st.next ≡ terms (but d)
  unfolding but
  next-is = let e = work-next (steps_of (meant_steps d)) (start (total d)) in omega arith

  few_temps : (work (steps_of (meant_steps d)) (start (total d))).st.temp ≤ 134217728
  few_temps =
      let t = work_temps (steps_of (meant_steps d)) (start (total d)) in
      let n = next-is in
      let e = ap terms (verify-is d) ∙ terms_append (but d) (query_calls (terms (but d)) (asked d)) in
      let f = few-terms in
      omega arith

  pub few-temporaries : (built d).st.temp ≤ 134217728
  few-temporaries =
      subst (λ (l : List Step). (work l (start (total d))).st.temp ≤ 134217728) (steps_are d) few_temps

  few-asked : length (asked d) < count_limit
  few-asked = let e = asked-each d a.laid in let f = few-obligations d in let w = a.words in omega arith

  query-fits : WellSorted srt₀ (work (steps_of (meant_steps d)) (start (total d))).st.next
      (query_calls (terms (but d)) (asked d))
  unfolding asked
  query-fits =
      subst (λ (n : ℕ). WellSorted srt₀ (work (steps_of (meant_steps d)) (start (total d))).st.next
      (query_calls n (asked d))) next-is
      (query_sorted (asked d) done.obligations few-asked)

  pub verify-formed : Formed sorts.start (verify d)
  unfolding but
  verify-formed =
      subst (Formed sorts.start) (sym (verify-is d))
      (formed srt₀ 0 sorts.start (but d ++ query_calls (terms (but d)) (asked d)) refl
      (record { many = refl; each = λ k l. absurd (omega arith) })
      (done.sorted _ query-fits)
      (work-new (total d) none (L d a.laid a.bounds none) (TS d a.laid a.bounds none)
      (let l = a.slots in omega arith) (meant_steps d)
      (start (total d)) [] [] (steps_safe d a.laid a.bounds) (here d a.laid a.bounds none _ _)
      (extends_refl (bool false) _) (extends_refl no_temp _) (let f = few_temps in omega arith) _ query-fits
      (query-new (terms (but d)) (asked d) _) [] none-declared)
      (let e = ap terms (verify-is d) in let f = few-terms in omega arith))

  -- Never fault 19, and the words read back as the calls.
  pub verify_well_formed : outcome (encode (verify d)) ≡ well_formed (sorts.leaves sorts.start (verify d))
  verify_well_formed = encode-formed (verify d) verify-formed

  pub verify_decoded : decode (encode (verify d)) ≡ verify d
  verify_decoded = decode-encode (verify d) verify-formed
