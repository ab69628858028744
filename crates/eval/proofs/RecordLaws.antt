-- The evaluator, record by record: how far a well-formed list is evaluated.
use mathlib.Core.Path.{◌≡◌, refl, sym, ap, ◌∙◌, subst}
use mathlib.Core.Bool.{true, cond}
use mathlib.Core.List.{List, [], ◌∷◌, map}
use Rattle.std.specs.Prelude.{None}
use Prim.Native.Nat.{ℕ, zero, suc, ◌+◌, ◌-◌, ◌^◌, ◌≤◌, ◌<◌}
use native.Mathlib.Nat.{add-zero}
use native.Mathlib.Numerals.{add-one}
use native.Mathlib.Omega.{arith}
use lib.ListN.{length, get_or, set, drop}
use lib.Seq.{get_or-drop}
use borrow.Author.Tests.{lt-ltb}
use Rattle.bitvec.specs.Bits.{Bits, bit, bv2nat}
use Rattle.engine.specs.Call.{Call}
use Rattle.engine.specs.Call as c
use Rattle.engine.specs.Meaning.{Assignment, value_at, run}
use Rattle.engine.specs.Sorts.{Sort, sort_at, Context, start, after}
use Rattle.engine.specs.Encode.{Op, makes_term, operation_at, count_at, bare, next_at, call_of, call_at, calls_from, decode}
use Rattle.engine.specs.Encode as o
use Rattle.engine.specs.WellFormed.{well_formed, read_from, outcome}
use Rattle.engine.specs.Emit.{overwrite}
use Rattle.engine.proofs.ReadBack.{decode-formed}
use Rattle.engine.proofs.SortLaws.{Sorted, run_sorted}
use Rattle.engine.proofs.Steps.{calls-end, calls-step}
use Rattle.engine.proofs.ReachedLaws.{right-read}
use Rattle.call_list.specs.Operations.{is_declare}
use Rattle.call_list.specs.Literal.{payloads}
use Rattle.engine.specs.Reached.{Tabled}
use Rattle.term_table.specs.Near.{sort_near, note_recent}
use Rattle.term_table.specs.Sorted.{ReadTo}
use Rattle.term_table.proofs.SortedLaws.{read-start, read_next, terms-next, tabled-before, sorts-few}
use Rattle.term_places.specs.Places.{Spaced}
use Rattle.term_table.proofs.NearLaws.{Recent, recent_start, ring_more, near_is}
use Rattle.call_list.proofs.CursorsLaws.{nothing_read, cursor_next, bit-low}
use Rattle.call_list.specs.declared.Cursor.{Cursor}
use Rattle.term_values.specs.Values.{value_number, value_by}
use Rattle.eval.specs.Evaluated.{assigned, false_assertions, term_values}
use Rattle.eval.proofs.AssignedLaws.{first, rest, assigned_gives, assigned-fits}
use Rattle.eval.proofs.Evaluating.{Evaluating, evaluating_start, evaluating_term, evaluating_declare}
use Rattle.eval.proofs.Evaluating.{evaluating_assert, evaluating_check, evaluating_end}
use Rattle.term_values.specs.Records.{number_in, sort_below, literal_value}
use Rattle.term_values.proofs.RecordsLaws.{literal_value_lem}
use Rattle.bits_given.specs.Given.{bits_fault, wrong_bits}
use Rattle.bits_given.proofs.GivenLaws.{name_of, fault-step, no_fault, bits-low}
use Rattle.record_values.specs.Records.{false_of, values_next}
use Rattle.record_values.proofs.RecordsLaws.{false_by, false-low}
use Rattle.eval.specs.Evaluable.{Evaluable}

-- ---- bits

pub first-drop : (l : List ℕ) (d : ℕ) → first (drop d l) ≡ get_or l d 0
first-drop l d = get_or-drop d l 0 0 ∙ ap (λ (k : ℕ). get_or l k 0) (add-zero d)

pub rest_drop : (l : List ℕ) (d : ℕ) → rest (drop d l) ≡ drop (suc d) l
rest_drop [] zero = refl
rest_drop [] (suc d) = refl
rest_drop (x ∷ l) zero = refl
rest_drop (x ∷ l) (suc d) = rest_drop l d

-- ---- numbers and counts

module _ {cs : List Call} {ρ : Assignment} {slice₀ slice : List ℕ} {terms falses : ℕ} {todo : List Call} {x : Context}
    (bits : List ℕ) (declared : ℕ) (s : ℕ → Sort) (literal : Bits → ℕ)
    (room : length (run ρ [] cs) ≤ length slice₀)
    (agrees : (k : ℕ) → k < length x.sorts → s k ≡ sort_at x.sorts k) where
  -- A call, by its operation and payloads: its number is written, if it makes a term, and counted, if it is a false
  -- assertion.
  evaluating_op : (op : Op) (m : ℕ) (p : ℕ → ℕ)
      → ((b : Bits) → call_of op m p ≡ c.term (c.lit b) → literal b ≡ bv2nat b)
      → Evaluating cs ρ slice₀ slice (drop declared bits) (call_of op m p ∷ todo) terms falses x
      → (is_declare op ≡ true → first (drop declared bits) < 2 ^ p 3)
      → Evaluating cs ρ slice₀
      (cond (makes_term op)
      (set slice terms (value_by s (number_in slice) literal (first (drop declared bits)) (call_of op m p))) slice)
      (drop (declared + bit (is_declare op)) bits) todo (terms + bit (makes_term op))
      (falses + false_of op (number_in slice (p 0)))
      (after x (call_of op m p))
  evaluating_op (o.term op) m p told e low =
      rw (add-zero declared, add-zero falses)
      (evaluating_term _ s literal (first (drop declared bits)) e room agrees (λ b q. told b (ap c.term q)))
  evaluating_op o.declare m p told e low =
      rw (add-one declared, add-zero falses, ← rest_drop bits declared)
      (evaluating_declare (name_of p) (p 3) e (low refl))
  evaluating_op o.assert m p told e low = rw (add-zero declared, add-zero terms) (evaluating_assert (p 0) e room)
  evaluating_op o.check m p told e low = rw (add-zero declared, add-zero terms, add-zero falses) (evaluating_check e)
  evaluating_op o.unknown m p told e low = rw (add-zero declared, add-zero terms, add-zero falses) (evaluating_check e)

-- How far a well-formed list is evaluated, between two records.
pub record EvaluatedTo (gap : ℕ) (w bits slice₀ table places slice recent : List ℕ) (done : Cursor) (falses : ℕ) : Type
    0 where
  pub leaving : Context
  pub context : Context
  pub fuel : ℕ
  pub evaluating :
      Evaluating (decode w) (assigned (decode w) bits) slice₀ slice (drop done.declared bits)
      (calls_from fuel w done.at)
      done.terms falses context
  pub read : ReadTo w done.at context table done.terms
  pub tabled : Tabled table leaving.sorts
  pub spaced : Spaced w places gap (length leaving.sorts)
  pub ring : Recent (length table) recent context.sorts
  pub enough : length w - done.at ≤ fuel
  pub rest : read_from fuel w done.at context ≡ well_formed leaving
  pub fits : bits_fault done.terms (calls_from fuel w done.at) (drop done.declared bits) ≡ None
  pub few-terms : done.terms ≤ done.at
  pub few-names : done.declared ≤ done.at
  pub few_falses : falses ≤ done.at
  pub room : length (term_values w bits) ≤ length slice₀

module _ {gap : ℕ} {w bits slice₀ table places slice recent : List ℕ} {done : Cursor} {falses : ℕ}
    (k : EvaluatedTo gap w bits slice₀ table places slice recent done falses) where
  abbrev operation : Op
  operation = operation_at w done.at

  -- The sorts of the terms so far, from the tables.
  abbrev sort : ℕ → Sort
  sort = sort_near table recent places gap w done.terms

  says : (j : ℕ) → j < length k.context.sorts → sort j ≡ sort_at k.context.sorts j
  says =
      near_is k.read recent places gap (length k.leaving.sorts) k.ring k.spaced
      (let few = sorts-few k.fuel w done.at k.context k.leaving k.rest in let c = k.read.counts in
      omega arith)

  -- One record more.
  pub evaluated_next : done.at < length w
      → EvaluatedTo gap w bits slice₀ table places
      (values_next sort slice w done.terms (get_or bits done.declared 0) done.at)
      (note_recent sort table recent w done.at done.terms)
      (cursor_next w done) (falses + false_by slice w done.at)
  evaluated_next inside = go k.fuel k.enough k.evaluating k.rest k.fits
    where
      go : (fuel : ℕ) → length w - done.at ≤ fuel
          → Evaluating (decode w) (assigned (decode w) bits) slice₀ slice (drop done.declared bits)
          (calls_from fuel w done.at)
          done.terms falses k.context
          → read_from fuel w done.at k.context ≡ well_formed k.leaving
          → bits_fault done.terms (calls_from fuel w done.at) (drop done.declared bits) ≡ None
          → EvaluatedTo gap w bits slice₀ table places
          (values_next sort slice w done.terms (get_or bits done.declared 0) done.at)
          (note_recent sort table recent w done.at done.terms)
          (cursor_next w done) (falses + false_by slice w done.at)
      go zero enough e rest fits = absurd (omega arith)
      go (suc n) enough e rest fits =
          let right = right-read n w done.at k.context k.leaving inside rest in
          let clear =
          no_fault (wrong_bits w bits done.declared done.at) done.terms _
          (sym (fault-step w bits done.at done.terms done.declared inside n) ∙ fits) in
          let given = first-drop bits done.declared in
          let next =
          evaluating_op bits done.declared (sort_below sort done.terms) (λ b. literal_value w done.at) k.room
          (λ j h. rw (lt-ltb j done.terms (let c = k.read.counts in omega arith)) (says j h))
          operation (count_at w done.at) (payloads w done.at)
          (literal_value_lem w done.at k.context right.0) (rw (calls-step n w done.at inside) at e)
          (λ d. rw given (bits-low bits done.declared (payloads w done.at 3) (rw d at clear.0))) in
          record {
            leaving = k.leaving;
            context = after k.context (call_at w done.at);
            fuel = n;
            evaluating = rw (← given) next;
            read =
                read_next k.read right.0 table _
                (tabled-before n table w (next_at bare w done.at) (after k.context (call_at w done.at))
                k.leaving
                right.1 k.tabled)
                (terms-next k.read right.0);
            tabled = k.tabled;
            spaced = k.spaced;
            ring = ring_more k.read right.0 sort says recent k.ring;
            enough = omega arith;
            rest = right.1;
            fits = clear.1;
            few-terms = omega (arith, k.few-terms, bit-low (makes_term operation));
            few-names = omega (arith, k.few-names, bit-low (is_declare operation));
            few_falses = omega (arith, k.few_falses, false-low operation (number_in slice (payloads w done.at 0)));
            room = k.room;
          }

-- The values of a well-formed list are of the sorts of its terms.
pub values_sorted : (w bits : List ℕ) (y : Context) → outcome w ≡ well_formed y → Sorted y.sorts (term_values w bits)
values_sorted w bits y e =
    let all = decode-formed w y e in
    subst (λ (x : Context). Sorted x.sorts (term_values w bits)) all.left
    (run_sorted (assigned (decode w) bits) start [] (decode w) all.formed
    (assigned-fits start (decode w) all.formed bits)
    (record { many = refl; each = λ k h. absurd (omega arith) }))

pub evaluated_start : {gap : ℕ} {w bits slice table places : List ℕ} (recent : List ℕ) →
    Evaluable gap w bits slice table places
    → EvaluatedTo gap w bits slice table places slice recent nothing_read 0
evaluated_start {gap} {w} {bits} {slice} {table} {places} recent k =
    let formed = (decode-formed w k.leaving k.formed).formed in
    record {
      leaving = k.leaving;
      context = start;
      fuel = length w;
      evaluating =
          evaluating_start (decode w) (assigned (decode w) bits) slice bits formed
          (assigned_gives start (decode w) formed bits);
      read = read-start w table;
      tabled = k.tabled;
      spaced = k.spaced;
      ring = recent_start (length table) recent;
      enough = omega arith;
      rest = k.formed;
      fits = k.fits;
      few-terms = omega arith;
      few-names = omega arith;
      few_falses = omega arith;
      room = let many = (values_sorted w bits k.leaving k.formed).many in let room = k.room in omega arith;
    }

-- At the end every term's number is written and every false assertion counted.
pub evaluated_end : {gap : ℕ} {w bits slice₀ table places slice recent : List ℕ} {done : Cursor} {falses : ℕ}
    → EvaluatedTo gap w bits slice₀ table places slice recent done falses → length w ≤ done.at
    → (slice ≡ overwrite slice₀ 0 (map value_number (term_values w bits)))
    × (falses ≡ false_assertions (value_at (term_values w bits)) (decode w))
evaluated_end {gap} {w} {bits} {slice₀} {table} {places} {slice} {recent} {done} {falses} k past =
    evaluating_end (decode w) (assigned (decode w) bits) slice₀ slice (drop done.declared bits) done.terms falses
    k.context (rw (calls-end k.fuel w done.at past) at k.evaluating)
