-- Laws of the definitions of Walk.
use mathlib.Core.Path.{◌≡◌, refl, sym, ap, ◌∙◌, subst, fun_ext}
use mathlib.Core.Bool.{Bool, true, false, cond}
use mathlib.Core.List.{List, [], ◌∷◌, ◌++◌, append-nil}
use Prim.Native.Nat.{ℕ, suc, ◌+◌, ◌-◌, ◌<◌, ◌≤◌}
use native.Mathlib.Nat.{sub-zero}
use native.Mathlib.Numerals.{add-one}
use native.Mathlib.Omega.{arith}
use lib.ListN.{length, get_or, length-append, get_or-append}
use lib.Dec.{ltb}
use borrow.Author.Tests.{ltb-true, ltb-false}
use Rattle.engine.specs.Call.{Call}
use Rattle.engine.specs.Call as c
use Rattle.engine.specs.Sorts.{Sort, sort_at, Context, start, after, Allowed, leaves}
use Rattle.engine.specs.Encode.{Op, makes_term, operation_at, count_at, bare, next_at, call_at, calls_from, decode}
use Rattle.engine.specs.Encode as o
use Rattle.engine.specs.WellFormed.{well_formed, read_from, outcome}
use Rattle.engine.proofs.Steps.{calls-end}
use Rattle.engine.proofs.ReadBack.{stands, reads_at}
use Rattle.engine.specs.Structure.{origin_of, sort_from, place_of_term}
use Rattle.engine.proofs.StructureLaws.{Below}
use Rattle.engine.specs.Reached.{Right}
use Rattle.engine.proofs.ReachedLaws.{right-read, said}
use Rattle.term_places.specs.Places.{place_near}
use Rattle.term_places.proofs.PlacesLaws.{place_near_lem}
use Rattle.term_table.specs.Near.{sort_near, record_by, note_recent}
use Rattle.term_table.specs.Sorted.{ReadTo}
use Rattle.term_table.proofs.SortedLaws.{read-start, read_next, terms-next, tabled-before, sorts-kept, sorts-few}
use Rattle.term_table.proofs.NearLaws.{near_is, record_said, Recent, recent_start, ring_more}
use Rattle.call_list.specs.Made.{made}
use Rattle.call_list.proofs.MadeLaws.{made_append, made-past, makes_operation}
use Rattle.call_list.specs.Made.{sorts_of, sort_of_call}
use Rattle.call_list.proofs.MadeLaws.{sort-here, leaves_append}
use Rattle.call_list.specs.Records.{first_calls}
use Rattle.call_list.proofs.RecordsLaws.{Reached, reached_start, reached_next}
use Rattle.call_list.proofs.RecordsLaws.{first_more, split, made-place}
use Rattle.call_list.specs.Operations.{is_declare}
use Rattle.call_list.specs.declared.Cursor.{Cursor}
use Rattle.call_list.proofs.CursorsLaws.{nothing_read, cursor_next, bit-low}
use Rattle.pieces.specs.Shape.{line_of, body_of}
use Rattle.pieces.specs.declared.Line.TheVariants.{Define}
use Rattle.pieces.specs.declared.Body.TheVariants.{Literal}
use Rattle.call_list.specs.Literal.{payloads}
use Rattle.call_list.proofs.LiteralLaws.{literal_fits}
use Rattle.pieces.specs.Text.{numbered, spelled_as, reference}
use Rattle.pieces.specs.Arguments.{reference_by}
use Rattle.lines.specs.Record.{Ready, sort_by, Writable}
use Rattle.lines.specs.Line.{line}
use Rattle.script.specs.Text.{lines}
use Rattle.script.specs.Walk.{HasTables}
use Rattle.script.proofs.TextLaws.{lines_more}

-- What an allowed call says of the sort of its term is that sort.
said_sort : (x : Context) (call : Call) → Allowed x call
    → (sort_from (sort_at x.sorts) (origin_of call) ≡ sort_of_call x.sorts call)
    × Below (length x.sorts) (origin_of call)
said_sort x (c.term t) h = let s = said x.sorts t h.0 in (sym s.0, s.1)
said_sort x (c.declare name w) h = (let low = h.1.1 in omega arith, tt)
said_sort x (c.assert k) h = (refl, tt)
said_sort x c.check h = (refl, tt)

-- Only a literal is written as one, and every line that defines a term makes it.
lit-body : (op : Op) → body_of op ≡ Literal → op ≡ o.term o.lit
lit-body (o.term o.bool_lit) e = let z : ◌≡◌ {A = ℕ} 0 1 = cc in absurd (omega arith)
lit-body (o.term o.bool_ite) e = let z : ◌≡◌ {A = ℕ} 0 1 = cc in absurd (omega arith)
lit-body (o.term o.not) e = let z : ◌≡◌ {A = ℕ} 0 1 = cc in absurd (omega arith)
lit-body (o.term o.and) e = let z : ◌≡◌ {A = ℕ} 0 1 = cc in absurd (omega arith)
lit-body (o.term o.lit) e = refl
lit-body (o.term o.equal) e = let z : ◌≡◌ {A = ℕ} 0 1 = cc in absurd (omega arith)
lit-body (o.term o.ite) e = let z : ◌≡◌ {A = ℕ} 0 1 = cc in absurd (omega arith)
lit-body (o.term o.concat) e = let z : ◌≡◌ {A = ℕ} 0 1 = cc in absurd (omega arith)
lit-body (o.term o.extract) e = let z : ◌≡◌ {A = ℕ} 0 1 = cc in absurd (omega arith)
lit-body (o.term o.bvnot) e = let z : ◌≡◌ {A = ℕ} 0 1 = cc in absurd (omega arith)
lit-body (o.term (o.op2 op)) e = let z : ◌≡◌ {A = ℕ} 0 1 = cc in absurd (omega arith)
lit-body (o.term (o.compare op)) e = let z : ◌≡◌ {A = ℕ} 0 1 = cc in absurd (omega arith)
lit-body o.declare e = let z : ◌≡◌ {A = ℕ} 0 1 = cc in absurd (omega arith)
lit-body o.assert e = let z : ◌≡◌ {A = ℕ} 0 1 = cc in absurd (omega arith)
lit-body o.check e = let z : ◌≡◌ {A = ℕ} 0 1 = cc in absurd (omega arith)
lit-body o.unknown e = let z : ◌≡◌ {A = ℕ} 0 1 = cc in absurd (omega arith)

defines_term : (op : Op) → line_of op ≡ Define → makes_term op ≡ true
defines_term (o.term op) e = refl
defines_term o.declare e = refl
defines_term o.assert e = let z : ◌≡◌ {A = ℕ} 0 1 = cc in absurd (omega arith)
defines_term o.check e = let z : ◌≡◌ {A = ℕ} 0 1 = cc in absurd (omega arith)
defines_term o.unknown e = let z : ◌≡◌ {A = ℕ} 0 1 = cc in absurd (omega arith)

-- A record that stands with all its arguments can be written.
ready : (w : List ℕ) (at : ℕ) (x : Context) → Right w at x → Ready w at
ready w at x right is-literal = literal_fits w at x right (lit-body (operation_at w at) is-literal)

-- Records passed, in any list.
pub record Passed (w : List ℕ) (records : ℕ) (seen : Cursor) : Type 0 where
  pub reached : Reached w records seen.at seen.terms
  pub few : records ≤ seen.at
  pub few-terms : seen.terms ≤ seen.at
  pub few-names : seen.declared ≤ seen.at
  pub within : records ≤ length w

pub passed_start : (w : List ℕ) → Passed w 0 nothing_read
passed_start w = record {
  reached = reached_start w;
  few = omega arith;
  few-terms = omega arith;
  few-names = omega arith;
  within = omega arith;
}

module _ {w : List ℕ} {i : ℕ} {seen : Cursor} (here : Passed w i seen) where
  -- The records so far are the first of the list's.
  all-calls : decode w ≡ first_calls w i ++ calls_from (length w - i) w seen.at
  all-calls =
      let sum : i + (length w - i) ≡ length w = omega (arith, here.within) in
      ap (λ (n : ℕ). calls_from n w 0) (sym sum) ∙ split i (length w - i) w 0 ∙ rw (← here.reached.place)

  pub passed-end : length w ≤ seen.at → first_calls w i ≡ decode w
  passed-end past = sym (all-calls ∙ rw (calls-end (length w - i) w seen.at past, append-nil))

  pub passed-more : seen.at < length w → Passed w (i + 1) (cursor_next w seen)
  passed-more inside = record {
    reached = reached_next here.reached inside;
    few = omega (arith, here.few);
    few-terms = omega (arith, here.few-terms, bit-low (makes_term (operation_at w seen.at)));
    few-names = omega (arith, here.few-names, bit-low (is_declare (operation_at w seen.at)));
    within = omega (arith, here.few);
  }

-- The walk has come to a cursor's place, past some records; from there on the list is well formed.
pub record Walked (w table recent : List ℕ) (y : Context) (records : ℕ) (seen : Cursor) : Type 0 where
  pub read : ReadTo w seen.at (leaves start (first_calls w records)) table seen.terms
  pub ring : Recent (length table) recent (sorts_of (first_calls w records))
  pub past : Passed w records seen
  pub left : read_from (length w - records) w seen.at (leaves start (first_calls w records)) ≡ well_formed y

pub walked_start : (w table recent : List ℕ) (y : Context) → outcome w ≡ well_formed y →
    Walked w table recent y 0 nothing_read
unfolding calls_from leaves
walked_start w table recent y e = record {
  read = read-start w table;
  ring = recent_start (length table) recent;
  past = passed_start w;
  left = rw (sub-zero (length w)) e;
}

module _ {gap : ℕ} {w places table recent : List ℕ} {i : ℕ} {seen : Cursor} (has : HasTables gap w places table)
    (here : Walked w table recent has.leaving i seen) where
  -- The calls so far, what they leave and what all leave, and the place come to.
  abbrev walked_calls : List Call
  walked_calls = first_calls w i

  abbrev left_by : Context
  left_by = leaves start walked_calls

  abbrev y : Context
  y = has.leaving

  abbrev at : ℕ
  at = seen.at

  -- How the terms so far are written, by the table of places.
  pub walked-references : reference_by places gap w seen.terms ≡ reference walked_calls
  walked-references = fun_ext (λ j. go j (ltb j seen.terms) refl)
    where
      go : (j : ℕ) (b : Bool) → ltb j seen.terms ≡ b
          → cond (ltb j seen.terms) (spelled_as j (call_at w (place_near places gap w j))) (numbered j)
          ≡ spelled_as j (get_or (made walked_calls) j c.check)
      go j true e =
          let low : j < seen.terms = ltb-true j seen.terms e in
          let few : j < length (made walked_calls) = omega (arith, here.past.reached.many) in
          let more : j < length (made (decode w)) =
          (rw (all-calls here.past, made_append, length-append) (omega arith)) in
          let inside : j < length left_by.sorts = omega (arith, here.read.counts) in
          let kept = sorts-kept (length w - i) w at left_by y here.left j inside in
          let place = place_near_lem w places gap (length y.sorts) has.spaced j kept.0 in
          let made_by : call_at w (place_of_term w j) ≡ get_or (made walked_calls) j c.check =
          (made-place (length w) w 0 j more ∙ ap (λ (l : List Call). get_or (made l) j c.check) (all-calls here.past)
          ∙ rw made_append (get_or-append (made walked_calls) _ c.check j few)) in
          rw e (ap (λ (p : ℕ). spelled_as j (call_at w p)) place ∙ ap (spelled_as j) made_by)
      go j false e =
          let past : length (made walked_calls) ≤ j =
          omega (arith, ltb-false j seen.terms e, here.past.reached.many) in
          rw e (sym (ap (spelled_as j) (made-past walked_calls j past)))

  -- The sorts of the terms so far, by the tables.
  abbrev walked_sort : ℕ → Sort
  walked_sort = sort_near table recent places gap w seen.terms

  says : (j : ℕ) → j < length left_by.sorts → walked_sort j ≡ sort_at left_by.sorts j
  says =
      near_is here.read recent places gap (length y.sorts) here.ring has.spaced
      (let few = sorts-few (length w - i) w at left_by y here.left in
      let many = here.read.counts in omega arith)

  module _ (inside : at < length w) where
    next : Right w at left_by
        × (read_from (length w - (i + 1)) w (next_at bare w at) (after left_by (call_at w at)) ≡ well_formed y)
    next =
        let fuel : length w - i ≡ suc (length w - (i + 1)) = omega (arith, here.past.few) in
        right-read (length w - (i + 1)) w at left_by y inside (rw fuel at here.left)

    pub walked-ready : Ready w at
    walked-ready = ready w at left_by next.0

    last-sort : makes_term (operation_at w at) ≡ true
        → sort_at (after left_by (call_at w at)).sorts seen.terms ≡ sort_of_call (sorts_of walked_calls) (call_at w at)
    unfolding leaves
    last-sort makes =
        ap (λ (x : Context). sort_at x.sorts seen.terms)
        (sym (leaves_append start walked_calls (call_at w at ∷ [])))
        ∙ ap (λ (n : ℕ). sort_at (sorts_of (walked_calls ++ (call_at w at ∷ []))) n) here.past.reached.many
        ∙ sort-here walked_calls (call_at w at) []
        (makes_operation (operation_at w at) (count_at w at) (payloads w at) ∙ makes)

    table-sort : seen.terms < length table → makes_term (operation_at w at) ≡ true
        → get_or table seen.terms 0 ≡ sort_of_call (sorts_of walked_calls) (call_at w at)
    table-sort entered makes =
        let after-here = after left_by (call_at w at) in
        let one : seen.terms + 1 ≡ length after-here.sorts = rw makes at (terms-next here.read next.0) in
        let kept =
        sorts-kept (length w - (i + 1)) w (next_at bare w at) after-here y next.1 seen.terms
        (omega arith) in
        has.tabled seen.terms entered kept.0 ∙ kept.1 ∙ last-sort makes

    leaves-more : leaves start (first_calls w (i + 1)) ≡ after left_by (call_at w at)
    unfolding leaves
    leaves-more =
        ap (λ (n : ℕ). leaves start (first_calls w n)) (add-one i)
        ∙ ap (leaves start) (first_more w i at here.past.reached.place inside)
        ∙ leaves_append start walked_calls (call_at w at ∷ [])

    -- One record more is one line more.
    pub walked_line : lines [] (first_calls w (i + 1)) ≡ lines [] walked_calls ++ line walked_calls (call_at w at)
    walked_line =
        rw (add-one i, first_more w i at here.past.reached.place inside)
        (lines_more [] walked_calls (call_at w at))

    -- The sort of the record's term, by the sorts of its arguments.
    record_sort : record_by walked_sort w at ≡ sort_of_call (sorts_of walked_calls) (call_at w at)
    record_sort =
        let sort =
        said_sort left_by (call_at w at) (reads_at left_by w at next.0.head next.0.arguments).allowed in
        record_said here.read next.0 walked_sort says sort.1 ∙ sort.0

    walked-sort : makes_term (operation_at w at) ≡ true
        → sort_by table recent places gap w seen.terms at ≡ sort_of_call (sorts_of walked_calls) (call_at w at)
    walked-sort makes = go (ltb seen.terms (length table)) refl
      where
        go : (b : Bool) → ltb seen.terms (length table) ≡ b
            → sort_by table recent places gap w seen.terms at ≡ sort_of_call (sorts_of walked_calls) (call_at w at)
        go true e = rw e (table-sort (ltb-true seen.terms (length table) e) makes)
        go false e = rw e record_sort

    pub walked_writable : Writable gap w places table recent walked_calls seen
    walked_writable = record {
      counted = (stands left_by w at next.0.head).counted;
      many = here.past.reached.many;
      sort = λ defines. walked-sort (defines_term (operation_at w at) defines);
      references = walked-references;
    }

    pub walked_next :
        Walked w table (note_recent walked_sort table recent w at seen.terms) y (i + 1) (cursor_next w seen)
    walked_next =
        let before =
        tabled-before (length w - (i + 1)) table w (next_at bare w at) (after left_by (call_at w at)) y
        next.1 has.tabled in
        record {
          read = rw leaves-more (read_next here.read next.0 table _ before (terms-next here.read next.0));
          ring =
              subst (λ (x : Context). Recent (length table)
              (note_recent walked_sort table recent w at seen.terms) x.sorts) (sym leaves-more)
              (ring_more here.read next.0 walked_sort says recent here.ring);
          past = passed-more here.past inside;
          left =
              ap (λ (x : Context). read_from (length w - (i + 1)) w (next_at bare w at) x) leaves-more
              ∙ next.1;
        }

pub lines_start : (w : List ℕ) → lines [] (first_calls w 0) ≡ []
unfolding lines calls_from
lines_start w = refl
