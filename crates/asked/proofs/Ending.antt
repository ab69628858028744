-- What the code needs to know of the script's last lines: whether there is a check, and the names asked.
use mathlib.Core.Path.{◌≡◌, refl, sym, ap, ◌∙◌}
use mathlib.Core.Bool.{Bool, true, false, ◌||◌}
use mathlib.Core.List.{List, [], ◌∷◌, ◌++◌, map, append_assoc, append-nil}
use Prim.Native.Nat.{ℕ, suc, ◌+◌, ◌-◌, ◌<◌, ◌≤◌}
use native.Mathlib.Numerals.{add-one}
use native.Mathlib.Omega.{arith}
use lib.ListN.{length, drop, get_or, drop_of_length-le}
use lib.Seq.{drop-cons}
use borrow.Author.Tests.{ne_eqb}
use Rattle.engine.specs.Call.{Name, Call}
use Rattle.engine.specs.Call as c
use Rattle.engine.specs.Sorts.{Context, start, after, leaves}
use Rattle.engine.specs.Encode.{Op, operation_at, count_at, call_of, call_at, bare, next_at, calls_from, decode}
use Rattle.engine.specs.Encode as o
use Rattle.engine.proofs.Steps.{calls-end, calls-step}
use Rattle.text.specs.Bytes.{ascii}
use Rattle.text.specs.Names.{name_text, names_of_mark, both_names, asked_from, asked_names}
use Rattle.call_list.specs.Records.{first_calls}
use Rattle.call_list.proofs.RecordsLaws.{place_after, place-start, place-more, first_more, split}
use Rattle.call_list.specs.Literal.{payloads}
use Rattle.pieces.specs.Text.{spaced}
use Rattle.pieces.specs.Shape.{line_of}
use Rattle.pieces.specs.declared.Line.{Line}
use Rattle.pieces.specs.declared.Line.TheVariants.{Define, Declare, Assert, Check}
use Rattle.pieces.proofs.Laws.{spaced_append}
use Rattle.asked.specs.Marks.{any}
use Rattle.asked.specs.Ending.{get_value, checks, names_from, FirstAsked}

-- ---- check

-- A line that is a check's.
abbrev pub is_check : Line → Bool
is_check Define = false
is_check Declare = false
is_check Assert = false
is_check Check = true

checks_by : (op : Op) (n : ℕ) (a : ℕ → ℕ) → checks (call_of op n a) ≡ is_check (line_of op)
checks_by (o.term op) n a = refl
checks_by o.declare n a = refl
checks_by o.assert n a = refl
checks_by o.check n a = refl
checks_by o.unknown n a = refl

or-false : (b : Bool) → (b || false) ≡ b
or-false true = refl
or-false false = refl

or-true : (b : Bool) → (b || true) ≡ true
or-true true = refl
or-true false = refl

or_assoc : (a b d : Bool) → ((a || b) || d) ≡ (a || (b || d))
or_assoc true b d = refl
or_assoc false b d = refl

after-checks : (x : Context) (call : Call) → (after x call).checked ≡ (x.checked || checks call)
after-checks x (c.term t) = sym (or-false x.checked)
after-checks x (c.declare name w) = sym (or-false x.checked)
after-checks x (c.assert k) = sym (or-false x.checked)
after-checks x c.check = sym (or-true x.checked)

-- A list has a check where some call is one.
leaves-checks : (x : Context) (calls : List Call) → (leaves x calls).checked ≡ (x.checked || any checks calls)
unfolding leaves any
leaves-checks x [] = sym (or-false x.checked)
leaves-checks x (call ∷ calls) =
    leaves-checks (after x call) calls
    ∙ rw (after-checks x call) (or_assoc x.checked (checks call) (any checks calls))

pub checked-any : (calls : List Call) → (leaves start calls).checked ≡ any checks calls
checked-any calls = leaves-checks start calls

any_append : (p : Call → Bool) (a b : List Call) → any p (a ++ b) ≡ (any p a || any p b)
unfolding any
any_append p [] b = refl
any_append p (call ∷ a) b = rw (any_append p a b) (sym (or_assoc (p call) (any p a) (any p b)))

-- Records passed of which none is of a kind.
pub record NoneOf (p : Call → Bool) (w : List ℕ) (records at : ℕ) : Type 0 where
  pub reached : at ≡ place_after records w 0
  pub few : records ≤ at
  pub within : records ≤ length w
  pub none : any p (first_calls w records) ≡ false

pub none-start : (p : Call → Bool) (w : List ℕ) → NoneOf p w 0 0
unfolding any calls_from
none-start p w = record { reached = place-start w; few = omega arith; within = omega arith; none = refl }

module _ {p : Call → Bool} {w : List ℕ} {i at : ℕ} (here : NoneOf p w i at) where
  all : decode w ≡ first_calls w i ++ calls_from (length w - i) w at
  all =
      let sum : length w ≡ i + (length w - i) = omega (arith, here.within) in
      ap (λ (n : ℕ). calls_from n w 0) sum ∙ split i (length w - i) w 0 ∙ rw here.reached

  pub none_end : length w ≤ at → any p (decode w) ≡ false
  none_end past = rw (all, calls-end (length w - i) w at past, append-nil) here.none

  module _ (inside : at < length w) where
    pub none-next : p (call_at w at) ≡ false → NoneOf p w (i + 1) (next_at bare w at)
    unfolding any
    none-next other = record {
      reached = place-more w i at here.reached;
      few = omega (arith, here.few);
      within = omega (arith, here.few);
      none =
          ap (λ (n : ℕ). any p (first_calls w n)) (add-one i) ∙ ap (any p) (first_more w i at here.reached inside)
          ∙ any_append p (first_calls w i) (call_at w at ∷ []) ∙ rw (here.none, other);
    }

    pub some-here : p (call_at w at) ≡ true → any p (decode w) ≡ true
    unfolding any
    some-here e =
        let left : length w - i ≡ suc (length w - i - 1) = omega (arith, here.few) in
        let rest = calls_from (length w - i - 1) w (next_at bare w at) in
        ap (any p)
        (all ∙ ap (λ (n : ℕ). first_calls w i ++ calls_from n w at) left
        ∙ ap (λ (l : List Call). first_calls w i ++ l) (calls-step (length w - i - 1) w at inside))
        ∙ any_append p (first_calls w i) (call_at w at ∷ rest) ∙ rw (here.none, e)

pub checks-at : (w : List ℕ) (at : ℕ) → checks (call_at w at) ≡ is_check (line_of (operation_at w at))
checks-at w at = checks_by (operation_at w at) (count_at w at) (payloads w at)

-- ---- the names asked

map-append : (a b : List Name) → map name_text (a ++ b) ≡ map name_text a ++ map name_text b
map-append [] b = refl
map-append (name ∷ a) b = rw (map-append a b)

-- Names written, and those still to write, are all of them.
pub record NamesLeft (marks : List ℕ) (first slot : ℕ) (done : List ℕ) : Type 0 where
  pub rest : done ++ names_from marks slot ≡ names_from marks first

pub names-start : (marks : List ℕ) (first : ℕ) → NamesLeft marks first first []
names-start marks first = record { rest = refl }

asked_here : (marks : List ℕ) (slot : ℕ) → slot < length marks
    → asked_from slot (drop slot marks)
    ≡ names_of_mark slot (get_or marks slot 0) ++ asked_from (slot + 1) (drop (slot + 1) marks)
unfolding asked_from
asked_here marks slot inside = rw (drop-cons marks slot 0 inside, add-one slot)

module _ (marks : List ℕ) (slot : ℕ) where
  pub names-here : slot < length marks
      → names_from marks slot
      ≡ spaced (map name_text (names_of_mark slot (get_or marks slot 0))) ++ names_from marks (slot + 1)
  names-here inside = rw (asked_here marks slot inside, map-append, spaced_append)

  pub names-done : length marks ≤ slot → names_from marks slot ≡ []
  unfolding asked_from spaced
  names-done past = rw (drop_of_length-le marks past)

pub names-next : {marks done : List ℕ} {first slot : ℕ} → NamesLeft marks first slot done → slot < length marks
    → NamesLeft marks first (slot + 1) (done ++ spaced (map name_text (names_of_mark slot (get_or marks slot 0))))
names-next {marks} {done} {first} {slot} here inside =
    record {
      rest = append_assoc done _ _ ∙ ap (λ (l : List ℕ). done ++ l) (sym (names-here marks slot inside))
          ∙ here.rest;
    }

pub names-end : {marks done : List ℕ} {first slot : ℕ} → NamesLeft marks first slot done → length marks ≤ slot → done
    ≡ names_from marks first
names-end {marks} {done} {first} {slot} here past = sym (append-nil done)
    ∙ rw (← names-done marks slot past) here.rest

pub asked-start : (marks : List ℕ) → asked_from 0 marks ≡ asked_from 0 (drop 0 marks)
asked-start marks = refl

pub asked-next : (marks : List ℕ) (slot : ℕ) → slot < length marks → (get_or marks slot 0 ≡ 1 → ⊥) →
    (get_or marks slot 0 ≡ 2 → ⊥)
    → asked_from slot (drop slot marks) ≡ asked_from (slot + 1) (drop (slot + 1) marks)
asked-next marks slot inside one two = asked_here marks slot inside ∙ rw (ne_eqb _ 1 one, ne_eqb _ 2 two)

-- The two names of a slot, with a space between them.
abbrev pub pair_names : c.Letter → ℕ → List ℕ
pair_names letter slot =
    name_text (record { letter = letter; index = slot; suffix = c.x })
    ++ (ascii " " ++ name_text (record { letter = letter; index = slot; suffix = c.y }))

pub spaced-both : (letter : c.Letter) (slot : ℕ) → spaced (map name_text (both_names letter slot))
    ≡ ascii " " ++ pair_names letter slot
unfolding spaced
spaced-both letter slot = simp (append-nil, append_assoc)

-- What get-value asks: nothing, or the pairs from the first slot on.
pub value_none : {marks : List ℕ} {slot : ℕ} → FirstAsked marks slot → length marks ≤ slot
    → get_value (asked_names marks) ≡ []
unfolding asked_from
value_none {marks} {slot} here past = rw (here.same, drop_of_length-le marks past)

regroup : (p a b r q : List ℕ) → p ++ a ++ (ascii " " ++ b ++ r) ++ q ≡ p ++ (a ++ (ascii " " ++ b)) ++ r ++ q
regroup p a b r q = simp append_assoc

value-pair : (x y : Name) (rest : List Name)
    → get_value (x ∷ y ∷ rest)
    ≡ ascii "(get-value (" ++ (name_text x ++ (ascii " " ++ name_text y)) ++ spaced (map name_text rest) ++ ascii
    "))\n"
unfolding spaced
value-pair x y rest =
    regroup (ascii "(get-value (") (name_text x) (name_text y) (spaced (map name_text rest)) (ascii "))\n")

pub value-some : {marks : List ℕ} {slot : ℕ} (letter : c.Letter) → FirstAsked marks slot → slot < length marks
    → names_of_mark slot (get_or marks slot 0) ≡ both_names letter slot
    → get_value (asked_names marks)
    ≡ ascii "(get-value (" ++ pair_names letter slot ++ names_from marks (slot + 1) ++ ascii "))\n"
value-some {marks} {slot} letter here inside e =
    ap get_value
    (here.same ∙ asked_here marks slot inside
    ∙ ap (λ (names : List Name). names ++ asked_from (slot + 1) (drop (slot + 1) marks)) e)
    ∙ value-pair (record { letter = letter; index = slot; suffix = c.x })
    (record { letter = letter; index = slot; suffix = c.y })
    (asked_from (slot + 1) (drop (slot + 1) marks))
