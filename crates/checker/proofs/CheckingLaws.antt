-- Laws of the definitions of Checking.
use mathlib.Core.Path.{◌≡◌, refl, sym, ap, ap₂, ◌∙◌, subst}
use mathlib.Core.Bool.{Bool, true, false, cond, ◌&&◌}
use mathlib.Core.List.{List}
use Rattle.std.specs.Prelude.{Ok, Err, Some, None}
use Prim.Native.Nat.{ℕ, zero, suc, ◌+◌, ◌-◌, ◌≤◌, ◌<◌}
use native.Mathlib.Nat.{le_refl}
use native.Mathlib.Omega.{arith}
use lib.ListN.{length, get_or, set, length-set, replicate}
use Rattle.bitvec.specs.Bits.{bit}
use Rattle.engine.specs.Call.{Call}
use Rattle.engine.specs.Call as c
use Rattle.engine.specs.Sorts.{Sort, Context, start, after}
use Rattle.engine.specs.Encode.{Op, makes_term, operation_at, count_at, call_of, call_at}
use Rattle.engine.specs.Encode as o
use Rattle.engine.specs.WellFormed.{declares, head_stands, well_formed, read_from, outcome}
use Rattle.engine.proofs.Steps.{read-end, read_step, read_head}
use Rattle.call_list.specs.declared.Cursor.{Cursor}
use Rattle.call_list.proofs.CursorsLaws.{nothing_read, cursor_next, bit-low}
use Rattle.call_list.specs.Operations.{is_declare}
use Rattle.call_list.proofs.OperationsLaws.{declares_of}
use Rattle.checker.specs.declared.Counts.{Counts}
use Rattle.term_places.specs.Places.{note_place, Spaced}
use Rattle.term_places.proofs.PlacesLaws.{spaced-start}
use Rattle.term_table.specs.Near.{sort_near, note_sort, note_recent}
use Rattle.term_table.specs.Sorted.{ReadTo}
use Rattle.term_table.proofs.SortedLaws.{read-start}
use Rattle.term_table.proofs.NearLaws.{spaced-more, Recent, recent_start, ring_more}
use Rattle.term_table.proofs.NearLaws.{sorts-more, note-length, near_is}
use Rattle.name_table.specs.Names.{top_of, note_name, note_top}
use Rattle.name_table.specs.Named.{NamesTo, TopsTo}
use Rattle.name_table.proofs.NamedLaws.{names-none, names-next, tops_none, tops_next}
use Rattle.call_list.specs.Literal.{payloads}
use lib.Dec.{ltb}
use Rattle.record_faults.specs.Faults.{fault_by}
use Rattle.record_faults.proofs.FaultsLaws.{Says, fault-none, fault-some}
use Rattle.checker.specs.Checking.{checked_as, is_check, TablesBy, CheckedBy}

-- Between two records: what the calls so far leave, as the tables and counts have it, and what remains to be read.
pub record Checking (gap : ℕ) (w places table recent names tops : List ℕ) (s : Cursor) (checked : Bool) : Type 0 where
  pub context : Context
  pub fuel : ℕ
  pub read : ReadTo w s.at context table s.terms
  pub ring : Recent (length table) recent context.sorts
  pub spaced : Spaced w places gap s.terms
  pub named : NamesTo names context.names
  pub topped : TopsTo tops context.names
  pub nine : 9 ≤ length tops
  pub declared : s.declared ≡ length context.names
  pub closed : checked ≡ context.checked
  pub enough : length w - s.at ≤ fuel
  pub rest : outcome w ≡ read_from fuel w s.at context
  pub few-terms : s.terms ≤ s.at
  pub few-names : s.declared ≤ s.at

pub checking_start : (gap : ℕ) (w places table recent names tops : List ℕ) → ((k : ℕ) → get_or names k 0 ≡ 0) →
    9 ≤ length tops
    → Checking gap w places table recent names tops nothing_read false
checking_start gap w places table recent names tops zeros nine = record {
  context = start;
  fuel = length w;
  read = read-start w table;
  ring = recent_start (length table) recent;
  spaced = spaced-start w places gap;
  named = names-none names zeros;
  topped = tops_none tops;
  nine = nine;
  declared = refl;
  closed = refl;
  enough = omega arith;
  rest = refl;
  few-terms = omega arith;
  few-names = omega arith;
}

-- What a call does to the names and the check.
names_grow : (x : Context) (call : Call) → length (after x call).names ≡ length x.names + bit (declares call)
names_grow x (c.term t) = omega arith
names_grow x (c.declare name w) = omega arith
names_grow x (c.assert k) = omega arith
names_grow x c.check = omega arith

check-after : (x : Context) (op : Op) (n : ℕ) (p : ℕ → ℕ) → x.checked ≡ false → is_check op
    ≡ (after x (call_of op n p)).checked
check-after x (o.term op) n p e = sym e
check-after x o.declare n p e = sym e
check-after x o.assert n p e = sym e
check-after x o.check n p e = refl
check-after x o.unknown n p e = refl

top_length : (b : Bool) (tops : List ℕ) (i v : ℕ) → 9 ≤ length tops → 9 ≤ length (cond b (set tops i v) tops)
top_length true tops i v h = rw (length-set tops i v) h
top_length false tops i v h = h

module _ {gap : ℕ} {w places table recent names tops : List ℕ} {s : Cursor} {checked : Bool}
    (k : Checking gap w places table recent names tops s checked)
    (inside : s.at < length w) where
  some_fuel : {P : Type 0} → ((n : ℕ) → k.fuel ≡ suc n → P) → P
  some_fuel f = go k.fuel k.enough f
    where
      go : {P : Type 0} (n : ℕ) → length w - s.at ≤ n → ((m : ℕ) → n ≡ suc m → P) → P
      go zero h f = absurd (omega arith)
      go (suc n) h f = f n refl

  -- Nothing may follow check.
  pub checked-fault : checked ≡ true → Err s.at ≡ checked_as (outcome w)
  checked-fault e =
      some_fuel (λ n f.
      let falls : head_stands k.context w s.at ≡ false = rw (sym k.closed ∙ e) in
      sym (ap checked_as
      (k.rest ∙ ap (λ (m : ℕ). read_from m w s.at k.context) f
      ∙ read_head n w s.at k.context inside falls)))

  -- The sorts of the terms so far, from the tables.
  abbrev sort : ℕ → Sort
  sort = sort_near table recent places gap w s.terms

  says : Says sort k.context
  says = near_is k.read recent places gap s.terms k.ring k.spaced (le_refl s.terms)

  module _ (open-list : checked ≡ false) where
    unchecked : k.context.checked ≡ false
    unchecked = sym k.closed ∙ open-list

    pub record_wrong : (p : ℕ) → fault_by sort names tops w s.terms s.at ≡ Some p → Err p
        ≡ checked_as (outcome w)
    record_wrong p e =
        some_fuel (λ n f.
        sym (ap checked_as (k.rest ∙ ap (λ (m : ℕ). read_from m w s.at k.context) f
        ∙ fault-some k.read names tops k.named k.topped sort says inside unchecked p n e)))

    pub record_right : fault_by sort names tops w s.terms s.at ≡ None
        → Checking gap w (note_place places gap w s.at s.terms) (note_sort sort table w s.at s.terms)
        (note_recent sort table recent w s.at s.terms) (note_name names w s.at) (note_top tops w s.at)
        (cursor_next w s)
        (is_check (operation_at w s.at))
    record_right e =
        some_fuel (λ n f.
        let right = fault-none k.read names tops k.named k.topped sort says inside unchecked e in
        record {
          context = after k.context (call_at w s.at);
          fuel = n;
          read = sorts-more k.read right sort says;
          ring =
              subst (λ (n : ℕ). Recent n (note_recent sort table recent w s.at s.terms)
              (after k.context (call_at w s.at)).sorts)
              (sym (note-length sort table w s.at s.terms))
              (ring_more k.read right sort says recent k.ring);
          spaced = spaced-more k.read right places gap k.spaced;
          named = names-next names w s.at k.context right k.named;
          topped = tops_next tops w s.at k.context right k.nine k.topped;
          nine = top_length
              (is_declare (operation_at w s.at) && ltb (top_of tops (payloads w s.at 0) (payloads w s.at 2))
              (payloads w s.at 1 + 1)) tops _ _ k.nine;
          declared =
              ap₂ ◌+◌ k.declared (ap bit (sym (declares_of (operation_at w s.at) (count_at w s.at) _)))
              ∙ sym (names_grow k.context (call_at w s.at));
          closed = check-after k.context (operation_at w s.at) (count_at w s.at) _ unchecked;
          enough = omega (arith, k.enough, f);
          rest =
              k.rest ∙ ap (λ (m : ℕ). read_from m w s.at k.context) f
              ∙ read_step n w s.at k.context inside right.head right.arguments;
          few-terms = omega (arith, k.few-terms, bit-low (makes_term (operation_at w s.at)));
          few-names = omega (arith, k.few-names, bit-low (is_declare (operation_at w s.at)));
        })

-- So many terms and names.
abbrev pub counts_of : ℕ → ℕ → Counts
counts_of terms declared = record { terms = terms; declared = declared }

-- At the end.
pub checked-end : {gap : ℕ} {w places table recent names tops : List ℕ} {s : Cursor} {checked : Bool} →
    Checking gap w places table recent names tops s checked
    → length w ≤ s.at → CheckedBy gap w places table names (Ok (counts_of s.terms s.declared))
checked-end {gap} {w} {places} {table} {recent} {names} {tops} {s} {checked} k end =
    let all : outcome w ≡ well_formed k.context = k.rest ∙ read-end k.fuel w s.at k.context end in
    record {
      is = rw all (ap₂ (λ (t d : ℕ). Ok (counts_of t d)) k.read.counts k.declared);
      tabled = λ y e.
          let same : k.context ≡ y = cc in
          let at-end : s.at ≡ length w = omega (arith, k.read.within) in
          subst (TablesBy gap w places table names) same
          (record {
            read =
                subst (λ (n : ℕ). ReadTo w (length w) k.context table n) k.read.counts
                (subst (λ (n : ℕ). ReadTo w n k.context table s.terms) at-end k.read);
            spaced = subst (Spaced w places gap) k.read.counts k.spaced;
            named = k.named;
          });
    }

-- A refusal says nothing of the tables.
pub checked_wrong : {gap : ℕ} {w places table names : List ℕ} {p : ℕ} → Err p ≡ checked_as (outcome w)
    → CheckedBy gap w places table names (Err p)
checked_wrong {gap} {w} {places} {table} {names} {p} e =
    record { is = e; tabled = λ y f. absurd (let z : Err p ≡ checked_as (well_formed y) = rw f at e in never y z) }
  where
    never : (y : Context) → Err p ≡ checked_as (well_formed y) → ⊥
    never y z = let q : ◌≡◌ {A = ℕ} 0 1 = cc in omega arith

-- A table of zeros.
pub zeros-all : (n k : ℕ) → ◌≡◌ {A = ℕ} (get_or (replicate n 0) k 0) 0
zeros-all zero k = refl
zeros-all (suc n) zero = refl
zeros-all (suc n) (suc k) = zeros-all n k
