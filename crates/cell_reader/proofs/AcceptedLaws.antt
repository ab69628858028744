-- Laws of the definitions of Accepted.
use Prim.Native.Nat.{ℕ, zero, suc, ◌+◌, ◌-◌, ◌*◌, ◌≤◌, ◌^◌}
use mathlib.Core.Path.{◌≡◌, refl, sym, ap, ◌∙◌}
use mathlib.Core.List.{List}
use mathlib.Core.Bool.{Bool, true, false, cond}
use native.Mathlib.Omega.{arith}
use lib.ListN.{length}
use lib.Dec.{ltb, eqb}
use borrow.Author.Tests.{ltb-false, eqb-true, eqb-false}
use Rattle.std.specs.Prelude.{Result, Ok, Err}
use Rattle.logic.specs.declared.Fault.{Fault}
use Rattle.logic.proofs.TableLaws.{length-tab}
use Rattle.operators.specs.Operators.{compares}
use Rattle.cell.specs.Cell.{binary_width, output_len, standing}
use Rattle.cell.specs.Operation.{numbers_of, fields_of, standing_of}
use Rattle.cell.specs.declared.Operation.{Operation}
use Rattle.cell.specs.declared.Operation.TheVariants as O
use Rattle.cell.specs.declared.Numbers.{Numbers}
use Rattle.cell.specs.declared.Fields.{Fields}
use Rattle.fields.specs.declared.Head.{Head}
use Rattle.fields.specs.Field.{fault, on_number, on_read, number_at, nets_at, constants_at}
use Rattle.fields.specs.Pattern.{patterns_at}
use Rattle.fields.specs.Head.{on_head, head_at}
use Rattle.fields.specs.Accepted.{IsNumber}
use Rattle.fields.proofs.AcceptedLaws.{number_read, IsHead, head_read, ends_read, both_read}
use Rattle.cell_reader.specs.declared.Leading.{Leading}
use Rattle.cell_reader.specs.declared.Record.{Record}
use Rattle.cell_reader.specs.Record.{leading, cell_record}
use Rattle.cell_reader.specs.Record.{third_at, second_at, first_at, leading_at, tail_at, body_at, on_leading}
use Rattle.cell_reader.specs.Record.{contents_at, record_at}
use Rattle.cell_reader.specs.Parse.{number_in, patterns_in, cell_in, op_at, cell_at}
use Rattle.cell_reader.specs.Accepted.{IsLeading, IsBody, IsRecord}

-- The parts of numbers, and of a record, that were read.
pub leading_parts : {n n' m m' k next : ℕ} →
    ◌≡◌ {A = Result Leading Fault} (Ok (leading n m k)) (Ok (leading n' m' next)) →
    (n ≡ n') × ((m ≡ m') × (k ≡ next))
leading_parts {n} {n'} {m} {m'} {k} {next} e =
    let same : leading n m k ≡ leading n' m' next = cc in
    (ap (λ (l : Leading). l.n) same, (ap (λ (l : Leading). l.m) same, ap (λ (l : Leading). l.next) same))

pub record_parts : {op op' : Operation} {width width' next next' : ℕ} →
    ◌≡◌ {A = Result Record Fault} (Ok (cell_record op width next)) (Ok (cell_record op' width' next')) →
    (op ≡ op') × ((width ≡ width') × (next ≡ next'))
record_parts {op} {op'} {width} {width'} {next} {next'} e =
    let same : cell_record op width next ≡ cell_record op' width' next' = cc in
    (ap (λ (r : Record). r.op) same, (ap (λ (r : Record). r.width) same, ap (λ (r : Record). r.next) same))

module _ (w : List ℕ) (numbers : Numbers) (end : ℕ) where
  -- The third number was read: an offset leaves room for u nets within n.
  pub record IsThird (n m at n' m' next : ℕ) : Type 0 where
    pub same-n : n' ≡ n
    pub same-m : m' ≡ m
    pub after : next ≡ at + 1
    pub within : numbers.within ≡ true → number_in w at + m ≤ n

  third_read : (n m at : ℕ) {n' m' next : ℕ} → third_at w numbers end n m at ≡ Ok (leading n' m' next) → IsThird n m
      at n' m' next
  unfolding third_at
  third_read n m at {n'} {m'} {next} read = go (number_at w (2 ^ 29 - 1) end at) refl read
    where
      choose :
          (offset k : ℕ) → offset ≡ number_in w at → k ≡ at + 1 → (b over : Bool) → numbers.within ≡ b →
          ltb n (offset + m) ≡ over →
          cond b (cond over (Err (fault 9 at)) (Ok (leading n m k))) (Ok (leading n m k)) ≡ Ok (leading n' m' next) → IsThird n m
          at n' m' next
      choose offset k v a true true b o e = let z : ◌≡◌ {A = ℕ} 0 1 = cc in absurd (omega arith)
      choose offset k v a true false b o e =
          let low : offset + m ≤ n = ltb-false _ _ o in
          let parts = leading_parts e in
          let as-n : n ≡ n' = parts.0 in
          let as-m : m ≡ m' = parts.1.0 in
          let as-next : k ≡ next = parts.1.1 in
          record { same-n = cc; same-m = cc; after = cc; within = λ _. omega arith }
      choose offset k v a false over b o e =
          let parts = leading_parts e in
          let as-n : n ≡ n' = parts.0 in
          let as-m : m ≡ m' = parts.1.0 in
          let as-next : k ≡ next = parts.1.1 in
          record {
            same-n = cc;
            same-m = cc;
            after = cc;
            within = λ t. let z : true ≡ false = cc in
                absurd (let y : ◌≡◌ {A = ℕ} 0 1 = cc in omega arith);
          }

      go :
          (v : Result (ℕ × ℕ) Fault) → number_at w (2 ^ 29 - 1) end at ≡ v →
          on_number v Err
          (λ (offset k : ℕ). cond numbers.within
          (cond (ltb n (offset + m)) (Err (fault 9 at)) (Ok (leading n m k))) (Ok (leading n m k)))
          ≡ Ok (leading n' m' next) → IsThird n m at n' m' next
      go (Err f) v e = let z : ◌≡◌ {A = ℕ} 0 1 = cc in absurd (omega arith)
      go (Ok (offset, k)) v e =
          let is = number_read w _ end at v in
          choose offset k is.value is.after numbers.within (ltb n (offset + m)) refl refl e

  -- The second number was read, and the third if there is one.
  pub record IsSecond (n at n' m' next : ℕ) : Type 0 where
    pub same-n : n' ≡ n
    pub second : IsNumber w numbers.second end at m' (at + 1)
    pub after : numbers.count ≡ 2 → next ≡ at + 1
    pub third : (numbers.count ≡ 2 → ⊥) → IsThird n m' (at + 1) n' m' next

  second-read : (n at : ℕ) {n' m' next : ℕ} → second_at w numbers end n at ≡ Ok (leading n' m' next) → IsSecond n at n' m' next
  unfolding second_at
  second-read n at {n'} {m'} {next} read = go (number_at w numbers.second end at) refl read
    where
      choose :
          (m k : ℕ) → IsNumber w numbers.second end at m k → (b : Bool) → eqb numbers.count 2 ≡ b →
          cond b (Ok (leading n m k)) (third_at w numbers end n m k) ≡ Ok (leading n' m' next) → IsSecond n at n' m' next
      choose m k is true b e =
          let parts = leading_parts e in
          let same : m ≡ m' = parts.1.0 in
          let k-after : k ≡ at + 1 = is.after in
          let as-next : k ≡ next = parts.1.1 in
          record {
            same-n = sym parts.0;
            second = rw k-after at (rw same at is);
            after = λ _. let y : next ≡ k = cc in omega arith;
            third = λ other. absurd (other (eqb-true _ _ b));
          }
      choose m k is false b e =
          let third = third_read n m k e in
          let same : m ≡ m' = sym third.same-m in
          let k-after : k ≡ at + 1 = is.after in
          record {
            same-n = third.same-n;
            second = rw k-after at (rw same at is);
            after = λ two. absurd (eqb-false _ _ b two);
            third = λ _. rw same at (rw k-after at third);
          }

      go :
          (v : Result (ℕ × ℕ) Fault) → number_at w numbers.second end at ≡ v →
          on_number v Err (λ (m k : ℕ). cond (eqb numbers.count 2) (Ok (leading n m k)) (third_at w numbers end n m k))
          ≡ Ok (leading n' m' next) →
          IsSecond n at n' m' next
      go (Err f) v e = let z : ◌≡◌ {A = ℕ} 0 1 = cc in absurd (omega arith)
      go (Ok (m, k)) v e = choose m k (number_read w _ end at v) (eqb numbers.count 2) refl e

  pub leading-read : (at : ℕ) {n m next : ℕ} → leading_at w numbers end at ≡ Ok (leading n m next) → (IsLeading w numbers end)
      at n m next
  unfolding leading_at first_at
  leading-read at {n} {m} {next} read = none (eqb numbers.count 0) refl read
    where
      choose :
          (n₁ k : ℕ) → IsNumber w 63 end at n₁ k → (numbers.count ≡ 0 → ⊥) → (low b : Bool) → ltb n₁ numbers.least
          ≡ low → eqb numbers.count 1 ≡ b →
          cond low (Err (fault 7 at)) (cond b (Ok (leading n₁ 0 k)) (second_at w numbers end n₁ k)) ≡ Ok (leading n m next) →
          (IsLeading w numbers end) at n m next
      choose n₁ k is some true b l o e = let z : ◌≡◌ {A = ℕ} 0 1 = cc in absurd (omega arith)
      choose n₁ k is some false true l o e =
          let parts = leading_parts e in
          let same : n₁ ≡ n = parts.0 in
          let k-after : k ≡ at + 1 = is.after in
          let one : numbers.count ≡ 1 = eqb-true _ _ o in
          let high : numbers.least ≤ n₁ = ltb-false _ _ l in
          let k-next : next ≡ k = sym parts.1.1 in
          record {
            first = λ _. rw k-after at (rw same at is);
            least = λ _. omega arith;
            second = λ more. absurd (omega arith);
            within = λ more. absurd (omega arith);
            after = λ _. omega arith;
          }
      choose n₁ k is some false false l o e =
          let second = second-read n₁ k e in
          let same : n₁ ≡ n = sym second.same-n in
          let k-after : k ≡ at + 1 = is.after in
          let high : numbers.least ≤ n₁ = ltb-false _ _ l in
          let other : numbers.count ≡ 1 → ⊥ = eqb-false _ _ o in
          let moved : IsSecond n₁ (at + 1) n m next = rw k-after at second in
          let moved-n : IsSecond n (at + 1) n m next = rw same at moved in
          record {
            first = λ _. rw k-after at (rw same at is);
            least = λ _. omega arith;
            second = λ more. moved-n.second;
            within = λ more. (moved-n.third (λ two. omega arith)).within;
            after = λ most. two_or_three (eqb numbers.count 2) refl other most moved-n;
          }
        where
          two_or_three :
              (b : Bool) → eqb numbers.count 2 ≡ b → (numbers.count ≡ 1 → ⊥) → numbers.count ≤ 3 →
              IsSecond n (at + 1) n m next →
              next ≡ at + numbers.count
          two_or_three true b other most s = let two : numbers.count ≡ 2 = eqb-true _ _ b in let k : next
              ≡ at + 1 + 1 = s.after two in omega arith
          two_or_three false b other most s =
              let no-two : numbers.count ≡ 2 → ⊥ = eqb-false _ _ b in
              let k : next ≡ at + 1 + 1 + 1 = (s.third no-two).after in
              omega arith

      go :
          (v : Result (ℕ × ℕ) Fault) → number_at w 63 end at ≡ v → (numbers.count ≡ 0 → ⊥) →
          on_number v Err
          (λ (n k : ℕ). cond (ltb n numbers.least) (Err (fault 7 at))
          (cond (eqb numbers.count 1) (Ok (leading n 0 k)) (second_at w numbers end n k)))
          ≡ Ok (leading n m next) → (IsLeading w numbers end) at n m next
      go (Err f) v some e = let z : ◌≡◌ {A = ℕ} 0 1 = cc in absurd (omega arith)
      go (Ok (n₁, k)) v some e =
          choose n₁ k (number_read w _ end at v) some (ltb n₁ numbers.least) (eqb numbers.count 1) refl refl e

      none :
          (b : Bool) → eqb numbers.count 0 ≡ b → cond b (Ok (leading 0 0 at)) (first_at w numbers end at) ≡ Ok (leading n m next)
          → (IsLeading w numbers end) at n m next
      none true b e =
          let zeroed : numbers.count ≡ 0 = eqb-true _ _ b in
          let k : next ≡ at = sym (leading_parts e).1.1 in
          record {
            first = λ more. absurd (omega arith);
            least = λ more. absurd (omega arith);
            second = λ more. absurd (omega arith);
            within = λ more. absurd (omega arith);
            after = λ _. omega arith;
          }
      none false b e = go (number_at w 63 end at) refl (eqb-false _ _ b) e

pub length-patterns : (w : List ℕ) (n k at : ℕ) → length (patterns_in w n k at) ≡ k
unfolding patterns_in
length-patterns w n zero at = refl
length-patterns w n (suc k) at = ap suc (length-patterns w n k (at + 1 + number_in w at * n))

first_width : {w : List ℕ} {end at n next size : ℕ} → size ≡ number_in w at → IsNumber w 63 end at n next → (size ≡ n)
    × (n ≤ 64)
first_width {n = n} same is = (same ∙ sym is.value, let low : n ≤ 63 = is.bounded in omega arith)

cond-low : (b : Bool) (n : ℕ) → n ≤ 64 → cond b 1 n ≤ 64
cond-low true n low = omega arith
cond-low false n low = low

-- The cell that a body stands for has the output width that its layout says, at most 64.
leading-width :
    (w : List ℕ) (op : Operation) (end at : ℕ) {n m next : ℕ} → IsLeading w (numbers_of op) end at n m next →
    (output_len (cell_in w op at) ≡ (fields_of op n m).width) × ((fields_of op n m).width ≤ 64)
leading-width w O.Void end at is = (refl, omega arith)
leading-width w O.Note end at is = (refl, omega arith)
leading-width w O.IoBuf end at is = first_width refl (is.first (omega arith))
leading-width w O.Input end at is = first_width refl (is.first (omega arith))
leading-width w (O.Unary operator) end at is = first_width (length-tab _ _) (is.first (omega arith))
leading-width w (O.Binary operator) end at {n} is =
    let n-is = is.first (omega arith) in
    let low = n-is.bounded in
    (ap (binary_width operator) (length-tab _ _ ∙ sym n-is.value), cond-low (compares operator) n (omega arith))
leading-width w O.Mux end at is = first_width (length-tab _ _) (is.first (omega arith))
leading-width w O.Adc end at {n} {m} is =
    let n-is = is.first (omega arith) in
    (ap (λ (i : ℕ). i + 1) (length-tab _ _ ∙ sym n-is.value), let low = n-is.bounded in omega arith)
leading-width w O.Aig end at is = (refl, omega arith)
leading-width w (O.Shift operator) end at is = first_width (length-tab _ _) (is.first (omega arith))
leading-width w O.Match end at {n} {m} is =
    let k = is.second (omega arith) in
    (length-patterns _ _ _ _ ∙ sym k.value, let low = k.bounded in omega arith)
leading-width w O.Assign end at is = first_width (length-tab _ _) (is.first (omega arith))
leading-width w O.Dff end at is = first_width (length-tab _ _) (is.first (omega arith))

pub body-read :
    (w : List ℕ) (total : ℕ) (layout : Fields) (n end at : ℕ) {next : ℕ} → body_at w total layout n end at ≡ Ok next
    →
    (next ≡ end) × IsBody w total layout n end at
unfolding body_at tail_at
body-read w total layout n end at read =
    let controls = both_read (nets_at w total true end layout.controls at) _ read in
    let nets = both_read (nets_at w total false end layout.nets controls.place) _ controls.second in
    let constants = both_read (constants_at w end layout.constants nets.place) _ nets.second in
    let patterns = both_read (patterns_at w n end layout.patterns constants.place) _ constants.second in
    let ends = ends_read end patterns.place patterns.second in (
      ends.1,
      record {
        nets = controls.place;
        constants = nets.place;
        patterns = constants.place;
        controls-read = controls.first;
        nets-read = nets.first;
        constants-read = constants.first;
        patterns-read = patterns.first ∙ ap Ok ends.0;
      },
    )

pub record_read : (w : List ℕ) (total at : ℕ) {op : Operation} {width next : ℕ} → record_at w total at
    ≡ Ok (cell_record op width next) → IsRecord w total at op width next
unfolding record_at contents_at cell_at
record_read w total at {op} {width} {next} read = headed (head_at w at) refl read
  where
    body :
        (o : Operation) (first end n m start : ℕ) → IsHead w at o first end →
        IsLeading w (numbers_of o) end first n m start →
        (s : Result ℕ Fault) → body_at w total (fields_of o n m) n end start ≡ s →
        on_read s Err (λ (after : ℕ). Ok (cell_record o (fields_of o n m).width after)) ≡ Ok (cell_record op width next) →
        IsRecord w total at op width next
    body o first end n m start h l (Err f) s e = let z : ◌≡◌ {A = ℕ} 0 1 = cc in absurd (omega arith)
    body o first end n m start h l (Ok after) s e =
        let was = body-read w total (fields_of o n m) n end start s in
        let parts = record_parts e in
        let same-o : o ≡ op = parts.0 in
        let same_end : end ≡ next = let a : after ≡ next = parts.1.1 in let b : after ≡ end = was.0 in omega arith in
        let same_first : first ≡ at + 1 = h.start in
        let decoded : op_at w at ≡ o = rw h.decoded in
        let lead : IsLeading w (numbers_of o) end (at + 1) n m start = rw same_first at l in
        let wide = leading-width w o end (at + 1) lead in
        let width_is : width ≡ (fields_of o n m).width = sym parts.1.0 in
        record {
          inside = h.inside;
          kind = h.kind;
          same_op = sym same-o ∙ sym decoded;
          ends = sym same_end ∙ h.finish;
          fits = let f = h.fits in omega arith;
          same_width = width_is ∙ sym (rw decoded wide.0);
          low-width = let low = wide.1 in omega arith;
          n = n;
          m = m;
          start = start;
          leading = rw same-o at (rw same_end at lead);
          body = rw same-o at (rw same_end at was.1);
        }

    lead :
        (o : Operation) (first end : ℕ) → IsHead w at o first end → (l : Result Leading Fault) → leading_at w (numbers_of o) end first
        ≡ l →
        on_leading l Err
        (λ (n m start : ℕ). on_read (body_at w total (fields_of o n m) n end start) Err
        (λ (after : ℕ). Ok (cell_record o (fields_of o n m).width after)))
        ≡ Ok (cell_record op width next) → IsRecord w total at op width next
    lead o first end h (Err f) l e = let z : ◌≡◌ {A = ℕ} 0 1 = cc in absurd (omega arith)
    lead o first end h (Ok r) l e =
        body o first end r.n r.m r.next h (leading-read w (numbers_of o) end first l)
        (body_at w total (fields_of o r.n r.m) r.n end r.next) refl e

    headed :
        (h : Result Head Fault) → head_at w at ≡ h →
        on_head h Err (λ (o : Operation) (first end : ℕ). contents_at w total o end first) ≡ Ok (cell_record op width next) →
        IsRecord w total at op width next
    headed (Err f) h e = let z : ◌≡◌ {A = ℕ} 0 1 = cc in absurd (omega arith)
    headed (Ok r) h e =
        lead r.op r.first r.end (head_read w at h) (leading_at w (numbers_of r.op) r.end r.first) refl e

-- What stands at the slots of the cell that a body stands for is by its operation.
standing_in_lem : (w : List ℕ) (op : Operation) (at : ℕ) → standing (cell_in w op at) ≡ standing_of op
standing_in_lem w O.Void at = refl
standing_in_lem w O.Note at = refl
standing_in_lem w O.IoBuf at = refl
standing_in_lem w O.Input at = refl
standing_in_lem w (O.Unary operator) at = refl
standing_in_lem w (O.Binary operator) at = refl
standing_in_lem w O.Mux at = refl
standing_in_lem w O.Adc at = refl
standing_in_lem w O.Aig at = refl
standing_in_lem w (O.Shift operator) at = refl
standing_in_lem w O.Match at = refl
standing_in_lem w O.Assign at = refl
standing_in_lem w O.Dff at = refl

pub standing-at : (w : List ℕ) (at : ℕ) → standing (cell_at w at) ≡ standing_of (op_at w at)
unfolding cell_at
standing-at w at = standing_in_lem w (op_at w at) (at + 1)
