-- Document 01, "Faults and what stays", "A record": the head, the leading numbers and the body of a right record are
-- read without a fault, whatever the operation.
use mathlib.Core.Path.{◌≡◌, refl}
use mathlib.Core.Bool.{Bool, true, false, cond}
use mathlib.Core.List.{List, [], ◌∷◌, ◌++◌, map}
use Prim.Native.Nat.{ℕ, suc, ◌+◌, ◌-◌, ◌*◌, ◌/◌, ◌%◌, ◌^◌, ◌≤◌, ◌<◌}
use native.Mathlib.Omega.{arith}
use native.Mathlib.Nat.{add-zero}
use lib.ListN.{length, get_or, length-append}
use lib.Dec.{ltb, eqb}
use borrow.Author.Tests.{lt-ltb, le-ltb, le-leb, eq-eqb, ne_eqb}
use Rattle.std.specs.Prelude.{Some, Ok, Err}
use Rattle.logic.specs.Word.{head_word, number_word}
use Rattle.logic.proofs.WordLaws.{kind_of_word, payload_of_word}
use Rattle.cell.specs.Operation.{operation_of, number_of}
use Rattle.cell.proofs.Numbered.{number_operation}
use Rattle.cell.specs.declared.Operation.{Operation}
use Rattle.cell.specs.declared.Numbers.{Numbers}
use Rattle.cell.specs.declared.Fields.{Fields}
use Rattle.cell.specs.Each.{Each}
use Rattle.fields.specs.Field.{fault, net_at, constant_at, ends_at}
use Rattle.fields.specs.Pattern.{patterns_at}
use Rattle.fields.specs.Head.{head_at}
use Rattle.fields.specs.Head as Head
use Rattle.cell_reader.specs.Record.{third_at, second_at, first_at, leading_at, tail_at, body_at}
use Rattle.cell_reader.specs.Parse.{number_in, op_at}
use Rattle.valid.proofs.Stands.{word_at, Stands, stands_first, stands_rest, stands_tail, stands_inside}
use Rattle.valid.proofs.Stands.{scan-words}
use Rattle.valid.proofs.Fields.{number-right, Named, Fixed, net-right, constant-right}
use Rattle.cell_reader.specs.Record.{leading}
use Rattle.fields.specs.Head.{head}

-- ---- Heads.
module _
    (w : List ℕ) (short : length w ≤ 16384) (op : Operation) (count at : ℕ) (fits : at + 1 + count ≤ length w)
    (word : word_at w at ≡ head_word (number_of op) count) where
  head_payload : number_in w at ≡ number_of op + 32 * count
  head_payload =
      let low = (number_operation op).1 in rw word (payload_of_word 2 (number_of op + 32 * count) (omega arith))

  head-number : number_in w at % 32 ≡ number_of op
  head-number = let low = (number_operation op).1 in let is = head_payload in omega arith

  pub head-count : number_in w at / 32 ≡ count
  head-count = let low = (number_operation op).1 in let is = head_payload in omega arith

  head_decoded : operation_of (number_in w at % 32) ≡ Some op
  head_decoded = rw head-number (number_operation op).0

  pub head_operation : op_at w at ≡ op
  head_operation = rw head_decoded

  pub head-right : head_at w at ≡ Ok (head op (at + 1) (at + 1 + count))
  unfolding head_at Head.record_of
  head-right =
      rw (
        lt-ltb at (length w) (omega arith),
        head_decoded,
        head-count,
        word,
        kind_of_word 2 (number_of op + 32 * count),
        le-leb (at + 1 + count) (length w) fits,
      )

-- ---- Leading numbers, as an operation asks for them: how many, the bounds of the first two, the least n, and
-- offset + u within n.
pub record Leads (numbers : Numbers) (ns : List ℕ) : Type 0 where
  pub count : numbers.count ≡ length ns
  pub few : length ns ≤ 3
  pub first : get_or ns 0 0 ≤ 63
  pub least : numbers.least ≤ get_or ns 0 0
  pub second : get_or ns 1 0 ≤ numbers.second
  pub within : cond numbers.within (get_or ns 2 0 + get_or ns 1 0) 0 ≤ get_or ns 0 0
  pub small : Each (λ (n : ℕ). n < 2 ^ 29) ns

module _ (w : List ℕ) (numbers : Numbers) (end : ℕ) where
  third_right :
      (n m k at : ℕ) → Stands w end at (number_word k ∷ []) → k < 2 ^ 29 → cond numbers.within (k + m) 0 ≤ n →
      third_at w numbers end n m at ≡ Ok (leading n m (at + 1))
  unfolding third_at
  third_right n m k at s low within =
      rw (number-right w (2 ^ 29 - 1) end at k (stands_inside s) s.reads.0 low (omega arith))
      (go numbers.within within)
    where
      go :
          (b : Bool) → cond b (k + m) 0 ≤ n →
          cond b (cond (ltb n (k + m)) (Err (fault 9 at)) (Ok (leading n m (at + 1)))) (Ok (leading n m (at + 1)))
          ≡ Ok (leading n m (at + 1))
      go false low = refl
      go true low = rw (le-ltb n (k + m) low)

  second-right :
      (n m at : ℕ) (rest : List ℕ) → Stands w end at (map number_word (m ∷ rest)) → Leads numbers (n ∷ m ∷ rest) →
      second_at w numbers end n at ≡ Ok (leading n m (at + length (m ∷ rest)))
  unfolding second_at
  second-right n m at [] s leads =
      rw (
        number-right w numbers.second end at m (stands_inside s) s.reads.0 leads.small.1.0 leads.second,
        leads.count,
      )
  second-right n m at (k ∷ []) s leads =
      let more : eqb numbers.count 2 ≡ false = rw leads.count in
      let place : at + 2 ≡ at + 1 + 1 = omega arith in
      rw (
        number-right w numbers.second end at m (stands_inside s) s.reads.0 leads.small.1.0 leads.second,
        more,
        place,
      )
      (third_right n m k (at + 1) (stands_tail s) leads.small.1.1.0 leads.within)
  second-right n m at (k ∷ j ∷ rest) s leads = absurd (let few = leads.few in omega arith)

  pub leading-right :
      (ns : List ℕ) (at : ℕ) → Stands w end at (map number_word ns) → Leads numbers ns →
      leading_at w numbers end at ≡ Ok (leading (get_or ns 0 0) (get_or ns 1 0) (at + length ns))
  unfolding leading_at first_at
  leading-right [] at s leads = rw (leads.count, add-zero)
  leading-right (n ∷ []) at s leads =
      rw (
        leads.count,
        number-right w 63 end at n (stands_inside s) s.reads.0 leads.small.0 leads.first,
        le-ltb n numbers.least leads.least,
      )
  leading-right (n ∷ m ∷ rest) at s leads =
      let count = leads.count in
      let some : eqb numbers.count 0 ≡ false = ne_eqb numbers.count 0 (λ e. omega arith) in
      let more : eqb numbers.count 1 ≡ false = ne_eqb numbers.count 1 (λ e. omega arith) in
      let place : at + suc (suc (length rest)) ≡ at + 1 + suc (length rest) = omega arith in
      rw (
        some,
        number-right w 63 end at n (stands_inside s) s.reads.0 leads.small.0 leads.first,
        le-ltb n numbers.least leads.least,
        more,
        place,
      )
      (second-right n m (at + 1) rest (stands_tail s) leads)

-- ---- What follows the numbers.
module _ (w : List ℕ) (total : ℕ) (layout : Fields) (n end : ℕ) (controls nets constants patterns : List ℕ) where
  pub record Follows (at : ℕ) : Type 0 where
    pub many-controls : layout.controls ≡ length controls
    pub many-nets : layout.nets ≡ length nets
    pub many-constants : layout.constants ≡ length constants
    pub controls-named : Each (Named total true) controls
    pub nets-named : Each (Named total false) nets
    pub constants_fixed : Each Fixed constants
    pub patterns-right : (place : ℕ) → Stands w end place patterns →
        patterns_at w n end layout.patterns place ≡ Ok (place + length patterns)
    pub ends : end ≡ at + length (controls ++ (nets ++ (constants ++ patterns)))

  pub body-right :
      (at : ℕ) → Stands w end at (controls ++ (nets ++ (constants ++ patterns))) → Follows at →
      body_at w total layout n end at ≡ Ok end
  unfolding body_at tail_at ends_at
  body-right at s follows =
      let s₁ = stands_rest controls (nets ++ (constants ++ patterns)) s in
      let s₂ = stands_rest nets (constants ++ patterns) s₁ in
      let s₃ = stands_rest constants patterns s₂ in
      let ends = follows.ends in
      let last : at + length controls + length nets + length constants + length patterns ≡ end =
      omega (
        arith,
        length-append controls (nets ++ (constants ++ patterns)),
        length-append nets (constants ++ patterns),
        length-append constants patterns,
      ) in
      rw (
        follows.many-controls,
        scan-words w end (net_at w total true end) (Named total true) (λ i l. net-right w end i l) controls at
            (stands_first controls (nets ++ (constants ++ patterns)) s) follows.controls-named,
        follows.many-nets,
        scan-words w end (net_at w total false end) (Named total false) (λ i l. net-right w end i l) nets
            (at + length controls)
            (stands_first nets (constants ++ patterns) s₁) follows.nets-named,
        follows.many-constants,
        scan-words w end (constant_at w end) Fixed (constant-right w end) constants (at + length controls + length nets)
            (stands_first constants patterns s₂) follows.constants_fixed,
        follows.patterns-right (at + length controls + length nets + length constants) s₃,
        last,
        eq-eqb end end refl,
      )
