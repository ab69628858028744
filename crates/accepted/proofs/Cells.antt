-- The cell of a record that was read: its shape, its nets, its bounds and its words, layout by layout.
use mathlib.Core.Path.{◌≡◌, refl}
use mathlib.Core.Bool.{true, false}
use mathlib.Core.List.{List, [], ◌∷◌, ◌++◌}
use Prim.Native.Nat.{ℕ, ◌+◌, ◌≤◌}
use native.Mathlib.Omega.{arith}
use lib.ListN.{length}
use Rattle.logic.proofs.TableLaws.{length-tab}
use Rattle.operators.specs.Operators.{binary_least, shift_least}
use Rattle.cell.specs.Cell.{Cell, Unary, Binary, Shift}
use Rattle.cell.specs.Cell as C
use Rattle.cell.specs.Operation.{lead, body, numbers_of, fields_of}
use Rattle.cell.specs.declared.Operation.{Operation}
use Rattle.cell.specs.declared.Operation.TheVariants as O
use Rattle.cell.specs.Each.{Each}
use Rattle.cell.proofs.EachLaws.{each_append}
use Rattle.right.specs.Bounds.{Bounded}
use Rattle.right.specs.Nets.{nets_of}
use Rattle.right.specs.Shape.{Shaped, Wide, WideShift}
use Rattle.cell_reader.specs.Parse.{number_in, net_in, control_in, nets_in, trits_in, patterns_in, cell_in, op_at, cell_at}
use Rattle.cell_reader.proofs.AcceptedLaws.{length-patterns}
use Rattle.cell_reader.specs.Accepted.{IsLeading, IsRecord}
use Rattle.bound.specs.Costs.{sum_by}
use Rattle.bound.specs.Words.{record_words, pattern_words}
use Rattle.accepted.proofs.Fields.{NetStands, net, vector, Body, body_of, patterns-shaped}

-- Fault 7: the least n that an operation asks is what its rule needs.
pub wide_binary : (op : Binary) (n : ℕ) → (binary_least op ≤ n → Wide op n) × (Wide op n → binary_least op ≤ n)
wide_binary C.and n = (λ _. tt, λ _. omega arith)
wide_binary C.or n = (λ _. tt, λ _. omega arith)
wide_binary C.xor n = (λ _. tt, λ _. omega arith)
wide_binary C.eq n = (λ low. low, λ wide. wide)
wide_binary C.ult n = (λ low. low, λ wide. wide)
wide_binary C.slt n = (λ low. low, λ wide. wide)
wide_binary C.mul n = (λ _. tt, λ _. omega arith)
wide_binary C.udiv n = (λ _. tt, λ _. omega arith)
wide_binary C.umod n = (λ _. tt, λ _. omega arith)
wide_binary C.sdiv_trunc n = (λ low. low, λ wide. wide)
wide_binary C.smod_trunc n = (λ low. low, λ wide. wide)

pub wide_shift : (op : Shift) (n : ℕ) → (shift_least op ≤ n → WideShift op n) × (WideShift op n → shift_least op ≤ n)
wide_shift C.shl n = (λ _. tt, λ _. omega arith)
wide_shift C.ushr n = (λ _. tt, λ _. omega arith)
wide_shift C.sshr n = (λ low. low, λ wide. wide)
wide_shift C.xshr n = (λ _. tt, λ _. omega arith)

-- A cell whose numbers stand from a place on, its nets from `start` on, and whose record ends at `end`.
pub record IsCell (w : List ℕ) (total at start end : ℕ) (c : Cell) : Type 0 where
  pub shaped : Shaped c
  pub stands : Each (NetStands w total start end) (nets_of c)
  pub bounded : Bounded c
  pub words : end + 1 ≡ at + record_words c

module _ (w : List ℕ) (total end at : ℕ) where
  -- #n n*
  unary-is :
      (op : Unary) {n m start : ℕ} → IsLeading w (lead 1 0 0 false) end at n m start →
      Body w total (body 0 n 0 0 n) n end start →
      IsCell w total at start end (C.unary op (nets_in w (number_in w at) (at + 1)))
  unfolding patterns_in sum_by
  unary-is op {n} leading fields =
      let first = leading.first (omega arith) in
      let begins = leading.after (omega arith) in
      let a = vector w total fields.named n (at + 1) (omega arith) (omega arith) in
      rw (← first.value) record { shaped = tt; stands = a.each; bounded = omega arith; words = omega arith }

  -- #n n* n*
  binary-is :
      (op : Binary) {least width n m start : ℕ} → (least ≤ n → Wide op n) →
      IsLeading w (lead 1 least 0 false) end at n m start →
      Body w total (body 0 (n + n) 0 0 width) n end start →
      IsCell w total
      at start end
      (C.binary op (nets_in w (number_in w at) (at + 1)) (nets_in w (number_in w at) (at + 1 + number_in w at)))
  unfolding patterns_in sum_by
  binary-is op {n = n} {start = start} wide leading fields =
      let first = leading.first (omega arith) in
      let begins = leading.after (omega arith) in
      let a = vector w total fields.named n (at + 1) (omega arith) (omega arith) in
      let b = vector w total fields.named n (at + 1 + n) (omega arith) (omega arith) in
      rw (← first.value) record {
        shaped = (omega arith, rw a.size (wide (leading.least (omega arith))));
        stands = each_append _ (nets_in w n (at + 1)) (nets_in w n (at + 1 + n)) a.each b.each;
        bounded = omega arith;
        words = omega arith;
      }

  -- #n s n* n*
  mux-is :
      {n m start : ℕ} → IsLeading w (lead 1 0 0 false) end at n m start →
      Body w total (body 0 (1 + n + n) 0 0 n) n end start →
      IsCell w total at start end
      (C.mux (net_in w (at + 1)) (nets_in w (number_in w at) (at + 2)) (nets_in w (number_in w at) (at + 2 + number_in w at)))
  unfolding patterns_in sum_by
  mux-is {n = n} leading fields =
      let first = leading.first (omega arith) in
      let begins = leading.after (omega arith) in
      let s = net w total fields.named (at + 1) (omega arith) (omega arith) in
      let a = vector w total fields.named n (at + 2) (omega arith) (omega arith) in
      let b = vector w total fields.named n (at + 2 + n) (omega arith) (omega arith) in
      rw (← first.value) record {
        shaped = omega arith;
        stands = (s, each_append _ (nets_in w n (at + 2)) (nets_in w n (at + 2 + n)) a.each b.each);
        bounded = omega arith;
        words = omega arith;
      }

  -- #n n* n* c
  adc-is :
      {n m start : ℕ} → IsLeading w (lead 1 0 0 false) end at n m start →
      Body w total (body 0 (n + n + 1) 0 0 (n + 1)) n end start →
      IsCell w total at start end
      (C.adc (nets_in w (number_in w at) (at + 1)) (nets_in w (number_in w at) (at + 1 + number_in w at))
      (net_in w (at + 1 + number_in w at + number_in w at)))
  unfolding patterns_in sum_by
  adc-is {n = n} leading fields =
      let first = leading.first (omega arith) in
      let begins = leading.after (omega arith) in
      let a = vector w total fields.named n (at + 1) (omega arith) (omega arith) in
      let b = vector w total fields.named n (at + 1 + n) (omega arith) (omega arith) in
      let c = net w total fields.named (at + 1 + n + n) (omega arith) (omega arith) in
      rw (← first.value) record {
        shaped = omega arith;
        stands = each_append _ (nets_in w n (at + 1)) (nets_in w n (at + 1 + n) ++ (net_in w (at + 1 + n + n) ∷ []))
            a.each
            (each_append _ (nets_in w n (at + 1 + n)) (net_in w (at + 1 + n + n) ∷ []) b.each (c, tt));
        bounded = omega arith;
        words = omega arith;
      }

  -- two controls
  aig-is :
      {n m start : ℕ} → IsLeading w (lead 0 0 0 false) end at n m start → Body w total (body 2 0 0 0 1) n end start →
      IsCell w total at start end (C.aig (control_in w at) (control_in w (at + 1)))
  unfolding patterns_in sum_by
  aig-is leading fields =
      let begins = leading.after (omega arith) in
      let a = net w total fields.named at (omega arith) (omega arith) in
      let b = net w total fields.named (at + 1) (omega arith) (omega arith) in
      record { shaped = tt; stands = (a, (b, tt)); bounded = tt; words = omega arith }

  -- #n #m #stride n* m*
  shift_is :
      (op : Shift) {least n m start : ℕ} → (least ≤ n → WideShift op n) →
      IsLeading w (lead 3 least 32 false) end at n m start →
      Body w total (body 0 (n + m) 0 0 n) n end start →
      IsCell w total at start end
      (C.shift op (nets_in w (number_in w at) (at + 3)) (nets_in w (number_in w (at + 1)) (at + 3 + number_in w at))
      (number_in w (at + 2)))
  unfolding patterns_in sum_by
  shift_is op {n = n} {m = m} wide leading fields =
      let first = leading.first (omega arith) in
      let second = leading.second (omega arith) in
      let begins = leading.after (omega arith) in
      let a = vector w total fields.named n (at + 3) (omega arith) (omega arith) in
      let b = vector w total fields.named m (at + 3 + n) (omega arith) (omega arith) in
      rw (← first.value, ← second.value) record {
        shaped = rw a.size (wide (leading.least (omega arith)));
        stands = each_append _ (nets_in w n (at + 3)) (nets_in w m (at + 3 + n)) a.each b.each;
        bounded = (omega arith, omega arith, omega arith);
        words = omega arith;
      }

  -- #n #k enable n*, the patterns
  match_is :
      {n m start : ℕ} → IsLeading w (lead 2 0 63 false) end at n m start →
      Body w total (body 0 (1 + n) 0 m m) n end start →
      IsCell w total at start end
      (C.match (nets_in w (number_in w at) (at + 3)) (net_in w (at + 2))
      (patterns_in w (number_in w at) (number_in w (at + 1)) (at + 3 + number_in w at)))
  match_is {n = n} {m = m} {start = start} leading fields =
      let first = leading.first (omega arith) in
      let second = leading.second (omega arith) in
      let begins : start ≡ at + 2 = leading.after (omega arith) in
      let patterns-at : start + 0 + (1 + n) + 0 ≡ at + 3 + n = omega arith in
      let ends : end ≡ at + 3 + n + sum_by pattern_words (patterns_in w n m (at + 3 + n)) = rw patterns-at
      at fields.ends in
      let few = rw patterns-at at fields.few in
      let count = length-patterns w n m (at + 3 + n) in
      let enable = net w total fields.named (at + 2) (omega arith) (omega arith) in
      let a = vector w total fields.named n (at + 3) (omega arith) (omega arith) in
      rw (← first.value, ← second.value) record {
        shaped = rw a.size (patterns-shaped w end n m (at + 3 + n));
        stands = (enable, a.each);
        bounded = (omega arith, omega arith, few);
        words = omega arith;
      }

  -- #n #u #offset enable n* u*
  assign-is :
      {n m start : ℕ} → IsLeading w (lead 3 0 63 true) end at n m start →
      Body w total (body 0 (1 + n + m) 0 0 n) n end start →
      IsCell w total at start end
      (C.assign (nets_in w (number_in w at) (at + 4)) (net_in w (at + 3))
      (nets_in w (number_in w (at + 1)) (at + 4 + number_in w at))
      (number_in w (at + 2)))
  unfolding patterns_in sum_by
  assign-is {n = n} {m = m} leading fields =
      let first = leading.first (omega arith) in
      let second = leading.second (omega arith) in
      let two : at + 1 + 1 ≡ at + 2 = omega arith in
      let room : number_in w (at + 2) + m ≤ n = rw two at (leading.within (omega arith) refl) in
      let begins = leading.after (omega arith) in
      let enable = net w total fields.named (at + 3) (omega arith) (omega arith) in
      let a = vector w total fields.named n (at + 4) (omega arith) (omega arith) in
      let b = vector w total fields.named m (at + 4 + n) (omega arith) (omega arith) in
      rw (← first.value, ← second.value) record {
        shaped = omega arith;
        stands = (enable, each_append _ (nets_in w n (at + 4)) (nets_in w m (at + 4 + n)) a.each b.each);
        bounded = (omega arith, omega arith);
        words = omega arith;
      }

  -- #n #reset-over-enable clock clear reset enable, n* data, n* clear value, n* reset value
  dff-is :
      {n m start : ℕ} → IsLeading w (lead 2 0 1 false) end at n m start →
      Body w total (body 4 n (n + n) 0 n) n end start →
      IsCell w total at start end (cell_in w O.Dff at)
  unfolding patterns_in sum_by
  dff-is {n = n} leading fields =
      let first = leading.first (omega arith) in
      let begins = leading.after (omega arith) in
      let clock = net w total fields.named (at + 2) (omega arith) (omega arith) in
      let clear = net w total fields.named (at + 3) (omega arith) (omega arith) in
      let reset = net w total fields.named (at + 4) (omega arith) (omega arith) in
      let enable = net w total fields.named (at + 5) (omega arith) (omega arith) in
      let a = vector w total fields.named n (at + 6) (omega arith) (omega arith) in
      let size : length (trits_in w n (at + 6 + n)) ≡ n = length-tab n _ in
      let size₁ : length (trits_in w n (at + 6 + n + n)) ≡ n = length-tab n _ in
      rw (← first.value) record {
        shaped = (omega arith, omega arith);
        stands = (clock, (clear, (reset, (enable, a.each))));
        bounded = omega arith;
        words = omega arith;
      }

  -- #n
  number_is :
      {n m start : ℕ} → IsLeading w (lead 1 0 0 false) end at n m start → Body w total (body 0 0 0 0 n) n end start →
      (number_in w at ≤ 63) × (end + 1 ≡ at + 2)
  unfolding patterns_in sum_by
  number_is {n = n} {start = start} leading fields =
      let first = leading.first (omega arith) in
      let value : n ≡ number_in w at = first.value in
      let low : n ≤ 63 = first.bounded in
      let begins : start ≡ at + 1 = leading.after (omega arith) in
      let ends : end ≡ start + 0 + 0 + 0 + 0 = fields.ends in
      (omega arith, omega arith)

  empty-is :
      {n m start : ℕ} → IsLeading w (lead 0 0 0 false) end at n m start → Body w total (body 0 0 0 0 0) n end start →
      end + 1 ≡ at + 1
  unfolding patterns_in sum_by
  empty-is {n = n} {start = start} leading fields =
      let begins : start ≡ at + 0 = leading.after (omega arith) in
      let ends : end ≡ start + 0 + 0 + 0 + 0 = fields.ends in
      omega arith

  -- The cell of each operation.
  cell_in_lem :
      (op : Operation) {n m start : ℕ} → IsLeading w (numbers_of op) end at n m start →
      Body w total (fields_of op n m) n end start →
      IsCell w total at start end (cell_in w op at)
  cell_in_lem O.Void l b = record { shaped = tt; stands = tt; bounded = tt; words = empty-is l b }
  cell_in_lem O.Note l b = record { shaped = tt; stands = tt; bounded = tt; words = empty-is l b }
  cell_in_lem O.IoBuf l b = let is = number_is l b in record { shaped = tt; stands = tt; bounded = is.0; words = is.1 }
  cell_in_lem O.Input l b = let is = number_is l b in record { shaped = tt; stands = tt; bounded = is.0; words = is.1 }
  cell_in_lem (O.Unary operator) l b = unary-is operator l b
  cell_in_lem (O.Binary operator) {n} l b = binary-is operator (wide_binary operator n).0 l b
  cell_in_lem O.Mux l b = mux-is l b
  cell_in_lem O.Adc l b = adc-is l b
  cell_in_lem O.Aig l b = aig-is l b
  cell_in_lem (O.Shift operator) {n} l b = shift_is operator (wide_shift operator n).0 l b
  cell_in_lem O.Match l b = match_is l b
  cell_in_lem O.Assign l b = assign-is l b
  cell_in_lem O.Dff l b = dff-is l b

-- The cell of a record that was read.
pub cell-read :
    {w : List ℕ} {total at : ℕ} {op : Operation} {width next : ℕ} (is : IsRecord w total at op width next) →
    IsCell w total (at + 1) is.start next (cell_at w at)
unfolding cell_at
cell-read {w} {total} {at} {op} {width} {next} is =
    let same : op ≡ op_at w at = is.same_op in
    rw same at (cell_in_lem w total next (at + 1) op is.leading (body_of is.body))
