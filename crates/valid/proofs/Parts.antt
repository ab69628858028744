-- Document 01, "Operations and bodies": the fields of the cell that a body stands for are what is read at the places of
-- its layout, one after another.
use mathlib.Core.Path.{◌≡◌, refl, ap}
use mathlib.Core.List.{List, [], ◌∷◌, ◌++◌}
use Prim.Native.Nat.{ℕ, zero, suc, ◌+◌, ◌≤◌}
use native.Mathlib.Omega.{arith}
use Rattle.logic.specs.Table.{tab}
use Rattle.logic.proofs.TableLaws.{tab_ext, length-tab}
use Rattle.cell.specs.Cell.{Cell, Unary, Binary, Shift}
use Rattle.cell.specs.Cell as C
use Rattle.cell.specs.Operation.{body, numbers_of, fields_of}
use Rattle.cell.specs.declared.Operation.{Operation}
use Rattle.cell.specs.declared.Operation.TheVariants as O
use Rattle.cell.specs.declared.Fields.{Fields}
use Rattle.cell_reader.specs.Parse.{number_in, net_in, control_in, trit_in, nets_in, trits_in, patterns_in, cell_in}
use Rattle.cell_reader.proofs.AcceptedLaws.{length-patterns}
use Rattle.cell_reader.specs.Accepted.{IsLeading}
use Rattle.valid.specs.Words.{contents_of}
use Rattle.valid.proofs.Spans.{flag_back}

-- ---- Tables of what is read from a place on.
module _ {A : Type 0} (item : ℕ → A) where
  shifted : (n at place : ℕ) → place ≡ at + 1 → tab n (λ i. item (place + i)) ≡ tab n (λ i. item (at + suc i))
  shifted n at place same = tab_ext n _ _ (λ i low. ap item (omega arith))

  joined :
      (n m at place : ℕ) → place ≡ at + n →
      tab n (λ i. item (at + i)) ++ tab m (λ i. item (place + i)) ≡ tab (n + m) (λ i. item (at + i))
  unfolding tab
  joined zero m at place same =
      let none : 0 + m ≡ m = omega arith in rw none (tab_ext m _ _ (λ i low. ap item (omega arith)))
  joined (suc n) m at place same =
      let more : suc n + m ≡ suc (n + m) = omega arith in
      rw (more, ← shifted n at (at + 1) refl, ← shifted (n + m) at (at + 1) refl)
      (ap (λ (xs : List A). item (at + 0) ∷ xs) (joined n m (at + 1) place (omega arith)))

  headed :
      (n at place k : ℕ) → place ≡ at + 1 → k ≡ suc n →
      item at ∷ tab n (λ i. item (place + i)) ≡ tab k (λ i. item (at + i))
  unfolding tab
  headed n at place k same more =
      let start : at + 0 ≡ at = omega arith in
      rw (more, start) (ap (λ (xs : List A). item at ∷ xs) (shifted n at place same))

-- The fields of a cell, by the layout of its operation: `count` numbers, then what the layout says.
pub record Parts (w : List ℕ) (at count : ℕ) (layout : Fields) (n : ℕ) (c : Cell) : Type 0 where
  pub few : count ≤ 3
  pub numbers : (contents_of c).numbers ≡ tab count (λ i. number_in w (at + i))
  pub controls : (contents_of c).controls ≡ tab layout.controls (λ i. control_in w (at + count + i))
  pub nets : (contents_of c).nets ≡ nets_in w layout.nets (at + (count + layout.controls))
  pub constants :
      (contents_of c).constants ≡ trits_in w layout.constants (at + (count + layout.controls) + layout.nets)
  pub patterns :
      (contents_of c).patterns
      ≡ patterns_in w n layout.patterns (at + (count + layout.controls) + layout.nets + layout.constants)

module _ (w : List ℕ) (at : ℕ) where
  one : (x : ℕ) → x ≡ number_in w at → (x ∷ []) ≡ tab 1 (λ i. number_in w (at + i))
  unfolding tab
  one x a = let start : at + 0 ≡ at = omega arith in rw (start, a)

  two : (x y : ℕ) → x ≡ number_in w at → y ≡ number_in w (at + 1) → (x ∷ y ∷ []) ≡ tab 2 (λ i. number_in w (at + i))
  unfolding tab
  two x y a b = let start : at + 0 ≡ at = omega arith in rw (start, a, b)

  three :
      (x y : ℕ) → x ≡ number_in w at → y ≡ number_in w (at + 1) →
      (x ∷ y ∷ number_in w (at + 2) ∷ []) ≡ tab 3 (λ i. number_in w (at + i))
  unfolding tab
  three x y a b = let start : at + 0 ≡ at = omega arith in rw (start, a, b)

  -- Numbers and nets alone.
  plain :
      (c : Cell) (count many n width : ℕ) → count ≤ 3 → (contents_of c).numbers ≡ tab count (λ i. number_in w (at + i)) →
      (contents_of c).nets ≡ nets_in w many (at + (count + 0)) → (contents_of c).controls ≡ [] →
      (contents_of c).constants ≡ [] → (contents_of c).patterns ≡ [] → Parts w at count (body 0 many 0 0 width) n c
  unfolding tab patterns_in
  plain c count many n width few numbers nets controls constants patterns =
      record {
        few = few;
        numbers = numbers;
        controls = controls;
        nets = nets;
        constants = constants;
        patterns = patterns;
      }

  -- #n n*
  unary_parts :
      (op : Unary) (n : ℕ) → n ≡ number_in w at →
      Parts w at 1 (body 0 n 0 0 n) n (C.unary op (nets_in w (number_in w at) (at + 1)))
  unary_parts op n value =
      plain _ 1 n n n (omega arith) (one _ (length-tab (number_in w at) _)) (rw value) refl refl refl

  -- #n n* n*
  binary_parts :
      (op : Binary) (n width : ℕ) → n ≡ number_in w at →
      Parts w at 1 (body 0 (n + n) 0 0 width) n
      (C.binary op (nets_in w (number_in w at) (at + 1)) (nets_in w (number_in w at) (at + 1 + number_in w at)))
  binary_parts op n width value =
      plain _ 1 (n + n) n width (omega arith) (one _ (length-tab (number_in w at) _))
      (rw (← value) (joined (net_in w) n n (at + 1) (at + 1 + n) refl)) refl refl refl

  -- #n #m #stride n* m*
  shift_parts :
      (op : Shift) (n m : ℕ) → n ≡ number_in w at → m ≡ number_in w (at + 1) →
      Parts w at 3 (body 0 (n + m) 0 0 n) n
      (C.shift op (nets_in w (number_in w at) (at + 3)) (nets_in w (number_in w (at + 1)) (at + 3 + number_in w at))
      (number_in w (at + 2)))
  shift_parts op n m value value₁ =
      plain _ 3 (n + m) n n (omega arith)
      (three _ _ (length-tab (number_in w at) _) (length-tab (number_in w (at + 1)) _))
      (rw (← value, ← value₁) (joined (net_in w) n m (at + 3) (at + 3 + n) refl)) refl refl refl

  module _ (end : ℕ) where
    pub cell_parts :
        (op : Operation) {n m start : ℕ} → IsLeading w (numbers_of op) end at n m start →
        Parts w at (numbers_of op).count (fields_of op n m) n (cell_in w op at)
    unfolding tab patterns_in
    cell_parts O.Void {n} l = plain C.void 0 0 n 0 (omega arith) refl refl refl refl refl
    cell_parts O.Note {n} l = plain C.note 0 0 n 0 (omega arith) refl refl refl refl refl
    -- #n
    cell_parts O.IoBuf {n} l = plain _ 1 0 n n (omega arith) (one (number_in w at) refl) refl refl refl refl
    cell_parts O.Input {n} l = plain _ 1 0 n n (omega arith) (one (number_in w at) refl) refl refl refl refl
    cell_parts (O.Unary operator) {n} l = unary_parts operator n (l.first (omega arith)).value
    cell_parts (O.Binary operator) {n} l = binary_parts operator n _ (l.first (omega arith)).value
    -- #n s n* n*
    cell_parts O.Mux {n} l =
        plain _ 1 (1 + n + n) n n (omega arith) (one _ (length-tab (number_in w at) _))
        (rw (← (l.first (omega arith)).value, joined (net_in w) n n (at + 2) (at + 2 + n) refl)
        (headed (net_in w) (n + n) (at + 1) (at + 2) (1 + n + n) (omega arith) (omega arith))) refl refl refl
    -- #n n* n* c
    cell_parts O.Adc {n} l =
        let many : n + n + 1 ≡ n + (n + 1) = omega arith in
        plain _ 1 (n + n + 1) n (n + 1) (omega arith) (one _ (length-tab (number_in w at) _))
        (rw (
          ← (l.first (omega arith)).value,
          headed (net_in w) 0 (at + 1 + n + n) (at + 1 + n + n + 1) 1 refl refl,
          joined (net_in w) n 1 (at + 1 + n) (at + 1 + n + n) refl,
          many,
        ) (joined (net_in w) n (n + 1) (at + 1) (at + 1 + n) refl)) refl refl refl
    -- two controls
    cell_parts O.Aig {n} l =
        let start : at + 0 ≡ at = omega arith in
        record {
          few = omega arith;
          numbers = refl;
          controls = rw (start, start);
          nets = refl;
          constants = refl;
          patterns = refl;
        }
    cell_parts (O.Shift operator) {n} {m} l =
        shift_parts operator n m (l.first (omega arith)).value (l.second (omega arith)).value
    -- #n #k enable n*, the patterns
    cell_parts O.Match {n} {m} l =
        let value = (l.first (omega arith)).value in
        let value₁ = (l.second (omega arith)).value in
        let place : at + 2 + (1 + n) + 0 ≡ at + 3 + n = omega arith in
        record {
          few = omega arith;
          numbers = two _ _ (length-tab (number_in w at) _) (length-patterns w (number_in w at) (number_in w (at + 1)) _);
          controls = refl;
          nets = rw (← value) (headed (net_in w) n (at + 2) (at + 3) (1 + n) (omega arith) (omega arith));
          constants = refl;
          patterns = rw (← value, ← value₁, place);
        }
    -- #n #u #offset enable n* u*
    cell_parts O.Assign {n} {m} l =
        plain _ 3 (1 + n + m) n n (omega arith)
        (three _ _ (length-tab (number_in w at) _) (length-tab (number_in w (at + 1)) _))
        (rw (
          ← (l.first (omega arith)).value,
          ← (l.second (omega arith)).value,
          joined (net_in w) n m (at + 4) (at + 4 + n) refl,
        ) (headed (net_in w) (n + m) (at + 3) (at + 4) (1 + n + m) (omega arith) (omega arith))) refl refl refl
    -- #n #reset-over-enable clock clear reset enable, n* data, n* clear value, n* reset value
    cell_parts O.Dff {n} {m} l =
        let value = (l.first (omega arith)).value in
        let second = l.second (omega arith) in
        let flag : number_in w (at + 1) ≤ 1 = rw second.value at second.bounded in
        let place : (i : ℕ) → at + 2 + i ≡ at + (2 + i) = λ i. omega arith in
        record {
          few = omega arith;
          numbers = two _ _ (length-tab (number_in w at) _) (flag_back (number_in w (at + 1)) flag);
          controls = rw (place 0, place 1, place 2, place 3);
          nets = rw (← value);
          constants = rw (← value) (joined (trit_in w) n n (at + 6 + n) (at + 6 + n + n) refl);
          patterns = refl;
        }
