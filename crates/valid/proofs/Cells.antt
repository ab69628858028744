-- Document 01, "Operations and bodies": the words of a right cell's record stand for that cell.
use mathlib.Core.Path.{◌≡◌, refl, ap}
use mathlib.Core.List.{List, [], ◌∷◌, ◌++◌, map, append_assoc}
use Prim.Native.Nat.{ℕ, suc, ◌+◌, ◌^◌, ◌≤◌, ◌<◌}
use native.Mathlib.Omega.{arith}
use lib.ListN.{length, length-map}
use Rattle.logic.specs.Word.{number_word}
use Rattle.logic.specs.Net.{Net}
use Rattle.logic.specs.Table.{tab}
use Rattle.cell.specs.Cell.{Cell, Control, Unary, Binary, Shift}
use Rattle.cell.specs.Cell as C
use Rattle.right.specs.Nets.{Within}
use Rattle.right.specs.Shape.{Shaped}
use Rattle.cell_reader.specs.Parse.{number_in, net_in, control_in, trit_in, nets_in, patterns_in, cell_in, cell_at}
use Rattle.valid.specs.Words.{net_word_of, control_word_of, trit_word_of, operation_of_cell, contents_of, body_of, record_of}
use Rattle.valid.proofs.Stands.{Reads, reads_first, reads_rest, reads-tab, reads-map, Stands, stands_first}
use Rattle.valid.proofs.Stands.{stands_rest, stands_tail}
use Rattle.valid.proofs.Fields.{number_of_word, net_of_word_lem, control_of_word, trit_of_word, each-any}
use Rattle.valid.proofs.Fields.{inverted_back}
use Rattle.valid.proofs.Patterns.{patterns-read}
use Rattle.valid.proofs.Bodies.{head_operation}
use Rattle.valid.proofs.Records.{first_of, Right, right-counts, each-control, each-net, control_words, net_words}
use Rattle.valid.proofs.Records.{constant_words, pattern_words, after_numbers}

-- Where the nets, the constants and the patterns of a body begin.
module _ (at : ℕ) (c : Cell) where
  abbrev nets_from : ℕ
  nets_from = at + (length (contents_of c).numbers + length (contents_of c).controls)

  abbrev constants_from : ℕ
  constants_from = nets_from + length (contents_of c).nets

  abbrev patterns_from : ℕ
  patterns_from = constants_from + length (contents_of c).constants

-- What the words of a body are read as: the fields of the cell.
record Held (w : List ℕ) (at : ℕ) (c : Cell) : Type 0 where
  numbers : Reads (number_in w) at (contents_of c).numbers
  controls : Reads (control_in w) (at + length (contents_of c).numbers) (contents_of c).controls
  nets : Reads (net_in w) (nets_from at c) (contents_of c).nets
  constants : Reads (trit_in w) (constants_from at c) (contents_of c).constants
  patterns :
      patterns_in w (first_of c) (length (contents_of c).patterns) (patterns_from at c) ≡ (contents_of c).patterns

reads_at :
    {A : Type 0} (item : ℕ → A) (xs : List A) (at place : ℕ) → at ≡ place → Reads item at xs → Reads item place xs
reads_at item xs at place same h = rw same at h

held :
    (w : List ℕ) (total end at : ℕ) (c : Cell) → total ≤ 4096 → Right total c → Stands w end at (body_of c) → Held w at c
held w total end at c few right s =
    let k = contents_of c in
    let numbers : List ℕ = map number_word k.numbers in
    let s₁ = stands_rest numbers (after_numbers c) s in
    let s₂ = stands_rest (control_words c) (net_words c ++ (constant_words c ++ pattern_words c)) s₁ in
    let s₃ = stands_rest (net_words c) (constant_words c ++ pattern_words c) s₂ in
    let s₄ = stands_rest (constant_words c) (pattern_words c) s₃ in
    let e₁ : length numbers ≡ length k.numbers = length-map k.numbers number_word in
    let e₂ : length (control_words c) ≡ length k.controls = length-map k.controls control_word_of in
    let e₃ : length (net_words c) ≡ length k.nets = length-map k.nets net_word_of in
    let e₄ : length (constant_words c) ≡ length k.constants = length-map k.constants trit_word_of in
    let nets-at : ℕ = at + length numbers + length (control_words c) in
    let last : nets-at + length (net_words c) + length (constant_words c) ≡ patterns_from at c = omega arith in
    record {
      numbers =
          reads-map w number_word (number_in w) (λ n. n < 2 ^ 29) (number_of_word w) k.numbers at
          (right-counts right).leads.small (stands_first numbers (after_numbers c) s).reads;
      controls =
          reads_at (control_in w) k.controls _ _ (omega arith)
          (reads-map w control_word_of (control_in w) (λ (x : Control). Within total x.net)
          (control_of_word w total few) k.controls (at + length numbers)
          (each-control (Within total) c right.within)
          (stands_first (control_words c) (net_words c ++ (constant_words c ++ pattern_words c)) s₁).reads);
      nets =
          reads_at (net_in w) k.nets _ _ (omega arith)
          (reads-map w net_word_of (net_in w) (Within total) (net_of_word_lem w total few) k.nets nets-at
          (each-net (Within total) c right.within)
          (stands_first (net_words c) (constant_words c ++ pattern_words c) s₂).reads);
      constants =
          reads_at (trit_in w) k.constants _ _ (omega arith)
          (reads-map w trit_word_of (trit_in w) (λ _. Unit {0}) (trit_of_word w) k.constants
          (nets-at + length (net_words c)) (each-any k.constants)
          (stands_first (constant_words c) (pattern_words c) s₃).reads);
      patterns = rw (← last) (patterns-read w (first_of c) end k.patterns _ (right-counts right).alternates s₄);
    }

-- A vector of a body, of a width that the body's numbers say.
module _ {A : Type 0} (item : ℕ → A) where
  vector :
      (a : List A) (n from place : ℕ) → length a ≡ n → from ≡ place → Reads item from a →
      tab n (λ i. item (place + i)) ≡ a
  vector a n from place size same h = rw (← size, ← same) (reads-tab item a from h)

  -- Two, one after the other.
  vectors :
      (a b : List A) (n m from place : ℕ) → length a ≡ n → length b ≡ m → from ≡ place → Reads item from (a ++ b) →
      (tab n (λ i. item (place + i)) ≡ a) × (tab m (λ i. item (place + n + i)) ≡ b)
  vectors a b n m from place size size₁ same h = (
    vector a n from place size same (reads_first item a b from h),
    vector b m (from + length a) (place + n) size₁ (omega arith) (reads_rest item a b from h),
  )

module _ (w : List ℕ) (at : ℕ) where
  -- #n n*
  unary_back :
      (op : Unary) (a : List Net) → Held w at (C.unary op a) →
      C.unary op (nets_in w (number_in w at) (at + 1)) ≡ C.unary op a
  unary_back op a h = rw (h.numbers.0, vector (net_in w) a (length a) (at + 1) (at + 1) refl refl h.nets)

  -- #n n* n*
  binary_back :
      (op : Binary) (a b : List Net) → length b ≡ length a → Held w at (C.binary op a b) →
      C.binary op (nets_in w (number_in w at) (at + 1)) (nets_in w (number_in w at) (at + 1 + number_in w at))
      ≡ C.binary op a b
  binary_back op a b size h =
      let v = vectors (net_in w) a b (length a) (length a) (at + 1) (at + 1) refl size refl h.nets in
      rw (h.numbers.0, v.0, v.1)

  -- The third number stands two places on.
  third : (n : ℕ) → number_in w (at + 1 + 1) ≡ n → number_in w (at + 2) ≡ n
  third n is = let place : at + 1 + 1 ≡ at + 2 = omega arith in rw place at is

  -- #n #m #stride n* m*
  shift_back :
      (op : Shift) (a b : List Net) (stride : ℕ) → Held w at (C.shift op a b stride) →
      C.shift op (nets_in w (number_in w at) (at + 3)) (nets_in w (number_in w (at + 1)) (at + 3 + number_in w at))
      (number_in w (at + 2))
      ≡ C.shift op a b stride
  shift_back op a b stride h =
      let v = vectors (net_in w) a b (length a) (length b) (at + 3) (at + 3) refl refl refl h.nets in
      rw (h.numbers.0, h.numbers.1.0, third stride h.numbers.1.1.0, v.0, v.1)

  cell_back : (c : Cell) → Shaped c → Held w at c → cell_in w (operation_of_cell c) at ≡ c
  cell_back C.void s h = refl
  cell_back C.note s h = refl
  cell_back (C.input n) s h = ap C.input h.numbers.0
  cell_back (C.io_buf n) s h = ap C.io_buf h.numbers.0
  cell_back (C.unary op a) s h = unary_back op a h
  cell_back (C.binary op a b) s h = binary_back op a b s.0 h
  -- #n s n* n*
  cell_back (C.mux sel a b) s h =
      let v = vectors (net_in w) a b (length a) (length a) (at + 1 + 1) (at + 2) refl s (omega arith) h.nets.1 in
      rw (h.numbers.0, h.nets.0, v.0, v.1)
  -- #n n* n* c
  cell_back (C.adc a b carry) s h =
      let rest = reads_rest (net_in w) a (b ++ (carry ∷ [])) (at + 1) h.nets in
      let last = reads_rest (net_in w) b (carry ∷ []) (at + 1 + length a) rest in
      let c : net_in w (at + 1 + length a + length a) ≡ carry = rw s at last.0 in
      let v =
      vectors (net_in w) a b (length a) (length a) (at + 1) (at + 1) refl s refl
      (reads_first (net_in w) (a ++ b) (carry ∷ []) (at + 1) (rw append_assoc h.nets)) in
      rw (h.numbers.0, v.0, v.1, c)
  -- two controls
  cell_back (C.aig a b) s h =
      let start : at + 0 ≡ at = omega arith in
      let controls : Reads (control_in w) at (a ∷ b ∷ []) = rw start at h.controls in
      rw (controls.0, controls.1.0)
  cell_back (C.shift op a b stride) s h = shift_back op a b stride h
  -- #n #k enable n*, the patterns
  cell_back (C.match value enable patterns) s h =
      let n : ℕ = length value in
      let place : at + 2 + suc n + 0 ≡ at + 3 + n = omega arith in
      let parts : patterns_in w n (length patterns) (at + 3 + n) ≡ patterns = rw place at h.patterns in
      let v = vector (net_in w) value n (at + 2 + 1) (at + 3) refl (omega arith) h.nets.1 in
      rw (h.numbers.0, h.numbers.1.0, h.nets.0, v, parts)
  -- #n #u #offset enable n* u*
  cell_back (C.assign value enable update offset) s h =
      let v =
      vectors (net_in w) value update (length value) (length update) (at + 3 + 1) (at + 4) refl refl (omega arith)
      h.nets.1 in
      rw (h.numbers.0, h.numbers.1.0, third offset h.numbers.1.1.0, h.nets.0, v.0, v.1)
  -- #n #reset-over-enable clock clear reset enable, n* data, n* clear value, n* reset value
  cell_back (C.dff f) s h =
      let n : ℕ = length f.dat in
      let controls = h.controls.1 in
      let moved : (i : ℕ) → at + i + 1 ≡ at + (i + 1) = λ i. omega arith in
      let clear : control_in w (at + 3) ≡ f.clear = rw (moved 2) at controls.0 in
      let reset : control_in w (at + 4) ≡ f.reset = rw (moved 2, moved 3) at controls.1.0 in
      let enable : control_in w (at + 5) ≡ f.enable = rw (moved 2, moved 3, moved 4) at controls.1.1.0 in
      let v = vector (net_in w) f.dat n (at + 6) (at + 6) refl refl h.nets in
      let t =
      vectors (trit_in w) f.clear_value f.reset_value n n (at + 6 + n) (at + 6 + n) s.0 s.1 refl
      h.constants in
      rw (
        h.numbers.0,
        h.numbers.1.0,
        inverted_back f.reset_over_enable,
        h.controls.0,
        clear,
        reset,
        enable,
        v,
        t.0,
        t.1,
      )

-- The cell of a record whose words stand in a list.
pub cell-right :
    (w : List ℕ) (total at : ℕ) (c : Cell) → total ≤ 4096 → length w ≤ 16384 → Right total c →
    Stands w (length w) at (record_of c) → cell_at w at ≡ c
unfolding cell_at record_of
cell-right w total at c few short right s =
    let fits = s.fits in
    rw (head_operation w short (operation_of_cell c) (length (body_of c)) at (omega arith) s.reads.0)
    (cell_back w (at + 1) c right.shaped (held w total (length w) (at + 1) c few right (stands_tail s)))
