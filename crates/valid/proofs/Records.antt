-- Document 01, "Operations and bodies": the record of a right cell, of any operation, is read without a fault.
use mathlib.Core.Path.{◌≡◌, refl, sym, ◌∙◌}
use mathlib.Core.Bool.{true, false}
use mathlib.Core.List.{List, [], ◌∷◌, ◌++◌, map, flat_map}
use Prim.Native.Nat.{ℕ, suc, ◌+◌, ◌≤◌}
use native.Mathlib.Omega.{arith}
use lib.ListN.{length, get_or, length-append, length-map}
use Rattle.std.specs.Prelude.{Ok}
use Rattle.logic.specs.Word.{number_word}
use Rattle.logic.specs.Net.{Net}
use Rattle.logic.specs.declared.Trit.{Trit}
use Rattle.cell.specs.Cell.{Cell, Control, output_len}
use Rattle.cell.specs.Cell as C
use Rattle.cell.specs.Operation.{numbers_of, fields_of}
use Rattle.cell.specs.declared.Fields.{Fields}
use Rattle.cell.specs.Each.{Each}
use Rattle.right.specs.Bounds.{Bounded}
use Rattle.right.specs.Nets.{Within, nets_of}
use Rattle.right.specs.Shape.{Shaped}
use Rattle.cell_reader.specs.Record.{contents_at, record_at}
use Rattle.accepted.proofs.Cells.{wide_binary, wide_shift}
use Rattle.valid.specs.Words.{net_word_of, control_word_of, trit_word_of, pattern_words_of, operation_of_cell, contents_of}
use Rattle.valid.specs.Words.{body_of, record_of}
use Rattle.valid.proofs.Stands.{Stands, stands_first, stands_rest, stands_tail, stands_before, each-words}
use Rattle.valid.proofs.Fields.{Named, Fixed, inverted-kind, net-named, control-named, trit_fixed, each-any}
use Rattle.valid.proofs.Patterns.{Alternates, patterns-right}
use Rattle.valid.proofs.Bodies.{head-right, Leads, leading-right, Follows, body-right}
use Rattle.cell_reader.specs.Record.{cell_record}

-- The number n of a cell's body, and what follows its numbers.
abbrev pub first_of : Cell → ℕ
first_of c = get_or (contents_of c).numbers 0 0

abbrev pub fields_of_cell : Cell → Fields
fields_of_cell c = fields_of (operation_of_cell c) (first_of c) (get_or (contents_of c).numbers 1 0)

-- A cell's fields are as many and as large as its operation asks, and its output is as wide.
pub record Counts (c : Cell) : Type 0 where
  pub leads : Leads (numbers_of (operation_of_cell c)) (contents_of c).numbers
  pub controls : (fields_of_cell c).controls ≡ length (contents_of c).controls
  pub nets : (fields_of_cell c).nets ≡ length (contents_of c).nets
  pub constants : (fields_of_cell c).constants ≡ length (contents_of c).constants
  pub patterns : (fields_of_cell c).patterns ≡ length (contents_of c).patterns
  pub width : (fields_of_cell c).width ≡ output_len c
  pub alternates : Each (Alternates (first_of c)) (contents_of c).patterns

alternates_fit :
    (n : ℕ) (ps : List (List (List Trit))) → Each (Each (λ (a : List Trit). length a ≡ n)) ps →
    Each (λ (p : List (List Trit)). length p ≤ 64) ps → Each (Alternates n) ps
alternates_fit n [] shaped few = tt
alternates_fit n (p ∷ ps) shaped few = ((few.0, shaped.0), alternates_fit n ps shaped.1 few.1)

pub counts : (c : Cell) → Shaped c → Bounded c → Counts c
counts C.void s b = omega arith
counts C.note s b = omega arith
counts (C.input n) s b = omega arith
counts (C.io_buf n) s b = omega arith
counts (C.unary op a) s b = omega arith
counts (C.binary op x y) s b =
    let wide = (wide_binary op (length x)).1 s.1 in omega (arith, length-append x y)
counts (C.mux sel x y) s b = omega (arith, length-append x y)
counts (C.adc x y carry) s b = omega (arith, length-append x (y ++ (carry ∷ [])), length-append y (carry ∷ []))
counts (C.aig x y) s b = omega arith
counts (C.shift op value amount stride) s b =
    let wide = (wide_shift op (length value)).1 s in omega (arith, length-append value amount)
counts (C.match value enable patterns) s b =
    let n = b.0 in
    let k = b.1 in
    record {
      leads = omega arith;
      controls = refl;
      nets = omega arith;
      constants = refl;
      patterns = refl;
      width = refl;
      alternates = alternates_fit (length value) patterns s b.2;
    }
counts (C.assign value enable update offset) s b = omega (arith, length-append value update)
counts (C.dff f) s b =
    omega (arith, length-append f.clear_value f.reset_value, inverted-kind f.reset_over_enable)

-- The nets of a cell are those of its controls and its nets.
abbrev net_of_control : Control → Net
net_of_control k = k.net

nets_are : (c : Cell) → nets_of c ≡ map net_of_control (contents_of c).controls ++ (contents_of c).nets
nets_are C.void = refl
nets_are C.note = refl
nets_are (C.input n) = refl
nets_are (C.io_buf n) = refl
nets_are (C.unary op a) = refl
nets_are (C.binary op a b) = refl
nets_are (C.mux s a b) = refl
nets_are (C.adc a b carry) = refl
nets_are (C.aig a b) = refl
nets_are (C.shift op value amount stride) = refl
nets_are (C.match value enable patterns) = refl
nets_are (C.assign value enable update offset) = refl
nets_are (C.dff f) = refl

pub each_first : {A : Type 0} (P : A → Type 0) (xs ys : List A) → Each P (xs ++ ys) → Each P xs
each_first P [] ys all = tt
each_first P (x ∷ xs) ys all = (all.0, each_first P xs ys all.1)

pub each_rest : {A : Type 0} (P : A → Type 0) (xs ys : List A) → Each P (xs ++ ys) → Each P ys
each_rest P [] ys all = all
each_rest P (x ∷ xs) ys all = each_rest P xs ys all.1

pub each_of : {A B : Type 0} (f : A → B) (P : B → Type 0) (xs : List A) → Each P (map f xs) → Each (λ x. P (f x)) xs
each_of f P [] all = tt
each_of f P (x ∷ xs) all = (all.0, each_of f P xs all.1)

-- A cell whose shape, bounds and nets are right (faults 4, 6, 7 and 9).
pub record Right (total : ℕ) (c : Cell) : Type 0 where
  pub shaped : Shaped c
  pub bounded : Bounded c
  pub within : Each (Within total) (nets_of c)

module _ (P : Net → Type 0) (c : Cell) (all : Each P (nets_of c)) where
  parted : Each P (map net_of_control (contents_of c).controls ++ (contents_of c).nets)
  parted = rw (nets_are c) at all

  pub each-control : Each (λ (k : Control). P k.net) (contents_of c).controls
  each-control =
      each_of net_of_control P (contents_of c).controls
      (each_first P (map net_of_control (contents_of c).controls) (contents_of c).nets parted)

  pub each-net : Each P (contents_of c).nets
  each-net = each_rest P (map net_of_control (contents_of c).controls) (contents_of c).nets parted

pub right-counts : {total : ℕ} {c : Cell} → Right total c → Counts c
right-counts {c = c} right = counts c right.shaped right.bounded

-- The words of each kind of field that follows the numbers of a body.
abbrev pub control_words : Cell → List ℕ
control_words c = map control_word_of (contents_of c).controls

abbrev pub net_words : Cell → List ℕ
net_words c = map net_word_of (contents_of c).nets

abbrev pub constant_words : Cell → List ℕ
constant_words c = map trit_word_of (contents_of c).constants

abbrev pub pattern_words : Cell → List ℕ
pattern_words c = flat_map pattern_words_of (contents_of c).patterns

abbrev pub after_numbers : Cell → List ℕ
after_numbers c = control_words c ++ (net_words c ++ (constant_words c ++ pattern_words c))

module _
    (w : List ℕ) (total : ℕ) (few : total ≤ 4096) (short : length w ≤ 16384) (c : Cell) (at : ℕ)
    (right : Right total c) where
  follows :
      (end start : ℕ) → end ≡ start + length (after_numbers c) →
      Follows w total (fields_of_cell c) (first_of c) end (control_words c) (net_words c) (constant_words c) (pattern_words c)
      start
  follows end start ends =
      let counts = right-counts right in
      record {
        many-controls = counts.controls ∙ sym (length-map (contents_of c).controls control_word_of);
        many-nets = counts.nets ∙ sym (length-map (contents_of c).nets net_word_of);
        many-constants = counts.constants ∙ sym (length-map (contents_of c).constants trit_word_of);
        controls-named =
            each-words control_word_of (λ (k : Control). Within total k.net) (Named total true)
            (control-named w total few) (contents_of c).controls (each-control (Within total) c right.within);
        nets-named =
            each-words net_word_of (Within total) (Named total false) (net-named w total few) (contents_of c).nets
            (each-net (Within total) c right.within);
        constants_fixed =
            each-words trit_word_of (λ _. Unit {0}) Fixed (λ t any. trit_fixed t) (contents_of c).constants
            (each-any (contents_of c).constants);
        patterns-right = λ place s.
            rw counts.patterns
            (patterns-right w (first_of c) end (contents_of c).patterns place s counts.alternates);
        ends = ends;
      }

  pub record_right :
      Stands w (length w) at (record_of c) →
      record_at w total at ≡ Ok (cell_record (operation_of_cell c) (output_len c) (at + length (record_of c)))
  unfolding record_at contents_at record_of
  record_right s =
      let counts = right-counts right in
      let numbers : List ℕ = map number_word (contents_of c).numbers in
      let fits = s.fits in
      let end : ℕ = at + 1 + length (body_of c) in
      let body : Stands w end (at + 1) (body_of c) = stands_before end (omega arith) (stands_tail s) in
      let same : length numbers ≡ length (contents_of c).numbers = length-map (contents_of c).numbers number_word in
      let start : ℕ = at + 1 + length (contents_of c).numbers in
      let rest : Stands w end start (after_numbers c) = rw same at (stands_rest numbers (after_numbers c) body) in
      let all : length (body_of c) ≡ length numbers + length (after_numbers c) = length-append numbers (after_numbers c) in
      let ends : end ≡ start + length (after_numbers c) = omega arith in
      let place : at + suc (length (body_of c)) ≡ end = omega arith in
      rw (
        head-right w short (operation_of_cell c) (length (body_of c)) at (omega arith) s.reads.0,
        leading-right w (numbers_of (operation_of_cell c)) end (contents_of c).numbers (at + 1)
            (stands_first numbers (after_numbers c) body) counts.leads,
        body-right w total (fields_of_cell c) (first_of c) end (control_words c) (net_words c) (constant_words c)
            (pattern_words c) start rest (follows end start ends),
        counts.width,
        place,
      )
