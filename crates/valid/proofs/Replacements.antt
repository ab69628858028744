-- Document 01, "cell replacements (#slot, cell), net replacements (from, to)": those of a right design are read without
-- fault 12 or 13, and as they are.
use mathlib.Core.Path.{◌≡◌, ap₂}
use mathlib.Core.Bool.{true}
use mathlib.Core.List.{List, [], ◌∷◌, ◌++◌, flat_map}
use Prim.Native.Nat.{ℕ, suc, ◌+◌, ◌-◌, ◌^◌, ◌≤◌, ◌<◌}
use native.Mathlib.Omega.{arith}
use native.Mathlib.Nat.{add-zero}
use lib.ListN.{length, length-append}
use borrow.Author.Tests.{lt-ltb, le-leb}
use Rattle.std.specs.Prelude.{Result, Ok}
use Rattle.logic.specs.declared.Fault.{Fault}
use Rattle.logic.specs.Net.{Net, payload_of_net}
use Rattle.cell.specs.Cell.{output_len}
use Rattle.cell.specs.Design.{Placed, NetPair, Design, total}
use Rattle.cell.specs.Each.{Each}
use Rattle.cell.proofs.EachLaws.{each_map}
use Rattle.right.specs.Nets.{Within}
use Rattle.right.specs.Laid.{Ascending, PairWithin}
use Rattle.items.specs.Items.{ascending, listed_number_at, listed_net_at, Test, replacement_at, new_cell, pair_at, net_pair}
use Rattle.valid.specs.Words.{net_word_of, operation_of_cell, record_of, replacement_words_of, pair_words_of}
use Rattle.valid.proofs.Stands.{word_at, Stands, stands_first, stands_rest, stands_tail, stands_inside}
use Rattle.valid.proofs.Fields.{number_of_word, number-right, payload_of_net_word, net-right, net-named}
use Rattle.valid.proofs.Fields.{net_of_word_lem}
use Rattle.valid.proofs.Records.{Right, record_right}
use Rattle.valid.proofs.Cells.{cell-right}
use Rattle.valid.proofs.Placing.{read_to, placed}

-- ---- Items one after another, strictly ascending by a number.
-- An item was read at a place, and asks the next to be above it.
record Taken {A : Type 0} (key : A → ℕ) (step : Result (ℕ × ℕ) Fault) (item : A) (next : ℕ) (x : A) : Type 0 where
  stepped : step ≡ Ok (key x + 1, next)
  same : item ≡ x

module _
    {A : Type 0} (w : List ℕ) (words : A → List ℕ) (P : A → Type 0) (key : A → ℕ) (step : ℕ → ℕ → Result (ℕ × ℕ) Fault) (item : ℕ → A)
    (one : (least at : ℕ) (x : A) → Stands w (length w) at (words x) → P x → least ≤ key x →
    Taken key (step least at) (item at) (at + length (words x)) x) where
  ascending-right :
      (xs : List A) (least at : ℕ) → Stands w (length w) at (flat_map words xs) → Each P xs →
      Each (λ (y : A). least ≤ key y) xs → Ascending key xs →
      ascending step item (length xs) least at ≡ read_to xs (at + length (flat_map words xs))
  unfolding ascending flat_map
  ascending-right [] least at s all low up = rw add-zero
  ascending-right (x ∷ xs) least at s all low up =
      let taken = one least at x (stands_first (words x) (flat_map words xs) s) all.0 low.0 in
      let place : at + length (words x ++ flat_map words xs) ≡ at + length (words x) + length (flat_map words xs) =
      omega (arith, length-append (words x) (flat_map words xs)) in
      rw (
        taken.stepped,
        taken.same,
        ascending-right xs (key x + 1) (at + length (words x)) (stands_rest (words x) (flat_map words xs) s) all.1
            (each_map xs (λ y above. omega arith) up.0) up.1,
        place,
      )

-- ---- Cell replacements.
-- A replacement whose #slot and new cell are right, as the reader tests them.
pub record RightReplacement (total : ℕ) (test : Test) (p : Placed) : Type 0 where
  pub low : p.slot < 2 ^ 29
  pub right : Right total p.cell
  pub replaced : (least : ℕ) → least ≤ p.slot →
      test least p.slot (operation_of_cell p.cell) (output_len p.cell) ≡ true

module _ (w : List ℕ) (total : ℕ) (few : total ≤ 4096) (short : length w ≤ 16384) where
  replacement-right :
      (test : Test) (least at : ℕ) (p : Placed) → Stands w (length w) at (replacement_words_of p) →
      RightReplacement total test p → least ≤ p.slot →
      Taken (λ (q : Placed). q.slot) (replacement_at w total test least at) (new_cell w at)
      (at + length (replacement_words_of p)) p
  unfolding replacement_at listed_number_at
  replacement-right test least at p s is low =
      let start = stands_tail s in
      let small = is.low in
      let place : at + suc (length (record_of p.cell)) ≡ at + 1 + length (record_of p.cell) = omega arith in
      record {
        stepped =
            rw (
              lt-ltb at (length w) (stands_inside s),
              number-right w (2 ^ 29 - 1) (length w) at p.slot (stands_inside s) s.reads.0 small (omega arith),
              record_right w total few short p.cell (at + 1) is.right start,
              is.replaced least low,
              place,
            );
        same = ap₂ placed (number_of_word w at p.slot s.reads.0 is.low)
            (cell-right w total (at + 1) p.cell few short is.right start);
      }

  pub replacements-right :
      (test : Test) (ps : List Placed) (least at : ℕ) → Stands w (length w) at (flat_map replacement_words_of ps) →
      Each (RightReplacement total test) ps → Each (λ (p : Placed). least ≤ p.slot) ps →
      Ascending (λ (p : Placed). p.slot) ps →
      ascending (replacement_at w total test) (new_cell w) (length ps) least at
      ≡ read_to ps (at + length (flat_map replacement_words_of ps))
  replacements-right test =
      ascending-right w replacement_words_of (RightReplacement total test) (λ (p : Placed). p.slot)
      (replacement_at w total test) (new_cell w) (replacement-right test)

-- ---- Net replacements.
abbrev pair : Net → Net → NetPair
pair from to = record { from = from; to = to }

module _ (w : List ℕ) (d : Design) (few : total d ≤ 4096) where
  listed-right :
      (at : ℕ) (n : Net) → at < length w → word_at w at ≡ net_word_of n → Within (total d) n →
      listed_net_at w (total d) at ≡ Ok (at + 1)
  unfolding listed_net_at
  listed-right at n inside word within =
      rw (lt-ltb at (length w) inside) (net-right w (length w) at inside (rw word (net-named w (total d) few n within)))

  pair-right :
      (least at : ℕ) (p : NetPair) → Stands w (length w) at (pair_words_of p) → PairWithin d p →
      least ≤ payload_of_net p.from →
      Taken (λ (q : NetPair). payload_of_net q.from) (pair_at w (total d) least at) (net_pair w at) (at + 2) p
  unfolding pair_at
  pair-right least at p s is low =
      let second = stands_tail s in
      let place : at + 2 ≡ at + 1 + 1 = omega arith in
      record {
        stepped =
            rw (
              listed-right at p.from (stands_inside s) s.reads.0 is.from,
              listed-right (at + 1) p.to (stands_inside second) second.reads.0 is.to,
              payload_of_net_word w (total d) few at p.from s.reads.0 is.from,
              le-leb least (payload_of_net p.from) low,
              place,
            );
        same = ap₂ pair (net_of_word_lem w (total d) few at p.from s.reads.0 is.from)
            (net_of_word_lem w (total d) few (at + 1) p.to second.reads.0 is.to);
      }

  pub pairs-right :
      (ps : List NetPair) (least at : ℕ) → Stands w (length w) at (flat_map pair_words_of ps) → Each (PairWithin d) ps →
      Each (λ (p : NetPair). least ≤ payload_of_net p.from) ps →
      Ascending (λ (p : NetPair). payload_of_net p.from) ps →
      ascending (pair_at w (total d)) (net_pair w) (length ps) least at ≡ read_to ps (at + length (flat_map pair_words_of ps))
  pairs-right =
      ascending-right w pair_words_of (PairWithin d) (λ (p : NetPair). payload_of_net p.from) (pair_at w (total d))
      (net_pair w) pair-right
