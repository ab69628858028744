-- The bits of the nets from the bits of the sources: the rules of the cells on pairs of bits, which working out solves
-- as it does those on trits.
use mathlib.Core.Path.{◌≡◌, refl, sym, ap, ap₂, ◌∙◌}
use mathlib.Core.Bool.{Bool, false}
use mathlib.Core.List.{List, ◌∷◌, map}
use Prim.Native.Nat.{ℕ, suc, ◌+◌}
use lib.ListN.{length}
use Rattle.logic.specs.Table.{zip_with}
use Rattle.logic.proofs.TableLaws.{map-tab}
use Rattle.logic.specs.Net.{slot}
use Rattle.logic.specs.declared.Trit.{Trit}
use Rattle.bitvec.specs.Bits.{Bits}
use Rattle.cell.specs.Cell.{output_len}
use Rattle.cell.specs.Design.{Design}
use Rattle.rules.specs.CellRule.{outputs}
use Rattle.rules.specs.Reads.{current_reads}
use Rattle.working_out.specs.Reading.{reads_past}
use Rattle.working_out.specs.Equations.{Rule}
use Rattle.working_out.proofs.EquationsLaws.{FullWidth, CellLocal}
use Rattle.smt.specs.Prog.{curr, past, Half, is_undef, is_one}
use Rattle.smt.specs.Builder.{output_nets}
use Rattle.smt.specs.Formula.{TritBits, tb, NetBits, bit_of, read_bits}
use Rattle.smt.proofs.Shows.{Shown, empty, lane}
use Rattle.smt.specs.CellBits.{curr_bits, cell_bits}
use Rattle.smt.proofs.CellShowsLaws.{cell-bits_show}
use Rattle.order.proofs.Asserted.{asserted-not-input, asserted-not_iobuf, asserted-some}
use Rattle.requirement.proofs.BitLocal.{SameOn, cell_bits_local}

-- The two bits of a net at one age.
pub record BitPair : Type 0 where
  pub x : Bool
  pub y : Bool

abbrev pub pair : Bool → Bool → BitPair
pair x y = record { x = x; y = y }

abbrev pub half : Half → BitPair → Bool
half is_undef p = p.x
half is_one p = p.y

-- The bits of all names, of the pairs of the current and of the past nets.
abbrev pub bits_of : (ℕ → BitPair) → (ℕ → BitPair) → NetBits
bits_of now was curr i h = half h (now i)
bits_of now was past i h = half h (was i)

-- The pairs of a vector's bits, and back.
unfoldable pub pairs : Bits → Bits → List BitPair
pairs x y = zip_with pair x y

abbrev pub unpaired : List BitPair → TritBits
unpaired l = tb (map (λ p. p.x) l) (map (λ p. p.y) l)

pub pairs-length : {n : ℕ} {x y : Bits} {ts : List Trit} → Shown n x y ts → length (pairs x y) ≡ n
unfolding pairs
pairs-length empty = refl
pairs-length (lane a b p) = ap suc (pairs-length p)

pub unpair_pairs : {n : ℕ} {x y : Bits} {ts : List Trit} → Shown n x y ts → unpaired (pairs x y) ≡ tb x y
unfolding pairs
unpair_pairs empty = refl
unpair_pairs (lane a b p) = ap (λ (t : TritBits). tb (a ∷ t.x) (b ∷ t.y)) (unpair_pairs p)

abbrev pub bit_rule : Design → (ℕ → BitPair) → Rule BitPair
bit_rule d was s a now =
    pairs (cell_bits (reads_past d) (bits_of now was) s (output_len a) a).x
    (cell_bits (reads_past d) (bits_of now was) s (output_len a) a).y

-- ---- the bit rules, as working out asks

module _ (d : Design) (was : ℕ → BitPair) where
  pub bit_wide : FullWidth (bit_rule d was) d
  bit_wide s a shaped h now =
      pairs-length
      (cell-bits_show (reads_past d) (bits_of now was) s a shaped (asserted-not-input a h) (asserted-some a h))

  pub bit_local : CellLocal d (bit_rule d was)
  bit_local s a shaped h σ τ k =
      let e = cell_bits_local (reads_past d) (bits_of σ was) (bits_of τ was) s (output_len a) a same
      (asserted-not_iobuf a h) in
      ap (λ (t : TritBits). pairs t.x t.y) e
    where
      at : (g : Half) (p q : BitPair) → p ≡ q → half g p ≡ half g q
      at g p q e = ap (half g) e

      same : SameOn (current_reads (reads_past d) a) (bits_of σ was) (bits_of τ was)
      same = record { now = λ i m g. at g (σ i) (τ i) (k i m); was = λ i g. refl }

-- Outputs that solve a cell's equation are its bits.
pub outputs-bits : (now was : ℕ → BitPair) (s w : ℕ) {n : ℕ} {x y : Bits} {ts : List Trit} → Shown n x y ts
    → map now (outputs s w) ≡ pairs x y → curr_bits (λ _. false) (bits_of now was) (output_nets s w) ≡ tb x y
unfolding read_bits
outputs-bits now was s w shown e =
    ap₂ tb (lanes is_undef) (lanes is_one) ∙ ap unpaired e ∙ unpair_pairs shown
  where
    lanes : (g : Half) → map (bit_of (bits_of now was) (λ i. curr) g) (output_nets s w)
        ≡ map (half g) (map now (outputs s w))
    lanes is_undef = map-tab _ w (λ (i : ℕ). slot (s + i))
        ∙ sym (ap (map (half is_undef)) (map-tab now w (λ (i : ℕ). s + i)) ∙ map-tab (half is_undef) w _)
    lanes is_one = map-tab _ w (λ (i : ℕ). slot (s + i))
        ∙ sym (ap (map (half is_one)) (map-tab now w (λ (i : ℕ). s + i)) ∙ map-tab (half is_one) w _)
