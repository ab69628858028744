-- Laws of the definitions of Equations.
use mathlib.Core.Path.{◌≡◌}
use mathlib.Core.Bool.{true}
use mathlib.Core.List.{Memᴰ}
use Prim.Native.Nat.{ℕ}
use lib.ListN.{length, get_or}
use Rattle.cell.specs.Cell.{Cell, output_len}
use Rattle.cell.specs.Design.{Design}
use Rattle.right.specs.Shape.{Shaped}
use Rattle.rules.specs.Reads.{current_reads}
use Rattle.working_out.specs.Reading.{reads_past, asserted}
use Rattle.working_out.specs.Equations.{Rule}

module _ {A : Type 0} (rule : Rule A) (d : Design) where
  -- A rule gives as many values as its cell's output is wide.
  abbrev pub FullWidth : Type 0
  FullWidth = (s : ℕ) (a : Cell) → Shaped a → asserted a ≡ true → (now : ℕ → A) → length (rule s a now) ≡ output_len a

-- The rules of asserted cells keep a relation between values: where it holds of the slots that a cell reads currently,
-- it holds of what the rules give.
module _ {A B : Type 0} (d : Design) (blank : A) (blank' : B) where
  abbrev pub CellKeeps : Rule A → Rule B → (A → B → Type 0) → Type 0
  CellKeeps F G R =
      (s : ℕ) (a : Cell) → Shaped a → asserted a ≡ true → (σ : ℕ → A) (τ : ℕ → B)
      → ((j : ℕ) → Memᴰ j (current_reads (reads_past d) a) → R (σ j) (τ j))
      → (o : ℕ) → R (get_or (F s a σ) o blank) (get_or (G s a τ) o blank')

-- Rules that look only at what their cell reads.
abbrev pub CellLocal : {A : Type 0} → Design → Rule A → Type 0
CellLocal {A} d F =
    (s : ℕ) (a : Cell) → Shaped a → asserted a ≡ true → (σ τ : ℕ → A)
    → ((j : ℕ) → Memᴰ j (current_reads (reads_past d) a) → σ j ≡ τ j) → F s a σ ≡ F s a τ
