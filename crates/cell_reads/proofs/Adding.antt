-- Laws of the words of reads, those of one list of reads added after those of another. Assumes nothing.
use mathlib.Core.Path.{◌≡◌, refl, ◌∙◌}
use mathlib.Core.List.{List, [], ◌++◌, map-append}
use Prim.Native.Nat.{ℕ, ◌/◌}
use native.Mathlib.Omega.{arith}
use lib.ListN.{get_or, length, length-append, length-map}
use Rattle.stores.proofs.Laws.{sets_append}
use Rattle.loops.specs.Edges.{edge}
use Rattle.cell_reads.specs.Reads.{edges_in, Adds}

module _ {table : List ℕ} {node : ℕ} where
  -- No read adds no word.
  pub adds_none : (edges : List ℕ) (count : ℕ) → Adds table node [] edges count edges count
  adds_none edges count = record { slice = refl; many = omega arith }

  -- The reads of one list, then those of another.
  pub adds_append : {a b edges edges₁ edges₂ : List ℕ} {count r₁ r₂ : ℕ} → Adds table node a edges count edges₁ r₁
      → Adds table node b edges₁ r₁ edges₂ r₂ → Adds table node (a ++ b) edges count edges₂ r₂
  adds_append {a} {b} {edges} {edges₁} {edges₂} {count} first second =
      let whole : edges_in table node (a ++ b) ≡ edges_in table node a ++ edges_in table node b =
      map-append (λ i. edge node (get_or table i 0 / 1024)) a b in
      let size : length (edges_in table node a) ≡ length a = length-map a _ in
      record {
        slice = second.slice ∙ rw (first.slice, first.many, whole, sets_append, size);
        many = omega (arith, first.many, second.many, length-append a b);
      }

-- Some reads are added, and to add the rest is to add the whole.
pub record Left (table : List ℕ) (node : ℕ) (whole edges₀ : List ℕ) (count₀ : ℕ) (rest edges : List ℕ) (count : ℕ)
    : Type 0 where
  pub then : {edges' : List ℕ} {r : ℕ} → Adds table node rest edges count edges' r
      → Adds table node whole edges₀ count₀ edges' r

module _ {table : List ℕ} {node : ℕ} {whole edges₀ : List ℕ} {count₀ : ℕ} where
  pub left-start : Left table node whole edges₀ count₀ whole edges₀ count₀
  left-start = record { then = λ adds. adds }

  pub left_turn : {a rest later edges edges₁ : List ℕ} {count count₁ : ℕ} → rest ≡ a ++ later
      → Left table node whole edges₀ count₀ rest edges count → Adds table node a edges count edges₁ count₁
      → Left table node whole edges₀ count₀ later edges₁ count₁
  left_turn parts left adds = record { then = λ more. left.then (rw parts (adds_append adds more)) }

  pub left_end : {rest edges : List ℕ} {count : ℕ} → rest ≡ [] → Left table node whole edges₀ count₀ rest edges count
      → Adds table node whole edges₀ count₀ edges count
  left_end {edges = edges} {count = count} none left = left.then (rw none (adds_none edges count))
