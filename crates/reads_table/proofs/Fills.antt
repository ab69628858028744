-- Laws of words stored one after another and counted. Assumes nothing.
use mathlib.Core.Path.{◌≡◌, refl, sym, ◌∙◌}
use mathlib.Core.List.{List, [], ◌++◌}
use Prim.Native.Nat.{ℕ}
use native.Mathlib.Omega.{arith}
use lib.ListN.{length-append}
use Rattle.stores.proofs.Laws.{sets_append}
use Rattle.reads_table.specs.Fills.{Fills}

-- No words.
pub fills_none : (edges : List ℕ) (count : ℕ) → Fills [] edges count edges count
fills_none edges count = record { slice = refl; many = omega arith }

-- Some words, then others.
pub fills_append : {a b edges edges₁ edges₂ : List ℕ} {count r₁ r₂ : ℕ} → Fills a edges count edges₁ r₁
    → Fills b edges₁ r₁ edges₂ r₂ → Fills (a ++ b) edges count edges₂ r₂
fills_append {a} {b} {edges} {count = count} first second = record {
  slice = second.slice ∙ rw (first.slice, first.many) (sym (sets_append edges count a b));
  many = omega (arith, first.many, second.many, length-append a b);
}

-- Some words are stored, and to store the rest is to store the whole.
pub record Left (whole edges₀ : List ℕ) (count₀ : ℕ) (rest edges : List ℕ) (count : ℕ) : Type 0 where
  pub then : {edges' : List ℕ} {r : ℕ} → Fills rest edges count edges' r → Fills whole edges₀ count₀ edges' r

module _ {whole edges₀ : List ℕ} {count₀ : ℕ} where
  pub left-start : Left whole edges₀ count₀ whole edges₀ count₀
  left-start = record { then = λ fills. fills }

  pub left_turn : {a rest later edges edges₁ : List ℕ} {count count₁ : ℕ} → rest ≡ a ++ later
      → Left whole edges₀ count₀ rest edges count → Fills a edges count edges₁ count₁
      → Left whole edges₀ count₀ later edges₁ count₁
  left_turn parts left fills = record { then = λ more. left.then (rw parts (fills_append fills more)) }

  pub left_end : {rest edges : List ℕ} {count : ℕ} → rest ≡ [] → Left whole edges₀ count₀ rest edges count
      → Fills whole edges₀ count₀ edges count
  left_end {edges = edges} {count = count} none left = left.then (rw none (fills_none edges count))
