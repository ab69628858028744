-- An Adc by its count of positions: with none it is its carry's net. Assumes nothing.
use mathlib.Core.Path.{◌≡◌, ap}
use mathlib.Core.Bool.{Bool}
use mathlib.Core.List.{List}
use Prim.Native.Nat.{ℕ, zero, suc, ◌<◌}
use native.Mathlib.Omega.{arith}
use Rattle.logic.specs.Net.{Net}
use Rattle.logic.specs.Table.{tab}
use Rattle.logic.proofs.TableLaws.{length-tab}
use Rattle.smt.specs.Prog.{Prog, TritVec, ◌>>=◌}
use Rattle.smt.specs.Builder.{net, value, tv_adc, adc_cell}

-- adc_cell of n positions, n above 0.
abbrev pub adc_of : (ℕ → Bool) → ℕ → List Net → List Net → Net → Prog TritVec
adc_of past n a b carry = do
  x ← value past a
  y ← value past b
  z ← net past carry
  tv_adc x y z n

pub adc-some : (past : ℕ → Bool) (n : ℕ) (f : ℕ → Net) (b : List Net) (carry : Net) → 0 < n
    → adc_cell past (tab n f) b carry ≡ adc_of past n (tab n f) b carry
unfolding tab adc_cell
adc-some past zero f b carry some = absurd (omega arith)
adc-some past (suc n) f b carry some =
    ap (λ (k : ℕ). adc_of past k (tab (suc n) f) b carry) (length-tab (suc n) f)
