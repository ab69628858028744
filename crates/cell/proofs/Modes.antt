-- A number stands for its mode, and no other does.
use mathlib.Core.Path.{◌≡◌, refl}
use Prim.Native.Nat.{ℕ, zero, suc}
use native.Mathlib.Omega.{arith}
use Rattle.std.specs.Prelude.{Some}
use Rattle.cell.specs.declared.Mode.{Mode}
use Rattle.cell.specs.declared.Mode.TheVariants.{Ported, Inductive}
use Rattle.cell.specs.Mode.{mode_of, number_of}

pub number-mode : (mode : Mode) → mode_of (number_of mode) ≡ Some mode
number-mode Ported = refl
number-mode Inductive = refl

pub chosen-number : (number : ℕ) (mode : Mode) → mode_of number ≡ Some mode → number ≡ number_of mode
chosen-number zero Ported e = refl
chosen-number zero Inductive e = let z : ◌≡◌ {A = ℕ} 0 1 = cc in absurd (omega arith)
chosen-number (suc zero) Ported e = let z : ◌≡◌ {A = ℕ} 0 1 = cc in absurd (omega arith)
chosen-number (suc zero) Inductive e = refl
chosen-number (suc (suc n)) mode e = let z : ◌≡◌ {A = ℕ} 0 1 = cc in absurd (omega arith)
