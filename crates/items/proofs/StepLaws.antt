-- Laws of the definitions of Step.
use Prim.Native.Nat.{ℕ}
use mathlib.Core.Path.{◌≡◌, ap}
use native.Mathlib.Omega.{arith}
use Rattle.std.specs.Prelude.{Result, Ok, Err}
use Rattle.logic.specs.declared.Fault.{Fault}
use Rattle.logic.specs.declared.Net.{Net}
use Rattle.logic.specs.declared.Slot.{Slot}
use Rattle.fields.proofs.AcceptedLaws.{pair_parts}
use Rattle.items.specs.Step.{cell_step, net_step}

-- What a step of cell replacements answers is that of one step.
pub cell-read : (s : Result (ℕ × ℕ) Fault) {above : Slot} {next : ℕ} → cell_step s ≡ Ok (above, next) → s ≡ Ok (above.0, next)
cell-read (Ok (least, n)) {above} {next} e =
    let parts : (record { 0 = least } ≡ above) × (n ≡ next) = pair_parts e in
    rw (ap (λ (x : Slot). x.0) parts.0, parts.1)
cell-read (Err f) e = let z : ◌≡◌ {A = ℕ} 0 1 = cc in absurd (omega arith)

pub cell-refused : (s : Result (ℕ × ℕ) Fault) {e : Fault} → cell_step s ≡ Err e → s ≡ Err e
cell-refused (Ok (least, n)) {e} refused = let z : ◌≡◌ {A = ℕ} 0 1 = cc in absurd (omega arith)
cell-refused (Err f) {e} refused = let same : f ≡ e = cc in ap Err same

-- What a step of net replacements answers is that of one step.
pub net-read : (s : Result (ℕ × ℕ) Fault) {above : Net} {next : ℕ} → net_step s ≡ Ok (above, next) → s ≡ Ok (above.0, next)
net-read (Ok (least, n)) {above} {next} e =
    let parts : (record { 0 = least } ≡ above) × (n ≡ next) = pair_parts e in
    rw (ap (λ (x : Net). x.0) parts.0, parts.1)
net-read (Err f) e = let z : ◌≡◌ {A = ℕ} 0 1 = cc in absurd (omega arith)

pub net-refused : (s : Result (ℕ × ℕ) Fault) {e : Fault} → net_step s ≡ Err e → s ≡ Err e
net-refused (Ok (least, n)) {e} refused = let z : ◌≡◌ {A = ℕ} 0 1 = cc in absurd (omega arith)
net-refused (Err f) {e} refused = let same : f ≡ e = cc in ap Err same
