-- Steps of the order of work within a number of call words.
use Prim.Native.Nat.{ℕ, ◌+◌, ◌-◌, ◌≤◌}
use native.Mathlib.Omega.{arith}
use mathlib.Core.Path.{◌≡◌}
use mathlib.Core.List.{List, [], ◌∷◌, ◌++◌}
use lib.ListN.{length}
use Rattle.cell.specs.declared.Mode.{Mode}
use Rattle.cell.specs.declared.Mode.TheVariants.{Ported, Inductive}
use Rattle.cell.specs.Mode.{ported_only}
use Rattle.engine.specs.Call.{Call}
use Rattle.engine.specs.Call as call
use Rattle.engine.specs.Encode.{encode}
use Rattle.smt.specs.Prog.{Prog}
use Rattle.smt.specs.Emit.{St, emit}
use Rattle.bound.proofs.CostsLaws.{CostsOnly, costs_more, encode_append, emit-words}
use Rattle.order.specs.Verify.{Step, declared, asserted, obliged, work}

-- A step's calls, with its assertion, or with its place in the query's and.
abbrev pub StepCosts : ℕ → Step → Type 0
StepCosts n (declared m) = CostsOnly n m
StepCosts n (asserted m) = (2 ≤ n) × CostsOnly (n - 2) m
StepCosts n (obliged m) = (1 ≤ n) × CostsOnly (n - 1) m

-- Steps within a number of words.
pub data Within : ℕ → List Step → Type 0 where
  nothing : {n : ℕ} → Within n []
  step : {n : ℕ} {s : Step} {rest : List Step} (k : ℕ) → k ≤ n → StepCosts k s → Within (n - k) rest →
      Within n (s ∷ rest)

pub more : {n m : ℕ} {l : List Step} → n ≤ m → Within n l → Within m l
more h nothing = nothing
more {n} {m} h (step {s = p} k l s w) = step {n = m} {s = p} k (omega arith) s (more (omega arith) w)

pub both : {n m : ℕ} {k l : List Step} → Within n k → Within m l → Within (n + m) (k ++ l)
both {n} {m} nothing w = more (omega arith) w
both {n} {m} (step {s = p} {rest = rest} k h s v) w =
    step {n = n + m} {s = p} k (omega arith) s (more {n = n - k + m} (omega arith) (both v w))

-- What only the ported mode has, in any mode.
pub ported_within : {n : ℕ} {l : List Step} (mode : Mode) → Within n l → Within n (ported_only mode l)
ported_within Ported within = within
ported_within Inductive within = nothing

assert-words : (k : ℕ) (cs : List Call) → length (encode (call.assert k ∷ cs)) ≡ 2 + length (encode cs)
unfolding encode
assert-words k cs = omega arith

-- The words of the steps' calls and the obligations' places.
pub work-words : {n : ℕ} {l : List Step} → Within n l → (s : St) →
    length (encode (work l s).calls) + length (work l s).res ≤ n
unfolding work
work-words nothing s = unfold encode in omega arith
work-words {n} (step {s = declared m} {rest = rest} k h c w) s =
    let here = emit-words k m _ s c in
    let after = work-words w (emit m s).st in
    let sum = encode_append (emit m s).calls (work rest (emit m s).st).calls in
    omega arith
work-words {n} (step {s = asserted m} {rest = rest} k h c w) s =
    let here = emit-words (k - 2) m _ s c.1 in
    let after = work-words w (emit m s).st in
    let sum = encode_append (emit m s).calls (call.assert (emit m s).res ∷ (work rest (emit m s).st).calls) in
    let claim = assert-words (emit m s).res (work rest (emit m s).st).calls in
    omega (arith, c.0)
work-words {n} (step {s = obliged m} {rest = rest} k h c w) s =
    let here = emit-words (k - 1) m _ s c.1 in
    let after = work-words w (emit m s).st in
    let sum = encode_append (emit m s).calls (work rest (emit m s).st).calls in
    omega (arith, c.0)

pub assert-step : (n k : ℕ) (m : Prog ℕ) (rest : List Step) → k + 2 ≤ n → CostsOnly k m → Within (n - (k + 2)) rest →
    Within n (asserted m ∷ rest)
assert-step n k m rest l h w =
    step {n = n} {s = asserted m} (k + 2) l (omega arith, costs_more k (k + 2 - 2) m _ (omega arith) h) w

pub oblige_step : (n k : ℕ) (m : Prog ℕ) (rest : List Step) → k + 1 ≤ n → CostsOnly k m → Within (n - (k + 1)) rest →
    Within n (obliged m ∷ rest)
oblige_step n k m rest l h w =
    step {n = n} {s = obliged m} (k + 1) l (omega arith, costs_more k (k + 1 - 1) m _ (omega arith) h) w
