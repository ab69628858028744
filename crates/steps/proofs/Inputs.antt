-- A cell of the list is an Input exactly if its operation is; what adding an Input, and any other cell, leaves. Assumes
-- nothing.
use mathlib.Core.Path.{◌≡◌, refl, sym, subst, ◌∙◌}
use mathlib.Core.Bool.{Bool, true, false, cond}
use mathlib.Core.List.{List, [], ◌∷◌}
use Prim.Native.Nat.{ℕ}
use Rattle.cell.specs.declared.Operation.{Operation}
use Rattle.cell.specs.declared.Operation.TheVariants as O
use Rattle.cell_reader.specs.Parse.{cell_in}
use Rattle.smt.specs.Prog.{TritVec}
use Rattle.smt.specs.Builder.{curr_value, output_nets}
use Rattle.order.specs.Verify.{declared, asserted, is_input, claim, add_cell}
use Rattle.builder.specs.declared.Counts.{Counts}
use Rattle.builder.specs.declared.Built.{Built}
use Rattle.builder.specs.Ran.{Ran}
use Rattle.net_steps.specs.Did.{Did, Asserts}
use Rattle.steps.specs.Inputs.{is_input_of}
use Rattle.net_steps.proofs.Laws.{did-declared, did-asserted}

pub input_in : (w : List ℕ) (op : Operation) (at : ℕ) → is_input (cell_in w op at) ≡ is_input_of op
input_in w O.Void at = refl
input_in w O.Note at = refl
input_in w O.IoBuf at = refl
input_in w O.Input at = refl
input_in w (O.Unary operator) at = refl
input_in w (O.Binary operator) at = refl
input_in w O.Mux at = refl
input_in w O.Adc at = refl
input_in w O.Aig at = refl
input_in w (O.Shift operator) at = refl
input_in w O.Match at = refl
input_in w O.Assign at = refl
input_in w O.Dff at = refl

module _ (past : ℕ → Bool) (s w : ℕ) (fields : List ℕ) (op : Operation)
    {calls names marks calls₁ names₁ marks₁ : List ℕ} {c : Counts} where
  pub did-input : is_input_of op ≡ true → {c₁ : Counts} {v : TritVec}
      → Ran (curr_value (output_nets s w)) calls names marks c calls₁ names₁ marks₁ c₁ v
      → Did (add_cell past s w (cell_in fields op 0) ∷ []) calls names marks c calls₁ names₁ marks₁ c₁ []
  did-input is {c₁} ran =
      subst (λ (b : Bool). Did
      (cond b (declared (curr_value (output_nets s w))) (asserted (claim past s w (cell_in fields op 0))) ∷ [])
      calls names marks c calls₁ names₁ marks₁ c₁ []) (sym (input_in fields op 0 ∙ is)) (did-declared ran)

  pub did-claim : is_input_of op ≡ false → {calls₂ : List ℕ} {c₂ : Counts} {made : Built}
      → Ran (claim past s w (cell_in fields op 0)) calls names marks c calls₁ names₁ marks₁ made.counts
      made.term.0
      → Asserts made calls₁ calls₂ c₂
      → Did (add_cell past s w (cell_in fields op 0) ∷ []) calls names marks c calls₂ names₁ marks₁ c₂ []
  did-claim is {calls₂} {c₂} ran done =
      subst (λ (b : Bool). Did
      (cond b (declared (curr_value (output_nets s w))) (asserted (claim past s w (cell_in fields op 0))) ∷ [])
      calls names marks c calls₂ names₁ marks₁ c₂ []) (sym (input_in fields op 0 ∙ is)) (did-asserted ran done)
