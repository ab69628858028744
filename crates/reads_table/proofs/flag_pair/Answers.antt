-- `reads_table::flag_pair` meets its contract: the flag is put just where `void_of` says a slot. Assumes nothing.
use mathlib.Core.Path.{◌≡◌, refl, sym, ◌∙◌}
use mathlib.Core.List.{[]}
use Rattle.logic.specs.declared.Driver.{Driver}
use Rattle.logic.specs.declared.Driver.TheVariants.{Constant, Output, NoNet}
use Rattle.logic.specs.declared.Slot.{Slot}
use Rattle.reads_table.specs.Nodes.{flag_all, slots_in}
use Rattle.reads_table.proofs.flag_pair.Goals as goal

-- A driver that is no output has no slots.
no_slots : (v : Driver) → ((i : Slot) → v ≡ Output i → ⊥) → slots_in v ≡ []
no_slots (Constant t) other = refl
no_slots (Output i) other = absurd (other i refl)
no_slots NoNet other = refl

pub returns-in-Output : goal.returns-in-Output
unfolding flag_all
returns-in-Output c =
    rw (sym c.void_of.ensures ∙ c.in-Output.is) c.put.ensures

pub returns-in_default : goal.returns-in_default
unfolding flag_all
returns-in_default c = rw (← c.void_of.ensures, no_slots c.void_of.result c.in_default.not-Output)
