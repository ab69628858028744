-- `cell_reads::Reader::position_edge` meets its contract: at an X nothing is compared, at a 0 or a 1 the value's net is.
-- Assumes nothing.
use mathlib.Core.Path.{◌≡◌, sym, ◌∙◌}
use mathlib.Core.Logic.{◌⊎◌, inl, inr}
use mathlib.Core.List.{[], ◌∷◌}
use Rattle.logic.specs.Net.{Net}
use Rattle.logic.specs.declared.Trit.{Trit}
use Rattle.logic.specs.declared.Trit.TheVariants.{Zero, One, Undef}
use Rattle.rules.specs.Reads.{current_nets, compared}
use Rattle.cell_reader.specs.Parse.{net_in, trit_in}
use Rattle.cell_reads.proofs.Adding.{adds_none}
use Rattle.cell_reads.proofs.Runs.{current-one}
use Rattle.cell_reads.proofs.Reader.position_edge.Goals as goal

-- A 0 or a 1 compares the net.
own : (v : Net) (t : Trit) → (t ≡ Zero) ⊎ (t ≡ One) → compared (v ∷ []) (t ∷ []) ≡ v ∷ []
unfolding compared
own v t (inl e) = rw e
own v t (inr e) = rw e

pub returns-in-Undef : goal.returns-in-Undef
unfolding current_nets compared
returns-in-Undef c =
    let args = c.args in
    let is : trit_in args.self.now.list.now args.constant ≡ Undef =
    sym c.trit_at.ensures ∙ c.in-Undef.is in
    λ small. rw is (adds_none _ _)

pub returns-in-Zero : goal.returns-in-Zero
returns-in-Zero c =
    let args = c.args in
    let v = net_in args.self.now.list.now args.net in
    let one = own v (trit_in args.self.now.list.now args.constant) (rw c.trit_at.ensures at c.in-Zero.is) in
    λ small. rw (one, current-one) (c.net_edge.ensures small)
