-- `alternates::position` meets its contract: an X is no part of the product, a 0 or a 1 is compared. Assumes nothing.
use mathlib.Core.Logic.{⊎_elim}
use Rattle.builder.proofs.Laws.{ran_none}
use Rattle.alternates.specs.Parts.{position}
use Rattle.alternates.proofs.position.Goals as goal

pub returns-in-Undef : goal.returns-in-Undef
unfolding position
returns-in-Undef c = rw c.in-Undef.is (ran_none _ _ _ _ _)

pub returns-in-Zero : goal.returns-in-Zero
unfolding position
returns-in-Zero c =
    ⊎_elim (λ zero. rw zero (rw zero at c.compared.ensures)) (λ one. rw one (rw one at c.compared.ensures)) c.in-Zero.is
