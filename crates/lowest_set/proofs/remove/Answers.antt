-- `lowest_set::remove` meets its contract: the set without one differs from the set in that number. Assumes nothing.
use Rattle.lowest_set.proofs.Changing.{without_changes}
use Rattle.lowest_set.proofs.remove.Goals as goal

pub returns : goal.returns
returns c =
    λ members holds low. c.renew.ensures members _ holds low (without_changes members _)
