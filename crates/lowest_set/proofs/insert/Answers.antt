-- `lowest_set::insert` meets its contract: the set with one more differs from the set in that number. Assumes nothing.
use Rattle.lowest_set.proofs.Changing.{mark_changes}
use Rattle.lowest_set.proofs.insert.Goals as goal

pub returns : goal.returns
returns c =
    λ members holds low. c.renew.ensures members _ holds low (mark_changes members _)
