-- `replaced_nets::replace_pair` meets its contract: what each kind of net replacement makes, the kind being that of the
-- words. Assumes nothing.
use mathlib.Core.Path.{sym, ap, ◌∙◌}
use Rattle.slots.specs.Pairs.{pair_kind}
use Rattle.net_pairs.proofs.Does.{does_none}
use Rattle.replaced_nets.proofs.replace_pair.Goals as goal

pub returns-in-Equal : goal.returns-in-Equal
returns-in-Equal c =
    let same = sym c.pair_of.ensures.same ∙ ap pair_kind c.in-Equal.is in
    λ low high. rw same (does_none _ _ _ _ _)
