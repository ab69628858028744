-- `nets::net_of` meets its contract: a constant is a literal, a slot its two names; a number below 2^29 names one of
-- them. Assumes nothing.
use mathlib.Core.Path.{sym, ◌∙◌}
use Rattle.smt.specs.Builder.{net_of}
use Rattle.nets.proofs.Laws.{drives_constant, drives_output}
use Rattle.nets.proofs.net_of.Goals as goal

pub returns-in-Constant : goal.returns-in-Constant
unfolding net_of
returns-in-Constant c =
    λ low.
    let net-is = drives_constant _ low (sym c.driver_of.ensures ∙ c.in-Constant.is) in
    rw net-is (c.trit_lit.ensures _ _)

pub returns-in-Output : goal.returns-in-Output
unfolding net_of
returns-in-Output c =
    λ low.
    let net-is = drives_output _ low (sym c.driver_of.ensures ∙ c.in-Output.is) in
    rw net-is c.tv_const.ensures
