-- `operands::shift_width` meets its contract: the larger of the two widths, in each of the three cases. Assumes
-- nothing.
use native.Mathlib.Omega.{arith}
use Rattle.operands.proofs.Numbers.{width-value, width-amount, width-last, wide}
use Rattle.operands.proofs.shift_width.Goals as goal

pub returns-then-needed-n : goal.returns-then-needed-n
returns-then-needed-n c =
    let args = c.args in
    let width =
    width-value args.n args.m args.stride c.ilog2.result c.ilog2.ensures c.if-needed-n.true
    (omega arith) in
    record { width = width; wide = wide args.n args.m args.stride _ width }

pub returns-then-needed-lt4294967296 : goal.returns-then-needed-lt4294967296
returns-then-needed-lt4294967296 c =
    let args = c.args in
    let places = c.ilog2.ensures in
    let width = width-amount args.n args.m args.stride _ places c.if-needed-n.false c.if-needed-lt4294967296.true in
    record { width = width; wide = wide args.n args.m args.stride _ width }

pub returns : goal.returns
returns c =
    let args = c.args in
    let width =
    width-last args.n args.m args.stride c.ilog2.result c.ilog2.ensures c.if-needed-lt4294967296.false in
    record { width = width; wide = wide args.n args.m args.stride _ width }
