-- `operands::constants` meets its contract. The invariant: the numbers are those of the constants from i on, which
-- leave room for one more. Assumes nothing.
use mathlib.Core.Path.{◌≡◌, sym}
use Prim.Native.Nat.{◌+◌, ◌-◌, min}
use native.Mathlib.Omega.{arith}
use Rattle.logic.specs.Trit.{x_of, y_of}
use Rattle.operands.specs.Words.{packed}
use Rattle.operands.proofs.Numbers.{packed_turn, packed_none, packed_all, packed-room, bit-low, packed_literal}
use Rattle.operands.proofs.constants.Goals as goal

pub loop-i-init : goal.loop-i-init
loop-i-init c =
    let args = c.args in
    let few = c.min-i.ensures in
    let i = c.min-i.result in (
      omega arith,
      sym (packed_none x_of args.words.now (min args.n 64) (args.at + i) i (omega arith)),
      sym (packed_none y_of args.words.now (min args.n 64) (args.at + i) i (omega arith)),
    )

pub overflow_mul-x : goal.overflow_mul-x
overflow_mul-x c =
    let args = c.args in
    omega (arith, packed-room x_of args.words.now args.n args.at c.loop-i.i c.loop-i-test.true)

pub overflow_add-x : goal.overflow_add-x
overflow_add-x c =
    let args = c.args in
    let room = packed-room x_of args.words.now args.n args.at c.loop-i.i c.loop-i-test.true in
    omega (arith, bit-low (x_of c.trit_at-trit.result))

pub overflow_mul-y : goal.overflow_mul-y
overflow_mul-y c =
    let args = c.args in
    omega (arith, packed-room y_of args.words.now args.n args.at c.loop-i.i c.loop-i-test.true)

pub overflow_add-y : goal.overflow_add-y
overflow_add-y c =
    let args = c.args in
    let room = packed-room y_of args.words.now args.n args.at c.loop-i.i c.loop-i-test.true in
    omega (arith, bit-low (y_of c.trit_at-trit.result))

pub loop-i-preserved : goal.loop-i-preserved
loop-i-preserved c =
    let args = c.args in
    let more = c.loop-i-test.true in (
      omega arith,
      rw (c.loop-i.invariant.1, c.x_bit.ensures, c.trit_at-trit.ensures)
          (sym (packed_turn x_of args.words.now (min args.n 64) args.at c.loop-i.i more c.loop-i.invariant.0)),
      rw (c.loop-i.invariant.2, c.y_bit.ensures, c.trit_at-trit.ensures)
          (sym (packed_turn y_of args.words.now (min args.n 64) args.at c.loop-i.i more c.loop-i.invariant.0)),
    )

pub returns : goal.returns
returns c =
    let args = c.args in
    let words = args.words.now in
    let k = min args.n 64 in
    let x : c.loop-i.x ≡ packed x_of words k args.at =
    packed_all x_of words k args.at c.loop-i.i _ c.loop-i-test.false c.loop-i.invariant.1 in
    let y : c.loop-i.y ≡ packed y_of words k args.at =
    packed_all y_of words k args.at c.loop-i.i _ c.loop-i-test.false c.loop-i.invariant.2 in
    record { numbers = (x, y); literal = packed_literal words args.n args.at c.loop-i.x c.loop-i.y x y }
