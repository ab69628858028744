-- `engine::digit_words` meets its contract: what is written, with the digits left of the rest, are the digits of the
-- number. Assumes nothing.
use Prim.Native.Nat.{◌+◌, ◌-◌, ◌<◌, ◌^◌}
use mathlib.Core.Path.{◌≡◌, refl, sym, ap, ◌∙◌}
use mathlib.Core.List.{List, [], ◌++◌, append_assoc, append-nil}
use native.Mathlib.Omega.{arith}
use Prim.Native.Nat.{ℕ}
use lib.ListN.{length}
use Rattle.logic.specs.Word.{number_word}
use Rattle.engine.proofs.EmitLaws.{wrote_none, wrote_then, no_digits, first-digit}
use Rattle.engine.proofs.digit_words.Goals as goal

pub loop-init : goal.loop-init
loop-init c =
    let all : c.args.n - 0 ≡ c.args.n = omega arith in (
      omega arith,
      refl,
      ([], wrote_none _ _ (omega arith), rw all),
    )

pub loop-preserved : goal.loop-preserved
loop-preserved c =
    let inv = c.loop.invariant in
    let one = rw c.number_word.ensures at c.push-next.ensures in
    let short : length c.args.calls.now < 2 ^ 64 = omega arith in
    let left = c.args.n - c.loop.counter in
    let fewer : left - 1 ≡ c.args.n - (c.loop.counter + 1) = omega arith in
    let step = rw fewer at (first-digit left c.loop.rest (omega (arith, c.loop-test.true))) in (
      omega arith,
      c.push-next.auto.calls ∙ inv.1,
      (
        _,
        wrote_then inv.2.1 one short,
        append_assoc inv.2.0 _ _
            ∙ ap (λ (l : List ℕ). inv.2.0 ++ l) (sym step) ∙ inv.2.2,
      ),
    )

pub returns : goal.returns
returns c =
    let inv = c.loop.invariant in
    let none_left = no_digits (c.args.n - c.loop.counter) c.loop.rest (omega (arith, c.loop-test.false)) in
    let all = sym (append-nil inv.2.0) ∙ ap (λ (l : List ℕ). inv.2.0 ++ l) (sym none_left) ∙ inv.2.2 in
    rw all at inv.2.1
