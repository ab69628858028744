-- `bitvec::bvmul` meets its contract: all bits of the second operand give the product. Assumes nothing.
use Rattle.std.proofs.Common.{sym, ◌∙◌, arith}
use Rattle.bitvec.proofs.Lemmas.{exact, word_bvmul}
use Rattle.bitvec.proofs.Products.{partial-all}
use Rattle.bitvec.proofs.WordLaws.{at_none, too_wide}
use Rattle.bitvec.proofs.bvmul.Goals as goal

pub returns-then-width-gt64 : goal.returns-then-width-gt64
returns-then-width-gt64 c = sym (at_none _ _ (too_wide _ (omega arith)))

pub returns : goal.returns
returns c =
    let a = c.args in
    let whole = c.wrapping_mul.ensures ∙ partial-all a.s a.t a.width in
    c.reduce.ensures ∙ exact _ _ _ (λ _ _. word_bvmul a.width a.s a.t ∙ sym whole)
