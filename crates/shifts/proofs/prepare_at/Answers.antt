-- `shifts::prepare_at` meets its contract: its calls are those of the model, one after the other. Assumes nothing.
use mathlib.Core.Path.{refl}
use Rattle.builder.proofs.Laws.{ran_assoc, ran_bind, ran_ret}
use Rattle.smt.specs.Builder.{prepare_at}
use Rattle.arith.specs.Parts.{amount_times}
use Rattle.shifts.proofs.prepare_at.Goals as goal

pub returns : goal.returns
unfolding prepare_at amount_times
returns c =
    record {
      ran = λ low. ran_bind _ (c.value-value.ensures low)
          (ran_bind _ (c.value-amount.ensures low)
          (ran_assoc _ _ _ (ran_ret _ (c.amount_times-amount_mul.ensures low _ _ _))));
      width = refl;
    }
