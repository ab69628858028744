-- Document 01, "Examples": the answer reader. What the steps of the code say of the tokens: a result with the place
-- where reading goes on stands for the tokens from there.
use Rattle.std.specs.Prelude.{Bool, cond, List, [], ℕ, eqb, Some, None, Result, Ok, Err}
use Rattle.logic.specs.Trit.{shows, readback_number}
use Rattle.logic.specs.declared.Fault.{Fault}
use Rattle.engine.specs.Call.{Name}
use Rattle.text.specs.Names.{spelling}
use Rattle.tokens.specs.Place.{tokens_from}
use Rattle.reply.specs.declared.Verdict.{Verdict}
use Rattle.reply.specs.declared.Verdict.TheVariants as verdict
use Rattle.reply.specs.Reply as read
use Rattle.reply.specs.Reply.{Reader, Reply, got, refused, return}
use Rattle.reply.specs.Reply.{◌>>=◌, pair_spelled, model, satisfied, unsat, bad}

abbrev pub step_result : List ℕ → Result ℕ Fault → read.Result (Unit {0})
step_result text (Ok at) = got tt (tokens_from text at)
step_result text (Err e) = refused e

-- At the text's end no token is left.
abbrev pub end_result : Result (Unit {0}) Fault → read.Result (Unit {0})
end_result (Ok u) = got tt []
end_result (Err e) = refused e

module _ {A : Type 0} where
  -- What was read, and the place after it.
  abbrev pub value_result : List ℕ → Result (A × ℕ) Fault → read.Result A
  value_result text (Ok (value, at)) = got value (tokens_from text at)
  value_result text (Err e) = refused e

-- The pair of a slot's name: a letter, the slot in decimal, and a suffix.
unfoldable pub slot_pair : ℕ → ℕ → ℕ → Reader Bool
slot_pair letter slot suffix = pair_spelled (spelling letter slot suffix)

-- The trit of a slot from its two pairs, x and y.
unfoldable pub trit : ℕ → ℕ → Reader ℕ
trit letter slot = do
  x ← slot_pair letter slot 120
  y ← slot_pair letter slot 121
  return (readback_number (Some (shows x y)))

-- A slot's entry of the table, by its mark.
unfoldable pub entry_of : ℕ → ℕ → Reader ℕ
entry_of slot mark =
    cond (eqb mark 1) (trit 110 slot) (cond (eqb mark 2) (trit 112 slot) (return (readback_number None)))

-- The reply that the first token leads to.
abbrev pub reply_after : List ℕ → List Name → Result Verdict Fault → Reply
reply_after text names (Ok verdict.Unsat) = unsat
reply_after text names (Ok (verdict.Sat at)) = satisfied (model names (tokens_from text at))
reply_after text names (Err e) = bad e
