-- `names::bv_const` meets its contract: the slot is marked first; then the word of the name's place is 0 and the name
-- is declared, or it is one more than the name's term. Assumes nothing.
use mathlib.Core.Path.{◌≡◌, sym, ◌∙◌}
use Prim.Native.Nat.{suc, ◌-◌}
use native.Mathlib.Omega.{arith}
use Rattle.names.proofs.Laws.{ran_new, ran_known}
use Rattle.names.proofs.bv_const.Goals as goal

pub returns-then-known-eq0 : goal.returns-then-known-eq0
returns-then-known-eq0 c =
    let place_is = c.place_of-at.ensures in
    let new = sym c.word_at-known.ensures ∙ c.if-known-eq0.true in
    rw (c.put_mark.ensures, c.mark_of.ensures)
    (ran_new _ _ _ (rw (← place_is) new) (rw place_is at c.declare_new.ensures))

pub returns : goal.returns
returns c =
    let word = c.word_at-known.result in
    let above : word ≡ suc (word - 1) = omega arith in
    let old = sym c.word_at-known.ensures ∙ above in
    rw (c.put_mark.ensures, c.mark_of.ensures)
    (ran_known _ _ _ _ (rw (← c.place_of-at.ensures) old))
