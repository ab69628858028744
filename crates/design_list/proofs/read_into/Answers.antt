-- `design_list::read_into` meets its contract: it follows the definition; a header that was read has at most 4,096
-- slots. Assumes nothing.
use borrow.Author.Tests.{lt-ltb, le-ltb}
use mathlib.Core.Path.{refl, sym, ◌∙◌}
use native.Mathlib.Omega.{arith}
use Rattle.design_list.specs.Read.{read}
use Rattle.design_list.specs.Table.{Stored}
use Rattle.std.proofs.lemmas.Result.{err_from_is_err_and}
use Rattle.design_list.proofs.TableLaws.{stored-cells}
use Rattle.items.proofs.Laws.{header_read}
use Rattle.design_list.proofs.read_into.Goals as goal

pub returns-then-list-gt16384 : goal.returns-then-list-gt16384
unfolding read Stored
returns-then-list-gt16384 c mode = rw (lt-ltb _ _ c.if-list-gt16384.true) (refl, tt)

pub returns-then-list-lt4 : goal.returns-then-list-lt4
unfolding read Stored
returns-then-list-lt4 c mode = rw (le-ltb _ _ c.if-list-gt16384.false, lt-ltb _ 4 c.if-list-lt4.true) (refl, tt)

pub read_cells-requires : goal.read_cells-requires
read_cells-requires c =
    let small = header_read _ (sym c.header_at.ensures ∙ c.in_ok-header.was) in
    (small, omega (arith, small))

pub returns-in_err-header : goal.returns-in_err-header
unfolding read Stored
returns-in_err-header c mode =
    let p = err_from_is_err_and c.from_residual.result c.from_residual.ensures.1 in
    rw (
      p.1,
      p.2,
      le-ltb _ _ c.if-list-gt16384.false,
      le-ltb _ _ c.if-list-lt4.false,
      ← c.header_at.ensures,
      c.in_err-header.was,
    )
    (refl, tt)

pub returns : goal.returns
unfolding read
returns c mode =
    rw (
      le-ltb _ _ c.if-list-gt16384.false,
      le-ltb _ _ c.if-list-lt4.false,
      ← c.header_at.ensures,
      c.in_ok-header.was,
    )
    (c.read_cells.ensures.0 mode, stored-cells mode _ _ _ _ c.read_cells.ensures.1)
