-- `arith::tv_binary` meets its contract: each arm is its function of the model, at the width of its result. Assumes
-- nothing.
use Rattle.builder.proofs.Laws.{ran_bind}
use Rattle.arith.proofs.tv_binary.Goals as goal

pub returns-in-And : goal.returns-in-And
returns-in-And c =
    let args = c.args in
    let n = args.n in
    let op = c.in-And.is in
    λ low. (args.width, λ names marks. rw op (c.tv_and.ensures n n names marks))

pub returns-in-Or : goal.returns-in-Or
returns-in-Or c =
    let args = c.args in
    let n = args.n in
    let op = c.in-Or.is in
    λ low. (args.width, λ names marks. rw op (c.tv_or.ensures n n names marks))

pub returns-in-Xor : goal.returns-in-Xor
returns-in-Xor c =
    let n = c.args.n in
    let op = c.in-Xor.is in
    λ low. (n, λ names marks. rw op (c.tv_xor.ensures n n names marks))

pub returns-in-Eq : goal.returns-in-Eq
returns-in-Eq c =
    let n = c.args.n in
    let op = c.in-Eq.is in
    λ low. (1, λ names marks. rw op (c.tv_equals.ensures low n n names marks))

pub returns-in-ULt : goal.returns-in-ULt
returns-in-ULt c =
    let n = c.args.n in
    let op = c.in-ULt.is in
    λ low. (1, λ names marks. rw op (c.tv_less.ensures low n n names marks))

pub returns-in-SLt : goal.returns-in-SLt
returns-in-SLt c =
    let n = c.args.n in
    let op = c.in-SLt.is in
    λ low. (1, λ names marks. rw op (c.tv_less-in-SLt.ensures low n n names marks))

pub returns-in-Mul : goal.returns-in-Mul
returns-in-Mul c =
    let n = c.args.n in
    let op = c.in-Mul.is in
    λ low. (
      n,
      λ names marks. rw op
          (ran_bind _ (c.bv_no_x-no_x.ensures low n n names marks) (c.tv_strict.ensures low names marks)),
    )

pub returns-in-UDiv : goal.returns-in-UDiv
returns-in-UDiv c =
    let n = c.args.n in
    let op = c.in-UDiv.is in
    λ low. (n, λ names marks. rw op (c.tv_divide.ensures low names marks))

pub returns-in-UMod : goal.returns-in-UMod
returns-in-UMod c =
    let n = c.args.n in
    let op = c.in-UMod.is in
    λ low. (n, λ names marks. rw op (c.tv_divide-in-UMod.ensures low names marks))

pub returns-in-SDivTrunc : goal.returns-in-SDivTrunc
returns-in-SDivTrunc c =
    let n = c.args.n in
    let op = c.in-SDivTrunc.is in
    λ low. (n, λ names marks. rw op (c.tv_divide-in-SDivTrunc.ensures low names marks))

pub returns-in-SModTrunc : goal.returns-in-SModTrunc
returns-in-SModTrunc c =
    let n = c.args.n in
    let op = c.in-SModTrunc.is in
    λ low. (n, λ names marks. rw op (c.tv_divide-in-SModTrunc.ensures low names marks))
