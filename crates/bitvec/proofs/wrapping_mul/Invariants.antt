-- `bitvec::wrapping_mul` meets its contract. The invariant: modulo 2 ^ width the sum is that of the top j bits, which
-- is s times the number they form (`partial-product`). Assumes nothing.
use Rattle.std.proofs.Common.{◌≡◌, ◌-◌, ◌%◌, ◌^◌, ◌≤◌}
use Rattle.bitvec.specs.Partial.{partial}
use Rattle.bitvec.proofs.wrapping_mul.Given as goal

abbrev pub invariant-loop-j : goal.invariant-loop-j
invariant-loop-j l = (l.sum % 2 ^ l.width ≡ partial l.s l.t l.width l.j) × (l.j ≤ l.width)
