-- Documents 01 and 02, faults 7 and 9, and "Operations and bodies": the widths of a cell's vectors.
use Rattle.std.specs.Prelude.{◌≡◌, ℕ, ◌+◌, ◌≤◌, ◌<◌, length}
use Rattle.cell.specs.Cell.{Cell, Binary, Shift}
use Rattle.cell.specs.Cell as c
use Rattle.cell.specs.Each.{Each}

-- Fault 7: Eq, ULt, SLt, SShr and the signed divisions have at least one net.
abbrev pub Wide : Binary → ℕ → Type 0
Wide c.and n = Unit {0}
Wide c.or n = Unit {0}
Wide c.xor n = Unit {0}
Wide c.mul n = Unit {0}
Wide c.eq n = 0 < n
Wide c.ult n = 0 < n
Wide c.slt n = 0 < n
Wide c.udiv n = Unit {0}
Wide c.umod n = Unit {0}
Wide c.sdiv_trunc n = 0 < n
Wide c.smod_trunc n = 0 < n

abbrev pub WideShift : Shift → ℕ → Type 0
WideShift c.shl n = Unit {0}
WideShift c.ushr n = Unit {0}
WideShift c.sshr n = 0 < n
WideShift c.xshr n = Unit {0}

-- Vectors under one #n have one width; fault 9: offset + u ≤ n.
abbrev pub Shaped : Cell → Type 0
Shaped c.void = Unit {0}
Shaped c.note = Unit {0}
Shaped (c.input n) = Unit {0}
Shaped (c.io_buf n) = Unit {0}
Shaped (c.unary op a) = Unit {0}
Shaped (c.binary op a b) = (length b ≡ length a) × Wide op (length a)
Shaped (c.mux s a b) = length b ≡ length a
Shaped (c.adc a b carry) = length b ≡ length a
Shaped (c.aig a b) = Unit {0}
Shaped (c.shift op value amount stride) = WideShift op (length value)
Shaped (c.match value enable patterns) = Each (Each (λ alternate. length alternate ≡ length value)) patterns
Shaped (c.assign value enable update offset) = offset + length update ≤ length value
Shaped (c.dff f) = (length f.clear_value ≡ length f.dat) × (length f.reset_value ≡ length f.dat)
