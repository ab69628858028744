-- What stands at a slot says all that the kinds of net replacements ask of a role. Assumes nothing.
use mathlib.Core.Path.{◌≡◌, refl}
use Prim.Native.Nat.{◌≤◌}
use native.Mathlib.Omega.{arith}
use lib.Dec.{eqb}
use Rattle.cell.specs.Cell.{Cell, standing}
use Rattle.placing.specs.Slots.{standing_number}
use Rattle.cell.specs.Cell as C
use Rattle.cell.specs.Role.{Role, void, given, dff, other, role, is_void, is_dff}
use Rattle.slots.specs.Tells.{standing_of}

pub standing-role : (c : Cell) → standing_number (standing c) ≡ standing_of (role c)
standing-role C.void = refl
standing-role C.note = refl
standing-role (C.input n) = refl
standing-role (C.io_buf n) = refl
standing-role (C.unary op a) = refl
standing-role (C.binary op a b) = refl
standing-role (C.mux s a b) = refl
standing-role (C.adc a b carry) = refl
standing-role (C.aig a b) = refl
standing-role (C.shift op value amount stride) = refl
standing-role (C.match value enable patterns) = refl
standing-role (C.assign value enable update offset) = refl
standing-role (C.dff f) = refl

pub standing-low : (r : Role) → standing_of r ≤ 2
standing-low void = omega arith
standing-low given = omega arith
standing-low dff = omega arith
standing-low other = omega arith

pub void_stands : (r : Role) → eqb (standing_of r) 0 ≡ is_void r
void_stands void = refl
void_stands given = refl
void_stands dff = refl
void_stands other = refl

pub dff_stands : (r : Role) → eqb (standing_of r) 1 ≡ is_dff r
dff_stands void = refl
dff_stands given = refl
dff_stands dff = refl
dff_stands other = refl
