-- Document 01, "Words", "Operations and bodies", and document 02, change 3: which operations there are, how the body of
-- each is laid out, and its output width. Every body is a few numbers, then controls, then nets, then constants, then
-- patterns, as its layout says. Operations of one layout are told apart by their operator (`operators`): a new one of
-- them is a row of `operations` and `number_of` here, and of the tables there.
use Rattle.std.specs.Prelude.{ℕ, ◌+◌, Bool, true, false, List, [], ◌∷◌, map, get_or, Option, Some, None}
use Rattle.operators.specs.Operators.{binary_least, shift_least}
use Rattle.cell.specs.Cell.{binary_width}
use Rattle.cell.specs.Cell as C
use Rattle.cell.specs.declared.Operation.{Operation}
use Rattle.cell.specs.declared.Operation.TheVariants as O
use Rattle.cell.specs.declared.Layout.{Layout}
use Rattle.cell.specs.declared.Layout.TheVariants as L
use Rattle.cell.specs.declared.Numbers.{Numbers}
use Rattle.cell.specs.declared.Fields.{Fields}
use Rattle.cell.specs.declared.Standing.{Standing}
use Rattle.cell.specs.declared.Standing.TheVariants as S

-- The operations by their numbers, from 0.
abbrev pub operations : List Operation
operations =
    O.Void ∷ O.Unary C.buf ∷ O.Unary C.inverter ∷ O.Binary C.and ∷ O.Binary C.or ∷ O.Binary C.xor ∷ O.Mux ∷ O.Adc ∷ O.Aig ∷
    O.Binary C.eq ∷ O.Binary C.ult ∷ O.Binary C.slt ∷ O.Shift C.shl ∷ O.Shift C.ushr ∷ O.Shift C.sshr ∷ O.Shift C.xshr ∷
    O.Binary C.mul ∷ O.Match ∷ O.Assign ∷ O.Dff ∷ O.IoBuf ∷ O.Input ∷ O.Note ∷ O.Binary C.udiv ∷
    O.Binary C.umod ∷ O.Binary C.sdiv_trunc ∷ O.Binary C.smod_trunc ∷ []

abbrev pub operation_of : ℕ → Option Operation
operation_of number = get_or (map Some operations) number None

-- "0 Void, empty; 1 Buf, 2 Not: #n n*; 3 And, 4 Or, 5 Xor, 9 Eq, 10 ULt, 11 SLt, 16 Mul .. 22 Note"; UDiv,
-- UMod, SDivTrunc and SModTrunc "as operations 23 to 26, laid out like Mul".
abbrev pub number_of : Operation → ℕ
number_of O.Void = 0
number_of (O.Unary C.buf) = 1
number_of (O.Unary C.inverter) = 2
number_of (O.Binary C.and) = 3
number_of (O.Binary C.or) = 4
number_of (O.Binary C.xor) = 5
number_of O.Mux = 6
number_of O.Adc = 7
number_of O.Aig = 8
number_of (O.Binary C.eq) = 9
number_of (O.Binary C.ult) = 10
number_of (O.Binary C.slt) = 11
number_of (O.Shift C.shl) = 12
number_of (O.Shift C.ushr) = 13
number_of (O.Shift C.sshr) = 14
number_of (O.Shift C.xshr) = 15
number_of (O.Binary C.mul) = 16
number_of O.Match = 17
number_of O.Assign = 18
number_of O.Dff = 19
number_of O.IoBuf = 20
number_of O.Input = 21
number_of O.Note = 22
number_of (O.Binary C.udiv) = 23
number_of (O.Binary C.umod) = 24
number_of (O.Binary C.sdiv_trunc) = 25
number_of (O.Binary C.smod_trunc) = 26

-- The layout of each operation's body.
abbrev pub layout_of : Operation → Layout
layout_of O.Void = L.Empty
layout_of O.Note = L.Empty
layout_of O.IoBuf = L.Port
layout_of O.Input = L.Port
layout_of (O.Unary operator) = L.Unary
layout_of (O.Binary operator) = L.Binary operator
layout_of O.Mux = L.Mux
layout_of O.Adc = L.Adc
layout_of O.Aig = L.Aig
layout_of (O.Shift operator) = L.Shift operator
layout_of O.Match = L.Match
layout_of O.Assign = L.Assign
layout_of O.Dff = L.Dff

-- The numbers that lead a body: how many (n, then m, k, u or a flag, then a stride or an offset), the least n, the
-- bound of the second, and whether offset + u must be within n.
abbrev pub lead : ℕ → ℕ → ℕ → Bool → Numbers
lead count least second within = record { count = count; least = least; second = second; within = within }

-- The numbers of each layout: k, u ≤ 63, m ≤ 32, flag ≤ 1 (n ≤ 63 in all); in Assign offset + u must be within n (fault
-- 9).
abbrev pub numbers_in : Layout → Numbers
-- columns: how many, least n, bound of the second, within
numbers_in L.Empty = lead 0 0 0 false
-- #n
numbers_in L.Port = lead 1 0 0 false
-- #n n*
numbers_in L.Unary = lead 1 0 0 false
-- #n n* n*
numbers_in (L.Binary operator) = lead 1 (binary_least operator) 0 false
-- #n s n* n*
numbers_in L.Mux = lead 1 0 0 false
-- #n n* n* c
numbers_in L.Adc = lead 1 0 0 false
-- two controls
numbers_in L.Aig = lead 0 0 0 false
-- #n #m #stride n* m*
numbers_in (L.Shift operator) = lead 3 (shift_least operator) 32 false
-- #n #k enable n*, the patterns
numbers_in L.Match = lead 2 0 63 false
-- #n #u #offset enable n* u*
numbers_in L.Assign = lead 3 0 63 true
-- #n #reset-over-enable clock clear reset enable, n* data, n* clear value, n* reset value
numbers_in L.Dff = lead 2 0 1 false

abbrev pub numbers_of : Operation → Numbers
numbers_of op = numbers_in (layout_of op)

-- What follows the numbers, in this order, and the output width.
abbrev pub body : ℕ → ℕ → ℕ → ℕ → ℕ → Fields
body controls nets constants patterns width =
    record { controls = controls; nets = nets; constants = constants; patterns = patterns; width = width }

-- What follows the numbers n and m (m also stands for k and u) in each layout, and the output width (`output_len`).
abbrev pub fields_in : Layout → ℕ → ℕ → Fields
-- columns: controls, nets, constants, patterns, output width
fields_in L.Empty n m = body 0 0 0 0 0
-- #n
fields_in L.Port n m = body 0 0 0 0 n
-- #n n*
fields_in L.Unary n m = body 0 n 0 0 n
-- #n n* n*
fields_in (L.Binary operator) n m = body 0 (n + n) 0 0 (binary_width operator n)
-- #n s n* n*
fields_in L.Mux n m = body 0 (1 + n + n) 0 0 n
-- #n n* n* c
fields_in L.Adc n m = body 0 (n + n + 1) 0 0 (n + 1)
-- two controls
fields_in L.Aig n m = body 2 0 0 0 1
-- #n #m #stride n* m*
fields_in (L.Shift operator) n m = body 0 (n + m) 0 0 n
-- #n #k enable n*, the patterns
fields_in L.Match n m = body 0 (1 + n) 0 m m
-- #n #u #offset enable n* u*
fields_in L.Assign n m = body 0 (1 + n + m) 0 0 n
-- #n #reset-over-enable clock clear reset enable, n* data, n* clear value, n* reset value
fields_in L.Dff n m = body 4 n (n + n) 0 n

abbrev pub fields_of : Operation → ℕ → ℕ → Fields
fields_of op n m = fields_in (layout_of op) n m

-- What stands at the slots of an operation's cell.
abbrev pub standing_of : Operation → Standing
standing_of O.Void = S.Void
standing_of O.Note = S.Other
standing_of O.IoBuf = S.Other
standing_of O.Input = S.Other
standing_of (O.Unary operator) = S.Other
standing_of (O.Binary operator) = S.Other
standing_of O.Mux = S.Other
standing_of O.Adc = S.Other
standing_of O.Aig = S.Other
standing_of (O.Shift operator) = S.Other
standing_of O.Match = S.Other
standing_of O.Assign = S.Other
standing_of O.Dff = S.Dff

-- Void, Input and Note may not be the new cell of a replacement (fault 12).
abbrev pub may_replace : Operation → Bool
may_replace O.Void = false
may_replace O.Note = false
may_replace O.IoBuf = true
may_replace O.Input = false
may_replace (O.Unary operator) = true
may_replace (O.Binary operator) = true
may_replace O.Mux = true
may_replace O.Adc = true
may_replace O.Aig = true
may_replace (O.Shift operator) = true
may_replace O.Match = true
may_replace O.Assign = true
may_replace O.Dff = true
