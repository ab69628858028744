-- Laws of the definitions of Records.
use mathlib.Core.Path.{◌≡◌, refl, sym, ap, ◌∙◌, subst}
use mathlib.Core.Bool.{Bool, true, false, cond}
use mathlib.Core.List.{List}
use mathlib.Core.Option.{Option, some, none}
use Prim.Native.Nat.{ℕ, zero, suc, ◌+◌}
use native.Mathlib.Omega.{arith}
use lib.ListN.{length}
use lib.Dec.{eqb}
use Rattle.logic.specs.Table.{tab}
use Rattle.bitvec.specs.Bits.{Bits, bv2nat, nat2bv}
use Rattle.bitvec.proofs.Laws.{length-nat2bv}
use Rattle.bitvec.proofs.WordLaws.{at_width_lem}
use Rattle.engine.specs.Call as c
use Rattle.engine.specs.Sorts.{IsVector, Context, Allowed}
use Rattle.engine.specs.Encode.{operation_of, operation_at, call_at}
use Rattle.engine.specs.Encode as o
use Rattle.engine.specs.WellFormed.{first_failing}
use Rattle.engine.proofs.ReadBack.{reads_at}
use Rattle.engine.specs.Reached.{Right}
use Rattle.call_list.specs.Literal.{payloads, four_digits, literal_number}
use Rattle.call_list.proofs.LiteralLaws.{four_digits_lem, literal_fits}
use Rattle.term_values.specs.Values.{and_number}
use Rattle.term_values.specs.Records.{number_in, literal_value}

-- ---- an and: 1 if no argument's number is other than 1

abbrev pub is_one : List ℕ → List ℕ → ℕ → ℕ → Bool
is_one slice w at i = eqb (number_in slice (payloads w at i)) 1

abbrev pub all_ones : Option ℕ → ℕ
all_ones none = 1
all_ones (some i) = 0

and_from : (v p q : ℕ → ℕ) (i n : ℕ) → ((j : ℕ) → q j ≡ p (i + j))
    → and_number v (tab n q) ≡ all_ones (first_failing (λ k. eqb (v (p k)) 1) i n)
unfolding tab first_failing
and_from v p q i zero e = refl
and_from v p q i (suc n) e =
    let here : q 0 ≡ p i = e 0 ∙ ap p (omega arith) in
    rw here (go (eqb (v (p i)) 1) (and_from v p (λ j. q (suc j)) (suc i) n (λ j. e (suc j) ∙ ap p (omega arith))))
  where
    go : (b : Bool) → and_number v (tab n (λ j. q (suc j))) ≡ all_ones (first_failing (λ k. eqb (v (p k)) 1) (suc i) n)
        → cond b (and_number v (tab n (λ j. q (suc j)))) 0
        ≡ all_ones (cond b (first_failing (λ k. eqb (v (p k)) 1) (suc i) n) (some i))
    go true h = h
    go false h = refl

pub and-scan : (slice w : List ℕ) (at n : ℕ) → and_number (number_in slice) (tab n (payloads w at))
    ≡ all_ones (first_failing (is_one slice w at) 0 n)
and-scan slice w at n =
    and_from (number_in slice) (payloads w at) (payloads w at) 0 n (λ j. ap (payloads w at) (omega arith))

-- The number of a right record's literal is that of its bits.
pub literal_value_lem : (w : List ℕ) (at : ℕ) (x : Context) → Right w at x → (bits : Bits)
    → call_at w at ≡ c.term (c.lit bits) → literal_value w at ≡ bv2nat bits
literal_value_lem w at x right bits e =
    let read = reads_at x w at right.head right.arguments in
    let is-lit : operation_at w at ≡ o.term o.lit = sym read.operation ∙ ap operation_of e in
    let call : c.term (c.lit (nat2bv (payloads w at 0) (literal_number w at))) ≡ c.term (c.lit bits) = rw is-lit at e in
    let same : nat2bv (payloads w at 0) (literal_number w at) ≡ bits = cc in
    let allowed : Allowed x (c.term (c.lit bits)) = rw e at read.allowed in
    let width : length bits ≡ payloads w at 0 =
    ap length (sym same) ∙ length-nat2bv (payloads w at 0) (literal_number w at) in
    let vector : IsVector (payloads w at 0) = subst IsVector width allowed.0 in
    at_width_lem (payloads w at 0) (nat2bv (payloads w at 0) (four_digits w at)) vector.0 vector.1
    ∙ ap (λ (n : ℕ). bv2nat (nat2bv (payloads w at 0) n)) (four_digits_lem w at (literal_fits w at x right is-lit))
    ∙ ap bv2nat same
