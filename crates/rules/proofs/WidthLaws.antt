-- Laws of the definitions of Width.
use mathlib.Core.Path.{◌≡◌, refl, sym, ap, ◌∙◌}
use mathlib.Core.Bool.{Bool, true, false, cond}
use mathlib.Core.List.{List, [], ◌∷◌}
use Prim.Native.Nat.{ℕ, zero, suc, ◌+◌, ◌*◌, ◌/◌, ◌%◌, ◌≤◌}
use native.Mathlib.Nat.{suc_inj, suc-ne-zero}
use native.Mathlib.Omega.{arith}
use lib.ListN.{length, replicate, length-map, length-append, length-take, length-drop, length-replicate}
use Rattle.logic.specs.Table.{zip_with, tab}
use Rattle.logic.proofs.TableLaws.{length-tab}
use Rattle.logic.specs.declared.Trit.{Trit}
use Rattle.logic.specs.declared.Trit.TheVariants.{Zero, Undef}
use Rattle.cell.specs.Cell.{Unary, Binary, Shift, binary_width}
use Rattle.cell.specs.Cell as c
use Rattle.rules.specs.Trits as t
use Rattle.rules.specs.Trits.{any_x, number, trit, bit_at}
use Rattle.rules.specs.Rules as r

-- A vector of n trits.
pub record Width (n : ℕ) (a : List Trit) : Type 0 where
  pub is : length a ≡ n

zip_length : (f : Trit → Trit → Trit) (n : ℕ) (a b : List Trit) → length a ≡ n → length b ≡ n
    → length (zip_with f a b) ≡ n
zip_length f n [] b p q = p
zip_length f n (x ∷ a) [] p q = absurd (suc-ne-zero (length a) (p ∙ sym q))
zip_length f zero (x ∷ a) (y ∷ b) p q = absurd (suc-ne-zero (length a) p)
zip_length f (suc n) (x ∷ a) (y ∷ b) p q = ap suc (zip_length f n a b (suc_inj p) (suc_inj q))

pub zip_width : (f : Trit → Trit → Trit) {n : ℕ} {a b : List Trit} → Width n a → Width n b → Width n (zip_with f a b)
zip_width f {n} {a} {b} p q = record { is = zip_length f n a b p.is q.is }

pub mux-width : (s : Trit) {n : ℕ} {a b : List Trit} → Width n a → Width n b → Width n (r.mux s a b)
mux-width s = zip_width (t.mux s)

pub cond-width : (x : Bool) {n : ℕ} {a b : List Trit} → Width n a → Width n b → Width n (cond x a b)
cond-width true p q = p
cond-width false p q = q

pub tab-width : (n : ℕ) (f : ℕ → Trit) → Width n (tab n f)
tab-width n f = record { is = length-tab n f }

pub replicate-width : (n : ℕ) (u : Trit) → Width n (replicate n u)
replicate-width n u = record { is = length-replicate n u }

pub defined-width : (undefined : Bool) (n : ℕ) (result : List Trit) → Width n result
    → Width n (r.defined undefined n result)
defined-width undefined n result p = cond-width undefined (replicate-width n Undef) p

pub one_width : (t : Trit) → Width 1 (t ∷ [])
one_width t = record { is = refl }

pub unary-width : (op : Unary) {n : ℕ} {a : List Trit} → Width n a → Width n (r.unary op a)
unary-width c.buf p = p
unary-width c.inverter {a = a} p = record { is = length-map a t.not ∙ p.is }

pub divided-width : {n : ℕ} {a : List Trit} → Width n a → (b : List Trit) (result : ℕ) → Width n (r.divided a b result)
divided-width {n} {a} p b result = rw p.is (defined-width (r.undivided a b) n _ (tab-width n (bit_at result)))

pub binary-width : (op : Binary) {n : ℕ} {a b : List Trit} → Width n a → Width n b
    → Width (binary_width op n) (r.binary op a b)
binary-width c.and p q = zip_width t.and p q
binary-width c.or p q = zip_width t.or p q
binary-width c.xor p q = zip_width t.xor p q
binary-width c.eq p q = record { is = refl }
binary-width c.ult {a = a} {b = b} p q = defined-width (r.some_x a b) 1 _ (one_width (trit (r.less a b)))
binary-width c.slt {a = a} {b = b} p q = defined-width (r.some_x a b) 1 _ (one_width (trit (r.signed_less a b)))
binary-width c.mul {n} {a} {b} p q =
    rw p.is (defined-width (r.some_x a b) n _ (tab-width n (bit_at (number a * number b))))
binary-width c.udiv {a = a} {b = b} p q = divided-width p b (number a / number b)
binary-width c.umod {a = a} {b = b} p q = divided-width p b (number a % number b)
binary-width c.sdiv_trunc {a = a} {b = b} p q = divided-width p b (r.quotient a b)
binary-width c.smod_trunc {a = a} {b = b} p q = divided-width p b (r.remainder a b)

pub adc-width : {n : ℕ} {a : List Trit} → Width n a → (b : List Trit) (carry : Trit) → Width (n + 1) (r.adc a b carry)
adc-width {a = a} p b carry = rw (← p.is) (tab-width (length a + 1) (r.adc_bit a b carry))

pub shift-width : (op : Shift) {n : ℕ} {a : List Trit} → Width n a → (amount : List Trit) (stride : ℕ)
    → Width n (r.shift op a amount stride)
shift-width op {n} {a} p amount stride =
    cond-width (any_x amount) (rw p.is (replicate-width n Undef)) (shifted op (number amount * stride))
  where
    shifted : (op : Shift) (k : ℕ) → Width n (r.shifted op k a)
    shifted c.shl k = rw p.is (tab-width n _)
    shifted c.ushr k = rw p.is (tab-width n _)
    shifted c.sshr k = rw p.is (tab-width n _)
    shifted c.xshr k = rw p.is (tab-width n _)

pub overwrite-width : {n : ℕ} {a : List Trit} → Width n a → (offset : ℕ) (b : List Trit) → offset + length b ≤ n
    → Width n (r.overwrite a offset b)
overwrite-width {a = a} p offset b h =
    let e = p.is in record { is = simp (length-append, length-take, length-drop) (omega arith) }

pub assign-width : {n : ℕ} {a : List Trit} → Width n a → (enable : Trit) (b : List Trit) (offset : ℕ)
    → offset + length b ≤ n → Width n (r.assign a enable b offset)
assign-width p enable b offset h = mux-width enable (overwrite-width p offset b h) p

pub first_hot-width : (k i : ℕ) (ms : List Trit) → Width k (r.first_hot k i ms)
unfolding r.first_hot
first_hot-width k i [] = replicate-width k Zero
first_hot-width k i (m ∷ ms) = mux-width m (tab-width k _) (first_hot-width k (suc i) ms)

pub match-width : (value : List Trit) (enable : Trit) (patterns : List (List (List Trit)))
    → Width (length patterns) (r.match value enable patterns)
match-width value enable patterns =
    mux-width enable (first_hot-width (length patterns) 0 _) (replicate-width (length patterns) Zero)

-- Flip-flop inputs of width n.
pub record InputsWidth (n : ℕ) (f : r.FlipFlopInputs) : Type 0 where
  pub dat : Width n f.dat
  pub clear_value : Width n f.clear_value
  pub reset_value : Width n f.reset_value
  pub past : Width n f.past

module _ (n : ℕ) (f : r.FlipFlopInputs) (w : InputsWidth n f) where
  pub loaded-width : Width n (r.loaded f)
  loaded-width =
      cond-width f.reset_over_enable
      (mux-width f.reset w.reset_value (mux-width f.enable w.dat w.past))
      (mux-width f.enable (mux-width f.reset w.reset_value w.dat) w.past)

  pub clocked-width : Width n (r.clocked f)
  clocked-width = mux-width f.edge loaded-width w.past
