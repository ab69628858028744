-- An assignment filled up on the names that a list does not declare, so that it shows given trits on every source.
use mathlib.Core.Path.{◌≡◌, refl, ap, ap₂, ◌∙◌}
use mathlib.Core.Logic.{⊎_elim}
use mathlib.Core.Bool.{false}
use mathlib.Core.List.Memᴰ
use mathlib.Core.List.{List, [], ◌∷◌, Memᴰ}
use Prim.Native.Nat.{ℕ}
use native.Mathlib.Omega.{arith}
use native.Mathlib.Decide.{ℕ_discrete}
use lib.ListN.{get_or}
use Rattle.logic.specs.Trit.{shows, x_of, y_of}
use Rattle.logic.specs.declared.Trit.{Trit}
use Rattle.cell.specs.Design.{Design}
use Rattle.rules.specs.CellRule.{Trits}
use Rattle.bitvec.specs.Bits.{Bits}
use Rattle.engine.specs.Call.{Letter, Suffix, Name, Call}
use Rattle.engine.specs.Call as c
use Rattle.engine.specs.Encode.{letter_number, suffix_number}
use Rattle.engine.specs.Meaning.{Assignment}
use Rattle.smt.specs.Prog.{Age, Half, is_undef, is_one}
use Rattle.smt.specs.Emit.{net_name}
use Rattle.smt.specs.Formula.{NetBits}
use Rattle.soundness.proofs.Solve.{assigned, assigned-net}
use Rattle.requirement.proofs.Solved.{trit_of_bits}
use Rattle.requirement.proofs.Prefix.{AgreeOn}
use Rattle.requirement.specs.Requirement3.{declared_names, IsDeclared, Declared, bit_in, trit_in, given_trit}
use Rattle.requirement.specs.Requirement3.{IsSource}

letter_inj : (a b : Letter) → letter_number a ≡ letter_number b → a ≡ b
letter_inj c.n c.n e = refl
letter_inj c.n c.p e = absurd (omega arith)
letter_inj c.n c.t e = absurd (omega arith)
letter_inj c.p c.n e = absurd (omega arith)
letter_inj c.p c.p e = refl
letter_inj c.p c.t e = absurd (omega arith)
letter_inj c.t c.n e = absurd (omega arith)
letter_inj c.t c.p e = absurd (omega arith)
letter_inj c.t c.t e = refl

suffix_inj : (a b : Suffix) → suffix_number a ≡ suffix_number b → a ≡ b
suffix_inj c.none c.none e = refl
suffix_inj c.none c.x e = absurd (omega arith)
suffix_inj c.none c.y e = absurd (omega arith)
suffix_inj c.x c.none e = absurd (omega arith)
suffix_inj c.x c.x e = refl
suffix_inj c.x c.y e = absurd (omega arith)
suffix_inj c.y c.none e = absurd (omega arith)
suffix_inj c.y c.x e = absurd (omega arith)
suffix_inj c.y c.y e = refl

dec_name : (a b : Name) → Dec (a ≡ b)
dec_name a b =
    go (ℕ_discrete (letter_number a.letter) (letter_number b.letter)) (ℕ_discrete a.index b.index)
    (ℕ_discrete (suffix_number a.suffix) (suffix_number b.suffix))
  where
    go : Dec (letter_number a.letter ≡ letter_number b.letter) → Dec (a.index ≡ b.index)
        → Dec (suffix_number a.suffix ≡ suffix_number b.suffix) → Dec (a ≡ b)
    go (yes l) (yes i) (yes s) =
        yes (λ t. record {
          letter = letter_inj a.letter b.letter l t;
          index = i t;
          suffix =
              suffix_inj a.suffix b.suffix s t;
        })
    go (yes l) (yes i) (no s) = no (λ e. s (ap (λ (n : Name). suffix_number n.suffix) e))
    go (yes l) (no i) s = no (λ e. i (ap (λ (n : Name). n.index) e))
    go (no l) i s = no (λ e. l (ap (λ (n : Name). letter_number n.letter) e))

dec_mem : (n : Name) (l : List Name) → Dec (Memᴰ n l)
dec_mem n [] = no Memᴰ.not-nil
dec_mem n (m ∷ l) = go (dec_name n m) (dec_mem n l)
  where
    go : Dec (n ≡ m) → Dec (Memᴰ n l) → Dec (Memᴰ n (m ∷ l))
    go (yes e) r = yes (Memᴰ.head e)
    go (no e) (yes r) = yes (Memᴰ.tail r)
    go (no e) (no r) = no λ q. ⊎_elim e r (Memᴰ.cases_cons q)

-- The assignment on the declared names; on others the bits of given trits, hidden bits 0.
abbrev pick : {P : Type 0} → Dec P → Bits → Bits → Bits
pick (yes p) x y = x
pick (no n) x y = y

abbrev given : Trits → NetBits
given g a i is_undef = x_of (given_trit g a i)
given g a i is_one = y_of (given_trit g a i)

pub filled : Trits → List Call → Assignment → Assignment
filled g cs ρ name = pick (dec_mem name (declared_names cs)) (ρ name) (assigned (given g) [] name)

pub filled_agrees : (g : Trits) (cs : List Call) (ρ : Assignment) → AgreeOn ρ (filled g cs ρ) cs
unfolding filled
filled_agrees g cs ρ name m = go (dec_mem name (declared_names cs))
  where
    go : (q : Dec (IsDeclared cs name)) → ρ name ≡ pick q (ρ name) (assigned (given g) [] name)
    go (yes q) = refl
    go (no q) = absurd (q m)

-- ---- it shows the given trits on every source

pub filled_shows : (d : Design) (g : Trits) (cs : List Call) (ρ : Assignment)
    → ((a : Age) (i : ℕ) (h : Half) → IsDeclared cs (net_name a i h) → Declared cs a i)
    → ((a : Age) (i : ℕ) → IsSource d a i → Declared cs a i → trit_in ρ a i ≡ given_trit g a i)
    → (a : Age) (i : ℕ) → IsSource d a i → trit_in (filled g cs ρ) a i ≡ given_trit g a i
unfolding filled
filled_shows d g cs ρ together shown a i s =
    go (dec_mem (net_name a i is_undef) (declared_names cs)) (dec_mem (net_name a i is_one) (declared_names cs))
  where
    t : Trit
    t = given_trit g a i

    low : (h : Half) → bit_in (assigned (given g) []) (net_name a i h) ≡ given g a i h
    low h = ap (λ (x : Bits). get_or x 0 false) (assigned-net (given g) [] a i h)

    go : (p : Dec (IsDeclared cs (net_name a i is_undef))) (q : Dec (IsDeclared cs (net_name a i is_one)))
        → shows (get_or (pick p (ρ (net_name a i is_undef)) (assigned (given g) [] (net_name a i is_undef))) 0 false)
        (get_or (pick q (ρ (net_name a i is_one)) (assigned (given g) [] (net_name a i is_one))) 0 false) ≡ given_trit g a i
    go (yes p) (yes q) = shown a i s (together a i is_undef p)
    go (yes p) (no q) = absurd (q (together a i is_undef p is_one))
    go (no p) (yes q) = absurd (p (together a i is_one q is_undef))
    go (no p) (no q) = ap₂ shows (low is_undef) (low is_one) ∙ trit_of_bits (given_trit g a i)
