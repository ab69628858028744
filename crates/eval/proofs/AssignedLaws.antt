-- The assignment of the evaluator: in a formed list, each declaration has the bits that stand at its place among the
-- declarations.
use mathlib.Core.Path.{◌≡◌, refl, sym, ap, ◌∙◌}
use mathlib.Core.Bool.{true, ◌&&◌}
use mathlib.Core.List.{List, [], ◌∷◌, Memᴰ}
use Prim.Native.Nat.{ℕ}
use lib.ListN.{length, get_or}
use lib.Dec.{eqb}
use borrow.Author.Tests.{eq-eqb, eqb-true}
use Rattle.bitvec.specs.Bits.{nat2bv}
use Rattle.bitvec.proofs.Laws.{length-nat2bv}
use Rattle.engine.specs.Call.{Letter, Suffix, Name, Call}
use Rattle.engine.specs.Call as c
use Rattle.engine.specs.Meaning.{Assignment, Fits}
use Rattle.engine.specs.Sorts.{after, Context, Formed}
use Rattle.engine.specs.Encode.{letter_number, suffix_number}
use Rattle.engine.proofs.Written.{letter_back, suffix_back}
use Rattle.engine.proofs.Tests.{both, left_of, right_of, refuted}
use Rattle.eval.specs.Evaluated.{same_name, assigned}

same_self : (m : Name) → same_name m m ≡ true
same_self m =
    both (both (eq-eqb (letter_number m.letter) (letter_number m.letter) refl) (eq-eqb m.index m.index refl))
    (eq-eqb (suffix_number m.suffix) (suffix_number m.suffix) refl)

letter_inj : (m k : Letter) → letter_number m ≡ letter_number k → m ≡ k
letter_inj m k e = sym (letter_back m refl) ∙ letter_back k e

suffix_inj : (m k : Suffix) → suffix_number m ≡ suffix_number k → m ≡ k
suffix_inj m k e = sym (suffix_back m refl) ∙ suffix_back k e

same_name_lem : (m k : Name) → same_name m k ≡ true → k ≡ m
same_name_lem m k h =
    let a = eqb (letter_number m.letter) (letter_number k.letter) in
    let b = eqb m.index k.index in
    let d = eqb (suffix_number m.suffix) (suffix_number k.suffix) in
    let two = left_of (a && b) d h in
    let p = letter_inj k.letter m.letter (sym (eqb-true _ _ (left_of a b two))) in
    let q = sym (eqb-true m.index k.index (right_of a b two)) in
    let r = suffix_inj k.suffix m.suffix (sym (eqb-true _ _ (right_of (a && b) d h))) in
    λ i. record { letter = p i; index = q i; suffix = r i }

-- The first of the bits, and those after it; where none are left, 0.
abbrev pub first : List ℕ → ℕ
first given = get_or given 0 0

abbrev pub rest : List ℕ → List ℕ
rest [] = []
rest (b ∷ given) = given

-- The bits that a declaration is given, and what later ones see.
pub assigned-here : (n : Name) (w : ℕ) (cs : List Call) (given : List ℕ)
    → assigned (c.declare n w ∷ cs) given n ≡ nat2bv w (first given)
unfolding assigned
assigned-here n w cs [] = rw (same_self n)
assigned-here n w cs (b ∷ given) = rw (same_self n)

pub assigned_later : (n : Name) (w : ℕ) (cs : List Call) (given : List ℕ) (m : Name) → (m ≡ n → ⊥)
    → assigned (c.declare n w ∷ cs) given m ≡ assigned cs (rest given) m
unfolding assigned
assigned_later n w cs [] m h = rw (refuted (same_name n m) (λ t. h (same_name_lem n m t)))
assigned_later n w cs (b ∷ given) m h = rw (refuted (same_name n m) (λ t. h (same_name_lem n m t)))

-- An assignment gives each declaration its bits.
unfoldable pub Gives : Assignment → List Call → List ℕ → Type 0
Gives ρ [] given = Unit {0}
Gives ρ (c.term t ∷ cs) given = Gives ρ cs given
Gives ρ (c.declare n w ∷ cs) given = (ρ n ≡ nat2bv w (first given)) × Gives ρ cs (rest given)
Gives ρ (c.assert k ∷ cs) given = Gives ρ cs given
Gives ρ (c.check ∷ cs) given = Gives ρ cs given

-- Names that the context has are not declared again, so another assignment that agrees elsewhere gives the same.
gives_ext : (x : Context) (cs : List Call) → Formed x cs → (ρ σ : Assignment) (given : List ℕ)
    → ((m : Name) → (Memᴰ m x.names → ⊥) → ρ m ≡ σ m) → Gives σ cs given → Gives ρ cs given
unfolding Gives
gives_ext x [] f ρ σ given e g = tt
gives_ext x (c.term t ∷ cs) f ρ σ given e g = gives_ext (after x (c.term t)) cs f.2 ρ σ given e g
gives_ext x (c.declare n w ∷ cs) f ρ σ given e g =
    (e n f.1.0 ∙ g.0, gives_ext (after x (c.declare n w)) cs f.2 ρ σ (rest given) (λ m h. e m (λ i. h (Memᴰ.tail i))) g.1)
gives_ext x (c.assert k ∷ cs) f ρ σ given e g = gives_ext x cs f.2 ρ σ given e g
gives_ext x (c.check ∷ cs) f ρ σ given e g = gives_ext (after x c.check) cs f.2 ρ σ given e g

-- In a formed list, the evaluator's assignment gives each declaration the bits at its place.
pub assigned_gives : (x : Context) (cs : List Call) → Formed x cs → (given : List ℕ) →
    Gives (assigned cs given) cs given
unfolding Gives assigned
assigned_gives x [] f given = tt
assigned_gives x (c.term t ∷ cs) f given =
    gives_ext (after x (c.term t)) cs f.2 (assigned (c.term t ∷ cs) given) (assigned cs given) given (λ m h. refl)
    (assigned_gives (after x (c.term t)) cs f.2 given)
assigned_gives x (c.declare n w ∷ cs) f given = (
  assigned-here n w cs given,
  gives_ext (after x (c.declare n w)) cs f.2 (assigned (c.declare n w ∷ cs) given) (assigned cs (rest given)) (rest given)
      (λ m h. assigned_later n w cs given m (λ e. h (Memᴰ.head e))) (assigned_gives (after x (c.declare n w)) cs f.2 (rest given)),
)
assigned_gives x (c.assert k ∷ cs) f given =
    gives_ext x cs f.2 (assigned (c.assert k ∷ cs) given) (assigned cs given) given (λ m h. refl)
    (assigned_gives x cs f.2 given)
assigned_gives x (c.check ∷ cs) f given =
    gives_ext (after x c.check) cs f.2 (assigned (c.check ∷ cs) given) (assigned cs given) given (λ m h. refl)
    (assigned_gives (after x c.check) cs f.2 given)

-- So it fits the declared widths.
gives_fits : (ρ : Assignment) (cs : List Call) (given : List ℕ) → Gives ρ cs given → Fits ρ cs
unfolding Gives
gives_fits ρ [] given g = tt
gives_fits ρ (c.term t ∷ cs) given g = gives_fits ρ cs given g
gives_fits ρ (c.declare n w ∷ cs) given g =
    (ap length g.0 ∙ length-nat2bv w (first given), gives_fits ρ cs (rest given) g.1)
gives_fits ρ (c.assert k ∷ cs) given g = gives_fits ρ cs given g
gives_fits ρ (c.check ∷ cs) given g = gives_fits ρ cs given g

pub assigned-fits : (x : Context) (cs : List Call) → Formed x cs → (given : List ℕ) → Fits (assigned cs given) cs
assigned-fits x cs f given = gives_fits (assigned cs given) cs given (assigned_gives x cs f given)
