-- Laws of formed call lists: they refer to earlier terms only, and under an assignment that fits, each term's value is
-- of the sort that SMT-LIB gives it.
use mathlib.Core.Path.{◌≡◌, refl, sym, ap, ◌∙◌, subst}
use mathlib.Core.Bool.{Bool, true, false, cond}
use mathlib.Core.List.{List, [], ◌∷◌, ◌++◌}
use Prim.Native.Nat.{ℕ, zero, suc, ◌+◌, ◌-◌, ◌≤◌, ◌<◌, suc-le-suc}
use native.Mathlib.Omega.{arith}
use native.Mathlib.Decide.{ℕ_discrete}
use lib.ListN.{length, get_or-append}
use lib.Seq.{get_or-append_seam}
use Rattle.bitvec.specs.Bits.{Bits}
use Rattle.bitvec.proofs.Laws.{length-concat, length-extract, length-bvnot, length-bvand, length-bvor, length-bvxor}
use Rattle.bitvec.proofs.Laws.{length-bvadd, length-bvshl, length-bvlshr, length-bvashr, length-bvmul}
use Rattle.bitvec.proofs.Laws.{length-bvudiv, length-bvurem, length-bvsdiv, length-bvsrem}
use Rattle.engine.specs.Call.{BinaryOp, Term, Call}
use Rattle.engine.specs.Call as c
use Rattle.engine.specs.Meaning.{Value, bool, bits, as_bool, as_bits, Assignment, denote, denote_op, value_at, run}
use Rattle.engine.specs.Meaning.{Fits, arguments_of, All, Earlier}
use Rattle.engine.proofs.Laws.{All-map, length_snoc}
use Rattle.engine.specs.Sorts.{Sort, IsVector, sort_at, binary_sort, sort_of, WellSorted, Context}
use Rattle.engine.specs.Sorts.{after, Formed, leaves}
use Rattle.engine.proofs.SortsLaws.{OfSort}

-- ---- never forward

-- A term that has a sort is there.
pub there : (sorts : List Sort) (k : ℕ) → sort_at sorts k ≤ 64 → k < length sorts
there [] k h = absurd (omega arith)
there (s ∷ sorts) zero h = omega arith
there (s ∷ sorts) (suc k) h = suc-le-suc (there sorts k h)

pub args_earlier : (sorts : List Sort) (t : Term) → WellSorted sorts t → All (λ a. a < length sorts) (arguments_of t)
args_earlier sorts (c.bool_lit b) h = tt
args_earlier sorts (c.bool_ite i a b) h =
    (there sorts i (omega arith), (there sorts a (omega arith), (there sorts b (omega arith), tt)))
args_earlier sorts (c.not a) h = (there sorts a (omega arith), tt)
args_earlier sorts (c.and args) h = All-map _ _ (λ a s. there sorts a (omega arith)) args h.1
args_earlier sorts (c.lit s) h = tt
args_earlier sorts (c.equal a b) h = (there sorts a (omega arith), (there sorts b (omega arith), tt))
args_earlier sorts (c.ite i a b) h =
    (there sorts i (omega arith), (there sorts a (omega arith), (there sorts b (omega arith), tt)))
args_earlier sorts (c.concat a b) h = (there sorts a (omega arith), (there sorts b (omega arith), tt))
args_earlier sorts (c.extract i j a) h = (there sorts a (omega arith), tt)
args_earlier sorts (c.bvnot a) h = (there sorts a (omega arith), tt)
args_earlier sorts (c.op2 o a b) h = (there sorts a (omega arith), (there sorts b (omega arith), tt))
args_earlier sorts (c.compare o a b) h = (there sorts a (omega arith), (there sorts b (omega arith), tt))

pub formed-earlier : (x : Context) (cs : List Call) → Formed x cs → Earlier (length x.sorts) cs
formed-earlier x [] f = tt
formed-earlier x (c.term t ∷ cs) f = (
  args_earlier x.sorts t f.1.0,
  rw (length_snoc x.sorts (sort_of x.sorts t))
      at (formed-earlier (after x (c.term t)) cs f.2),
)
formed-earlier x (c.declare name w ∷ cs) f = rw (length_snoc x.sorts w) at (formed-earlier (after x (c.declare name w)) cs f.2)
formed-earlier x (c.assert k ∷ cs) f = (there x.sorts k (let h = f.1.0 in omega arith), formed-earlier x cs f.2)
formed-earlier x (c.check ∷ cs) f = formed-earlier (after x c.check) cs f.2

-- ---- each value of its sort

-- The values of the terms so far are of their sorts.
pub record Sorted (sorts : List Sort) (l : List Value) : Type 0 where
  pub many : length l ≡ length sorts
  pub each : (k : ℕ) → k < length sorts → OfSort (sort_at sorts k) (value_at l k)

vector_of : {s : Sort} (v : Value) → OfSort s v → IsVector s → length (as_bits v) ≡ s
vector_of (bool b) h q = absurd (omega arith)
vector_of (bits x) h q = h.1

operation_sort : (o : BinaryOp) {s : Sort} (x y : Bits) → IsVector s → length x ≡ s → length x ≡ length y
    → OfSort (binary_sort o s) (bits (denote_op o x y))
operation_sort c.bvand x y h w alike = (h, length-bvand x y alike ∙ w)
operation_sort c.bvor x y h w alike = (h, length-bvor x y alike ∙ w)
operation_sort c.bvxor x y h w alike = (h, length-bvxor x y alike ∙ w)
operation_sort c.bvadd x y h w alike = (h, length-bvadd x y ∙ w)
operation_sort c.bvcomp x y h w alike = (omega arith, refl)
operation_sort c.bvshl x y h w alike = (h, length-bvshl x y ∙ w)
operation_sort c.bvlshr x y h w alike = (h, length-bvlshr x y ∙ w)
operation_sort c.bvashr x y h w alike = (h, length-bvashr x y ∙ w)
operation_sort c.bvmul x y h w alike = (h, length-bvmul x y ∙ w)
operation_sort c.bvudiv x y h w alike = (h, length-bvudiv x y ∙ w)
operation_sort c.bvurem x y h w alike = (h, length-bvurem x y ∙ w)
operation_sort c.bvsdiv x y h w alike = (h, length-bvsdiv x y ∙ w)
operation_sort c.bvsrem x y h w alike = (h, length-bvsrem x y ∙ w)

length-cond : (i : Bool) (s t : Bits) → length s ≡ length t → length (cond i s t) ≡ length s
length-cond true s t e = refl
length-cond false s t e = sym e

-- The bits of a term of a vector's sort.
module _ {sorts : List Sort} {l : List Value} (g : Sorted sorts l) where
  width : (k : ℕ) → IsVector (sort_at sorts k) → length (as_bits (value_at l k)) ≡ sort_at sorts k
  width k h = vector_of (value_at l k) (g.each k (there sorts k h.1)) h

  binary-sort : (o : BinaryOp) (a b : ℕ) → IsVector (sort_at sorts a) → sort_at sorts b ≡ sort_at sorts a
      → OfSort (binary_sort o (sort_at sorts a)) (bits (denote_op o (as_bits (value_at l a)) (as_bits (value_at l b))))
  binary-sort o a b h e =
      operation_sort o _ _ h (width a h) (width a h ∙ sym (width b (subst IsVector (sym e) h) ∙ e))

  pub denote-sort : (t : Term) → WellSorted sorts t → OfSort (sort_of sorts t) (denote (value_at l) t)
  denote-sort (c.bool_lit b) h = refl
  denote-sort (c.bool_ite i a b) h = refl
  denote-sort (c.not a) h = refl
  denote-sort (c.and args) h = refl
  denote-sort (c.lit s) h = (h, refl)
  denote-sort (c.equal a b) h = refl
  denote-sort (c.ite i a b) h =
      let alike = width a h.1 ∙ sym (width b (subst IsVector (sym h.2) h.1) ∙ h.2) in
      (h.1, length-cond (as_bool (value_at l i)) (as_bits (value_at l a)) (as_bits (value_at l b)) alike ∙ width a h.1)
  denote-sort (c.concat a b) h =
      let wa = width a h.0 in
      let wb = width b (omega arith) in
      (omega arith, length-concat (as_bits (value_at l a)) (as_bits (value_at l b)) ∙ omega arith)
  denote-sort (c.extract i j a) h =
      let wa = width a (omega arith) in
      (omega arith, length-extract i j (as_bits (value_at l a)) (omega arith))
  denote-sort (c.bvnot a) h = (h, length-bvnot (as_bits (value_at l a)) ∙ width a h)
  denote-sort (c.op2 o a b) h = binary-sort o a b h.0 h.1
  denote-sort (c.compare o a b) h = refl

  -- One more term.
  pub sorted_snoc : (s : Sort) (v : Value) → OfSort s v → Sorted (sorts ++ (s ∷ [])) (l ++ (v ∷ []))
  sorted_snoc s v q = record {
    many = length_snoc l v ∙ ap suc g.many ∙ sym (length_snoc sorts s);
    each = λ k b. go k b (ℕ_discrete k (length sorts));
  }
    where
      go : (k : ℕ) → k < length (sorts ++ (s ∷ [])) → Dec (k ≡ length sorts)
          → OfSort (sort_at (sorts ++ (s ∷ [])) k) (value_at (l ++ (v ∷ [])) k)
      go k b (yes e) = rw (e, get_or-append_seam sorts s [] 65, ← g.many, get_or-append_seam l v [] (bool false)) q
      go k b (no e) =
          let lower : k < length sorts = (let z = length_snoc sorts s in omega arith) in
          rw (
            get_or-append sorts (s ∷ []) 65 k lower,
            get_or-append l (v ∷ []) (bool false) k (rw g.many lower),
          )
          (g.each k lower)

-- The values of a formed list's terms are of the sorts that SMT-LIB gives them.
pub run_sorted : (ρ : Assignment) (x : Context) (l : List Value) (cs : List Call) → Formed x cs → Fits ρ cs
    → Sorted x.sorts l → Sorted (leaves x cs).sorts (run ρ l cs)
unfolding run leaves
run_sorted ρ x l [] f w g = g
run_sorted ρ x l (c.term t ∷ cs) f w g = run_sorted ρ (after x (c.term t)) _ cs f.2 w (sorted_snoc g _ _ (denote-sort g t f.1.0))
run_sorted ρ x l (c.declare name n ∷ cs) f w g =
    run_sorted ρ (after x (c.declare name n)) _ cs f.2 w.1 (sorted_snoc g n (bits (ρ name)) (f.1.1, w.0))
run_sorted ρ x l (c.assert k ∷ cs) f w g = run_sorted ρ x l cs f.2 w g
run_sorted ρ x l (c.check ∷ cs) f w g = run_sorted ρ (after x c.check) l cs f.2 w g
