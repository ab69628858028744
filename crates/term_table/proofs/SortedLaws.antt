-- Laws of the definitions of Sorted.
use mathlib.Core.Path.{◌≡◌, refl, sym, ap, ◌∙◌, subst}
use mathlib.Core.Bool.{Bool, true, false}
use mathlib.Core.List.{List, [], ◌∷◌, ◌++◌}
use Prim.Native.Nat.{ℕ, zero, suc, ◌+◌, ◌≤◌, ◌<◌}
use native.Mathlib.Omega.{arith}
use native.Mathlib.Decide.{ℕ_discrete}
use lib.ListN.{length, get_or, set, length-set, get_or-append}
use lib.Seq.{get_or-append_seam, get_or-set_same, get_or-set_other}
use Rattle.bitvec.specs.Bits.{bit}
use Rattle.engine.proofs.Laws.{length_snoc}
use Rattle.engine.specs.Sorts.{Sort, Context, start, after, sort_at}
use Rattle.engine.specs.WellFormed.{well_formed, read_from}
use lib.Dec.{ltb}
use borrow.Author.Tests.{ltb-true, ltb-false}
use Rattle.engine.proofs.ReadBack.{stands}
use Rattle.engine.proofs.ReachedLaws.{Makes, one, nothing, makes-at, makes-op, passes_snoc, right-read, grows}
use Rattle.engine.specs.Reached.{Right, Tabled}
use Rattle.engine.specs.Encode.{makes_term, operation_at, bare, next_at, call_at}
use Rattle.term_table.specs.Sorted.{ReadTo}

-- Nothing is read at first.
pub read-start : (w table : List ℕ) → ReadTo w 0 start table 0
read-start w table = record {
  records = 0;
  passes = (refl, refl);
  within = omega arith;
  tabled = λ k h l. absurd (omega arith);
  counts = refl;
}

-- One more sort in the table.
pub tabled-more : (table : List ℕ) (sorts : List Sort) (s terms : ℕ) → terms ≡ length sorts → Tabled table sorts
    → Tabled (set table terms s) (sorts ++ (s ∷ []))
tabled-more table sorts s terms c t k inside low = by (ℕ_discrete k (length sorts))
  where
    fits : k < length table
    fits = let e = length-set table terms s in omega arith

    by : Dec (k ≡ length sorts) → get_or (set table terms s) k 0 ≡ sort_at (sorts ++ (s ∷ [])) k
    by (yes q) =
        rw (q, get_or-append_seam sorts s [] 65, ← c) (get_or-set_same table terms s 0 (let f = fits in omega arith))
    by (no q) =
        let before : k < length sorts = (let z = length_snoc sorts s in omega arith) in
        get_or-set_other table terms k s 0 (λ e. q (e ∙ c)) ∙ t k fits before
        ∙ sym (get_or-append sorts (s ∷ []) 65 k before)

module _ {w : List ℕ} {at : ℕ} {x : Context} {table : List ℕ} {terms : ℕ} (r : ReadTo w at x table terms)
    (right : Right w at x) where
  abbrev next : Context
  next = after x (call_at w at)

  -- One record more, with a table that has its term's sort.
  pub read_next : (t : List ℕ) (n : ℕ) → Tabled t next.sorts → n ≡ length next.sorts →
      ReadTo w (next_at bare w at) next t n
  read_next t n tabled counts = record {
    records = suc r.records;
    passes = passes_snoc r.records w 0 start at x r.passes right;
    within = let whole = (stands x w at right.head).whole in omega arith;
    tabled = tabled;
    counts = counts;
  }

  -- How many terms there are after it.
  pub terms-next : terms + bit (makes_term (operation_at w at)) ≡ length next.sorts
  terms-next = go (makes-at w at x right)
    where
      go : Makes x (call_at w at) → terms + bit (makes_term (operation_at w at)) ≡ length next.sorts
      go (one s a m q b) = rw (makes-op w at x right, m, a, length_snoc x.sorts s) (let c = r.counts in omega arith)
      go (nothing a m) = rw (makes-op w at x right, m, a) (let c = r.counts in omega arith)

-- Reading on keeps the sorts of the terms so far, so a table of all sorts has them.
pub sorts-kept : (n : ℕ) (w : List ℕ) (at : ℕ) (x y : Context) → read_from n w at x ≡ well_formed y → (k : ℕ) →
    k < length x.sorts
    → (k < length y.sorts) × (sort_at y.sorts k ≡ sort_at x.sorts k)
unfolding read_from
sorts-kept zero w at x y e k h =
    let same : x ≡ y = cc in
    (subst (λ (z : Context). k < length z.sorts) same h, ap (λ (z : Context). sort_at z.sorts k) (sym same))
sorts-kept (suc n) w at x y e k h =
    go (ltb at (length w)) refl (sorts-kept n w (next_at bare w at) (after x (call_at w at)) y)
  where
    go : (b : Bool) → ltb at (length w) ≡ b
        → (read_from n w (next_at bare w at) (after x (call_at w at)) ≡ well_formed y → (k : ℕ) →
        k < length (after x (call_at w at)).sorts
        → (k < length y.sorts) × (sort_at y.sorts k ≡ sort_at (after x (call_at w at)).sorts k))
        → (k < length y.sorts) × (sort_at y.sorts k ≡ sort_at x.sorts k)
    go true t rest =
        let right = right-read n w at x y (ltb-true at (length w) t) e in
        let one_more_lem = grows 1 w at x (next_at bare w at) (after x (call_at w at)) (right.0, (refl, refl)) k h in
        let later = rest right.1 k one_more_lem.0 in
        (later.0, later.1 ∙ one_more_lem.1)
    go false t rest =
        let same : x ≡ y = (let f : well_formed x ≡ well_formed y = rw t at e in cc) in
        (subst (λ (z : Context). k < length z.sorts) same h, ap (λ (z : Context). sort_at z.sorts k) (sym same))

-- Reading on leaves as many terms or more.
pub sorts-few : (n : ℕ) (w : List ℕ) (at : ℕ) (x y : Context) → read_from n w at x ≡ well_formed y →
    length x.sorts ≤ length y.sorts
sorts-few n w at x y e = go (ltb (length y.sorts) (length x.sorts)) refl
  where
    go : (b : Bool) → ltb (length y.sorts) (length x.sorts) ≡ b → length x.sorts ≤ length y.sorts
    go true t =
        absurd (let z = (sorts-kept n w
        at x y e (length y.sorts) (ltb-true (length y.sorts) (length x.sorts) t)).0 in omega arith)
    go false t = ltb-false (length y.sorts) (length x.sorts) t

pub tabled-before : (n : ℕ) (table w : List ℕ) (at : ℕ) (x y : Context) → read_from n w at x ≡ well_formed y →
    Tabled table y.sorts
    → Tabled table x.sorts
tabled-before n table w at x y e tabled k inside low =
    let kept = sorts-kept n w at x y e k low in tabled k inside kept.0 ∙ kept.1
