-- Laws of the definitions of Near.
use mathlib.Core.Path.{◌≡◌, refl, sym, ap, ap₂, ◌∙◌, subst}
use mathlib.Core.Bool.{Bool, true, false, cond}
use mathlib.Core.List.{List, [], ◌∷◌, ◌++◌}
use Prim.Native.Nat.{ℕ, zero, suc, ◌+◌, ◌-◌, ◌/◌, ◌%◌, ◌≤◌, ◌<◌}
use native.Mathlib.Nat.{mod-lt, div-add-mod', suc-mul, mul-le-mul_right}
use native.Mathlib.Omega.{arith}
use native.Mathlib.Decide.{ℕ_discrete}
use lib.ListN.{length, get_or, set, length-set, get_or-append}
use lib.Seq.{get_or-append_seam, get_or-set_same, get_or-set_other}
use lib.Dec.{leb, ltb}
use borrow.Author.Tests.{lt-ltb, ltb-true, ltb-false, leb-true, leb-false}
use Rattle.logic.specs.declared.Term.{Term}
use Rattle.bitvec.specs.Bits.{bit}
use Rattle.engine.proofs.Tests.{right_of}
use Rattle.engine.proofs.Laws.{length_snoc}
use Rattle.engine.specs.Sorts.{Sort, Context, start, after, sort_at}
use Rattle.engine.specs.Encode.{makes_term, operation_at, bare, next_at, call_at}
use Rattle.engine.specs.Structure.{origin_of, capped, term_place, place_of_term, choose, guarded, sort_from}
use Rattle.engine.proofs.StructureLaws.{Below, sort_from_ext, from_low}
use Rattle.engine.proofs.ReachedLaws.{Makes, one, nothing, makes-at, makes-op, Says, finds, passes_forward, low-passes}
use Rattle.engine.proofs.ReachedLaws.{low-start}
use Rattle.engine.specs.Reached.{Right}
use Rattle.engine.specs.declared.Origin.{Origin}
use Rattle.engine.specs.declared.Origin.TheVariants.{Given, Same, Joined}
use Rattle.term_places.specs.Places.{place_near, note_place, Spaced}
use Rattle.term_places.proofs.PlacesLaws.{place_near_lem, spaced-noted}
use Rattle.term_places.proofs.NextPlace.{next_place}
use Rattle.term_table.specs.Near.{is_recent, origin_near, sort_via, sort_near, record_by, note_sort, note_recent}
use Rattle.term_table.specs.Sorted.{ReadTo}
use Rattle.term_table.proofs.SortedLaws.{read_next, tabled-more}

-- ---- sorts by what is known of each term

pub via_low : (n : ℕ) (known : ℕ → Origin) (k : ℕ) → sort_via n known k ≤ 65
unfolding sort_via
via_low zero known k = omega arith
via_low (suc n) known k = from_low (sort_via n known) (known k) (λ a. via_low n known a)

module _ (known : ℕ → Origin) (below : (k : ℕ) → Below k (known k)) where
  -- Any number of terms above k is enough.
  via_enough : (n m k : ℕ) → k < n → k < m → sort_via n known k ≡ sort_via m known k
  unfolding sort_via
  via_enough zero m k h l = absurd (omega arith)
  via_enough (suc n) zero k h l = absurd (omega arith)
  via_enough (suc n) (suc m) k h l =
      sort_from_ext k (sort_via n known) (sort_via m known) (known k) (below k)
      (λ a b. via_enough n m a (omega arith) (omega arith))

  pub via_given : (k : ℕ) {s : ℕ} → known k ≡ Given s → sort_via (suc k) known k ≡ capped s
  unfolding sort_via
  via_given k e = rw e

  pub via_same : (k : ℕ) {a : Term} → known k ≡ Same a → (a.0 < k)
      × (sort_via (suc k) known k ≡ sort_via (suc a.0) known a.0)
  unfolding sort_via
  via_same k {a} e =
      let low : a.0 < k = subst (Below k) e (below k) in
      (low, rw e (via_enough k (suc a.0) a.0 low (omega arith)))

  pub via_joined : (k : ℕ) {a b : Term} → known k ≡ Joined a b
      → (a.0 < k) × (b.0 < k)
      × (sort_via (suc k) known k ≡ capped (sort_via (suc a.0) known a.0 + sort_via (suc b.0) known b.0))
  unfolding sort_via
  via_joined k {a} {b} e =
      let low : (a.0 < k) × (b.0 < k) = subst (Below k) e (below k) in (
        low.0,
        low.1,
        rw e
            (ap₂ (λ (s t : ℕ). capped (s + t)) (via_enough k (suc a.0) a.0 low.0 (omega arith))
            (via_enough k (suc b.0) b.0 low.1 (omega arith))),
      )

guarded-low : (k : ℕ) (d : Origin) → Below k (guarded k d)
guarded-low k (Given s) = tt
guarded-low k (Same a) = go (ltb a.0 k) refl
  where
    go : (b : Bool) → ltb a.0 k ≡ b → Below k (choose b (Same a) (Given 65))
    go true e = ltb-true a.0 k e
    go false e = tt
guarded-low k (Joined a b) = go (ltb a.0 k) refl (ltb b.0 k) refl
  where
    go : (p : Bool) → ltb a.0 k ≡ p → (q : Bool) → ltb b.0 k ≡ q
        → Below k (choose p (choose q (Joined a b) (Given 65)) (Given 65))
    go true e true f = (ltb-true a.0 k e, ltb-true b.0 k f)
    go true e false f = tt
    go false e q f = tt

-- What is known of a term's sort goes by earlier terms.
pub near_below : (sorts recent places : List ℕ) (gap : ℕ) (w : List ℕ) (terms k : ℕ) →
    Below k (origin_near sorts recent places gap w terms k)
near_below sorts recent places gap w terms k = go (ltb k (length sorts)) (is_recent recent terms k)
  where
    go : (a b : Bool)
        → Below k
        (choose a (Given (get_or sorts k 0))
        (choose b (Given (get_or recent (k % length recent) 0))
        (guarded k (origin_of (call_at w (place_near places gap w k))))))
    go true b = tt
    go false true = tt
    go false false = guarded-low k (origin_of (call_at w (place_near places gap w k)))

-- ---- the latest terms

-- Two numbers less than r apart have different remainders.
apart : (k t r : ℕ) → k < t → t < k + r → k % r ≡ t % r → ⊥
apart k t r h l e = go (ltb (k / r) (t / r)) refl
  where
    go : (b : Bool) → ltb (k / r) (t / r) ≡ b → ⊥
    go true f =
        let more = mul-le-mul_right r (ltb-true (k / r) (t / r) f) in
        let split = suc-mul (k / r) r in
        let at_k = div-add-mod' k r in
        let at-t = div-add-mod' t r in
        omega arith
    go false f =
        let less = mul-le-mul_right r (ltb-false (k / r) (t / r) f) in
        let at_k = div-add-mod' k r in
        let at-t = div-add-mod' t r in
        omega arith

-- The ring has the sorts of the latest terms, past those of the table.
abbrev pub Recent : ℕ → List ℕ → List Sort → Type 0
Recent first recent sorts =
    (k : ℕ) → first ≤ k → k < length sorts → length sorts ≤ k + length recent
    → get_or recent (k % length recent) 0 ≡ sort_at sorts k

pub recent_start : (first : ℕ) (recent : List ℕ) → Recent first recent []
recent_start first recent k past low near = absurd (omega arith)

recent_more : (first : ℕ) (recent : List ℕ) (sorts : List Sort) (s terms : ℕ) → terms ≡ length sorts →
    Recent first recent sorts
    → Recent first (cond (leb first terms) (set recent (terms % length recent) s) recent) (sorts ++ (s ∷ []))
recent_more first recent sorts s terms c ring k past low near = go (leb first terms) refl near
  where
    many : length (sorts ++ (s ∷ [])) ≡ suc terms
    many = length_snoc sorts s ∙ ap suc (sym c)

    by : Dec (k ≡ terms) → suc terms ≤ k + length recent →
        get_or (set recent (terms % length recent) s) (k % length recent) 0 ≡ sort_at (sorts ++ (s ∷ [])) k
    by (yes q) close =
        let room : 0 < length recent = omega arith in
        ap (λ (i : ℕ). get_or (set recent (terms % length recent) s) (i % length recent) 0) q
        ∙ get_or-set_same recent (terms % length recent) s 0 (mod-lt terms room)
        ∙ sym (ap (sort_at (sorts ++ (s ∷ []))) (q ∙ c) ∙ get_or-append_seam sorts s [] 65)
    by (no q) close =
        let before : k < terms = (let z = many in omega arith) in
        get_or-set_other recent (terms % length recent) (k % length recent) s 0
        (apart k terms (length recent) before (omega arith))
        ∙ ring k past (let z = c in omega arith) (let z = c in omega arith)
        ∙ sym (get_or-append sorts (s ∷ []) 65 k (let z = c in omega arith))

    go : (b : Bool) → leb first terms ≡ b
        → length (sorts ++ (s ∷ [])) ≤ k + length (cond b (set recent (terms % length recent) s) recent)
        → get_or (cond b (set recent (terms % length recent) s) recent)
        (k % length (cond b (set recent (terms % length recent) s) recent)) 0
        ≡ sort_at (sorts ++ (s ∷ [])) k
    go true e close =
        let kept = length-set recent (terms % length recent) s in
        ap (λ (r : ℕ). get_or (set recent (terms % length recent) s) (k % r) 0) kept
        ∙ by (ℕ_discrete k terms) (let z = many in omega arith)
    go false e close = absurd (let z = leb-false first terms e in let y = many in omega arith)

-- ---- one record more

module _ {w : List ℕ} {at : ℕ} {x : Context} {table : List ℕ} {terms : ℕ} (r : ReadTo w at x table terms)
    (right : Right w at x) where
  abbrev next : Context
  next = after x (call_at w at)

  module _ (sort : ℕ → Sort) (agrees : (k : ℕ) → k < length x.sorts → sort k ≡ sort_at x.sorts k) where
    pub record_said : Below (length x.sorts) (origin_of (call_at w at)) → record_by sort w at
        ≡ sort_from (sort_at x.sorts) (origin_of (call_at w at))
    record_said b = sort_from_ext (length x.sorts) sort (sort_at x.sorts) (origin_of (call_at w at)) b agrees

    -- What a right record adds to the table of sorts.
    pub sorts-more : ReadTo w (next_at bare w at) next (note_sort sort table w at terms)
        (terms + bit (makes_term (operation_at w at)))
    sorts-more = go (makes-at w at x right)
      where
        go : Makes x (call_at w at)
            → ReadTo w (next_at bare w at) next (note_sort sort table w at terms)
            (terms + bit (makes_term (operation_at w at)))
        go (one s a m q b) =
            let same : record_by sort w at ≡ s = record_said b ∙ sym q in
            rw (makes-op w at x right, m)
            (read_next r right (set table terms (record_by sort w at)) (terms + 1)
            (rw (a, same) (tabled-more table x.sorts s terms r.counts r.tabled))
            (rw (a, length_snoc x.sorts s) (let c = r.counts in omega arith)))
        go (nothing a m) =
            rw (makes-op w at x right, m)
            (read_next r right table (terms + 0) (rw a r.tabled) (rw a (let c = r.counts in omega arith)))

    -- What it adds to the ring.
    pub ring_more : (recent : List ℕ) → Recent (length table) recent x.sorts
        → Recent (length table) (note_recent sort table recent w at terms) next.sorts
    ring_more recent ring = go (makes-at w at x right)
      where
        go : Makes x (call_at w at) → Recent (length table) (note_recent sort table recent w at terms) next.sorts
        go (one s a m q b) =
            let same : record_by sort w at ≡ s = record_said b ∙ sym q in
            rw (makes-op w at x right, m, a, same)
            (recent_more (length table) recent x.sorts s terms r.counts ring)
        go (nothing a m) = rw (makes-op w at x right, m, a) ring

  -- What it adds to the table of places.
  pub spaced-more : (places : List ℕ) (gap : ℕ) → Spaced w places gap terms
      → Spaced w (note_place places gap w at terms) gap (terms + bit (makes_term (operation_at w at)))
  spaced-more =
      spaced-noted w at terms right.inside
      (λ makes. ap (place_of_term w) r.counts ∙ next_place r.records w at x r.passes right makes)

-- The table's length stays.
pub note-length : (sort : ℕ → Sort) (sorts w : List ℕ) (at terms : ℕ) → length (note_sort sort sorts w at terms)
    ≡ length sorts
note-length sort sorts w at terms = go (makes_term (operation_at w at))
  where
    go : (b : Bool) → length (cond b (set sorts terms (record_by sort w at)) sorts) ≡ length sorts
    go true = length-set sorts terms (record_by sort w at)
    go false = refl

-- ---- the sorts of the terms read so far

guarded-is : (k : ℕ) (d : Origin) → Below k d → guarded k d ≡ d
guarded-is k (Given s) h = refl
guarded-is k (Same a) h = rw (lt-ltb a.0 k h)
guarded-is k (Joined a b) h = rw (lt-ltb a.0 k h.0, lt-ltb b.0 k h.1)

module _ {w : List ℕ} {at : ℕ} {x : Context} {table : List ℕ} {terms : ℕ} (r : ReadTo w at x table terms)
    (recent places : List ℕ) (gap all : ℕ) (ring : Recent (length table) recent x.sorts)
    (spaced : Spaced w places gap all)
    (few : terms ≤ all) where
  abbrev known : ℕ → Origin
  known = origin_near table recent places gap w terms

  low : (k : ℕ) → k < length x.sorts → capped (sort_at x.sorts k) ≡ sort_at x.sorts k
  low k h = let z = low-passes r.records w 0 start at x r.passes low-start k h in omega arith

  via_is : (f k : ℕ) → k < f → k < length x.sorts → sort_via f known k ≡ sort_at x.sorts k
  unfolding sort_via
  via_is zero k l inside = absurd (omega arith)
  via_is (suc f) k l inside = go (λ a b d. via_is f a b d) (ltb k (length table)) refl (is_recent recent terms k) refl
    where
      place : place_near places gap w k ≡ place_of_term w k
      place = place_near_lem w places gap all spaced k (let c = r.counts in omega arith)

      go : ((a : ℕ) → a < f → a < length x.sorts → sort_via f known a ≡ sort_at x.sorts a)
          → (b : Bool) → ltb k (length table) ≡ b → (d : Bool) → is_recent recent terms k ≡ d
          → sort_via (suc f) known k ≡ sort_at x.sorts k
      go rest true t d u = rw t (ap capped (r.tabled k (ltb-true k (length table) t) inside) ∙ low k inside)
      go rest false t true u =
          let near =
          leb-true (terms - k) (length recent) (right_of (ltb k terms) (leb (terms - k) (length recent)) u) in
          let held = ring k (ltb-false k (length table) t) inside (let c = r.counts in omega arith) in
          rw (t, u) (ap capped held ∙ low k inside)
      go rest false t false u =
          let ahead = passes_forward r.records w 0 start at x r.passes in
          let from_start : term_place (length w) w 0 (k - 0) ≡ place_of_term w k =
          ap (term_place (length w) w 0) (let e : k - 0 ≡ k = omega arith in e) in
          let within = r.within in
          let said-k =
          subst (Says w x k) from_start
          (finds r.records (length w) w 0 start at x r.passes (omega arith) k (omega arith) inside) in
          rw (t, u, place, guarded-is k (origin_of (call_at w (place_of_term w k))) said-k.earlier)
          (sort_from_ext k (sort_via f known) (sort_at x.sorts) (origin_of (call_at w (place_of_term w k)))
          said-k.earlier
          (λ a b. rest a (omega arith) (omega arith))
          ∙ sym said-k.sort-is)

  -- What the table, the ring and the records say is the sort of each term read so far.
  pub near_is : (k : ℕ) → k < length x.sorts → sort_near table recent places gap w terms k ≡ sort_at x.sorts k
  near_is k h = via_is (suc k) k (omega arith) h

-- A sort that is written fits a byte.
pub record_low : (sorts recent places : List ℕ) (gap : ℕ) (w : List ℕ) (terms at : ℕ)
    → record_by (sort_near sorts recent places gap w terms) w at ≤ 65
record_low sorts recent places gap w terms at =
    from_low (sort_near sorts recent places gap w terms) (origin_of (call_at w at)) (λ a. via_low (suc a) _ a)
