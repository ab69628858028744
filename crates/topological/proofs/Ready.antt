-- A node is ready exactly where it is not done and waits for nothing. Assumes nothing.
use mathlib.Core.Path.{◌≡◌, refl, sym, ◌∙◌}
use mathlib.Core.Bool.{Bool, true, false, not, ◌&&◌, ◌||◌, true≢false, false≢true}
use mathlib.Core.Option.{Option, none, some}
use mathlib.Core.List.{List, [], ◌∷◌}
use Prim.Native.Nat.{ℕ, zero, suc, ◌≤◌, ◌<◌}
use native.Mathlib.Omega.{arith}
use native.Mathlib.Decide.{ℕ_discrete, dec_lt}
use lib.ListN.{get_or, length, get_or-eq_default}
use lib.Dec.{eqb}
use borrow.Author.Tests.{eqb-true, eq-eqb, ne_eqb}
use Rattle.working_out.specs.Order.{option, is_some, lowest}
use Rattle.working_out.specs.Graph.{lacks, is_ready}
use Rattle.working_out.specs.System.{any}
use Rattle.working_out.proofs.OrderLaws.{lowest-some}
use Rattle.working_out.proofs.GraphLaws.{lacks-none, both}
use Rattle.loops.specs.Edges.{edge, reader_of, read_of, has_edge, done_in}
use Rattle.topological.specs.Waiting.{reader_at, read_at, waiting}
use Rattle.topological.specs.State.{ready_by}
use Rattle.topological.proofs.Counting.{count_none, none-count}

-- A number without a flag is done.
pub undone-low : (flags : List ℕ) (a : ℕ) → done_in flags a ≡ false → a < length flags
unfolding done_in
undone-low flags a e = go (dec_lt a (length flags))
  where
    go : Dec (a < length flags) → a < length flags
    go (yes l) = l
    go (no d) =
        let zero_flag : get_or flags a 0 ≡ 0 = get_or-eq_default flags 0 {n = a} (omega arith) in
        absurd (true≢false (sym (eq-eqb (get_or flags a 0) 0 zero_flag) ∙ e))

-- A number at a place of a list is among it.
any_at : (test : ℕ → Bool) (l : List ℕ) (p : ℕ) → p < length l → test (get_or l p 0) ≡ true → any test l ≡ true
unfolding any
any_at test [] p h t = absurd (omega arith)
any_at test (x ∷ l) zero h t = rw t
any_at test (x ∷ l) (suc p) h t = rw (any_at test l p (omega arith) t) (go (test x))
  where
    go : (b : Bool) → (b || true) ≡ true
    go true = refl
    go false = refl

-- The place of a number that passes.
record Place (test : ℕ → Bool) (l : List ℕ) : Type 0 where
  pub p : ℕ
  pub below : p < length l
  pub holds : test (get_or l p 0) ≡ true

-- A test that an element passes has a place.
place_of_lem : (test : ℕ → Bool) (l : List ℕ) → any test l ≡ true → Place test l
unfolding any
place_of_lem test [] e = absurd (false≢true e)
place_of_lem test (x ∷ l) e = go (place_of_lem test l) (test x) refl e
  where
    go : (any test l ≡ true → Place test l) → (b : Bool) → test x ≡ b → (b || any test l) ≡ true
        → Place test (x ∷ l)
    go rec true t f = record { p = 0; below = omega arith; holds = t }
    go rec false t f =
        let r = rec f in
        let b = r.below in
        record { p = suc r.p; below = omega arith; holds = r.holds }

-- The word of a read is that of its two nodes, and of no others.
edge_of : (e : ℕ) → edge (reader_of e) (read_of e) ≡ e
edge_of e = omega arith

reader_of_edge : (a b : ℕ) → b < 4096 → reader_of (edge a b) ≡ a
reader_of_edge a b l = omega arith

read_of_edge : (a b : ℕ) → b < 4096 → read_of (edge a b) ≡ b
read_of_edge a b l = omega arith

module _ (edges : List ℕ) where
  -- An edge is a read of its nodes.
  edge-has : (p a b : ℕ) → p < length edges → reader_at edges p ≡ a → read_at edges p ≡ b → has_edge edges a b ≡ true
  unfolding has_edge
  edge-has p a b l r s =
      any_at (eqb (edge a b)) edges p l
      (rw (← r, ← s) (eq-eqb _ _ (edge_of (get_or edges p 0))))

  -- The edge of a read.
  record EdgeOf (a b : ℕ) : Type 0 where
    pub p : ℕ
    pub below : p < length edges
    pub reader : reader_at edges p ≡ a
    pub read : read_at edges p ≡ b

  -- A read has its edge.
  has-edge : (a b : ℕ) → b < 4096 → has_edge edges a b ≡ true → EdgeOf a b
  unfolding has_edge
  has-edge a b l e =
      let at = place_of_lem (eqb (edge a b)) edges e in
      let word : edge a b ≡ get_or edges at.p 0 = eqb-true _ _ at.holds in
      record {
        p = at.p;
        below = at.below;
        reader = rw (← word) (reader_of_edge a b l);
        read = rw (← word) (read_of_edge a b l);
      }

  module _ (flags : List ℕ) (few : length flags ≤ 4096) where
    -- A node waits for nothing exactly where it lacks nothing.
    waits_none : (a : ℕ) → is_some (lacks (length flags) (has_edge edges) (done_in flags) a) ≡ false
        → waiting edges (done_in flags) (length edges) a ≡ 0
    unfolding waiting
    waits_none a free =
        none-count (length edges) _
        (λ p l. go p l (eqb (reader_at edges p) a) refl (done_in flags (read_at edges p)) refl)
      where
        go : (p : ℕ) → p < length edges → (own : Bool) → eqb (reader_at edges p) a ≡ own
            → (d : Bool) → done_in flags (read_at edges p) ≡ d → (own && not d) ≡ false
        go p l false o d e = refl
        go p l true o true e = refl
        go p l true o false e =
            let low = undone-low flags (read_at edges p) e in
            let has = edge-has p a (read_at edges p) l (eqb-true _ _ o) refl in
            absurd (true≢false (sym (lacks-none (length flags) (has_edge edges) (done_in flags) a free _ low has) ∙ e))

    -- A node that reads one that is not done waits for it.
    waits_some : (a b : ℕ) → b < length flags → has_edge edges a b ≡ true → done_in flags b ≡ false
        → waiting edges (done_in flags) (length edges) a ≡ 0 → ⊥
    unfolding waiting
    waits_some a b l has undone free =
        let by = has-edge a b (omega arith) has in
        let counted = count_none (length edges) _ free by.p by.below in
        true≢false (rw (by.read, eq-eqb _ _ by.reader, undone) at counted)

    -- A node is ready exactly where it is not done and waits for nothing.
    pub ready-same : (a : ℕ) → ready_by (done_in flags) (waiting edges (done_in flags) (length edges)) a
        ≡ is_ready (length flags) (has_edge edges) (done_in flags) a
    unfolding ready_by lacks
    ready-same a = go (done_in flags a) (lacks (length flags) (has_edge edges) (done_in flags) a) refl
      where
        go : (d : Bool) (o : Option ℕ) → lacks (length flags) (has_edge edges) (done_in flags) a ≡ o
            → (not d && eqb (waiting edges (done_in flags) (length edges) a) 0) ≡ (not d && not (is_some o))
        go true o e = refl
        go false none e = eq-eqb _ _ (waits_none a (rw e refl))
        go false (some b) e =
            let f = lowest-some (length flags) _ b e in
            let g = both (length flags) (has_edge edges) _ _ f.holds in
            ne_eqb _ _ (waits_some a b f.below g.0 g.1)

-- A search among more numbers, of which none passes.
pub lowest-more : (n m : ℕ) (test : ℕ → Bool) → n ≤ m → ((i : ℕ) → n ≤ i → test i ≡ false)
    → lowest m test ≡ lowest n test
unfolding lowest
lowest-more n zero test l clear = let same : n ≡ 0 = omega arith in rw same
lowest-more n (suc m) test l clear = go (ℕ_discrete n (suc m)) (λ h. lowest-more n m test h clear)
  where
    keep : (o : Option ℕ) → option o none some ≡ o
    keep none = refl
    keep (some k) = refl

    go : Dec (n ≡ suc m) → (n ≤ m → lowest m test ≡ lowest n test) → lowest (suc m) test ≡ lowest n test
    go (yes e) rec = rw e
    go (no d) rec = rw (clear m (omega arith)) (keep (lowest m test) ∙ rec (omega arith))
