-- Laws of the links between the edges that read one node. Assumes nothing.
use mathlib.Core.Path.{◌≡◌, refl, sym, ◌∙◌}
use mathlib.Core.Logic.{◌≢◌}
use mathlib.Core.Bool.{Bool, true, false, cond, ◌&&◌}
use mathlib.Core.List.{List}
use Prim.Native.Nat.{ℕ, zero, suc, ◌+◌, ◌≤◌, ◌<◌}
use native.Mathlib.Omega.{arith}
use native.Mathlib.Numerals.{add-one}
use native.Mathlib.Nat.{mod-lt}
use native.Mathlib.Decide.{ℕ_discrete}
use lib.ListN.{get_or, length, set, length-set, replicate, length-replicate}
use lib.Seq.{get_or-set_same, get_or-set_other}
use lib.Dec.{eqb}
use borrow.Author.Tests.{eqb-true, eq-eqb, ne_eqb}
use Rattle.topological.specs.Waiting.{count, reader_at, read_at, pending, last_of}
use Rattle.topological.specs.State.{Links}
use Rattle.topological.proofs.Tables.{words-set, words-zeros}

-- A read of another node is not counted.
other-read : (own : Bool) → ◌≡◌ {A = ℕ} (cond (own && false) 1 0) 0
other-read true = refl
other-read false = refl

-- The edges that read a node, up to the last of them.
pub pending-last : (edges : List ℕ) (b k a : ℕ) → pending edges b k a ≡ pending edges b (last_of edges b k) a
unfolding pending last_of count
pending-last edges b zero a = refl
pending-last edges b (suc k) a = go (pending-last edges b k a) (eqb (read_at edges k) b) refl
  where
    go : pending edges b k a ≡ pending edges b (last_of edges b k) a → (same : Bool) → eqb (read_at edges k) b ≡ same
        → pending edges b (suc k) a ≡ pending edges b (cond same (suc k) (last_of edges b k)) a
    go rec true e = refl
    go rec false e = rw e (omega (arith, other-read (eqb (reader_at edges k) a), rec))

-- One edge more that reads the node.
pub pending-suc : (edges : List ℕ) (b p : ℕ) → read_at edges p ≡ b
    → (a : ℕ) → pending edges b (suc p) a ≡ cond (eqb (reader_at edges p) a) 1 0 + pending edges b p a
unfolding pending count
pending-suc edges b p e a = rw (eq-eqb (read_at edges p) b e) (go (eqb (reader_at edges p) a))
  where
    go : (own : Bool) → cond (own && true) 1 0 + pending edges b p a ≡ cond own 1 0 + pending edges b p a
    go true = refl
    go false = refl

-- No edge reads a node that has no last one.
pub pending-none : (edges : List ℕ) (b k : ℕ) → last_of edges b k ≡ 0 → (a : ℕ) → pending edges b k a ≡ 0
unfolding pending count
pending-none edges b k none a = pending-last edges b k a ∙ rw none

-- The last edge that reads a node is one that does.
pub last-reads : (edges : List ℕ) (b k p : ℕ) → last_of edges b k ≡ suc p → (p < k) × (read_at edges p ≡ b)
unfolding last_of
last-reads edges b zero p e = absurd (omega arith)
last-reads edges b (suc k) p e = go (last-reads edges b k p) (eqb (read_at edges k) b) refl e
  where
    go : (last_of edges b k ≡ suc p → (p < k) × (read_at edges p ≡ b)) → (same : Bool) → eqb (read_at edges k) b ≡ same
        → cond same (suc k) (last_of edges b k) ≡ suc p → (p < suc k) × (read_at edges p ≡ b)
    go rec true s f = let here : k ≡ p = omega arith in (omega arith, rw (← here) (eqb-true _ _ s))
    go rec false s f = let r = rec f in (omega arith, r.1)

-- The last of the first k edges is one of them.
pub last_le : (edges : List ℕ) (b k : ℕ) → last_of edges b k ≤ k
unfolding last_of
last_le edges b zero = omega arith
last_le edges b (suc k) = go (last_le edges b k) (eqb (read_at edges k) b)
  where
    go : last_of edges b k ≤ k → (same : Bool) → cond same (suc k) (last_of edges b k) ≤ suc k
    go rec true = omega arith
    go rec false = omega arith

-- Of no edges none is the last.
last-zero : (edges : List ℕ) (b : ℕ) → last_of edges b 0 ≡ 0
unfolding last_of
last-zero edges b = refl

-- The last of one edge more.
last-here : (edges : List ℕ) (k : ℕ) → last_of edges (read_at edges k) (suc k) ≡ suc k
unfolding last_of
last-here edges k = rw (eq-eqb (read_at edges k) (read_at edges k) refl)

last-other : (edges : List ℕ) (k b : ℕ) → b ≢ read_at edges k → last_of edges b (suc k) ≡ last_of edges b k
unfolding last_of
last-other edges k b d = rw (ne_eqb (read_at edges k) b (λ e. d (sym e)))

-- An edge more is linked.
pub links_turn : {edges link head : List ℕ} (k : ℕ) → Links edges link head k → k < length edges
    → Links edges (set link k (get_or head (read_at edges k) 0)) (set head (read_at edges k) (k + 1)) (k + 1)
links_turn {edges} {link} {head} k h more = record {
  few = h.few;
  size = length-set link k _ ∙ h.size;
  links = λ p l. go p l (ℕ_discrete p k);
  heads = words-set b (k + 1) h.heads (λ l. rw (add-one k, last-here edges k))
      (λ j d. rw (add-one k) (sym (last-other edges k j d)));
}
  where
    b : ℕ
    b = read_at edges k

    go : (p : ℕ) → p < k + 1 → Dec (p ≡ k) → get_or (set link k (get_or head b 0)) p 0 ≡ last_of edges (read_at edges p) p
    go p l (yes e) =
        let room = h.few in
        let size = h.size in
        rw (e, get_or-set_same link k (get_or head b 0) 0 (omega arith))
        (h.heads.at b (mod-lt (get_or edges k 0) (omega arith)))
    go p l (no d) = rw (get_or-set_other link k p (get_or head b 0) 0 d) (h.links p (omega arith))

-- At the start no edge is linked.
pub links-none : (edges : List ℕ) → length edges ≤ 16384 → Links edges (replicate 16384 0) (replicate 4096 0) 0
links-none edges few = record {
  few = few;
  size = length-replicate {A = ℕ} 16384 0;
  links = λ p l. absurd (omega arith);
  heads = words-zeros (last-zero edges);
}
