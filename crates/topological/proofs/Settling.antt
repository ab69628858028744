-- Laws of the counts and of the set of the ready nodes, while the reads of a node that gets done are taken off one by
-- one. Assumes nothing.
use mathlib.Core.Path.{◌≡◌, refl, sym, fun_ext}
use mathlib.Core.Logic.{◌≢◌}
use mathlib.Core.Bool.{Bool, true, false, not, ◌&&◌, ◌||◌}
use mathlib.Core.List.{List}
use Prim.Native.Nat.{ℕ, suc, ◌+◌, ◌-◌, ◌≤◌, ◌<◌}
use native.Mathlib.Omega.{arith}
use native.Mathlib.Decide.{ℕ_discrete, dec_lt}
use lib.ListN.{get_or, length, set, length-set, get_or-eq_default}
use lib.Seq.{get_or-set_same, get_or-set_other}
use lib.Dec.{eqb}
use borrow.Author.Tests.{eq-eqb, ne_eqb}
use Rattle.working_out.specs.Graph.{mark}
use Rattle.loops.specs.Edges.{done_in}
use Rattle.lowest_set.specs.Tree.{Holds, without}
use Rattle.topological.specs.Waiting.{reader_at, waiting, pending, last_of, still_waiting, one_more}
use Rattle.topological.specs.State.{Words, Links, Counts, ready_by, joined}
use Rattle.topological.proofs.Tables.{words-set, words_same, holds_same}
use Rattle.topological.proofs.Counting.{waiting-marked}
use Rattle.topological.proofs.Links.{pending-last, pending-suc, pending-none, last-reads, last_le}

-- The flags with one node done.
pub flag_cleared : (flags : List ℕ) (a : ℕ) → done_in (set flags a 0) ≡ mark (done_in flags) a
unfolding done_in mark
flag_cleared flags a = fun_ext (λ b. go b (ℕ_discrete b a))
  where
    low : Dec (a < length flags) → get_or (set flags a 0) a 0 ≡ 0
    low (yes l) = get_or-set_same flags a 0 0 l
    low (no d) =
        get_or-eq_default (set flags a 0) 0 {n = a} (omega (arith, length-set flags a 0))

    go : (b : ℕ) → Dec (b ≡ a) → done_in (set flags a 0) b ≡ mark (done_in flags) a b
    go b (yes e) = rw (e, low (dec_lt a (length flags)), eq-eqb a a refl)
    go b (no d) = rw (get_or-set_other flags a b 0 0 d, ne_eqb b a d)

-- The same counts by another function of the same values.
pub counts_same : {flags waits tree : List ℕ} {old new : ℕ → ℕ} → Counts flags old waits tree
    → ((a : ℕ) → a < 4096 → old a ≡ new a) → Counts flags new waits tree
unfolding ready_by
counts_same c same = record {
  words = words_same c.words same;
  ready = holds_same c.ready (λ a l. rw (same a l));
}

-- A node that waits is not ready.
not-ready : (done : Bool) → (not done && false) ≡ false
not-ready true = refl
not-ready false = refl

-- A number more in the set, by its flag and by how many reads it waits for.
module _ (members : ℕ → Bool) (flags waits : List ℕ) (a : ℕ) where
  abbrev now_ready : Bool
  now_ready = ready_by (done_in flags) (λ i. get_or waits i 0) a

  pub joined-ready : get_or flags a 0 ≢ 0 → get_or waits a 0 ≡ 0 → joined members now_ready a ≡ mark members a
  unfolding joined ready_by done_in mark
  joined-ready undone free = rw (ne_eqb _ _ undone, free)

  pub joined_waits : get_or waits a 0 ≢ 0 → joined members now_ready a ≡ members
  unfolding joined ready_by
  joined_waits more = rw (ne_eqb _ _ more, not-ready (done_in flags a))

  pub joined-done : get_or flags a 0 ≡ 0 → joined members now_ready a ≡ members
  unfolding joined ready_by done_in
  joined-done done = rw (eq-eqb _ _ done)

-- One more at a, and nothing more elsewhere.
module _ (left : ℕ → ℕ) (a : ℕ) where
  more_same : one_more left a a ≡ 1 + left a
  unfolding one_more
  more_same = rw (eq-eqb a a refl)

  more-other : (b : ℕ) → b ≢ a → one_more left a b ≡ left b
  unfolding one_more
  more-other b d = rw (ne_eqb a b (λ e. d (sym e))) (omega arith)

module _ {flags waits tree : List ℕ} (left : ℕ → ℕ) (a : ℕ) (c : Counts flags (one_more left a) waits tree) where
  -- A word that is not 0 is one of the table's.
  pub settle_low : 0 < get_or waits a 0 → a < 4096
  settle_low more = go (dec_lt a 4096)
    where
      go : Dec (a < 4096) → a < 4096
      go (yes l) = l
      go (no d) =
          let size = c.words.size in
          absurd (omega (arith, get_or-eq_default waits 0 {n = a} (omega arith)))

  -- Where the word of a read's node is 0, it is none of the table's.
  pub settle_none : get_or waits a 0 ≡ 0 → Counts flags left waits tree
  settle_none none = counts_same c (λ b l. go b l (ℕ_discrete b a))
    where
      go : (b : ℕ) → b < 4096 → Dec (b ≡ a) → one_more left a b ≡ left b
      go b l (yes e) =
          absurd (omega (arith, c.words.at a (omega arith), more_same left a))
      go b l (no d) = more-other left a b d

  module _ (more : 0 < get_or waits a 0) where
    -- The word of the node, one less, is what is left.
    pub settle_words : Words (set waits a (get_or waits a 0 - 1)) left
    settle_words =
        words-set a (get_or waits a 0 - 1) c.words
        (λ l. omega (arith, c.words.at a l, more_same left a)) (λ b d. more-other left a b d)

    -- The node is put into the set where it is ready now.
    pub settle_one : {tree' : List ℕ}
        → Holds tree' (joined (ready_by (done_in flags) (one_more left a))
        (ready_by (done_in flags) (λ i. get_or (set waits a (get_or waits a 0 - 1)) i 0) a) a)
        → Counts flags left (set waits a (get_or waits a 0 - 1)) tree'
    unfolding joined ready_by
    settle_one h = record {
      words = settle_words;
      ready = holds_same h (λ b l. go b l (ℕ_discrete b a));
    }
      where
        now-ready : Bool
        now-ready = ready_by (done_in flags) (λ i. get_or (set waits a (get_or waits a 0 - 1)) i 0) a

        own : (d q : Bool) → (((not d && q) && true) || (not d && false)) ≡ (not d && q)
        own true q = refl
        own false true = refl
        own false false = refl

        other : (r m : Bool) → ((r && false) || m) ≡ m
        other true m = refl
        other false m = refl

        go : (b : ℕ) → b < 4096 → Dec (b ≡ a)
            → joined (ready_by (done_in flags) (one_more left a)) now-ready a b ≡ ready_by (done_in flags) left b
        go b l (yes e) =
            rw (
              e,
              eq-eqb a a refl,
              settle_words.at a (settle_low more),
              more_same left a,
              ne_eqb (1 + left a) 0 (λ z. omega arith),
            )
            (own (done_in flags a) (eqb (left a) 0))
        go b l (no d) =
            rw (more-other left a b d, ne_eqb b a d) (other now-ready (ready_by (done_in flags) left b))

module _ (edges : List ℕ) (done : ℕ → Bool) (b : ℕ) where
  -- The last of the edges that read node b is taken off.
  pub still_next : (k p : ℕ) → last_of edges b k ≡ suc p
      → (a : ℕ) → still_waiting edges done b k a ≡ one_more (still_waiting edges done b p) (reader_at edges p) a
  unfolding still_waiting one_more
  still_next k p e a =
      let reads = last-reads edges b k p e in
      let last : pending edges b k a ≡ pending edges b (suc p) a = rw (← e) (pending-last edges b k a) in
      omega (arith, last, pending-suc edges b p reads.1 a)

  -- The last one is taken off.
  pub still_none : (k : ℕ) → last_of edges b k ≡ 0
      → (a : ℕ) → still_waiting edges done b k a ≡ waiting edges done (length edges) a
  unfolding still_waiting
  still_none k e a = omega (arith, pending-none edges b k e a)

-- A node is done: its reads are still to be taken off.
pub taken_out : {flags waits tree tree' : List ℕ} (edges : List ℕ) (a : ℕ) → done_in flags a ≡ false
    → Counts flags (waiting edges (done_in flags) (length edges)) waits tree
    → Holds tree' (without (ready_by (done_in flags) (waiting edges (done_in flags) (length edges))) a)
    → Counts (set flags a 0) (still_waiting edges (done_in (set flags a 0)) a (length edges)) waits tree'
unfolding still_waiting without ready_by mark
taken_out {flags} edges a undone c h = rw (flag_cleared flags a) (record {
  words = words_same c.words (λ b l. still b);
  ready = rw (flag_cleared flags a) (holds_same h (λ b l. rw (still b) (apart (eqb b a) (done_in flags b) _)));
})
  where
    still : (b : ℕ) → waiting edges (done_in flags) (length edges) b
        ≡ waiting edges (mark (done_in flags) a) (length edges) b + pending edges a (length edges) b
    still = waiting-marked edges (done_in flags) (length edges) a undone

    apart : (x d q : Bool) → (not x && (not d && q)) ≡ (not (x || d) && q)
    apart true d q = refl
    apart false d q = refl

-- The reads of node a, done, are taken off down to the edge before the e-th.
pub record Releasing (edges flags : List ℕ) (a e : ℕ) (waits tree : List ℕ) : Type 0 where
  pub k : ℕ
  pub within : k ≤ length edges
  pub last : e ≡ last_of edges a k
  pub counts : Counts flags (still_waiting edges (done_in flags) a k) waits tree

module _ {edges flags link head : List ℕ} {a : ℕ} (h : Links edges link head (length edges)) where
  module _ {e : ℕ} {waits tree : List ℕ} (r : Releasing edges flags a e waits tree) (more : 0 < e) where
    -- The edge at hand reads the node, and its link leads to the one before it that does.
    at_edge : last_of edges a r.k ≡ suc (e - 1)
    at_edge = omega (arith, r.last)

    next_edge : get_or link (e - 1) 0 ≡ last_of edges a (e - 1)
    next_edge =
        let reads = last-reads edges a r.k (e - 1) at_edge in
        let below = reads.0 in
        let within = r.within in
        rw (← reads.1) (h.links (e - 1) (omega arith))

    -- One read more is taken off.
    pub release_next : {waits' tree' : List ℕ}
        → ((left : ℕ → ℕ) → Counts flags (one_more left (reader_at edges (e - 1))) waits tree
        → Counts flags left waits' tree')
        → Releasing edges flags a (get_or link (e - 1) 0) waits' tree'
    release_next settles =
        let reads = last-reads edges a r.k (e - 1) at_edge in
        let below = reads.0 in
        let within = r.within in
        record {
          k = e - 1;
          within = omega arith;
          last = next_edge;
          counts =
              settles _
              (counts_same r.counts (λ b l. still_next edges (done_in flags) a r.k (e - 1) at_edge b));
        }

    -- A link leads to a lower edge.
    pub release_less : get_or link (e - 1) 0 < e
    release_less = omega (arith, next_edge, last_le edges a (e - 1))

-- All reads are taken off.
pub release_end : {edges flags waits tree : List ℕ} {a e : ℕ} → Releasing edges flags a e waits tree → e ≤ 0
    → Counts flags (waiting edges (done_in flags) (length edges)) waits tree
release_end {edges} {flags} {waits} {tree} {a} {e} r end =
    counts_same r.counts (λ b l. still_none edges (done_in flags) a r.k (omega (arith, r.last)) b)
