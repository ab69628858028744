-- Laws of the table of the lowest reads, as the reads are noted one by one. Assumes nothing.
use mathlib.Core.Path.{◌≡◌, refl, sym, ◌∙◌}
use mathlib.Core.Logic.{◌≢◌}
use mathlib.Core.Bool.{Bool, true, false, not, cond, ◌&&◌, ◌||◌, false≢true, or-true, or-false, or_assoc, and-false}
use mathlib.Core.List.{List, [], ◌∷◌, ◌++◌}
use Prim.Native.Nat.{ℕ, ◌+◌, ◌≤◌, ◌<◌}
use native.Mathlib.Omega.{arith}
use native.Mathlib.Decide.{ℕ_discrete}
use native.Mathlib.Numerals.{add-one}
use lib.ListN.{length, get_or, set, take, replicate, get_or-replicate}
use lib.Seq.{get_or-set_same, get_or-set_other, take-suc}
use lib.Dec.{eqb, ltb}
use borrow.Author.Tests.{ltb-true, ltb-false, ne_eqb, eq-eqb}
use Rattle.working_out.specs.System.{any}
use Rattle.loops.specs.Edges.{edge, reader_of, read_of, has_edge, done_in}
use Rattle.loop_walk.specs.First.{First}
use Rattle.loop_walk.specs.Reads.{waits_for, noted, LowestReads}

-- One word more.
has_more : (edges : List ℕ) (e a b : ℕ) → has_edge (edges ++ (e ∷ [])) a b ≡ (has_edge edges a b || eqb (edge a b) e)
unfolding has_edge any
has_more edges e a b = go edges
  where
    go : (l : List ℕ) → any (eqb (edge a b)) (l ++ (e ∷ [])) ≡ (any (eqb (edge a b)) l || eqb (edge a b) e)
    go [] = or-false (eqb (edge a b) e)
    go (x ∷ l) = rw (go l) (sym (or_assoc (eqb (edge a b) x) (any (eqb (edge a b)) l) (eqb (edge a b) e)))

module _ (edges flags : List ℕ) (e a : ℕ) where
  -- A read of another node, or of one that is done, changes nothing for a node.
  waits_other : (b : ℕ) → (edge a b ≡ e → done_in flags b ≡ true)
      → waits_for (edges ++ (e ∷ [])) flags a b ≡ waits_for edges flags a b
  waits_other b h = rw (has_more edges e a b) (go (ℕ_discrete (edge a b) e) (has_edge edges a b))
    where
      go : Dec (edge a b ≡ e) → (t : Bool)
          → ((t || eqb (edge a b) e) && not (done_in flags b)) ≡ (t && not (done_in flags b))
      go (yes q) t = rw (h q, and-false (t || eqb (edge a b) e), and-false t)
      go (no q) t = rw (ne_eqb (edge a b) e q, or-false t)

  -- What is noted stays so.
  waits_still : (b : ℕ) → waits_for edges flags a b ≡ true → waits_for (edges ++ (e ∷ [])) flags a b ≡ true
  waits_still b w = rw (has_more edges e a b) (go (has_edge edges a b) (done_in flags b) (eqb (edge a b) e) w)
    where
      go : (t d u : Bool) → (t && not d) ≡ true → ((t || u) && not d) ≡ true
      go true d u w = w
      go false d u w = absurd (false≢true w)

  -- The read itself.
  waits_now : (b : ℕ) → edge a b ≡ e → done_in flags b ≡ false → waits_for (edges ++ (e ∷ [])) flags a b ≡ true
  waits_now b q d =
      rw (has_more edges e a b, d, eq-eqb (edge a b) e q, or-true (has_edge edges a b))

-- A first number stays so for a test that agrees before it and passes it too.
first_keep : (n : ℕ) (p q : ℕ → Bool) (v : ℕ) → First n p v → ((j : ℕ) → j < v → q j ≡ p j)
    → (p v ≡ true → q v ≡ true) → First n q v
first_keep n p q v f same still = record {
  within = f.within;
  before = λ j l. same j l ∙ f.before j l;
  here = λ l. still (f.here l);
}

-- The node that reads and the node read, from the word.
edge-reader : (a b e : ℕ) → b < 4096 → edge a b ≡ e → a ≡ reader_of e
edge-reader a b e l q = omega arith

edge-read : (a b e : ℕ) → b < 4096 → edge a b ≡ e → b ≡ read_of e
edge-read a b e l q = omega arith

edge_of : (e : ℕ) → edge (reader_of e) (read_of e) ≡ e
edge_of e = omega arith

read_below : (e : ℕ) → read_of e < 4096
read_below e = omega arith

module _ (edges flags next : List ℕ) (e : ℕ) (small : length flags ≤ 4096) (long : length next ≡ 4096)
    (table : LowestReads edges flags next) where
  -- A node keeps what was noted where no read of a lower node that is not done came.
  keeps : (a : ℕ) → a < 4096 → ((j : ℕ) → j < get_or next a 0 → edge a j ≡ e → done_in flags j ≡ true)
      → First (length flags) (waits_for (edges ++ (e ∷ [])) flags a) (get_or next a 0)
  keeps a l h =
      first_keep (length flags) (waits_for edges flags a) (waits_for (edges ++ (e ∷ [])) flags a) (get_or next a 0)
      (table a l) (λ j m. waits_other edges flags e a j (h j m)) (waits_still edges flags e a (get_or next a 0))

  -- A node lower than the one noted is below 4,096.
  before_below : (a j : ℕ) → a < 4096 → j < get_or next a 0 → j < 4096
  before_below a j l m = let w = (table a l).within in omega arith

  -- So does every node but the one that reads.
  keeps_other : (a : ℕ) → a < 4096 → a ≢ reader_of e
      → First (length flags) (waits_for (edges ++ (e ∷ [])) flags a) (get_or next a 0)
  keeps_other a l ne = keeps a l (λ j m q. absurd (ne (edge-reader a j e (before_below a j l m) q)))

  -- A read of a lower node that is not done.
  lower : reader_of e < 4096 → read_of e < get_or next (reader_of e) 0 → done_in flags (read_of e) ≡ false
      → First (length flags) (waits_for (edges ++ (e ∷ [])) flags (reader_of e)) (read_of e)
  lower l m left =
      let old = table (reader_of e) l in
      let w = old.within in
      record {
        within = omega arith;
        before = before;
        here = λ _. waits_now edges flags e (reader_of e) (read_of e) (edge_of e) left;
      }
    where
      before : (j : ℕ) → j < read_of e → waits_for (edges ++ (e ∷ [])) flags (reader_of e) j ≡ false
      before j b =
          waits_other edges flags e (reader_of e) j
          (λ q. absurd (let r = edge-read (reader_of e) j e (let z = read_below e in omega arith) q in omega arith))
          ∙ (table (reader_of e) l).before j (omega arith)

  -- One read more is noted.
  note-one : LowestReads (edges ++ (e ∷ [])) flags (noted flags next e)
  unfolding noted
  note-one a l =
      go (done_in flags (read_of e)) refl (ltb (read_of e) (get_or next (reader_of e) 0)) refl (ℕ_discrete a (reader_of e))
    where
      go : (d : Bool) → done_in flags (read_of e) ≡ d → (t : Bool) → ltb (read_of e) (get_or next (reader_of e) 0) ≡ t
          → Dec (a ≡ reader_of e)
          → First (length flags) (waits_for (edges ++ (e ∷ [])) flags a)
          (get_or (cond d next (cond t (set next (reader_of e) (read_of e)) next)) a 0)
      go true d t h q = keeps a l (λ j m r. rw (edge-read a j e (before_below a j l m) r) d)
      go false d true h (yes q) =
          let low : reader_of e < 4096 = rw q at l in
          rw (q, get_or-set_same next (reader_of e) (read_of e) 0 (omega arith)) (lower low (ltb-true _ _ h) d)
      go false d true h (no q) = rw (get_or-set_other next (reader_of e) a (read_of e) 0 q) (keeps_other a l q)
      go false d false h (yes q) =
          let high : get_or next a 0 ≤ read_of e = rw q (ltb-false _ _ h) in
          keeps a l (λ j m r. absurd (let s = edge-read a j e (before_below a j l m) r in omega arith))
      go false d false h (no q) = keeps_other a l q

-- A loop that notes the reads one by one: before the first, and a turn.
pub notes_start : (flags : List ℕ) → LowestReads [] flags (replicate 4096 (length flags))
unfolding has_edge any
notes_start flags a l =
    rw (get_or-replicate 4096 a (length flags) 0 l)
    (record { within = omega arith; before = λ j _. refl; here = λ m. absurd (omega arith) })

pub notes_turn : (edges flags next : List ℕ) (i : ℕ) → length flags ≤ 4096 → length next ≡ 4096 → i < length edges
    → LowestReads (take i edges) flags next
    → LowestReads (take (i + 1) edges) flags (noted flags next (get_or edges i 0))
notes_turn edges flags next i small long inside table =
    rw (add-one i, take-suc edges i 0 inside) (note-one (take i edges) flags next (get_or edges i 0) small long table)
