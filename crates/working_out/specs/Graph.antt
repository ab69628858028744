-- Document 01, "Reading nets". Nodes that read nodes: the order in which the lowest ready one is always next, and the
-- decision whether there is a loop. A node is a number below N; `done` says which have their values, and at the start
-- also which numbers are no nodes.
use Rattle.std.specs.Prelude.{◌≡◌, Bool, true, not, cond, ◌&&◌, ◌||◌, List, [], ◌∷◌, ℕ, zero, suc, ◌+◌, eqb}
use Rattle.std.proofs.Math.Option.{Option}
use Rattle.working_out.specs.Order.{option, is_some}
use Rattle.working_out.specs.Order.{lowest}

-- One more that is done.
unfoldable pub mark : (ℕ → Bool) → ℕ → ℕ → Bool
mark done a b = eqb b a || done b

-- How many below n are not done.
unfoldable pub undone : ℕ → (ℕ → Bool) → ℕ
undone zero done = 0
undone (suc n) done = cond (done n) 0 1 + undone n done

-- reads a b: does node a read node b?
module _ (N : ℕ) (reads : ℕ → ℕ → Bool) where
  -- A chain of reads, and a loop: a chain from a node to itself.
  pub data Chain : ℕ → ℕ → Type 0 where
    one : {a b : ℕ} → reads a b ≡ true → Chain a b
    more : {a b c : ℕ} → reads a b ≡ true → Chain b c → Chain a c

  abbrev pub Loop : Type 0
  Loop = (a : ℕ) × Chain a a

  -- The lowest node that a reads and that is not done.
  unfoldable pub lacks : (ℕ → Bool) → ℕ → Option ℕ
  lacks done a = lowest N (λ b. reads a b && not (done b))

  -- A node is ready when it is not done and all that it reads are.
  abbrev pub is_ready : (ℕ → Bool) → ℕ → Bool
  is_ready done a = not (done a) && not (is_some (lacks done a))

  unfoldable pub lowest_ready : (ℕ → Bool) → Option ℕ
  lowest_ready done = lowest N (is_ready done)

  -- The order of work: the lowest ready node is always next, for k nodes at most.
  unfoldable pub order : ℕ → (ℕ → Bool) → List ℕ
  order zero done = []
  order (suc k) done = option (lowest_ready done) [] (λ a. a ∷ order k (mark done a))

  unfoldable pub mark_all : (ℕ → Bool) → List ℕ → ℕ → Bool
  mark_all done [] = done
  mark_all done (a ∷ l) = mark_all (mark done a) l

  -- The lowest node that never gets ready.
  unfoldable pub never_ready : (ℕ → Bool) → Option ℕ
  never_ready done = lowest N (λ a. not (mark_all done (order (undone N done) done) a))

  -- The walk from a node, always to the lowest node read that is not done (document 02, change 4).
  unfoldable pub walk : (ℕ → Bool) → ℕ → ℕ → ℕ
  walk done a zero = a
  walk done a (suc k) = option (lacks done (walk done a k)) 0 (λ b. b)
