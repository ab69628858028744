-- Laws of the definitions of Graph.
use mathlib.Core.Path.{◌≡◌, refl, sym, ◌∙◌}
use mathlib.Core.Logic.{◌≢◌}
use mathlib.Core.Bool.{Bool, true, false, not, cond, ◌&&◌, ◌||◌, false≢true, true≢false}
use mathlib.Core.Option.{Option, none, some}
use mathlib.Core.List.{List, [], ◌∷◌}
use Prim.Native.Nat.{ℕ, zero, suc, ◌+◌, ◌-◌, ◌≤◌, ◌<◌}
use native.Mathlib.Omega.{arith}
use native.Mathlib.Nat.{add-zero, add-suc}
use native.Mathlib.Decide.{ℕ_discrete}
use lib.Dec.{eqb, eqb→eq}
use Rattle.working_out.specs.Order.{option, is_some}
use Rattle.working_out.proofs.OrderLaws.{none_of, not-true, not-false, eqb_same}
use Rattle.working_out.proofs.OrderLaws.{IsLowest, lowest-some, lowest-none, pigeon}
use Rattle.working_out.specs.Graph.{mark, undone, Chain, one, more, Loop, lacks, is_ready, lowest_ready, order}
use Rattle.working_out.specs.Graph.{mark_all, never_ready, walk}

pub mark-same : (done : ℕ → Bool) (a : ℕ) → mark done a a ≡ true
unfolding mark
mark-same done a = rw (eqb_same a)

pub mark-other : (done : ℕ → Bool) (a b : ℕ) → b ≢ a → mark done a b ≡ done b
unfolding mark
mark-other done a b ne = go (eqb b a) refl
  where
    go : (t : Bool) → eqb b a ≡ t → (t || done b) ≡ done b
    go true e = absurd (ne (eqb→eq b a (rw e tt)))
    go false e = refl

-- What was done stays done.
pub mark_keeps : (done : ℕ → Bool) (a b : ℕ) → done b ≡ true → mark done a b ≡ true
unfolding mark
mark_keeps done a b d = go (eqb b a)
  where
    go : (t : Bool) → (t || done b) ≡ true
    go true = refl
    go false = d

pub none-undone : (n : ℕ) (done : ℕ → Bool) → undone n done ≡ 0 → (a : ℕ) → a < n → done a ≡ true
unfolding undone
none-undone zero done e a l = absurd (omega arith)
none-undone (suc n) done e a l = go (none-undone n done) (done n) refl e (ℕ_discrete a n)
  where
    go : (undone n done ≡ 0 → (a : ℕ) → a < n → done a ≡ true) → (b : Bool) → done n ≡ b
        → cond b 0 1 + undone n done ≡ 0 → Dec (a ≡ n) → done a ≡ true
    go rec true d z (yes p) = rw p d
    go rec true d z (no p) = rec (omega arith) a (omega arith)
    go rec false d z p = absurd (omega arith)

undone_above : (n : ℕ) (done : ℕ → Bool) (a : ℕ) → n ≤ a → undone n (mark done a) ≡ undone n done
unfolding undone
undone_above zero done a h = refl
undone_above (suc n) done a h = rw (mark-other done a n (omega arith), undone_above n done a (omega arith))

pub undone-mark : (n : ℕ) (done : ℕ → Bool) (a : ℕ) → a < n → done a ≡ false
    → suc (undone n (mark done a)) ≡ undone n done
unfolding undone
undone-mark zero done a l d = absurd (omega arith)
undone-mark (suc n) done a l d = go (ℕ_discrete a n) (λ l. undone-mark n done a l d)
  where
    go : Dec (a ≡ n) → (a < n → suc (undone n (mark done a)) ≡ undone n done)
        → suc (cond (mark done a n) 0 1 + undone n (mark done a)) ≡ cond (done n) 0 1 + undone n done
    go (yes p) rec = rw (← p, mark-same done a, d, undone_above a done a (omega arith)) (omega arith)
    go (no p) rec = let r = rec (omega arith) in rw (mark-other done a n (λ q. p (sym q))) (omega arith)

module _ (N : ℕ) (reads : ℕ → ℕ → Bool) where
  pub record Ready (done : ℕ → Bool) (a : ℕ) : Type 0 where
    pub low : a < N
    pub not_done : done a ≡ false
    pub has : (b : ℕ) → b < N → reads a b ≡ true → done b ≡ true

  -- Each node of the list is ready when its turn comes, and after the last all are done.
  abbrev pub Ordered : (ℕ → Bool) → List ℕ → Type 0
  Ordered done [] = (a : ℕ) → a < N → done a ≡ true
  Ordered done (a ∷ l) = Ready done a × Ordered (mark done a) l

  pub both : (p q : Bool) → (p && not q) ≡ true → (p ≡ true) × (q ≡ false)
  both true true e = absurd (false≢true e)
  both true false e = (refl, refl)
  both false q e = absurd (false≢true e)

  pub lacks-none : (done : ℕ → Bool) (a : ℕ) → is_some ((lacks N reads) done a) ≡ false → (b : ℕ) → b < N
      → reads a b ≡ true → done b ≡ true
  unfolding lacks
  lacks-none done a e b l r = sees (reads a b) (done b) r (lowest-none N _ (none_of ((lacks N reads) done a) e) b l)
    where
      sees : (r d : Bool) → r ≡ true → (r && not d) ≡ false → d ≡ true
      sees r true e h = refl
      sees true false e h = absurd (true≢false h)
      sees false false e h = e

  pub ready-is : (done : ℕ → Bool) (a : ℕ) → (lowest_ready N reads) done ≡ some a → Ready done a
  unfolding lowest_ready
  ready-is done a e = record { low = f.below; not_done = split.0; has = lacks-none done a split.1 }
    where
      f : IsLowest N ((is_ready N reads) done) a
      f = lowest-some N ((is_ready N reads) done) a e

      of_not : (p q : Bool) → (not p && not q) ≡ true → (p ≡ false) × (q ≡ false)
      of_not true q e = absurd (false≢true e)
      of_not false true e = absurd (false≢true e)
      of_not false false e = (refl, refl)

      split : (done a ≡ false) × (is_some ((lacks N reads) done a) ≡ false)
      split = of_not (done a) (is_some ((lacks N reads) done a)) f.holds

  snoc : {a b c : ℕ} → (Chain N reads) a b → reads b c ≡ true → (Chain N reads) a c
  snoc (one h) e = more h (one e)
  snoc (more h r) e = more h (snoc r e)

  -- Where none is ready, each node that is not done reads one that is not done: the walk from node to the lowest such
  -- node that it reads closes, by the pigeonhole.
  pub record Undone (done : ℕ → Bool) (a : ℕ) : Type 0 where
    pub low : a < N
    pub not_done : done a ≡ false

  module _ (done : ℕ → Bool) (stuck : (lowest_ready N reads) done ≡ none) where
    pub record Next (a b : ℕ) : Type 0 where
      pub to : Undone done b
      pub read : reads a b ≡ true

    pub next : (a : ℕ) → Undone done a → Next a (option ((lacks N reads) done a) 0 (λ b. b))
    unfolding lowest_ready lacks
    next a u = go ((lacks N reads) done a) refl
      where
        go : (o : Option ℕ) → (lacks N reads) done a ≡ o → Next a (option ((lacks N reads) done a) 0 (λ b. b))
        go none e =
            let h : (is_ready N reads) done a ≡ false = lowest-none N ((is_ready N reads) done) stuck a u.low in
            absurd (true≢false (rw (u.not_done, e) at h))
        go (some b) e =
            let f = lowest-some N (λ b. reads a b && not (done b)) b e in
            let g = both (reads a b) (done b) f.holds in
            rw e (record { to = record { low = f.below; not_done = g.1 }; read = g.0 })

    module _ (a : ℕ) (u : Undone done a) where
      pub walk-undone : (k : ℕ) → Undone done ((walk N reads) done a k)
      unfolding walk
      walk-undone zero = u
      walk-undone (suc k) = (next ((walk N reads) done a k) (walk-undone k)).to

      pub walk-reads : (k : ℕ) → reads ((walk N reads) done a k) ((walk N reads) done a (suc k)) ≡ true
      unfolding walk
      walk-reads k = (next ((walk N reads) done a k) (walk-undone k)).read

      walk_chain : (i d : ℕ) → (Chain N reads) ((walk N reads) done a i) ((walk N reads) done a (suc (i + d)))
      walk_chain i zero = rw add-zero (one (walk-reads i))
      walk_chain i (suc d) = rw add-suc (snoc (walk_chain i d) (walk-reads (suc (i + d))))

      pub closes : (Loop N reads)
      closes =
          let t = pigeon N ((walk N reads) done a) (λ i _. (walk-undone i).low) in
          let b = t.before in
          let far : suc (t.i + (t.j - suc t.i)) ≡ t.j = omega arith in
          let c = walk_chain t.i (t.j - suc t.i) in
          ((walk N reads) done a t.i, rw t.same (rw (far, t.same) at c))

  -- The nodes of the order are ready when their turn comes; with steps enough none is ready after the last.
  abbrev pub Turns : (ℕ → Bool) → List ℕ → Type 0
  Turns done [] = Unit {0}
  Turns done (a ∷ l) = Ready done a × Turns (mark done a) l

  pub order_turns : (k : ℕ) (done : ℕ → Bool) → Turns done ((order N reads) k done)
  unfolding order
  order_turns zero done = tt
  order_turns (suc k) done = go (λ a. order_turns k (mark done a)) ((lowest_ready N reads) done) refl
    where
      go : ((a : ℕ) → Turns (mark done a) ((order N reads) k (mark done a))) → (o : Option ℕ) →
          (lowest_ready N reads) done ≡ o
          → Turns done ((order N reads) (suc k) done)
      go rec none e = rw e tt
      go rec (some a) e = rw e (ready-is done a e, rec a)

  pub order-ends : (k : ℕ) (done : ℕ → Bool) → undone N done ≤ k →
      (lowest_ready N reads) ((mark_all N reads) done ((order N reads) k done)) ≡ none
  unfolding order mark_all
  order-ends zero done h = go ((lowest_ready N reads) done) refl
    where
      go : (o : Option ℕ) → (lowest_ready N reads) done ≡ o → (lowest_ready N reads) done ≡ none
      go none e = e
      go (some a) e =
          let r = ready-is done a e in
          absurd (true≢false (sym (none-undone N done (omega arith) a r.low) ∙ r.not_done))
  order-ends (suc k) done h = go (λ a. order-ends k (mark done a)) ((lowest_ready N reads) done) refl
    where
      go : ((a : ℕ) → undone N (mark done a) ≤ k →
          (lowest_ready N reads) ((mark_all N reads) (mark done a) ((order N reads) k (mark done a))) ≡ none)
          → (o : Option ℕ) → (lowest_ready N reads) done ≡ o →
          (lowest_ready N reads) ((mark_all N reads) done ((order N reads) (suc k) done)) ≡ none
      go rec none e = rw e e
      go rec (some a) e =
          let r = ready-is done a e in
          let u = undone-mark N done a r.low r.not_done in
          rw e (rec a (omega arith))

  turns_ordered : (l : List ℕ) (done : ℕ → Bool) → Turns done l → ((a : ℕ) → a < N → (mark_all N reads) done l a ≡ true)
      → Ordered done l
  unfolding mark_all
  turns_ordered [] done t h = h
  turns_ordered (a ∷ l) done t h = (t.0, turns_ordered l (mark done a) t.1 h)

  -- What is done reads only what is done, so no chain leaves it; and no loop goes through it.
  Closed : (ℕ → Bool) → Type 0
  Closed done = (a b : ℕ) → b < N → reads a b ≡ true → done a ≡ true → done b ≡ true

  Free : (ℕ → Bool) → Type 0
  Free done = (a : ℕ) → done a ≡ true → (Chain N reads) a a → ⊥

  module _ (low : (a b : ℕ) → reads a b ≡ true → (a < N) × (b < N)) where
    along : (done : ℕ → Bool) → Closed done → {a b : ℕ} → (Chain N reads) a b → done a ≡ true → done b ≡ true
    unfolding Closed
    along done closed {a} {b} (one r) d = closed a b (low a b r).1 r d
    along done closed {a} (more {b = c} r ch) d = along done closed ch (closed a c (low a c r).1 r d)

    closed-mark : (done : ℕ → Bool) (i : ℕ) → Ready done i → Closed done → Closed (mark done i)
    unfolding Closed
    closed-mark done i ready closed a b l r d = mark_keeps done i b (go (ℕ_discrete a i))
      where
        go : Dec (a ≡ i) → done b ≡ true
        go (yes p) = ready.has b l (rw p at r)
        go (no p) = closed a b l r (rw (mark-other done i a p) at d)

    no_loop_mark : (done : ℕ → Bool) (i : ℕ) → Ready done i → Closed done → Free done → Free (mark done i)
    unfolding Free
    no_loop_mark done i ready closed free a d = go (ℕ_discrete a i)
      where
        back : {b : ℕ} → (Chain N reads) i b → b ≡ i → ⊥
        back {b} (one r) e = true≢false (sym (ready.has b (low i b r).1 r) ∙ (rw e ready.not_done))
        back (more {b = c} r ch) e =
            true≢false (sym (along done closed ch (ready.has c (low i c r).1 r)) ∙ (rw e ready.not_done))

        go : Dec (a ≡ i) → (Chain N reads) a a → ⊥
        go (yes p) ch = back (rw p at ch) refl
        go (no p) ch = free a (rw (mark-other done i a p) at d) ch

    ordered_none : (l : List ℕ) (done : ℕ → Bool) → Ordered done l → Closed done → Free done → (a : ℕ) →
        (Chain N reads) a a → ⊥
    unfolding Free
    ordered_none [] done ord closed free a ch = free a (ord a (first ch)) ch
      where
        first : {b : ℕ} → (Chain N reads) a b → a < N
        first {b} (one r) = (low a b r).0
        first (more {b = c} r ch) = (low a c r).0
    ordered_none (i ∷ l) done ord closed free a ch =
        ordered_none l (mark done i) ord.1 (closed-mark done i ord.0 closed)
        (no_loop_mark done i ord.0 closed free) a ch

    -- The decision: from a start at which just the numbers that are no nodes are done, a node that never gets ready is
    -- there exactly where there is a loop; otherwise the order has all nodes, each after all that it reads.
    module _ (start : ℕ → Bool) (nodes : (a b : ℕ) → reads a b ≡ true → start a ≡ false) where
      abbrev pub whole : List ℕ
      whole = (order N reads) (undone N start) start

      pub ordered : is_some ((never_ready N reads) start) ≡ false → Ordered start whole
      unfolding never_ready
      ordered e =
          turns_ordered whole start (order_turns (undone N start) start)
          (λ a l. not-false ((mark_all N reads) start whole a)
          (lowest-none N _ (none_of ((never_ready N reads) start) e) a l))

      pub no_loop : is_some ((never_ready N reads) start) ≡ false → (Loop N reads) → ⊥
      unfolding Closed Free
      no_loop e loop =
          ordered_none whole start (ordered e) (λ a b l r d. absurd (apart a b r d)) (λ a d ch. first a d ch)
          loop.0 loop.1
        where
          apart : (a b : ℕ) → reads a b ≡ true → start a ≡ true → ⊥
          apart a b r d = true≢false (sym d ∙ nodes a b r)

          first : (a : ℕ) → start a ≡ true → {b : ℕ} → (Chain N reads) a b → ⊥
          first a d {b} (one r) = apart a b r d
          first a d (more {b = c} r ch) = apart a c r d

      pub loop_found : is_some ((never_ready N reads) start) ≡ true → (Loop N reads)
      unfolding never_ready
      loop_found e = go ((never_ready N reads) start) refl
        where
          go : (o : Option ℕ) → (never_ready N reads) start ≡ o → (Loop N reads)
          go none q = absurd (false≢true (rw q at e))
          go (some a) q =
              let f = lowest-some N (λ a. not ((mark_all N reads) start whole a)) a q in
              closes ((mark_all N reads) start whole) (order-ends (undone N start) start (omega arith)) a
              (record { low = f.below; not_done = not-true ((mark_all N reads) start whole a) f.holds })
