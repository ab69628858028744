-- Laws of the definitions of System.
use mathlib.Core.Path.{◌≡◌, refl, sym, ap, ◌∙◌}
use mathlib.Core.Bool.{Bool, true, false, not, cond, ◌&&◌, ◌||◌, false≢true, true≢false}
use mathlib.Core.Option.{Option, none, some}
use mathlib.Core.List.{List, [], ◌∷◌, Memᴰ}
use Prim.Native.Nat.{ℕ, ◌<◌}
use native.Mathlib.Decide.{ℕ_discrete}
use lib.Dec.{eqb, eqb→eq}
use Rattle.working_out.proofs.OrderLaws.{none≢some, some_inj, eqb_same}
use Rattle.working_out.specs.Graph.{mark}
use Rattle.working_out.proofs.GraphLaws.{mark-other, mark_keeps, Ready, Ordered}
use Rattle.working_out.specs.System.{any, owns, is_node, start, reads, fill, work_out}

pub any_mem : (p : ℕ → Bool) {j : ℕ} {l : List ℕ} → Memᴰ j l → p j ≡ true → any p l ≡ true
unfolding any
any_mem p {j = j} (Memᴰ.head {x = x} q) e = rw (← q, e)
any_mem p (Memᴰ.tail {x = x} m) e = go (p x) (any_mem p m e)
  where
    go : (b : Bool) {c : Bool} → c ≡ true → (b || c) ≡ true
    go true e = refl
    go false e = e

module _ (owner : ℕ → Option ℕ) where
  pub owns_own : (a i : ℕ) → owner i ≡ some a → (owns owner) a i ≡ true
  unfolding owns
  owns_own a i e = rw e (eqb_same a)

  pub own_owns : (a i : ℕ) → (owns owner) a i ≡ true → owner i ≡ some a
  unfolding owns
  own_owns a i e = go (owner i) refl
    where
      go : (o : Option ℕ) → owner i ≡ o → owner i ≡ some a
      go none q = absurd (false≢true (rw q at e))
      go (some b) q = rw (eqb→eq b a (let t : eqb b a ≡ true = rw q at e in rw t tt)) at q

-- Every slot that belongs to a node is below N, and so is the node's first slot, which belongs to the node too.
pub record Owned (N : ℕ) (owner : ℕ → Option ℕ) : Type 0 where
  pub low : (i a : ℕ) → owner i ≡ some a → i < N
  pub first : (i a : ℕ) → owner i ≡ some a → owner a ≡ some a

module _ {A : Type 0} (owner : ℕ → Option ℕ) (F : ℕ → (ℕ → A) → A) where
  -- A solution: it shows what is given on the sources, and on every other slot what the slot's equation gives of it.
  pub record Solves (given val : ℕ → A) : Type 0 where
    pub sources : (i : ℕ) → owner i ≡ none → val i ≡ given i
    pub nodes : (i a : ℕ) → owner i ≡ some a → val i ≡ F i val

-- The equations of two systems with the same reads keep a relation between their values.
module _ {A B : Type 0} (owner : ℕ → Option ℕ) (current : ℕ → List ℕ) where
  abbrev pub Keeps : (ℕ → (ℕ → A) → A) → (ℕ → (ℕ → B) → B) → (A → B → Type 0) → Type 0
  Keeps F G R =
      (i a : ℕ) → owner i ≡ some a → (σ : ℕ → A) (τ : ℕ → B)
      → ((j : ℕ) → Memᴰ j (current a) → R (σ j) (τ j)) → R (F i σ) (G i τ)

-- Equations that look only at what their node reads.
abbrev pub Local : {A : Type 0} → (ℕ → Option ℕ) → (ℕ → List ℕ) → (ℕ → (ℕ → A) → A) → Type 0
Local owner current F = Keeps owner current F F (λ a b. a ≡ b)

-- What holds of the sources, and of the slots of what is done, holds of all that a ready node reads.
module _ (N : ℕ) (owner : ℕ → Option ℕ) (owned : Owned N owner) (current : ℕ → List ℕ) (P : ℕ → Type 0)
    (sources : (j : ℕ) → owner j ≡ none → P j) where
  abbrev Done : (ℕ → Bool) → Type 0
  Done done = (j b : ℕ) → owner j ≡ some b → done b ≡ true → P j

  pub ready-all : (done : ℕ → Bool) (a : ℕ) → owner a ≡ some a → Ready N (reads owner current) done a → Done done
      → (j : ℕ) → Memᴰ j (current a) → P j
  unfolding reads
  ready-all done a e ready h j m = go (owner j) refl
    where
      go : (o : Option ℕ) → owner j ≡ o → P j
      go none q = sources j q
      go (some b) q =
          let low = owned.low b b (owned.first j b q) in
          let read = any_mem (owns owner b) m (owns_own owner b j q) in
          let node = ap (λ (t : Bool). t && any (owns owner b) (current a)) (owns_own owner a a e) in
          h j b q (ready.has b low (node ∙ read))

-- A relation that the equations keep holds between two solutions.
module _ {A B : Type 0} (N : ℕ) (owner : ℕ → Option ℕ) (owned : Owned N owner) (current : ℕ → List ℕ)
    (F : ℕ → (ℕ → A) → A) (G : ℕ → (ℕ → B) → B) (R : A → B → Type 0) (keeps : Keeps owner current F G R)
    (σ : ℕ → A) (τ : ℕ → B)
    (σ-solves : (i a : ℕ) → owner i ≡ some a → σ i ≡ F i σ) (τ-solves : (i a : ℕ) → owner i ≡ some a → τ i ≡ G i τ)
    (sources : (i : ℕ) → owner i ≡ none → R (σ i) (τ i)) where
  from : (l : List ℕ) (done : ℕ → Bool) → Ordered N (reads owner current) done l
      → ((i a : ℕ) → owner i ≡ some a → done a ≡ true → R (σ i) (τ i)) → (i a : ℕ) → owner i ≡ some a → R (σ i) (τ i)
  from [] done ord h = λ i a e. h i a e (ord a (owned.low a a (owned.first i a e)))
  from (b ∷ l) done ord h = from l (mark done b) ord.1 (λ i a e d. step i a e d (ℕ_discrete a b))
    where
      step : (i a : ℕ) → owner i ≡ some a → mark done b a ≡ true → Dec (a ≡ b) → R (σ i) (τ i)
      step i a e d (yes p) =
          let own = rw p at (owned.first i a e) in
          let all = ready-all N owner owned current (λ j. R (σ j) (τ j)) sources done b own ord.0 h in
          rw (σ-solves i a e, τ-solves i a e) (keeps i b (rw p at e) σ τ all)
      step i a e d (no p) = h i a e (rw (mark-other done b a p) at d)

  pub related : (l : List ℕ) → Ordered N (reads owner current) (start owner) l → (i : ℕ) → R (σ i) (τ i)
  related l ord i = go (owner i) refl
    where
      apart : (i a : ℕ) → owner i ≡ some a → start owner a ≡ true → R (σ i) (τ i)
      apart i a e d = absurd (false≢true (rw (owns_own owner a a (owned.first i a e)) at d))

      go : (o : Option ℕ) → owner i ≡ o → R (σ i) (τ i)
      go none e = sources i e
      go (some a) e = from l (start owner) ord apart i a e

-- Working out solves the equations. What is done has its values, and reads only sources and what is done.
module _ {A : Type 0} (N : ℕ) (owner : ℕ → Option ℕ) (owned : Owned N owner) (current : ℕ → List ℕ)
    (F : ℕ → (ℕ → A) → A) (local : Local owner current F) (given : ℕ → A) where
  Settled : (ℕ → Bool) → ℕ → Type 0
  Settled done j = (b : ℕ) → owner j ≡ some b → done b ≡ true

  AllSettled : (ℕ → Bool) → ℕ → Type 0
  AllSettled done a = (j : ℕ) → Memᴰ j (current a) → Settled done j

  record Inv (done : ℕ → Bool) (val : ℕ → A) : Type 0 where
    sources : (i : ℕ) → owner i ≡ none → val i ≡ given i
    own : (i a : ℕ) → owner i ≡ some a → done a ≡ true → val i ≡ F i val
    closed : (a : ℕ) → owner a ≡ some a → done a ≡ true → AllSettled done a

  module _ (done : ℕ → Bool) (val : ℕ → A) (v : Inv done val) (b : ℕ)
      (ready : Ready N (reads owner current) done b) where
    fill_own : (i : ℕ) → owner i ≡ some b → fill owner F b val i ≡ F i val
    unfolding fill
    fill_own i e = ap (λ (t : Bool). cond t (F i val) (val i)) (owns_own owner b i e)

    fill-other : (i : ℕ) → (owner i ≡ some b → ⊥) → val i ≡ fill owner F b val i
    unfolding fill
    fill-other i ne = go (owns owner b i) refl
      where
        go : (t : Bool) → owns owner b i ≡ t → val i ≡ cond t (F i val) (val i)
        go true e = absurd (ne (own_owns owner b i e))
        go false e = refl

    settled_same : (j : ℕ) → Settled done j → val j ≡ fill owner F b val j
    unfolding Settled
    settled_same j s = fill-other j (λ e. true≢false (sym (s b e) ∙ ready.not_done))

    settled_mark : (j : ℕ) → Settled done j → Settled (mark done b) j
    unfolding Settled
    settled_mark j s c e = mark_keeps done b c (s c e)

    same : (i a : ℕ) → owner i ≡ some a → AllSettled done a → F i val ≡ F i (fill owner F b val)
    unfolding AllSettled
    same i a e h = local i a e val (fill owner F b val) (λ j m. settled_same j (h j m))

    settled : owner b ≡ some b → AllSettled done b
    unfolding Settled AllSettled
    settled e =
        ready-all N owner owned current (Settled done) (λ j q c e. absurd (none≢some (sym q ∙ e))) done b e ready
        (λ j b q d c e. rw (some_inj (sym q ∙ e)) at d)

    next : Inv (mark done b) (fill owner F b val)
    unfolding AllSettled
    next = record {
      sources = λ i e. sym (fill-other i (λ q. none≢some (sym e ∙ q))) ∙ v.sources i e;
      own = λ i a e d. own i a e d (ℕ_discrete a b);
      closed = λ a e d j m. settled_mark j (closed a e d (ℕ_discrete a b) j m);
    }
      where
        closed : (a : ℕ) → owner a ≡ some a → mark done b a ≡ true → Dec (a ≡ b) → AllSettled done a
        closed a e d (yes p) = rw p (settled (rw p at e))
        closed a e d (no p) = v.closed a e (rw (mark-other done b a p) at d)

        own : (i a : ℕ) → owner i ≡ some a → mark done b a ≡ true → Dec (a ≡ b)
            → fill owner F b val i ≡ F i (fill owner F b val)
        own i a e d (yes p) =
            let q : owner i ≡ some b = rw p at e in
            fill_own i q ∙ same i b q (settled (owned.first i b q))
        own i a e d (no p) =
            let da : done a ≡ true = rw (mark-other done b a p) at d in
            sym (fill-other i (λ q. p (some_inj (sym e ∙ q)))) ∙ v.own i a e da
            ∙ same i a e (v.closed a (owned.first i a e) da)

  end : (l : List ℕ) (done : ℕ → Bool) (val : ℕ → A) → Ordered N (reads owner current) done l → Inv done val
      → Solves owner F given (work_out owner F l val)
  unfolding work_out
  end [] done val ord v =
      record { sources = v.sources; nodes = λ i a e. v.own i a e (ord a (owned.low a a (owned.first i a e))) }
  end (b ∷ l) done val ord v = end l (mark done b) (fill owner F b val) ord.1 (next done val v b ord.0)

  pub solves : (l : List ℕ) → Ordered N (reads owner current) (start owner) l
      → Solves owner F given (work_out owner F l given)
  solves l ord = end l (start owner) given ord (record {
    sources = λ i e. refl;
    own = λ i a e d. absurd (apart a (owned.first i a e) d);
    closed = λ a e d. absurd (apart a e d);
  })
    where
      apart : (a : ℕ) → owner a ≡ some a → start owner a ≡ true → ⊥
      apart a e d = false≢true (rw (owns_own owner a a e) at d)

-- Only nodes read, and only nodes are read: what the decision of a loop asks of the reads (`no_loop`, `loop_found`).
module _ (N : ℕ) (owner : ℕ → Option ℕ) (owned : Owned N owner) (current : ℕ → List ℕ) where
  any_owned : (b : ℕ) (l : List ℕ) → any (owns owner b) l ≡ true → b < N
  unfolding any
  any_owned b [] e = absurd (false≢true e)
  any_owned b (j ∷ l) e = go (any_owned b l) (owns owner b j) refl e
    where
      go : (any (owns owner b) l ≡ true → b < N) → (t : Bool) → owns owner b j ≡ t → (t || any (owns owner b) l) ≡ true
          → b < N
      go rec true q h = owned.low b b (owned.first j b (own_owns owner b j q))
      go rec false q h = rec h

  pub reads_node : (a b : ℕ) → reads owner current a b ≡ true → start owner a ≡ false
  unfolding reads
  reads_node a b e = go (is_node owner a) e
    where
      go : (t : Bool) → (t && any (owns owner b) (current a)) ≡ true → not t ≡ false
      go true h = refl
      go false h = absurd (false≢true h)

  pub reads-low : (a b : ℕ) → reads owner current a b ≡ true → (a < N) × (b < N)
  unfolding reads
  reads-low a b e = go (is_node owner a) refl e
    where
      go : (t : Bool) → is_node owner a ≡ t → (t && any (owns owner b) (current a)) ≡ true → (a < N) × (b < N)
      go true q h = (owned.low a a (own_owns owner a a q), any_owned b (current a) h)
      go false q h = absurd (false≢true h)
