-- The calls of a safe run are formed, as fault 19 asks: well sorted, each name declared once, numbers within a word.
use mathlib.Core.Path.{◌≡◌, refl, sym, ap, ap₂, ◌∙◌}
use mathlib.Core.Bool.{false}
use mathlib.Core.List.{List, [], ◌∷◌, ◌++◌, Memᴰ}
use Prim.Native.Nat.{ℕ, zero, suc, ◌+◌, ◌*◌, ◌≤◌, ◌<◌}
use native.Mathlib.Omega.{arith}
use native.Mathlib.Decide.{ℕ_discrete}
use native.Mathlib.Nat.{le_refl, le_trans}
use lib.ListN.{length, get_or, set, length-set, get_or-append}
use lib.Seq.{get_or-append_seam, get_or-set_same}
use Rattle.engine.specs.Call.{Name, Letter, Suffix, Term, Call}
use Rattle.engine.specs.Call as c
use Rattle.engine.specs.Meaning.{arguments_of, terms}
use Rattle.engine.proofs.Laws.{All-map, length_snoc}
use Rattle.engine.specs.Sorts.{Sort, sort_at, sort_of, IsBool, Context, Formed, payload_limit, count_limit}
use Rattle.engine.specs.Sorts as sorts
use Rattle.smt.specs.Prog.{Prog, ret, op, declare, bind, bind2, Age, curr, past, Half, is_undef, is_one}
use Rattle.smt.specs.Emit.{St, net_name, temp_name, place, at, reread, learn, after, emit, known}
use Rattle.smt.proofs.WpLaws.{stored}
use Rattle.soundness.proofs.Safe.{Truth, sort_under, Fine, safe}
use Rattle.soundness.proofs.Solve.{WellSorted, fine_arguments}

-- ---- what is left of Formed: names and numbers

-- Each declared name is new, and its index is a word's number; nothing follows check.
abbrev pub NewNames : List Name → List Call → Type 0
NewNames names [] = Unit {0}
NewNames names (c.term t ∷ cs) = NewNames names cs
NewNames names (c.declare d w ∷ cs) = (Memᴰ d names → ⊥) × (d.index < payload_limit) × NewNames (d ∷ names) cs
NewNames names (c.assert k ∷ cs) = NewNames names cs
NewNames names (c.check ∷ cs) = cs ≡ []

-- The sorts of the terms so far are those of σ.
pub record Sorted (σ : ℕ → Sort) (n : ℕ) (l : List Sort) : Type 0 where
  pub many : length l ≡ n
  pub each : (k : ℕ) → k < n → sort_at l k ≡ σ k

sorted_snoc : (σ : ℕ → Sort) (n : ℕ) (l : List Sort) (s : Sort) → Sorted σ n l → σ n ≡ s
    → Sorted σ (suc n) (l ++ (s ∷ []))
sorted_snoc σ n l s h e = record { many = length_snoc l s ∙ ap suc h.many; each = λ k b. go k b (ℕ_discrete k n) }
  where
    go : (k : ℕ) → k < suc n → Dec (k ≡ n) → sort_at (l ++ (s ∷ [])) k ≡ σ k
    go k b (yes q) = rw (q, ← h.many) (get_or-append_seam l s [] 65 ∙ sym e ∙ ap σ (sym h.many))
    go k b (no q) = get_or-append l (s ∷ []) 65 k (let m = h.many in omega arith) ∙ h.each k (omega arith)

-- Sorts as SMT-LIB asks of the list are those asked of σ.
module _ (σ : ℕ → Sort) (n : ℕ) (l : List Sort) (h : Sorted σ n l) where
  same-sort : (t : Term) → Fine n σ t → sort_of l t ≡ sort_under σ t
  same-sort (c.bool_lit b) f = refl
  same-sort (c.bool_ite i a b) f = refl
  same-sort (c.not a) f = refl
  same-sort (c.and args) f = refl
  same-sort (c.lit s) f = refl
  same-sort (c.equal a b) f = refl
  same-sort (c.ite i a b) f = h.each a f.1.0.0
  same-sort (c.concat a b) f = ap₂ ◌+◌ (h.each a f.0) (h.each b f.1)
  same-sort (c.extract i j a) f = refl
  same-sort (c.bvnot a) f = h.each a f.0
  same-sort (c.op2 o a b) f = ap (sorts.binary_sort o) (h.each a f.0.0)
  same-sort (c.compare o a b) f = refl

  well_sorted : (t : Term) → Fine n σ t → sorts.WellSorted l t
  well_sorted (c.bool_lit b) f = tt
  well_sorted (c.bool_ite i a b) f = (
    h.each i f.0.0 ∙ f.0.1,
    h.each a f.1.0 ∙ f.1.1,
    h.each b f.2.0
        ∙ f.2.1,
  )
  well_sorted (c.not a) f = h.each a f.0 ∙ f.1
  well_sorted (c.and args) f = (
    f.0,
    All-map (Truth n σ) (λ a. IsBool (sort_at l a))
        (λ a g. h.each a g.0 ∙ g.1) args f.2,
  )
  well_sorted (c.lit s) f = f
  well_sorted (c.equal a b) f = rw (h.each a f.0, h.each b f.1) (f.2, f.3)
  well_sorted (c.ite i a b) f = rw (h.each i f.0.0, h.each a f.1.0.0, h.each b f.1.1)
      (f.0.1, (f.1.0.1, f.1.0.2), f.1.2)
  well_sorted (c.concat a b) f = let ea = h.each a f.0 in let eb = h.each b f.1 in omega arith
  well_sorted (c.extract i j a) f = let ea = h.each a f.0 in omega arith
  well_sorted (c.bvnot a) f = let ea = h.each a f.0 in omega arith
  well_sorted (c.op2 o a b) f = let ea = h.each a f.0.0 in let eb = h.each b f.1 in omega arith
  well_sorted (c.compare o a b) f = let ea = h.each a f.0.0 in let eb = h.each b f.1 in omega arith

few : (t : Term) (n : ℕ) (σ : ℕ → Sort) → Fine n σ t → length (arguments_of t) < count_limit
few (c.bool_lit b) n σ f = omega arith
few (c.bool_ite i a b) n σ f = omega arith
few (c.not a) n σ f = omega arith
few (c.and args) n σ f = f.1
few (c.lit s) n σ f = omega arith
few (c.equal a b) n σ f = omega arith
few (c.ite i a b) n σ f = omega arith
few (c.concat a b) n σ f = omega arith
few (c.extract i j a) n σ f = omega arith
few (c.bvnot a) n σ f = omega arith
few (c.op2 o a b) n σ f = omega arith
few (c.compare o a b) n σ f = omega arith

-- Well-sorted calls with new names, and no more terms than a word can number, are formed.
pub formed : (σ : ℕ → Sort) (n : ℕ) (x : Context) (cs : List Call) → x.checked ≡ false → Sorted σ n x.sorts
    → WellSorted σ n cs
    → NewNames x.names cs → n + terms cs ≤ payload_limit → Formed x cs
unfolding terms
formed σ n x [] e h w d l = tt
formed σ n x (c.term t ∷ cs) e h w d l = (
  e,
  (
    well_sorted σ n x.sorts h t w.0,
    All-map (λ a. a < n) (λ a. a < payload_limit) (λ a b. omega arith)
        (arguments_of t) (fine_arguments n σ t w.0),
    few t n σ w.0,
  ),
  formed σ (suc n) _ cs e (sorted_snoc σ n x.sorts _ h (w.1 ∙ sym (same-sort σ n x.sorts h t w.0))) w.2 d
      (omega arith),
)
formed σ n x (c.declare name k ∷ cs) e h w d l = (
  e,
  (d.0, w.0, d.1),
  formed σ (suc n) _ cs e (sorted_snoc σ n x.sorts k h w.1) w.2 d.2 (omega arith),
)
formed σ n x (c.assert k ∷ cs) e h w d l =
    (e, (h.each k w.0.0 ∙ w.0.1, let b = w.0.0 in omega arith), formed σ n x cs e h w.1 d l)
formed σ n x (c.check ∷ cs) e h w d l = (e, tt, rw d tt)

-- ---- the names of a run are new

-- Where a name would stand among the nets' names.
abbrev letter_place : Letter → ℕ
letter_place c.n = 0
letter_place c.p = 2
letter_place c.t = 0

abbrev suffix_place : Suffix → ℕ
suffix_place c.none = 0
suffix_place c.x = 0
suffix_place c.y = 1

place_of : Name → ℕ
place_of d = 4 * d.index + (letter_place d.letter + suffix_place d.suffix)

place_of_lem : (a : Age) (i : ℕ) (h : Half) → place_of (net_name a i h) ≡ place a i h
unfolding place_of
place_of_lem curr i is_undef = refl
place_of_lem curr i is_one = refl
place_of_lem past i is_undef = refl
place_of_lem past i is_one = refl

-- A net's name is no temporary's.
is_temp : Letter → ℕ
is_temp c.n = 0
is_temp c.p = 0
is_temp c.t = 1

net_no_temp : (a : Age) (i : ℕ) (h : Half) (j : ℕ) (s : Suffix) → net_name a i h ≡ temp_name j s → ⊥
unfolding is_temp
net_no_temp curr i h j s e = let z : ◌≡◌ {A = ℕ} 0 1 = ap (λ (d : Name). is_temp d.letter) e in omega arith
net_no_temp past i h j s e = let z : ◌≡◌ {A = ℕ} 0 1 = ap (λ (d : Name). is_temp d.letter) e in omega arith

pub kept : (l : List ℕ) (i a j : ℕ) → get_or (set l i (suc a)) j 0 ≡ 0 → get_or l j 0 ≡ 0
kept [] i a j e = e
kept (x ∷ l) zero a zero e = absurd (omega arith)
kept (x ∷ l) zero a (suc j) e = e
kept (x ∷ l) (suc i) a zero e = e
kept (x ∷ l) (suc i) a (suc j) e = kept l i a j e

module _ (slots : ℕ) where
  -- The names declared so far are known to the state: nets by their places, temporaries by their count.
  pub record Declared (names : List Name) (s : St) : Type 0 where
    pub size : length s.names ≡ 4 * slots
    pub nets : (a : Age) (i : ℕ) (h : Half) → Memᴰ (net_name a i h) names → get_or s.names (place a i h) 0 ≡ 0 → ⊥
    pub temps : (j : ℕ) (u : Suffix) → Memᴰ (temp_name j u) names → j < s.temp

  declared-net : (a : Age) (i : ℕ) (h : Half) (names : List Name) (s : St) → i < slots → Declared names s
      → Declared (net_name a i h ∷ names) (learn a i h s)
  declared-net a i h names s l d = record {
    size = length-set s.names (place a i h) (suc s.next) ∙ d.size;
    nets = λ b j g m e. go b j g m e;
    temps = λ j u m. old j u m;
  }
    where
      inside : (a : Age) (h : Half) → place a i h < length s.names
      inside curr is_undef = let e = d.size in omega arith
      inside curr is_one = let e = d.size in omega arith
      inside past is_undef = let e = d.size in omega arith
      inside past is_one = let e = d.size in omega arith

      go : (b : Age) (j : ℕ) (g : Half) → Memᴰ (net_name b j g) (net_name a i h ∷ names)
          → get_or (set s.names (place a i h) (suc s.next)) (place b j g) 0 ≡ 0 → ⊥
      go b j g (Memᴰ.head q) e =
          let same : place b j g ≡ place a i h = sym (place_of_lem b j g) ∙ ap place_of q ∙ place_of_lem a i h in
          let z = sym (get_or-set_same s.names (place a i h) (suc s.next) 0 (inside a h))
          ∙ ap (λ (k : ℕ). get_or (set s.names (place a i h) (suc s.next)) k 0) (sym same) ∙ e in
          omega arith
      go b j g (Memᴰ.tail m) e = d.nets b j g m (kept s.names (place a i h) s.next (place b j g) e)

      old : (j : ℕ) (u : Suffix) → Memᴰ (temp_name j u) (net_name a i h ∷ names) → j < s.temp
      old j u (Memᴰ.head q) = absurd (net_no_temp a i h j u (sym q))
      old j u (Memᴰ.tail m) = d.temps j u m

  -- A temporary of the next number.
  declared-temp : (u : Suffix) (n : ℕ) (names : List Name) (s : St) → Declared names (at n (suc s.temp) s)
      → Declared (temp_name s.temp u ∷ names) (at n (suc s.temp) s)
  declared-temp u n names s d = record { size = d.size; nets = λ a i h m. net a i h m; temps = λ j w m. temp j w m }
    where
      net : (a : Age) (i : ℕ) (h : Half) → Memᴰ (net_name a i h) (temp_name s.temp u ∷ names)
          → get_or s.names (place a i h) 0 ≡ 0 → ⊥
      net a i h (Memᴰ.head q) = absurd (net_no_temp a i h s.temp u q)
      net a i h (Memᴰ.tail m) = d.nets a i h m

      temp : (j : ℕ) (w : Suffix) → Memᴰ (temp_name j w) (temp_name s.temp u ∷ names) → j < suc s.temp
      temp j w (Memᴰ.head q) = let e = ap (λ (x : Name). x.index) q in omega arith
      temp j w (Memᴰ.tail m) = d.temps j w m

  more_temps : (n : ℕ) (names : List Name) (s : St) → Declared names s → Declared names (at n (suc s.temp) s)
  more_temps n names s d = record {
    size = d.size;
    nets = d.nets;
    temps = λ j u m. let l = d.temps j u m in
        omega arith;
  }

  fresh_temp : (u : Suffix) (names : List Name) (s : St) → Declared names s → Memᴰ (temp_name s.temp u) names → ⊥
  fresh_temp u names s d m = let l = d.temps s.temp u m in omega arith

  two_suffixes : (j : ℕ) → temp_name j c.y ≡ temp_name j c.x → ⊥
  two_suffixes j e = let z : ◌≡◌ {A = ℕ} 1 0 = ap (λ (d : Name). suffix_place d.suffix) e in omega arith

  -- A run takes no temporary back.
  pub temps_grow : {A : Type 0} (m : Prog A) (s : St) → s.temp ≤ (emit m s).st.temp
  unfolding emit
  temps_grow (ret a) s = le_refl s.temp
  temps_grow (op t f) s = temps_grow (f s.next) (at (suc s.next) s.temp s)
  temps_grow (declare a i h f) s =
      go (temps_grow (f s.next) (learn a i h s)) (λ k. temps_grow (f k) (reread a i s))
      (get_or s.names (place a i h) 0)
    where
      go : s.temp ≤ (emit (f s.next) (learn a i h s)).st.temp
          → ((k : ℕ) → s.temp ≤ (emit (f k) (reread a i s)).st.temp) → (o : ℕ)
          → s.temp ≤ (known o (after (c.declare (net_name a i h) 1 ∷ []) (emit (f s.next) (learn a i h s)))
          (λ k. emit (f k) (reread a i s))).st.temp
      go new old zero = new
      go new old (suc k) = old k
  temps_grow (bind w t f) s = let g = temps_grow (f s.next) (at (suc (suc s.next)) (suc s.temp) s) in
      omega arith
  temps_grow (bind2 w x y f) s =
      let g = temps_grow (f s.next (suc s.next)) (at (suc (suc (suc (suc s.next)))) (suc s.temp) s) in
      omega arith

  -- What follows a run declares new names too, whatever the run declared.
  abbrev pub Then : St → List Call → Type 0
  Then s rest = (names : List Name) → Declared names s → NewNames names rest

  -- The known names' terms are there, and are of one bit.
  abbrev pub KnownSorts : (ℕ → Sort) → St → Type 0
  KnownSorts σ s = (a : Age) (i : ℕ) (h : Half) (k : ℕ) → get_or s.names
      (place a i h) 0 ≡ suc k → (σ k ≡ 1) × (k < s.next)

  pub known_on : (σ : ℕ → Sort) (s : St) (n m : ℕ) → s.next ≤ n → KnownSorts σ s → KnownSorts σ (at n m s)
  known_on σ s n m l kn a i h k e = ((kn a i h k e).0, let q = (kn a i h k e).1 in omega arith)

  pub known_learnt : (σ : ℕ → Sort) (a : Age) (i : ℕ) (h : Half) (s : St) → σ s.next ≡ 1 → KnownSorts σ s
      → KnownSorts σ (learn a i h s)
  known_learnt σ a i h s new kn d j g k e =
      stored s.names (place a i h) (suc s.next) (place d j g) k e
      (λ p q. let same : s.next ≡ k = omega arith in (ap σ (sym same) ∙ new, omega arith))
      (λ p. ((kn d j g k p).0, let q = (kn d j g k p).1 in omega arith))

  pub emit-new : {A : Type 0} (σ : ℕ → Sort) (m : Prog A) (s : St) (Q : ℕ → A
      → Type 0) (names : List Name) (rest : List Call)
      → slots ≤ payload_limit → (emit m s).st.temp ≤ payload_limit → safe slots σ s.next m Q → KnownSorts σ s
      → WellSorted σ s.next ((emit m s).calls ++ rest)
      → Declared names s → Then (emit m s).st rest → NewNames names ((emit m s).calls ++ rest)
  unfolding emit
  emit-new σ (ret a) s Q names rest hs ht w kn f d k = k names d
  emit-new σ (op t g) s Q names rest hs ht w kn f d k =
      emit-new σ (g s.next) (at (suc s.next) s.temp s) Q names rest hs ht
      (w.1 (record { k = s.next; m = suc s.next; le = omega arith; lt = omega arith; sort = f.1 }))
      (known_on σ s (suc s.next) s.temp (omega arith) kn) f.2
      (record { size = d.size; nets = d.nets; temps = d.temps }) k
  emit-new {A} σ (declare a i h g) s Q names rest hs ht w kn f d k =
      go (λ k s names. emit-new σ (g k) s Q names rest hs) (get_or s.names (place a i h) 0) refl
    where
      go : ((k : ℕ) (s : St) (names : List Name) → (emit (g k) s).st.temp ≤ payload_limit
          → safe slots σ s.next (g k) Q → KnownSorts σ s
          → WellSorted σ s.next ((emit (g k) s).calls ++ rest) → Declared names s → Then (emit (g k) s).st rest
          → NewNames names ((emit (g k) s).calls ++ rest))
          → (o : ℕ) → get_or s.names (place a i h) 0 ≡ o → NewNames names ((emit (declare a i h g) s).calls ++ rest)
      go rec zero z =
          let n = s.next in
          let s₁ : St = learn a i h s in
          let f' : WellSorted σ n (c.declare (net_name a i h) 1 ∷ ((emit (g n) s₁).calls ++ rest)) = rw z at f in
          let ht' : (emit (g n) s₁).st.temp ≤ payload_limit = rw z at ht in
          let k' : Then (emit (g n) s₁).st rest = rw z at k in
          rw z (
            (λ m. d.nets a i h m z),
            le_trans w.0 hs,
            rec n s₁ (net_name a i h ∷ names) ht'
                (w.1 (record { k = n; m = suc n; le = omega arith; lt = omega arith; sort = f'.1 }))
                (known_learnt σ a i h s f'.1 kn) f'.2 (declared-net a i h names s w.0 d) k',
          )
      go rec (suc j) z =
          let q = kn a i h j z in
          let l : j < s.next = q.1 in
          let ht' : (emit (g j) (reread a i s)).st.temp ≤ payload_limit = rw z at ht in
          let k' : Then (emit (g j) (reread a i s)).st rest = rw z at k in
          rw z (rec j (reread a i s) names ht'
          (w.1 (record { k = j; m = s.next; le = omega arith; lt = l; sort = q.0 })) kn (rw z at f)
          (record { size = d.size; nets = d.nets; temps = d.temps }) k')
  emit-new σ (bind u t g) s Q names rest hs ht w kn f d k =
      let n = s.next in
      let s₁ : St = at (suc (suc n)) (suc s.temp) s in
      let grown = temps_grow (g n) s₁ in (
        fresh_temp c.none names s d,
        omega arith,
        emit-new σ (g n) s₁ Q (temp_name s.temp c.none ∷ names) rest hs ht
            (w.3 (record { k = n; m = suc (suc n); le = omega arith; lt = omega arith; sort = f.1 }))
            (known_on σ s (suc (suc n)) (suc s.temp) (omega arith) kn) f.2.2.1
            (declared-temp c.none (suc (suc n)) names s (more_temps (suc (suc n)) names s d)) k,
      )
  emit-new σ (bind2 u x y g) s Q names rest hs ht w kn f d k =
      let n = s.next in
      let m = suc (suc (suc (suc n))) in
      let s₁ : St = at m (suc s.temp) s in
      let grown = temps_grow (g n (suc n)) s₁ in
      let dx = declared-temp c.x m names s (more_temps m names s d) in (
        fresh_temp c.x names s d,
        omega arith,
        (
          fresh_y,
          omega arith,
          emit-new σ (g n (suc n)) s₁ Q (temp_name s.temp c.y ∷ temp_name s.temp c.x ∷ names) rest hs ht
              (w.5 (record {
                k = n;
                l = suc n;
                m = m;
                le = omega arith;
                ltk = omega arith;
                ltl = omega arith;
                sortk =
                    f.1;
                sortl = f.2.1;
              }))
              (known_on σ s m (suc s.temp) (omega arith) kn) f.2.2.2.1.2.1
              (declared-temp c.y m (temp_name s.temp c.x ∷ names) s dx) k,
        ),
      )
    where
      fresh_y : Memᴰ (temp_name s.temp c.y) (temp_name s.temp c.x ∷ names) → ⊥
      fresh_y (Memᴰ.head q) = two_suffixes s.temp q
      fresh_y (Memᴰ.tail q) = fresh_temp c.y names s d q
