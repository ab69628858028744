-- Temporaries exist: whatever bits the nets have, the temporaries can be chosen so that every call of a safe run
-- holds, and the run's calls are well sorted. The values of the terms and of the temporaries are those that running
-- the calls gives.
use mathlib.Core.Path.{◌≡◌, refl, sym, ap, ◌∙◌}
use mathlib.Core.Bool.{Bool, true, false, not, cond}
use mathlib.Core.List.{List, [], ◌∷◌, ◌++◌}
use Prim.Native.Nat.{ℕ, zero, suc, ◌+◌, ◌≤◌, ◌<◌}
use native.Mathlib.Omega.{arith}
use native.Mathlib.Nat.{le_refl}
use lib.ListN.{length, get_or, length-append, get_or-append}
use lib.Seq.{get_or-append-add}
use Rattle.bitvec.specs.Bits.{Bits}
use Rattle.bitvec.proofs.Laws.{length-concat, length-extract, length-bvnot, length-bvand, length-bvor, length-bvxor}
use Rattle.bitvec.proofs.Laws.{length-bvadd, length-bvshl, length-bvlshr, length-bvashr, length-bvmul}
use Rattle.bitvec.proofs.Laws.{length-bvudiv, length-bvurem, length-bvsdiv, length-bvsrem}
use Rattle.bitvec.proofs.Numbers.{equal-refl}
use Rattle.engine.specs.Call.{Name, Letter, Suffix, Term, Call, BinaryOp}
use Rattle.engine.specs.Call as c
use Rattle.engine.specs.Meaning.{Value, bool, bits, as_bool, as_bits, equal_values, Assignment, denote, denote_op, value_at}
use Rattle.engine.specs.Meaning.{arguments_of, All, Earlier, Holds}
use Rattle.engine.proofs.Laws.{All-map, denote_ext, length_snoc}
use Rattle.engine.specs.Sorts.{Sort, binary_sort}
use Rattle.smt.specs.Prog.{Prog, ret, op, declare, bind, bind2, Age, curr, past, Half, is_undef, is_one}
use Rattle.smt.specs.Emit.{St, net_name, temp_name, place, at, reread, learn, known, emit}
use Rattle.smt.specs.Wp.{Known}
use Rattle.smt.proofs.WpLaws.{place_inj, stored}
use Rattle.smt.specs.Formula.{NetBits}
use Rattle.soundness.proofs.Safe.{Truth, Width, sort_under, Fine, safe}

-- ---- a list that goes on

pub record Extends {A : Type 0} (d : A) (l m : List A) : Type 0 where
  pub le : length l ≤ length m
  pub same : (k : ℕ) → k < length l → get_or m k d ≡ get_or l k d

pub extends_trans : {A : Type 0} (d : A) (l m n : List A) → Extends d l m → Extends d m n → Extends d l n
extends_trans d l m n p q = record {
  le = let a = p.le in let b = q.le in omega arith;
  same = λ k h. q.same k (let a = p.le in omega arith) ∙ p.same k h;
}

pub extends_refl : {A : Type 0} (d : A) (l : List A) → Extends d l l
extends_refl d l = record { le = le_refl (length l); same = λ k h. refl }

pub extends_append : {A : Type 0} (d : A) (l m : List A) → Extends d l (l ++ m)
extends_append d l m = record { le = simp length-append (omega arith); same = λ k h. get_or-append l m d k h }

-- An element appended, seen in the list that goes on.
pub seen_at : {A : Type 0} (d : A) (l m L : List A) (k j n : ℕ) → length l ≡ k → k + j ≡ n → j < length m
    → Extends d (l ++ m) L
    → get_or L n d ≡ get_or m j d
seen_at d l m L k j n e f h x = x.same n (simp length-append (omega arith)) ∙ (rw (← f, ← e) (get_or-append-add l m j d))

-- ---- sorts of values

abbrev pub sort_of_value : Value → Sort
sort_of_value (bool b) = 0
sort_of_value (bits s) = length s

is-vector : (a : Value) → 1 ≤ sort_of_value a → a ≡ bits (as_bits a)
is-vector (bool b) h = absurd (omega arith)
is-vector (bits s) h = refl

length-as_bits : (a : Value) → length (as_bits a) ≡ sort_of_value a
length-as_bits (bool b) = refl
length-as_bits (bits s) = refl

equal_values-refl : (a : Value) → equal_values a a ≡ true
equal_values-refl (bool true) = refl
equal_values-refl (bool false) = refl
equal_values-refl (bits s) = equal-refl s

pub fine_arguments : (n : ℕ) (σ : ℕ → Sort) (t : Term) → Fine n σ t → All (λ a. a < n) (arguments_of t)
fine_arguments n σ (c.bool_lit b) h = tt
fine_arguments n σ (c.bool_ite i a b) h = (h.0.0, (h.1.0, (h.2.0, tt)))
fine_arguments n σ (c.not a) h = (h.0, tt)
fine_arguments n σ (c.and args) h = All-map (Truth n σ) (λ a. a < n) (λ a g. g.0) args h.2
fine_arguments n σ (c.lit s) h = tt
fine_arguments n σ (c.equal a b) h = (h.0, (h.1, tt))
fine_arguments n σ (c.ite i a b) h = (h.0.0, (h.1.0.0, (h.1.1, tt)))
fine_arguments n σ (c.concat a b) h = (h.0, (h.1, tt))
fine_arguments n σ (c.extract i j a) h = (h.0, tt)
fine_arguments n σ (c.bvnot a) h = (h.0, tt)
fine_arguments n σ (c.op2 o a b) h = (h.0.0, (h.1, tt))
fine_arguments n σ (c.compare o a b) h = (h.0.0, (h.1, tt))

-- The value of a well-sorted term has its sort.
module _ (v : ℕ → Value) where
  abbrev pub sorts : ℕ → Sort
  sorts k = sort_of_value (v k)

  alike : (a b : ℕ) → sorts b ≡ sorts a → length (as_bits (v a)) ≡ length (as_bits (v b))
  alike a b e = length-as_bits (v a) ∙ sym e ∙ sym (length-as_bits (v b))

  op2-sort : (o : BinaryOp) (s t : Bits) → length s ≡ length t → length (denote_op o s t) ≡ binary_sort o (length s)
  op2-sort c.bvand s t e = length-bvand s t e
  op2-sort c.bvor s t e = length-bvor s t e
  op2-sort c.bvxor s t e = length-bvxor s t e
  op2-sort c.bvadd s t e = length-bvadd s t
  op2-sort c.bvcomp s t e = refl
  op2-sort c.bvshl s t e = length-bvshl s t
  op2-sort c.bvlshr s t e = length-bvlshr s t
  op2-sort c.bvashr s t e = length-bvashr s t
  op2-sort c.bvmul s t e = length-bvmul s t
  op2-sort c.bvudiv s t e = length-bvudiv s t
  op2-sort c.bvurem s t e = length-bvurem s t
  op2-sort c.bvsdiv s t e = length-bvsdiv s t
  op2-sort c.bvsrem s t e = length-bvsrem s t

  pub denote-sort : (n : ℕ) (t : Term) → Fine n sorts t → sort_of_value (denote v t) ≡ sort_under sorts t
  denote-sort n (c.bool_lit b) h = refl
  denote-sort n (c.bool_ite i a b) h = refl
  denote-sort n (c.not a) h = refl
  denote-sort n (c.and args) h = refl
  denote-sort n (c.lit s) h = refl
  denote-sort n (c.equal a b) h = refl
  denote-sort n (c.ite i a b) h = pick (as_bool (v i)) ∙ length-as_bits (v a)
    where
      pick : (q : Bool) → length (cond q (as_bits (v a)) (as_bits (v b))) ≡ length (as_bits (v a))
      pick true = refl
      pick false = sym (alike a b h.1.2)
  denote-sort n (c.concat a b) h =
      length-concat (as_bits (v a)) (as_bits (v b)) ∙ (let p = length-as_bits (v a) in let q = length-as_bits (v b) in
      omega arith)
  denote-sort n (c.extract i j a) h = length-extract i j (as_bits (v a)) (let p = length-as_bits (v a) in omega arith)
  denote-sort n (c.bvnot a) h = length-bvnot (as_bits (v a)) ∙ length-as_bits (v a)
  denote-sort n (c.op2 o a b) h = op2-sort o (as_bits (v a)) (as_bits (v b)) (alike a b h.2)
      ∙ ap (binary_sort o) (length-as_bits (v a))
  denote-sort n (c.compare o a b) h = refl

-- ---- well-sorted calls

-- Calls whose first term has number n: arguments earlier and of their sorts, widths from 1 to 64.
abbrev pub WellSorted : (ℕ → Sort) → ℕ → List Call → Type 0
WellSorted σ n [] = Unit {0}
WellSorted σ n (c.term t ∷ cs) = Fine n σ t × (σ n ≡ sort_under σ t) × WellSorted σ (suc n) cs
WellSorted σ n (c.declare d w ∷ cs) = Width w × (σ n ≡ w) × WellSorted σ (suc n) cs
WellSorted σ n (c.assert a ∷ cs) = Truth n σ a × WellSorted σ n cs
WellSorted σ n (c.check ∷ cs) = WellSorted σ n cs

pub sorted_earlier : (σ : ℕ → Sort) (n : ℕ) (cs : List Call) → WellSorted σ n cs → Earlier n cs
sorted_earlier σ n [] h = tt
sorted_earlier σ n (c.term t ∷ cs) h = (fine_arguments n σ t h.0, sorted_earlier σ (suc n) cs h.2)
sorted_earlier σ n (c.declare d w ∷ cs) h = sorted_earlier σ (suc n) cs h.2
sorted_earlier σ n (c.assert a ∷ cs) h = (h.0.0, sorted_earlier σ n cs h.1)
sorted_earlier σ n (c.check ∷ cs) h = sorted_earlier σ n cs h

-- ---- running a run

-- A temporary's bits by its suffix.
abbrev pub Temp : Type 0
Temp = Suffix → Bits

abbrev pub no_temp : Temp
no_temp s = []

abbrev pub single : Bits → Temp
single x s = x

abbrev pub double : Bits → Bits → Temp
double x y c.none = []
double x y c.x = x
double x y c.y = y

-- The values of the terms, and the temporaries, so far.
pub record Ran : Type 0 where
  pub values : List Value
  pub temps : List Temp

-- The assignment of a net's bits and the temporaries.
abbrev pub net_or_temp : NetBits → List Temp → Letter → ℕ → Suffix → Bits
net_or_temp b ts c.n i c.none = []
net_or_temp b ts c.n i c.x = b curr i is_undef ∷ []
net_or_temp b ts c.n i c.y = b curr i is_one ∷ []
net_or_temp b ts c.p i c.none = []
net_or_temp b ts c.p i c.x = b past i is_undef ∷ []
net_or_temp b ts c.p i c.y = b past i is_one ∷ []
net_or_temp b ts c.t i s = get_or ts i no_temp s

abbrev pub assigned : NetBits → List Temp → Assignment
assigned b ts d = net_or_temp b ts d.letter d.index d.suffix

pub assigned-net : (b : NetBits) (ts : List Temp) (a : Age) (i : ℕ) (h : Half) → assigned b ts (net_name a i h)
    ≡ b a i h ∷ []
assigned-net b ts curr i is_undef = refl
assigned-net b ts curr i is_one = refl
assigned-net b ts past i is_undef = refl
assigned-net b ts past i is_one = refl

module _ (b : NetBits) where
  unfoldable pub exec : {A : Type 0} → Prog A → St → List Value → List Temp → Ran
  exec (ret a) s l ts = record { values = l; temps = ts }
  exec (op t f) s l ts = exec (f s.next) (at (suc s.next) s.temp s) (l ++ (denote (value_at l) t ∷ [])) ts
  exec (declare a i h f) s l ts =
      known (get_or s.names (place a i h) 0)
      (exec (f s.next) (learn a i h s) (l ++ (bits (b a i h ∷ []) ∷ [])) ts)
      (λ k. exec (f k) (reread a i s) l ts)
  exec (bind w t f) s l ts =
      exec (f s.next) (at (suc (suc s.next)) (suc s.temp) s) (l ++ (value_at l t ∷ bool true ∷ []))
      (ts ++ (single (as_bits (value_at l t)) ∷ []))
  exec (bind2 w x y f) s l ts =
      exec (f s.next (suc s.next)) (at (suc (suc (suc (suc s.next)))) (suc s.temp) s)
      (l ++ (value_at l x ∷ value_at l y ∷ bool true ∷ bool true ∷ []))
      (ts ++ (double (as_bits (value_at l x)) (as_bits (value_at l y)) ∷ []))

  pub record Grows (l : List Value) (ts : List Temp) (r : Ran) : Type 0 where
    pub values : Extends (bool false) l r.values
    pub temps : Extends no_temp ts r.temps

  grow : (l m : List Value) (ts us : List Temp) (r : Ran) → Grows (l ++ m) (ts ++ us) r → Grows l ts r
  grow l m ts us r g = record {
    values = extends_trans (bool false) l (l ++ m) r.values (extends_append (bool false) l m) g.values;
    temps = extends_trans no_temp ts (ts ++ us) r.temps (extends_append no_temp ts us) g.temps;
  }

  growl : (l m : List Value) (ts : List Temp) (r : Ran) → Grows (l ++ m) ts r → Grows l ts r
  growl l m ts r g = record {
    values = extends_trans (bool false) l (l ++ m) r.values (extends_append (bool false) l m) g.values;
    temps = g.temps;
  }

  pub grows : {A : Type 0} (m : Prog A) (s : St) (l : List Value) (ts : List Temp) → Grows l ts (exec m s l ts)
  unfolding exec
  grows (ret a) s l ts = record { values = extends_refl (bool false) l; temps = extends_refl no_temp ts }
  grows (op t f) s l ts = growl l _ ts _ (grows (f s.next) _ _ ts)
  grows (declare a i h f) s l ts =
      go (growl l _ ts _ (grows (f s.next) (learn a i h s) _ ts)) (λ k. grows (f k) (reread a i s) l ts)
      (get_or s.names (place a i h) 0)
    where
      go : Grows l ts (exec (f s.next) (learn a i h s) (l ++ (bits (b a i h ∷ []) ∷ [])) ts)
          → ((k : ℕ) → Grows l ts (exec (f k) (reread a i s) l ts)) → (o : ℕ)
          → Grows l ts (known o (exec (f s.next) (learn a i h s) (l ++ (bits (b a i h ∷ []) ∷ [])) ts)
          (λ k. exec (f k) (reread a i s) l ts))
      go new old zero = new
      go new old (suc k) = old k
  grows (bind w t f) s l ts = grow l _ ts _ _ (grows (f s.next) _ _ _)
  grows (bind2 w x y f) s l ts = grow l _ ts _ _ (grows (f s.next (suc s.next)) _ _ _)

-- ---- the calls hold

-- Over the values and the temporaries of the whole list.
module _ (slots : ℕ) (b : NetBits) (L : List Value) (TS : List Temp) where
  abbrev pub v : ℕ → Value
  v = value_at L

  abbrev pub ρ : Assignment
  ρ = assigned b TS

  abbrev pub σ : ℕ → Sort
  σ = sorts v

  -- The state and what has been run agree.
  pub record Here (s : St) (l : List Value) (ts : List Temp) : Type 0 where
    pub terms : length l ≡ s.next
    pub temps : length ts ≡ s.temp
    pub names : (a : Age) (i : ℕ) (h : Half) (k : ℕ) → get_or s.names (place a i h) 0 ≡ suc k
        → (v k ≡ bits (ρ (net_name a i h))) × (k < s.next)

  pub record Met {A : Type 0} (n : ℕ) (calls : List Call) (s : St) (a : A) (r : Ran) (Q : ℕ → A → Type 0) : Type 0 where
    pub holds : (rest : List Call) → Holds ρ v s.next rest → Holds ρ v n (calls ++ rest)
    pub sorted : (rest : List Call) → WellSorted σ s.next rest → WellSorted σ n (calls ++ rest)
    pub post : Q s.next a
    pub here : Here s r.values r.temps

  one : (a : Age) (i : ℕ) (h : Half) → length (ρ (net_name a i h)) ≡ 1
  one a i h = ap length (assigned-net b TS a i h)

  pub here-known : (s : St) (l : List Value) (ts : List Temp) → Here s l ts → Known ρ v s.names
  here-known s l ts h a i g k e = record { is = (h.names a i g k e).0; one = one a i g }

  here_on : (s : St) (l m : List Value) (ts us : List Temp) (k j : ℕ) → Here s l ts → s.next + length m ≡ k
      → s.temp + length us ≡ j
      → Here (at k j s) (l ++ m) (ts ++ us)
  here_on s l m ts us k j h e f = record {
    terms = simp length-append (let a = h.terms in omega arith);
    temps = simp length-append (let a = h.temps in omega arith);
    names = λ a i g k q. ((h.names a i g k q).0, let u = (h.names a i g k q).1 in omega arith);
  }

  op-here : (s : St) (l : List Value) (a : Value) (ts : List Temp) → Here s l ts
      → Here (at (suc s.next) s.temp s) (l ++ (a ∷ [])) ts
  op-here s l a ts h = record {
    terms = length_snoc l a ∙ ap suc h.terms;
    temps = h.temps;
    names = λ a i g k q. ((h.names a i g k q).0, let u = (h.names a i g k q).1 in omega arith);
  }

  learn-here : (a : Age) (i : ℕ) (g : Half) (s : St) (l : List Value) (ts : List Temp) → Here s l ts → v s.next
      ≡ bits (ρ (net_name a i g))
      → (u : Value) → Here (learn a i g s) (l ++ (u ∷ [])) ts
  learn-here a i g s l ts h new u = record {
    terms = length_snoc l u ∙ ap suc h.terms;
    temps = h.temps;
    names = λ d j f k e.
        stored s.names (place a i g) (suc s.next) (place d j f) k e
        (λ p q. let same : s.next ≡ k = omega arith in
        (ap v (sym same) ∙ new ∙ ap (λ (n : Name). bits (ρ n)) (place_inj a i g d j f p), omega arith))
        (λ p. ((h.names d j f k p).0, let q = (h.names d j f k p).1 in omega arith));
  }

  reread-here : (a : Age) (i : ℕ) (s : St) (l : List Value) (ts : List Temp) → Here s l ts → Here (reread a i s) l ts
  reread-here a i s l ts h = record { terms = h.terms; temps = h.temps; names = h.names }

  denote_seen : (s : St) (l : List Value) (t : Term) → length l ≡ s.next
      → Extends (bool false) (l ++ (denote (value_at l) t ∷ [])) L
      → Fine s.next σ t → v s.next ≡ denote v t
  denote_seen s l t len x w =
      let a = denote (value_at l) t in
      let x_l : Extends (bool false) l L = extends_trans (bool false) l (l ++ (a ∷ [])) L
      (extends_append (bool false) l (a ∷ [])) x in
      seen_at (bool false) l (a ∷ []) L s.next 0 s.next len (omega arith) (omega arith) x
      ∙ denote_ext (value_at l) v t
      (All-map (λ k. k < s.next) (λ k. value_at l k ≡ v k) (λ k q. sym (x_l.same k (omega arith))) (arguments_of t)
      (fine_arguments s.next σ t w))

  equal_seen : (a d k : ℕ) → v a ≡ v d → v k ≡ bool true → v k ≡ denote v (c.equal a d)
  equal_seen a d k e t = t ∙ ap bool (sym (equal_values-refl (v d)))
      ∙ ap bool (ap (λ (q : Value). equal_values q (v d)) (sym e))

  pub meets : {A : Type 0} (m : Prog A) (s : St) (l : List Value) (ts : List Temp) (Q : ℕ → A → Type 0) → Here s l ts
      → Extends (bool false) (exec b m s l ts).values L → Extends no_temp (exec b m s l ts).temps TS
      → safe slots σ s.next m Q
      → Met s.next (emit m s).calls (emit m s).st (emit m s).res (exec b m s l ts) Q
  unfolding emit exec
  meets (ret a) s l ts Q h x y w = record { holds = λ rest r. r; sorted = λ rest r. r; post = w; here = h }
  meets (op t f) s l ts Q h x y w =
      let s₁ : St = at (suc s.next) s.temp s in
      let l₁ : List Value = l ++ (denote (value_at l) t ∷ []) in
      let e : v s.next ≡ denote v t =
      denote_seen s l t h.terms (extends_trans (bool false) l₁ _ L (grows b (f s.next) s₁ l₁ ts).values x)
      w.0 in
      let sort : σ s.next ≡ sort_under σ t = ap sort_of_value e ∙ denote-sort v s.next t w.0 in
      let r = meets (f s.next) s₁ l₁ ts Q (op-here s l (denote (value_at l) t) ts h) x y
      (w.1 (record { k = s.next; m = suc s.next; le = omega arith; lt = omega arith; sort = sort })) in
      record {
        holds = λ rest q. (e, r.holds rest q);
        sorted = λ rest q. (w.0, sort, r.sorted rest q);
        post =
            r.post;
        here = r.here;
      }
  meets {A} (declare a i g f) s l ts Q h x y w = go (λ k s l. meets (f k) s l ts Q)
      (get_or s.names (place a i g) 0) refl
    where
      go : ((k : ℕ) (s : St) (l : List Value) → Here s l ts → Extends (bool false) (exec b (f k) s l ts).values L
          → Extends no_temp (exec b (f k) s l ts).temps TS → safe slots σ s.next (f k) Q
          → Met s.next (emit (f k) s).calls (emit (f k) s).st (emit (f k) s).res (exec b (f k) s l ts) Q)
          → (o : ℕ) → get_or s.names (place a i g) 0 ≡ o
          → Met s.next (emit (declare a i g f) s).calls (emit (declare a i g f) s).st
          (emit (declare a i g f) s).res
          (exec b (declare a i g f) s l ts) Q
      go rec zero e =
          let new : Value = bits (b a i g ∷ []) in
          let run : Ran = exec b (f s.next) (learn a i g s) (l ++ (new ∷ [])) ts in
          let x' : Extends (bool false) run.values L = rw e at x in
          let y' : Extends no_temp run.temps TS = rw e at y in
          let is : v s.next ≡ bits (ρ (net_name a i g)) =
          seen_at (bool false) l (new ∷ []) L s.next 0 s.next h.terms (omega arith) (omega arith)
          (extends_trans (bool false) _ _ L (grows b (f s.next) (learn a i g s) (l ++ (new ∷ [])) ts).values x')
          ∙ ap bits (sym (assigned-net b TS a i g)) in
          let sort : σ s.next ≡ 1 = ap sort_of_value is ∙ one a i g in
          let r = rec s.next (learn a i g s) (l ++ (new ∷ [])) (learn-here a i g s l ts h is new) x' y'
          (w.1 (record { k = s.next; m = suc s.next; le = omega arith; lt = omega arith; sort = sort })) in
          rw e (record {
            holds = λ rest q. (is, one a i g, r.holds rest q);
            sorted = λ rest q. (omega arith, sort, r.sorted rest q);
            post = r.post;
            here = r.here;
          })
      go rec (suc k) e =
          let run : Ran = exec b (f k) (reread a i s) l ts in
          let x' : Extends (bool false) run.values L = rw e at x in
          let y' : Extends no_temp run.temps TS = rw e at y in
          let q = h.names a i g k e in
          let lt : k < s.next = q.1 in
          rw e (rec k (reread a i s) l (reread-here a i s l ts h) x' y'
          (w.1 (record { k = k; m = s.next; le = omega arith; lt = lt; sort = ap sort_of_value q.0 ∙ one a i g })))
  meets (bind n t f) s l ts Q h x y w =
      let s₁ : St = at (suc (suc s.next)) (suc s.temp) s in
      let m₁ : List Value = value_at l t ∷ bool true ∷ [] in
      let u₁ : List Temp = single (as_bits (value_at l t)) ∷ [] in
      let g = grows b (f s.next) s₁ (l ++ m₁) (ts ++ u₁) in
      let xl : Extends (bool false) (l ++ m₁) L = extends_trans (bool false) (l ++ m₁) _ L g.values x in
      let xt : Extends no_temp (ts ++ u₁) TS = extends_trans no_temp (ts ++ u₁) _ TS g.temps y in
      let len = h.terms in
      let lt : t < s.next = w.0 in
      let ct : v t ≡ value_at l t = (extends_trans (bool false) l (l ++ m₁) L
      (extends_append (bool false) l m₁) xl).same t (omega arith) in
      let c0 : v s.next ≡ value_at l t = seen_at (bool false) l m₁ L s.next 0 s.next len (omega arith)
      (omega arith) xl in
      let c1 : v (suc s.next) ≡ bool true = seen_at (bool false) l m₁ L s.next 1 (suc s.next) len
      (omega arith) (omega arith) xl in
      let c_t : get_or TS s.temp no_temp ≡ single (as_bits (value_at l t)) =
      seen_at no_temp ts u₁ TS s.temp 0 s.temp h.temps (omega arith) (omega arith) xt in
      let sort : σ s.next ≡ n = ap sort_of_value (c0 ∙ sym ct) ∙ w.1 in
      let vt : value_at l t ≡ bits (as_bits (value_at l t)) =
      is-vector (value_at l t) (let a = w.2 in let d = ap sort_of_value c0 in omega arith) in
      let is : v s.next ≡ bits (ρ (temp_name s.temp c.none)) = c0 ∙ vt
      ∙ ap bits (sym (ap (λ (q : Temp). q c.none) c_t)) in
      let width : length (ρ (temp_name s.temp c.none)) ≡ n = sym (ap sort_of_value is) ∙ sort in
      let eq = equal_seen s.next t (suc s.next) (c0 ∙ sym ct) c1 in
      let r = meets (f s.next) s₁ (l ++ m₁) (ts ++ u₁) Q
      (here_on s l m₁ ts u₁ (suc (suc s.next)) (suc s.temp) h (omega arith) (omega arith)) x y
      (w.3 (record { k = s.next; m = suc (suc s.next); le = omega arith; lt = omega arith; sort = sort })) in
      let narrow = w.2 in
      record {
        holds = λ rest q. (is, width, (eq, (c1, r.holds rest q)));
        sorted = λ rest q. (
          narrow,
          sort,
          (
            (omega arith, omega arith, omega arith, w.1 ∙ sym sort),
            ap sort_of_value c1,
            ((omega arith, ap sort_of_value c1), r.sorted rest q),
          ),
        );
        post = r.post;
        here = r.here;
      }
  meets (bind2 n p d f) s l ts Q h x y w =
      let s₁ : St = at (suc (suc (suc (suc s.next)))) (suc s.temp) s in
      let m₁ : List Value = value_at l p ∷ value_at l d ∷ bool true ∷ bool true ∷ [] in
      let u₁ : List Temp = double (as_bits (value_at l p)) (as_bits (value_at l d)) ∷ [] in
      let g = grows b (f s.next (suc s.next)) s₁ (l ++ m₁) (ts ++ u₁) in
      let xl : Extends (bool false) (l ++ m₁) L = extends_trans (bool false) (l ++ m₁) _ L g.values x in
      let xt : Extends no_temp (ts ++ u₁) TS = extends_trans no_temp (ts ++ u₁) _ TS g.temps y in
      let len = h.terms in
      let lp : p < s.next = w.0 in
      let ld : d < s.next = w.1 in
      let x_l = extends_trans (bool false) l (l ++ m₁) L (extends_append (bool false) l m₁) xl in
      let cp : v p ≡ value_at l p = x_l.same p (omega arith) in
      let cd : v d ≡ value_at l d = x_l.same d (omega arith) in
      let c0 : v s.next ≡ value_at l p = seen_at (bool false) l m₁ L s.next 0 s.next len (omega arith)
      (omega arith) xl in
      let c1 : v (suc s.next) ≡ value_at l d = seen_at (bool false) l m₁ L s.next 1 (suc s.next) len
      (omega arith) (omega arith) xl in
      let c2 : v (suc (suc s.next)) ≡ bool true = seen_at (bool false) l m₁ L s.next 2 (suc (suc s.next)) len
      (omega arith) (omega arith) xl in
      let c3 : v (suc (suc (suc s.next))) ≡ bool true =
      seen_at (bool false) l m₁ L s.next 3 (suc (suc (suc s.next))) len (omega arith) (omega arith) xl in
      let c_t : get_or TS s.temp no_temp ≡ double (as_bits (value_at l p)) (as_bits (value_at l d)) =
      seen_at no_temp ts u₁ TS s.temp 0 s.temp h.temps (omega arith) (omega arith) xt in
      let sp : σ s.next ≡ n = ap sort_of_value (c0 ∙ sym cp) ∙ w.2 in
      let sd : σ (suc s.next) ≡ n = ap sort_of_value (c1 ∙ sym cd) ∙ w.3 in
      let narrow : Width n = w.4 in
      let vp : value_at l p ≡ bits (as_bits (value_at l p)) =
      is-vector (value_at l p) (let e = ap sort_of_value c0 in omega arith) in
      let vd : value_at l d ≡ bits (as_bits (value_at l d)) =
      is-vector (value_at l d) (let e = ap sort_of_value c1 in omega arith) in
      let is_p : v s.next ≡ bits (ρ (temp_name s.temp c.x)) = c0 ∙ vp
      ∙ ap bits (sym (ap (λ (q : Temp). q c.x) c_t)) in
      let is_d : v (suc s.next) ≡ bits (ρ (temp_name s.temp c.y)) = c1 ∙ vd
      ∙ ap bits (sym (ap (λ (q : Temp). q c.y) c_t)) in
      let wp' : length (ρ (temp_name s.temp c.x)) ≡ n = sym (ap sort_of_value is_p) ∙ sp in
      let wd' : length (ρ (temp_name s.temp c.y)) ≡ n = sym (ap sort_of_value is_d) ∙ sd in
      let eq_p = equal_seen s.next p (suc (suc s.next)) (c0 ∙ sym cp) c2 in
      let eq_d = equal_seen (suc s.next) d (suc (suc (suc s.next))) (c1 ∙ sym cd) c3 in
      let r = meets (f s.next (suc s.next)) s₁ (l ++ m₁) (ts ++ u₁) Q
      (here_on s l m₁ ts u₁ (suc (suc (suc (suc s.next)))) (suc s.temp) h (omega arith) (omega arith)) x y
      (w.5 (record {
        k = s.next;
        l = suc s.next;
        m = suc (suc (suc (suc s.next)));
        le = omega arith;
        ltk =
            omega arith;
        ltl = omega arith;
        sortk = sp;
        sortl = sd;
      })) in
      record {
        holds = λ rest q. (is_p, wp', (is_d, wd', (eq_p, (c2, (eq_d, (c3, r.holds rest q))))));
        sorted = λ rest q. (
          narrow,
          sp,
          (
            narrow,
            sd,
            (
              (omega arith, omega arith, omega arith, w.2 ∙ sym sp),
              ap sort_of_value c2,
              (
                (omega arith, ap sort_of_value c2),
                (
                  (omega arith, omega arith, omega arith, w.3 ∙ sym sd),
                  ap sort_of_value c3,
                  ((omega arith, ap sort_of_value c3), r.sorted rest q),
                ),
              ),
            ),
          ),
        );
        post = r.post;
        here = r.here;
      }
