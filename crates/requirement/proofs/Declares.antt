-- The declared names of nets are those that the order of work reads; so both names of a net are declared or neither,
-- and every slot that is no source is declared as a current net, because its node's claim reads it.
use mathlib.Core.Path.{◌≡◌, refl, sym, ap, subst}
use mathlib.Core.Logic.{◌⊎◌, inl, inr, ⊎_elim}
use mathlib.Core.Bool.{Bool, true, false, not, cond, ◌&&◌}
use mathlib.Core.Option.{some}
use mathlib.Core.List.Memᴰ
use mathlib.Core.List.{List, [], ◌∷◌, ◌++◌, append_assoc, Memᴰ}
use Prim.Native.Nat.{ℕ, zero, suc, ◌+◌, ◌*◌, ◌-◌, ◌≤◌, ◌<◌}
use native.Mathlib.Omega.{arith}
use lib.Dec.{eqb, leb, ltb}
use borrow.Author.Tests.{ne_eqb, leb-true, ltb-true, le-leb, ltb-false}
use lib.ListN.{get_or, set}
use Rattle.logic.specs.Table.{tab}
use Rattle.logic.specs.Net.{Net, slot}
use Rattle.cell.specs.Cell.{Cell, output_len, slots_of}
use Rattle.cell.specs.Design.{Design, Placed, NetPair, total, is_in, cell_in, cell_of}
use Rattle.cell.specs.Role.{role, is_void}
use Rattle.right.specs.Laid.{Run, Laid}
use Rattle.engine.specs.Call.{Name, Call}
use Rattle.engine.specs.Call as c
use Rattle.working_out.specs.Reading.{reads_past, same_net, replacement_in, source, pair_of}
use Rattle.working_out.specs.Reading as reading
use Rattle.working_out.proofs.Replaced.{same-slot, pair-void}
use Rattle.working_out.proofs.Nodes.{Kind, of_cell, of_replaced, kind}
use Rattle.smt.specs.Prog.{Prog, ret, op, declare, bind, bind2, ◌>>=◌, Age, curr, past, Half, is_undef, is_one, TritVec}
use Rattle.smt.specs.Builder.{net_of, collect, value_of, curr_net, curr_value, output_nets, cell}
use Rattle.smt.specs.Emit.{St, emit, place, net_name, letter_of, suffix_of, learn, reread, bound, bound2}
use Rattle.smt.proofs.WpLaws.{place_inj, stored, and-true}
use Rattle.order.specs.Verify.{Step, declared, asserted, obliged, claim, replace_void_net, cell_steps, pair_steps, each_cell}
use Rattle.order.specs.Verify.{each_pair, steps, work, start, built}
use Rattle.order.specs.Reads.{NetRead, net_read, reads, step_reads, reads_of}
use Rattle.order.proofs.ReadsLaws.{name_of}
use Rattle.order.proofs.NetReads.{reads_seq, slot-reads}
use Rattle.order.proofs.Pairs.{reads-pairs}
use Rattle.order.proofs.Asserted.{asserted-some, asserted_claimed}
use Rattle.requirement.proofs.Exists.{zeros-none}
use Rattle.requirement.specs.Requirement3.{declared_names, IsDeclared, Declared}

-- ---- runs that read a net

module _ (r : NetRead) where
  abbrev Reading : {A : Type 0} → Prog A → Type 0
  Reading m = (s : St) → Memᴰ r (reads m s)

  reading_first : {A B : Type 0} (m : Prog A) (g : A → Prog B) → Reading m → Reading (m >>= g)
  reading_first m g h s = rw (reads_seq m g s) (Memᴰ.append_left _ (h s))

  reading_second : {A B : Type 0} (m : Prog A) (g : A → Prog B) → ((x : A) → Reading (g x)) → Reading (m >>= g)
  reading_second m g h s = rw (reads_seq m g s) (Memᴰ.append_right (reads m s) (h (emit m s).res (emit m s).st))

reading_net : (a : Age) (i : ℕ) (h : Half) → Reading (net_read a i h) (net_of a (slot i))
reading_net a i is_undef s = rw (slot-reads a i s) (Memᴰ.head refl)
reading_net a i is_one s = rw (slot-reads a i s) (Memᴰ.tail (Memᴰ.head refl))

-- A vector's read has each of its nets.
reading_collect : (r : NetRead) (f : Net → Prog TritVec) (n : Net) → Reading r (f n) → (nets : List Net) →
    Memᴰ n nets
    → Reading r (collect f nets)
unfolding collect
reading_collect r f n h [] x' = elim x' [ ]
reading_collect r f n h (m ∷ nets) (Memᴰ.head e) =
    reading_first r (f m) _ (subst (λ (x : Net). Reading r (f x)) e h)
reading_collect r f n h (m ∷ nets) (Memᴰ.tail q) =
    reading_second r (f m) _ (λ b. reading_first r (collect f nets) _ (reading_collect r f n h nets q))

reading_value : (r : NetRead) (f : Net → Prog TritVec) (n : Net) → Reading r (f n) → (nets : List Net) →
    Memᴰ n nets
    → Reading r (value_of f nets)
unfolding value_of
reading_value r f n h nets m = reading_first r (collect f nets) _ (reading_collect r f n h nets m)

-- A slot among a cell's outputs.
in_tab : {A : Type 0} (w : ℕ) (f : ℕ → A) (i : ℕ) → i < w → Memᴰ (f i) (tab w f)
unfolding tab
in_tab zero f i l = absurd (omega arith)
in_tab (suc w) f zero l = Memᴰ.head refl
in_tab (suc w) f (suc i) l = Memᴰ.tail (in_tab w (λ j. f (suc j)) i (omega arith))

reading_claim : (rp : ℕ → Bool) (s w i : ℕ) (h : Half) (a : Cell) → i < w →
    Reading (net_read curr (s + i) h) (claim rp s w a)
unfolding claim
reading_claim rp s w i h a l =
    reading_second _ (cell rp s w a) _ (λ terms.
    reading_first _ (curr_value (output_nets s w)) _
    (reading_value _ curr_net (slot (s + i)) (reading_net curr (s + i) h) (output_nets s w)
    (in_tab w (λ (j : ℕ). slot (s + j)) i l)))

reading_void : (rp : ℕ → Bool) (i : ℕ) (to : Net) (h : Half) →
    Reading (net_read curr i h) (replace_void_net rp (slot i) to)
unfolding replace_void_net
reading_void rp i to h = reading_first _ (curr_net (slot i)) _ (reading_net curr i h)

-- ---- steps that read a net

abbrev StepReading : NetRead → Step → Type 0
StepReading r (declared m) = Reading r m
StepReading r (asserted m) = Reading r m
StepReading r (obliged m) = Reading r m

abbrev SomeReading : NetRead → List Step → Type 0
SomeReading r [] = ⊥
SomeReading r (s ∷ rest) = StepReading r s ⊎ SomeReading r rest

in_left : (r : NetRead) (k l : List Step) → SomeReading r k → SomeReading r (k ++ l)
in_left r [] l h = absurd h
in_left r (s ∷ k) l h = ⊎_elim (λ m. inl m) (λ m. inr (in_left r k l m)) h

in_right : (r : NetRead) (k l : List Step) → SomeReading r l → SomeReading r (k ++ l)
in_right r [] l h = h
in_right r (s ∷ k) l h = inr (in_right r k l h)

some_read : (r : NetRead) (steps : List Step) → SomeReading r steps → (s : St) → Memᴰ r (step_reads steps s)
unfolding step_reads
some_read r [] h s = absurd h
some_read r (declared m ∷ rest) h s =
    ⊎_elim (λ q. Memᴰ.append_left _ (q s)) (λ q. Memᴰ.append_right (reads m s) (some_read r rest q (emit m s).st)) h
some_read r (asserted m ∷ rest) h s =
    ⊎_elim (λ q. Memᴰ.append_left _ (q s)) (λ q. Memᴰ.append_right (reads m s) (some_read r rest q (emit m s).st)) h
some_read r (obliged m ∷ rest) h s =
    ⊎_elim (λ q. Memᴰ.append_left _ (q s)) (λ q. Memᴰ.append_right (reads m s) (some_read r rest q (emit m s).st)) h

-- ---- a net's name is declared just where it is read

names_append : (cs ds : List Call) → declared_names (cs ++ ds) ≡ declared_names cs ++ declared_names ds
unfolding declared_names
names_append [] ds = refl
names_append (c.term t ∷ cs) ds = names_append cs ds
names_append (c.declare name w ∷ cs) ds = ap (λ (l : List Name). name ∷ l) (names_append cs ds)
names_append (c.assert k ∷ cs) ds = names_append cs ds
names_append (c.check ∷ cs) ds = names_append cs ds

pub declared-left : (cs ds : List Call) (name : Name) → IsDeclared cs name → IsDeclared (cs ++ ds) name
declared-left cs ds name m = rw (names_append cs ds) (Memᴰ.append_left (declared_names ds) m)

declared-right : (cs ds : List Call) (name : Name) → IsDeclared ds name → IsDeclared (cs ++ ds) name
declared-right cs ds name m = rw (names_append cs ds) (Memᴰ.append_right (declared_names cs) m)

pub declared_cases : (cs ds : List Call) (name : Name) → IsDeclared (cs ++ ds) name →
    IsDeclared cs name ⊎ IsDeclared ds name
declared_cases cs ds name m = Memᴰ.append_cases (declared_names cs) (rw (names_append cs ds) at m)

-- Every known name is among the declared names of some calls.
abbrev Listed : List ℕ → List Call → Type 0
Listed names cs = (a : Age) (i : ℕ) (h : Half) (k : ℕ) → get_or names (place a i h) 0 ≡ suc k →
    IsDeclared cs (net_name a i h)

-- What calls after `cs` do to the names that are known: those stay among the declared ones, every name that is read is
-- declared (a known one by a call before), and no name of a net is declared that is not read.
record Declaring (known known' : List ℕ) (ds : List Call) (rs : List NetRead) : Type 0 where
  listed : (cs : List Call) → Listed known cs → Listed known' (cs ++ ds)
  told : (cs : List Call) → Listed known cs → (r : NetRead) → Memᴰ r rs → IsDeclared (cs ++ ds) (name_of r)
  only : (a : Age) (i : ℕ) (h : Half) → IsDeclared ds (net_name a i h) → Memᴰ (net_read a i h) rs

declaring_then : {n m k : List ℕ} (ds es : List Call) (rs qs : List NetRead) → Declaring n m ds rs → Declaring m k es qs
    → Declaring n k (ds ++ es) (rs ++ qs)
declaring_then {n} {m} {k} ds es rs qs f g = record {
  listed = λ cs l. subst (Listed k) (append_assoc cs ds es) (g.listed (cs ++ ds) (f.listed cs l));
  told = λ cs l r q.
      subst (λ (calls : List Call). IsDeclared calls (name_of r)) (append_assoc cs ds es)
      (⊎_elim (λ p. declared-left (cs ++ ds) es (name_of r) (f.told cs l r p)) (g.told (cs ++ ds) (f.listed cs l) r)
      (Memᴰ.append_cases rs q));
  only = λ a i h q.
      ⊎_elim (λ p. Memᴰ.append_left qs (f.only a i h p)) (λ p. Memᴰ.append_right rs (g.only a i h p))
      (declared_cases ds es (net_name a i h) q);
}

-- Calls that declare temporaries alone.
declaring_none : (names : List ℕ) (ds : List Call) → ((n : Name) → IsDeclared ds n → n.letter ≡ c.t) →
    Declaring names names ds []
declaring_none names ds alone = record {
  listed = λ cs l a i h k e. declared-left cs ds (net_name a i h) (l a i h k e);
  told = λ cs l r q. absurd (Memᴰ.not-nil q);
  only = λ a i h q. absurd (no_net a (alone (net_name a i h) q));
}
  where
    no_net : (a : Age) → letter_of a ≡ c.t → ⊥
    no_net curr q = let z : ◌≡◌ {A = ℕ} 0 1 = cc in omega arith
    no_net past q = let z : ◌≡◌ {A = ℕ} 0 1 = cc in omega arith

letter_inj : (a b : Age) → letter_of a ≡ letter_of b → a ≡ b
letter_inj curr curr e = refl
letter_inj curr past e = absurd (let z : ◌≡◌ {A = ℕ} 0 1 = cc in omega arith)
letter_inj past curr e = absurd (let z : ◌≡◌ {A = ℕ} 0 1 = cc in omega arith)
letter_inj past past e = refl

suffix_inj : (h g : Half) → suffix_of h ≡ suffix_of g → h ≡ g
suffix_inj is_undef is_undef e = refl
suffix_inj is_undef is_one e = absurd (let z : ◌≡◌ {A = ℕ} 0 1 = cc in omega arith)
suffix_inj is_one is_undef e = absurd (let z : ◌≡◌ {A = ℕ} 0 1 = cc in omega arith)
suffix_inj is_one is_one e = refl

same_read : (a : Age) (i : ℕ) (h : Half) (b : Age) (j : ℕ) (g : Half) → net_name a i h ≡ net_name b j g → net_read a i h
    ≡ net_read b j g
same_read a i h b j g e =
    let age = letter_inj a b (ap (λ (n : Name). n.letter) e) in
    let half = suffix_inj h g (ap (λ (n : Name). n.suffix) e) in
    λ t. record { age = age t; slot = ap (λ (n : Name). n.index) e t; half = half t }

declaring_new : (a : Age) (i : ℕ) (h : Half) (n : ℕ) (names : List ℕ)
    → Declaring names (set names (place a i h) (suc n)) (c.declare (net_name a i h) 1 ∷ []) (net_read a i h ∷ [])
unfolding declared_names
declaring_new a i h n names = record {
  listed = λ cs l b j g k e.
      stored names (place a i h) (suc n) (place b j g) k e
      (λ p q. declared-right cs mine (net_name b j g) (Memᴰ.head (sym (place_inj a i h b j g p))))
      (λ p. declared-left cs mine (net_name b j g) (l b j g k p));
  told = λ cs l r q. declared-right cs mine (name_of r) (Memᴰ.head (ap name_of (Memᴰ.eq_of_singleton q)));
  only = λ b j g q. Memᴰ.head (same_read b j g a i h (Memᴰ.eq_of_singleton q));
}
  where
    mine : List Call
    mine = c.declare (net_name a i h) 1 ∷ []

declaring_known : (a : Age) (i : ℕ) (h : Half) (k : ℕ) (names : List ℕ) → get_or names (place a i h) 0 ≡ suc k
    → Declaring names names [] (net_read a i h ∷ [])
unfolding declared_names
declaring_known a i h k names e = record {
  listed = λ cs l b j g m q. declared-left cs [] (net_name b j g) (l b j g m q);
  told = λ cs l r q. declared-left cs [] (name_of r)
      (subst (λ (r : NetRead). IsDeclared cs (name_of r)) (sym (Memᴰ.eq_of_singleton q)) (l a i h k e));
  only = λ b j g q. absurd (Memᴰ.not-nil q);
}

emit-declares : {A : Type 0} (m : Prog A) (s : St) →
    Declaring s.names (emit m s).st.names (emit m s).calls (reads m s)
unfolding emit reads declared_names
emit-declares (ret a) s = declaring_none s.names [] (λ n q. absurd (Memᴰ.not-nil q))
emit-declares (op t f) s =
    declaring_then (c.term t ∷ []) _ [] _
    (declaring_none s.names (c.term t ∷ []) (λ n q. absurd (Memᴰ.not-nil q)))
    (emit-declares (f s.next) _)
emit-declares {A} (declare a i h f) s = go (λ k s. emit-declares (f k) s) (get_or s.names (place a i h) 0) refl
  where
    go : ((k : ℕ) (s : St) → Declaring s.names (emit (f k) s).st.names (emit (f k) s).calls (reads (f k) s))
        → (o : ℕ) → get_or s.names (place a i h) 0 ≡ o
        → Declaring s.names (emit (declare a i h f) s).st.names (emit (declare a i h f) s).calls
        (reads (declare a i h f) s)
    go rec zero e =
        rw e (declaring_then (c.declare (net_name a i h) 1 ∷ []) _ (net_read a i h ∷ []) _
        (declaring_new a i h s.next s.names)
        (rec s.next (learn a i h s)))
    go rec (suc k) e =
        rw e (declaring_then [] _ (net_read a i h ∷ []) _ (declaring_known a i h k s.names e) (rec k (reread a i s)))
emit-declares (bind w t f) s =
    declaring_then (bound s w t) _ [] _
    (declaring_none s.names (bound s w t) (λ n q. ap (λ (n : Name). n.letter) (Memᴰ.eq_of_singleton q)))
    (emit-declares (f s.next) _)
emit-declares (bind2 w x y f) s =
    declaring_then (bound2 s w x y) _ [] _
    (declaring_none s.names (bound2 s w x y) (λ n q.
    ⊎_elim (λ e. ap (λ (n : Name). n.letter) e) (λ p. ap (λ (n : Name). n.letter) (Memᴰ.eq_of_singleton p))
    (Memᴰ.cases_cons q)))
    (emit-declares (f s.next (suc s.next)) _)

work-declares : (steps : List Step) (s : St)
    → Declaring s.names (work steps s).st.names (work steps s).calls (step_reads steps s)
unfolding work step_reads declared_names
work-declares [] s = declaring_none s.names [] (λ n q. absurd (Memᴰ.not-nil q))
work-declares (declared m ∷ rest) s =
    declaring_then (emit m s).calls _ (reads m s) _ (emit-declares m s) (work-declares rest (emit m s).st)
work-declares (asserted m ∷ rest) s =
    let claimed = c.assert (emit m s).res ∷ [] in
    let names = (emit m s).st.names in
    declaring_then (emit m s).calls _ (reads m s) _ (emit-declares m s)
    (declaring_then claimed _ [] _ (declaring_none names claimed (λ n q. absurd (Memᴰ.not-nil q)))
    (work-declares rest (emit m s).st))
work-declares (obliged m ∷ rest) s =
    declaring_then (emit m s).calls _ (reads m s) _ (emit-declares m s) (work-declares rest (emit m s).st)

-- ---- of a design: a net's name is declared just where it is read, and a net by both its names or by none

module _ (d : Design) where
  pub read-declared : (r : NetRead) → Memᴰ r (reads_of d) → IsDeclared (built d).calls (name_of r)
  read-declared r q =
      (work-declares (steps d) (start (total d))).told []
      (λ a i h k e. absurd (zeros-none (4 * total d) (place a i h) k e)) r q

  pub declared-read : (a : Age) (i : ℕ) (h : Half) → IsDeclared (built d).calls (net_name a i h) →
      Memᴰ (net_read a i h) (reads_of d)
  declared-read a i h q = (work-declares (steps d) (start (total d))).only a i h q

  pub built-together : (a : Age) (i : ℕ) (h : Half) → IsDeclared (built d).calls (net_name a i h) →
      Declared (built d).calls a i
  built-together a i h q g = read-declared (net_read a i g) (reads-pairs d a i h g (declared-read a i h q))

-- ---- the nodes

in_range : (p : Placed) (i : ℕ) → is_in p i ≡ true → (p.slot ≤ i) × (i < p.slot + slots_of p.cell)
in_range p i e =
    let h = and-true (leb p.slot i) (ltb i (p.slot + slots_of p.cell)) e in
    (leb-true p.slot i h.0, ltb-true i (p.slot + slots_of p.cell) h.1)

past_range : (p : Placed) (i : ℕ) → is_in p i ≡ false → p.slot ≤ i → p.slot + slots_of p.cell ≤ i
past_range p i e l =
    let low : leb p.slot i ≡ true = le-leb p.slot i l in
    ltb-false i (p.slot + slots_of p.cell) (rw low at e)

module _ (d : Design) where
  cell-read : (p : Placed) (i : ℕ) (h : Half) → reading.asserted p.cell ≡ true → p.slot ≤ i →
      i < p.slot + slots_of p.cell
      → SomeReading (net_read curr i h) (cell_steps d p)
  cell-read p i h a low high =
      let w : 0 < output_len p.cell = asserted-some p.cell a in
      let ne : eqb (output_len p.cell) 0 ≡ false = ne_eqb (output_len p.cell) 0 (λ e. omega arith) in
      let e : p.slot + (i - p.slot) ≡ i = omega arith in
      rw (ne, asserted_claimed p.cell a)
      (inl (rw e
      at (reading_claim (reads_past d) p.slot (output_len p.cell) (i - p.slot) h p.cell (omega arith))))

  cells-read : (cells : List Placed) (s e i : ℕ) (h : Half) → Run s cells e → s ≤ i → i < e →
      reading.asserted (cell_in cells i).cell ≡ true
      → SomeReading (net_read curr i h) (each_cell d cells)
  unfolding cell_in each_cell
  cells-read [] s e i h run low high a = absurd (omega arith)
  cells-read (p ∷ cells) s e i h run low high a =
      go (λ l. cells-read cells (s + slots_of p.cell) e i h run.1 l high) (is_in p i) refl a
    where
      go : (s + slots_of p.cell ≤ i → reading.asserted (cell_in cells i).cell ≡ true →
          SomeReading (net_read curr i h) (each_cell d cells))
          → (b : Bool) → is_in p i ≡ b → reading.asserted (cond b p (cell_in cells i)).cell ≡ true →
          SomeReading (net_read curr i h) (cell_steps d p ++ each_cell d cells)
      go rec true q a =
          let r = in_range p i q in
          in_left (net_read curr i h) (cell_steps d p) (each_cell d cells) (cell-read p i h a r.0 r.1)
      go rec false q a =
          in_right (net_read curr i h) (cell_steps d p) (each_cell d cells)
          (rec (let l = past_range p i q (omega arith) in omega arith) a)

  -- A replaced Void's pair asserts it.
  pairs-read : (pairs : List NetPair) (i : ℕ) (to : Net) (h : Half) → is_void (role (cell_of d i).cell) ≡ true →
      replacement_in pairs i ≡ some to
      → SomeReading (net_read curr i h) (each_pair d pairs)
  unfolding replacement_in each_pair
  pairs-read [] i to h v e = absurd (let z : ◌≡◌ {A = ℕ} 0 1 = cc in omega arith)
  pairs-read (p ∷ pairs) i to h v e =
      go (λ q. pairs-read pairs i to h v q) (same_net p.from (slot i)) refl (same_net p.from p.to) refl e
    where
      rest : SomeReading (net_read curr i h) (each_pair d pairs) →
          SomeReading (net_read curr i h) (pair_steps (reads_past d) d.mode (pair_of d p) p ++ each_pair d pairs)
      rest m = in_right (net_read curr i h) (pair_steps (reads_past d) d.mode (pair_of d p) p) (each_pair d pairs) m

      go : (replacement_in pairs i ≡ some to → SomeReading (net_read curr i h) (each_pair d pairs)) → (a : Bool) →
          same_net p.from (slot i) ≡ a
          → (b : Bool) → same_net p.from p.to ≡ b → cond (a && not b) (some p.to) (replacement_in pairs i)
          ≡ some to
          → SomeReading (net_read curr i h) (pair_steps (reads_past d) d.mode (pair_of d p) p ++ each_pair d pairs)
      go rec true qa false qb q =
          let from = same-slot p.from i qa in
          in_left (net_read curr i h) (pair_steps (reads_past d) d.mode (pair_of d p) p) (each_pair d pairs)
          (rw (pair-void d p qb (rw from v)) (inl (rw from (reading_void (reads_past d) i p.to h))))
      go rec true qa true qb q = rest (rec q)
      go rec false qa b qb q = rest (rec q)

  -- Every slot that is no source is declared as a current net, by the calls but the query.
  pub nodes_declared : Laid d → (i : ℕ) → i < total d → source d i ≡ false → Declared (built d).calls curr i
  nodes_declared laid i low node h =
      read-declared d (net_read curr i h) (some_read (net_read curr i h) (steps d) (go (kind d i node)) (start (total d)))
    where
      go : Kind d i → SomeReading (net_read curr i h) (steps d)
      go (of_cell v a e) =
          in_left (net_read curr i h) (each_cell d d.cells) (each_pair d d.net_reps)
          (cells-read d.cells 0 (total d) i h laid.run (omega arith) low a)
      go (of_replaced to v r e) =
          in_right (net_read curr i h) (each_cell d d.cells) (each_pair d d.net_reps)
          (pairs-read d.net_reps i to h v r)
