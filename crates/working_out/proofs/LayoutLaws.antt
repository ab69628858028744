-- Laws of the layout of an accepted list: the cell that a slot belongs to holds it, and is the cell of each slot that
-- it holds; the first slot of a node belongs to the node.
use mathlib.Core.Path.{◌≡◌, refl, sym, ap, ◌∙◌}
use mathlib.Core.Bool.{Bool, true, false, cond, ◌&&◌, false≢true, true≢false}
use mathlib.Core.Option.{Option, none, some}
use mathlib.Core.List.{List, [], ◌∷◌}
use Prim.Native.Nat.{ℕ, ◌+◌, ◌-◌, ◌≤◌, ◌<◌}
use native.Mathlib.Omega.{arith}
use native.Mathlib.Decide.{dec_lt}
use lib.Dec.{ltb, leb, le→leb, ltb→lt, lt→ltb}
use Rattle.logic.specs.Net.{Net}
use Rattle.cell.specs.Cell.{Cell, output_len, slots_of}
use Rattle.cell.specs.Cell as c
use Rattle.cell.specs.Design.{Design, Placed, total, is_in, cell_in, cell_of}
use Rattle.cell.specs.Role.{Role, void, given, dff, other, role, is_void}
use Rattle.cell.specs.Each.{Each}
use Rattle.right.specs.Laid.{Run, Laid}
use Rattle.working_out.proofs.OrderLaws.{none≢some, some_inj, true_of}
use Rattle.working_out.proofs.SystemLaws.{Owned}
use Rattle.working_out.specs.Reading.{replacement, source_by, source, node_of}

in_true : (p : Placed) (i : ℕ) → p.slot ≤ i → i < p.slot + slots_of p.cell → is_in p i ≡ true
in_true p i l h =
    let end = p.slot + slots_of p.cell in
    let starts = true_of (leb p.slot i) (le→leb p.slot i l) in
    let ends = true_of (ltb i end) (lt→ltb i end h) in
    rw (starts, ends)

in_false : (p : Placed) (i : ℕ) → p.slot + slots_of p.cell ≤ i → is_in p i ≡ false
in_false p i h = go (leb p.slot i) (ltb i (p.slot + slots_of p.cell)) refl
  where
    go : (a b : Bool) → ltb i (p.slot + slots_of p.cell) ≡ b → (a && b) ≡ false
    go false b e = refl
    go true false e = refl
    go true true e = absurd (let l = ltb→lt i (p.slot + slots_of p.cell) (rw e tt) in omega arith)

-- p, among cells that run from s up to e, holds slot i and is the cell of each slot that it holds.
pub record Located (s e : ℕ) (cells : List Placed) (i : ℕ) (p : Placed) : Type 0 where
  pub low : p.slot ≤ i
  pub high : i < p.slot + slots_of p.cell
  pub after : s ≤ p.slot
  pub before : p.slot + slots_of p.cell ≤ e
  pub whole : (j : ℕ) → p.slot ≤ j → j < p.slot + slots_of p.cell → cell_in cells j ≡ p

run_le : (cells : List Placed) (s e : ℕ) → Run s cells e → s ≤ e
run_le [] s e r = omega arith
run_le (p ∷ cells) s e r = let h = run_le cells (s + slots_of p.cell) e r.1 in omega arith

pub located : (cells : List Placed) (s e i : ℕ) → Run s cells e → s ≤ i → i < e → Located s e cells i (cell_in cells i)
unfolding cell_in
located [] s e i r l h = absurd (omega arith)
located (p ∷ cells) s e i r l h =
    go (located cells (s + slots_of p.cell) e i r.1) (dec_lt i (s + slots_of p.cell))
  where
    rest : s + slots_of p.cell ≤ e
    rest = run_le cells (s + slots_of p.cell) e r.1

    go : (s + slots_of p.cell ≤ i → i < e → Located (s + slots_of p.cell) e cells i (cell_in cells i))
        → Dec (i < s + slots_of p.cell) → Located s e (p ∷ cells) i (cell_in (p ∷ cells) i)
    go rec (yes y) = rw (in_true p i (omega arith) (omega arith)) here
      where
        here : Located s e (p ∷ cells) i p
        here = record {
          low = omega arith;
          high = omega arith;
          after = omega arith;
          before = omega (arith, rest);
          whole = λ j a b. rw (in_true p j a b);
        }
    go rec (no n) = rw (in_false p i (omega arith)) (later (rec (omega arith) h))
      where
        later : Located (s + slots_of p.cell) e cells i (cell_in cells i) → Located s e (p ∷ cells) i (cell_in cells i)
        later q = record {
          low = q.low;
          high = q.high;
          after = let a = q.after in omega arith;
          before = q.before;
          whole = λ j a b. let f = q.after in rw (in_false p j (omega arith)) (q.whole j a b);
        }

pub beyond : (cells : List Placed) (s e i : ℕ) → Run s cells e → e ≤ i
    → cell_in cells i ≡ record { slot = i; cell = c.note }
unfolding cell_in
beyond [] s e i r h = refl
beyond (p ∷ cells) s e i r h =
    let start = r.0 in
    let rest = run_le cells (s + slots_of p.cell) e r.1 in
    rw (in_false p i (omega arith)) (beyond cells (s + slots_of p.cell) e i r.1 h)

-- What holds of each cell holds of the cell of each slot, and the other way round.
pub each_at : (P : Placed → Type 0) (cells : List Placed) (s e i : ℕ) → Run s cells e → s ≤ i → i < e → Each P cells
    → P (cell_in cells i)
unfolding cell_in
each_at P [] s e i r l h each = absurd (omega arith)
each_at P (p ∷ cells) s e i r l h each =
    go (λ low. each_at P cells (s + slots_of p.cell) e i r.1 low h each.1) (dec_lt i (s + slots_of p.cell))
  where
    go : (s + slots_of p.cell ≤ i → P (cell_in cells i)) → Dec (i < s + slots_of p.cell) → P (cell_in (p ∷ cells) i)
    go rec (yes y) = rw (in_true p i (omega arith) (omega arith)) each.0
    go rec (no n) = rw (in_false p i (omega arith)) (rec (omega arith))

pub at_each : (P : Placed → Type 0) (cells : List Placed) (s e : ℕ) → Run s cells e
    → ((i : ℕ) → s ≤ i → i < e → P (cell_in cells i)) → Each P cells
unfolding cell_in
at_each P [] s e r h = tt
at_each P (p ∷ cells) s e r h = (here, at_each P cells (s + slots_of p.cell) e r.1 later)
  where
    here : P p
    here =
        let rest = run_le cells (s + slots_of p.cell) e r.1 in
        rw (in_true p p.slot (omega arith) (omega arith)) at (h p.slot (omega arith) (omega arith))

    later : (i : ℕ) → s + slots_of p.cell ≤ i → i < e → P (cell_in cells i)
    later i low high = rw (in_false p i (omega arith)) at (h i (omega arith) high)

-- A Void has one slot.
pub void-one : (a : Cell) → is_void (role a) ≡ true → slots_of a ≡ 1
void-one c.void e = refl
void-one c.note e = refl
void-one (c.input n) e = absurd (false≢true e)
void-one (c.io_buf n) e = absurd (false≢true e)
void-one (c.unary op a) e = absurd (false≢true e)
void-one (c.binary op a b) e = absurd (false≢true e)
void-one (c.mux s a b) e = absurd (false≢true e)
void-one (c.adc a b carry) e = absurd (false≢true e)
void-one (c.aig a b) e = absurd (false≢true e)
void-one (c.shift op value amount stride) e = absurd (false≢true e)
void-one (c.match value enable patterns) e = absurd (false≢true e)
void-one (c.assign value enable update offset) e = absurd (false≢true e)
void-one (c.dff f) e = absurd (false≢true e)

source_plain : (r : Role) (w : ℕ) (t u : Option Net) → is_void r ≡ false → source_by r w t ≡ source_by r w u
source_plain void w t u e = absurd (true≢false e)
source_plain given w t u e = refl
source_plain dff w t u e = refl
source_plain other w t u e = refl

-- A slot is a source, or belongs to the node that its cell's first slot names.
pub source-none : (d : Design) (i : ℕ) → source d i ≡ true → node_of d i ≡ none
unfolding node_of
source-none d i e = rw e

pub source-some : (d : Design) (i : ℕ) → source d i ≡ false → node_of d i ≡ some (cell_of d i).slot
unfolding node_of
source-some d i e = rw e

pub record Belongs (d : Design) (i a : ℕ) : Type 0 where
  pub node : source d i ≡ false
  pub named : (cell_of d i).slot ≡ a

pub belongs : (d : Design) (i a : ℕ) → node_of d i ≡ some a → Belongs d i a
unfolding node_of
belongs d i a e = go (source d i) refl e
  where
    go : (b : Bool) → source d i ≡ b → cond b none (some (cell_of d i).slot) ≡ some a → Belongs d i a
    go true q f = absurd (none≢some f)
    go false q f = record { node = q; named = some_inj f }

pub none-source : (d : Design) (i : ℕ) → node_of d i ≡ none → source d i ≡ true
unfolding node_of
none-source d i e = go (source d i) refl e
  where
    go : (b : Bool) → source d i ≡ b → cond b none (some (cell_of d i).slot) ≡ none → source d i ≡ true
    go true q f = q
    go false q f = absurd (none≢some (sym f))

module _ (d : Design) (laid : Laid d) where
  -- A slot past the last cell is a source.
  pub belongs_low : (i a : ℕ) → node_of d i ≡ some a → i < total d
  belongs_low i a e = go (dec_lt i (total d))
    where
      go : Dec (i < total d) → i < total d
      go (yes y) = y
      go (no n) =
          let b : source d i ≡ true = rw (beyond d.cells 0 (total d) i laid.run (omega arith)) in
          absurd (true≢false (sym b ∙ (belongs d i a e).node))

  pub at : (i : ℕ) → i < total d → Located 0 (total d) d.cells i (cell_of d i)
  at i l = located d.cells 0 (total d) i laid.run (omega arith) l

  -- The slots of one cell are all sources, or all of one node.
  pub source-same : (i j : ℕ) → i < total d → (cell_of d i).slot ≤ j → j < (cell_of d i).slot + slots_of (cell_of d i).cell
      → source d j ≡ source d i
  source-same i j l low high = rw ((at i l).whole j low high) (go (is_void (role (cell_of d i).cell)) refl)
    where
      go : (b : Bool) → is_void (role (cell_of d i).cell) ≡ b
          → source_by (role (cell_of d i).cell) (output_len (cell_of d i).cell) (replacement d j) ≡ source d i
      go true e =
          let one = void-one (cell_of d i).cell e in
          let a = (at i l).low in
          let b = (at i l).high in
          let same : j ≡ i = omega arith in
          rw same
      go false e =
          source_plain (role (cell_of d i).cell) (output_len (cell_of d i).cell) (replacement d j) (replacement d i) e

  -- The first slot of a node belongs to the node.
  pub node_first : (i a : ℕ) → node_of d i ≡ some a → node_of d a ≡ some a
  node_first i a e =
      let b = belongs d i a e in
      let l = belongs_low i a e in
      let p = at i l in
      let name = b.named in
      let low = p.low in
      let same : cell_of d a ≡ cell_of d i = p.whole a (omega arith) (let h = p.high in omega arith) in
      let node : source d a ≡ false = source-same i a l (omega arith) (let h = p.high in omega arith) ∙ b.node in
      source-some d a node ∙ ap some (ap (λ (q : Placed). q.slot) same ∙ name)

  pub owned : Owned (total d) (node_of d)
  owned = record { low = belongs_low; first = node_first }
