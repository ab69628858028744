-- For an accepted list without a current loop, and any rules that look only at what their cells read: working out ends
-- with a value on every node and is the one solution; a relation that the rules keep holds between two solutions. The
-- design's equations, cell by cell, are those of the system over its slots.
use mathlib.Core.Path.{◌≡◌, refl, sym, ap, ◌∙◌}
use mathlib.Core.Logic.{◌↔◌}
use mathlib.Core.Bool.{Bool, true, false}
use mathlib.Core.Option.{some}
use mathlib.Core.List.{List, [], ◌∷◌, map}
use Prim.Native.Nat.{ℕ, zero, suc, ◌+◌, ◌-◌, ◌<◌}
use native.Mathlib.Omega.{arith}
use native.Mathlib.Nat.{add-zero}
use lib.ListN.{length, get_or}
use Rattle.logic.specs.Net.{slot}
use Rattle.logic.specs.Table.{tab}
use Rattle.logic.proofs.TableLaws.{tab_ext, as_tab, map-tab}
use Rattle.cell.specs.Cell.{output_len}
use Rattle.cell.specs.Design.{Design, total, cell_of}
use Rattle.cell.specs.Each.{Each}
use Rattle.right.specs.Laid.{Laid}
use Rattle.rules.specs.CellRule.{outputs}
use Rattle.working_out.proofs.GraphLaws as g
use Rattle.working_out.proofs.SystemLaws as s
use Rattle.working_out.proofs.SystemLaws.{Keeps, Solves}
use Rattle.working_out.specs.System.{start}
use Rattle.working_out.specs.Reading.{source, node_of}
use Rattle.working_out.proofs.LayoutLaws.{belongs, belongs_low, at, owned, node_first, source-none}
use Rattle.working_out.proofs.LayoutLaws.{none-source, each_at, at_each}
use Rattle.working_out.proofs.Replaced.{OfSlot, slot_of_pairs, pairs_of_slot}
use Rattle.working_out.proofs.Nodes.{Kind, of_cell, of_replaced, kind, node_void, node_asserted}
use Rattle.working_out.proofs.Nodes.{node_shaped, same_node, inside, outputs_belong, cell_node, void-is_node}
use Rattle.working_out.specs.Loop.{buf_of, node_cell, currently_read, reads, Loop, order, has_loop}
use Rattle.working_out.specs.Equations.{Rule, CellShown, Solution, slot_rule, worked_out_by}
use Rattle.working_out.proofs.EquationsLaws.{FullWidth, CellKeeps, CellLocal}

at-tab : {A : Type 0} (blank : A) (n : ℕ) (f : ℕ → A) (o : ℕ) → o < n → get_or (tab n f) o blank ≡ f o
unfolding tab
at-tab blank zero f o l = absurd (omega arith)
at-tab blank (suc n) f zero l = refl
at-tab blank (suc n) f (suc o) l = at-tab blank n (λ i. f (suc i)) o (omega arith)

-- ---- The decision of a loop.
module _ (d : Design) (laid : Laid d) where
  abbrev lows : (a b : ℕ) → reads d a b ≡ true → (a < total d) × (b < total d)
  lows = s.reads-low (total d) (node_of d) (owned d laid) (currently_read d)

  abbrev nodes : (a b : ℕ) → reads d a b ≡ true → start (node_of d) a ≡ false
  nodes = s.reads_node (total d) (node_of d) (owned d laid) (currently_read d)

  -- It is right both ways.
  pub loop_decided : (has_loop d ≡ true) ↔ Loop d
  loop_decided = (g.loop_found (total d) (reads d) lows (start (node_of d)) nodes, found (has_loop d) refl)
    where
      found : (b : Bool) → has_loop d ≡ b → Loop d → has_loop d ≡ true
      found true e loop = e
      found false e loop = absurd (g.no_loop (total d) (reads d) lows (start (node_of d)) nodes e loop)

  -- Without a loop every node has its turn, when all that it reads currently have had theirs.
  pub ordered : has_loop d ≡ false → g.Ordered (total d) (reads d) (start (node_of d)) (order d)
  ordered = g.ordered (total d) (reads d) lows (start (node_of d)) nodes

-- ---- Equations of cells and equations of slots.
module _ {A : Type 0} (d : Design) (laid : Laid d) (rule : Rule A) (blank : A) (now : ℕ → A) where
  -- The outputs of a node show what its rule gives.
  abbrev Shown : ℕ → Type 0
  Shown a = map now (outputs a (output_len (node_cell d a))) ≡ rule a (node_cell d a) now

  slot-shown : (i a : ℕ) → node_of d i ≡ some a → Shown a → now i ≡ slot_rule rule d blank i now
  unfolding slot_rule
  slot-shown i a e shown =
      let w = inside d laid i a e in
      let low = w.0 in
      let high = w.1 in
      let here : a + (i - a) ≡ i = omega arith in
      let same = same_node d laid i a e in
      let wide : i - a < output_len (node_cell d a) = rw same (omega arith) in
      let table = sym (map-tab now (output_len (node_cell d a)) (λ o. a + o)) ∙ shown in
      rw ((belongs d i a e).named, ← same)
      (sym (ap now here) ∙ sym (at-tab blank (output_len (node_cell d a)) (λ o. now (a + o)) (i - a) wide)
      ∙ ap (λ (l : List A). get_or l (i - a) blank) table)

  module _ (wide : FullWidth rule d) where
    node_shown : ((i a : ℕ) → node_of d i ≡ some a → now i ≡ slot_rule rule d blank i now)
        → (a : ℕ) → node_of d a ≡ some a → Shown a
    unfolding slot_rule
    node_shown slots a e =
        map-tab now (output_len (node_cell d a)) (λ o. a + o)
        ∙ tab_ext (output_len (node_cell d a)) (λ o. now (a + o)) (λ o. get_or (rule a (node_cell d a) now) o blank) each
        ∙ sym (as_tab (output_len (node_cell d a)) (rule a (node_cell d a) now) blank width)
      where
        node : source d a ≡ false
        node = (belongs d a a e).node

        width : length (rule a (node_cell d a) now) ≡ output_len (node_cell d a)
        width =
            wide a (node_cell d a) (node_shaped d laid a (belongs_low d laid a a e) node) (node_asserted d a node) now

        each : (o : ℕ) → o < output_len (node_cell d a) → now (a + o) ≡ get_or (rule a (node_cell d a) now) o blank
        each o l =
            let own = outputs_belong d laid a a e o l in
            let place : a + o - a ≡ o = omega arith in
            rw ((belongs d (a + o) a own).named, ← same_node d laid (a + o) a own, place) at (slots (a + o) a own)

    -- A vector of one slot.
    one : (i : ℕ) → map now (outputs i 1) ≡ now i ∷ []
    unfolding tab
    one i = rw add-zero

    cells_at : (i : ℕ) → i < total d → Each (CellShown rule d now) d.cells → CellShown rule d now (cell_of d i)
    cells_at i l = each_at (CellShown rule d now) d.cells 0 (total d) i laid.run (omega arith) l

    to_system : (given : ℕ → A) → Solution rule d given now → Solves (node_of d) (slot_rule rule d blank) given now
    to_system given sol = record {
      sources = λ i e. sol.sources i (none-source d i e);
      nodes = λ i a e. slot-shown i a e (node a (node_first d laid i a e));
    }
      where
        voids : OfSlot d (λ i to. now i ∷ [] ≡ rule i (buf_of to) now) d.net_reps
        voids = slot_of_pairs d (λ i to. now i ∷ [] ≡ rule i (buf_of to) now) d.net_reps sol.voids

        node : (a : ℕ) → node_of d a ≡ some a → Shown a
        node a e = go (kind d a (belongs d a a e).node)
          where
            go : Kind d a → Shown a
            go (of_cell v h same) =
                let low = belongs_low d laid a a e in
                let shown = cells_at a low sol.cells in
                rw same (rw (belongs d a a e).named at (shown h))
            go (of_replaced to v r same) = rw same (one a ∙ voids a to v r)

    of_system : (given : ℕ → A) → Solves (node_of d) (slot_rule rule d blank) given now → Solution rule d given now
    of_system given sol = record {
      sources = λ i e. sol.sources i (source-none d i e);
      cells = at_each (CellShown rule d now) d.cells 0 (total d) laid.run (λ i _ l. cell i l);
      voids = pairs_of_slot d (λ i to. now i ∷ [] ≡ rule i (buf_of to) now) d.net_reps laid.froms voids;
    }
      where
        cell : (i : ℕ) → i < total d → CellShown rule d now (cell_of d i)
        cell i l h = let n = cell_node d laid i l h in rw n.1 at (node_shown sol.nodes (cell_of d i).slot n.0)

        voids : OfSlot d (λ i to. now i ∷ [] ≡ rule i (buf_of to) now) d.net_reps
        voids i to v r =
            let n = void-is_node d laid i to v r in
            sym (one i) ∙ rw (node_void d i to v r) at (node_shown sol.nodes i n)

-- ---- What the rules of cells keep, the equations of slots keep.
module _ {A B : Type 0} (d : Design) (laid : Laid d) (F : Rule A) (G : Rule B) (blank : A) (blank' : B)
    (R : A → B → Type 0) where
  slots_keep : CellKeeps d blank blank' F G R
      → Keeps (node_of d) (currently_read d) (slot_rule F d blank) (slot_rule G d blank') R
  unfolding slot_rule currently_read
  slots_keep h i a e σ τ k =
      let node = (belongs d i a e).node in
      let shaped = node_shaped d laid i (belongs_low d laid i a e) node in
      h (cell_of d i).slot (node_cell d i) shaped (node_asserted d i node) σ τ
      (λ j m. k j (rw (same_node d laid i a e) m)) (i - (cell_of d i).slot)

  -- A relation that the rules keep holds between two solutions, on every slot.
  pub related_by : has_loop d ≡ false → FullWidth F d → FullWidth G d → CellKeeps d blank blank' F G R
      → (given σ : ℕ → A) (given' τ : ℕ → B) → Solution F d given σ → Solution G d given' τ
      → ((i : ℕ) → source d i ≡ true → R (given i) (given' i)) → (i : ℕ) → R (σ i) (τ i)
  related_by no_loop wide wide' keeps given σ given' τ s-sol t-sol sources =
      let f = to_system d laid F blank σ wide given s-sol in
      let g = to_system d laid G blank' τ wide' given' t-sol in
      s.related (total d) (node_of d) (owned d laid) (currently_read d) (slot_rule F d blank) (slot_rule G d blank') R
      (slots_keep keeps) σ τ f.nodes g.nodes
      (λ i e. rw (f.sources i e, g.sources i e) (sources i (none-source d i e))) (order d) (ordered d laid no_loop)

-- ---- Working out by a rule that looks only at what its cells read.
module _ {A : Type 0} (d : Design) (laid : Laid d) (no_loop : has_loop d ≡ false)
    (rule : Rule A) (blank : A) (wide : FullWidth rule d) (local : CellLocal d rule) where
  keeps_equal : CellKeeps d blank blank rule rule (λ a b. a ≡ b)
  keeps_equal s a shaped h σ τ k o = ap (λ (l : List A). get_or l o blank) (local s a shaped h σ τ k)

  -- It gives a solution.
  pub worked_out_by_lem : (given : ℕ → A) → Solution rule d given (worked_out_by rule d blank given)
  unfolding worked_out_by
  worked_out_by_lem given =
      let slots = slots_keep d laid rule rule blank blank (λ a b. a ≡ b) keeps_equal in
      of_system d laid rule blank (worked_out_by rule d blank given) wide given
      (s.solves (total d) (node_of d) (owned d laid) (currently_read d) (slot_rule rule d blank) slots given
      (order d) (ordered d laid no_loop))

  -- It is the only one.
  pub only_by : (given now : ℕ → A) → Solution rule d given now → (i : ℕ) → now i ≡ worked_out_by rule d blank given i
  only_by given now sol =
      related_by d laid rule rule blank blank (λ a b. a ≡ b) no_loop wide wide keeps_equal
      given now given (worked_out_by rule d blank given) sol (worked_out_by_lem given) (λ i e. refl)
