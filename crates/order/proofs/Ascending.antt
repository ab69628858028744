-- The terms of the obligations ascend strictly: each is the last term of its step's run, and a later step makes later
-- terms.
use mathlib.Core.Bool.{Bool}
use mathlib.Core.List.{List, [], ◌∷◌}
use Prim.Native.Nat.{ℕ, ◌≤◌, ◌<◌}
use native.Mathlib.Omega.{arith}
use Rattle.logic.specs.Net.{Net}
use Rattle.cell.specs.Cell.{Cell}
use Rattle.cell.specs.Design.{Design, total}
use Rattle.cell.specs.Each.{Each}
use Rattle.cell.proofs.EachLaws.{each_map}
use Rattle.right.specs.Laid.{Ascending}
use Rattle.working_out.specs.Reading.{reads_past}
use Rattle.smt.specs.Prog.{Prog, ◌>>=◌, TritVec}
use Rattle.smt.specs.Builder.{tv_refines, net, cell}
use Rattle.smt.specs.Emit.{St, emit}
use Rattle.smt.proofs.WpLaws.{emit_seq}
use Rattle.order.specs.Verify.{Step, declared, asserted, obliged, new_cell, replace_net, currents, steps, work}
use Rattle.order.specs.Verify.{start, built}
use Rattle.order.proofs.Numbered.{emit-next}
use Rattle.order.proofs.EachStep.{each_step}

-- The term that a run gives is one that it made.
abbrev Fresh : Prog ℕ → Type 0
Fresh m = (s : St) → (s.next ≤ (emit m s).res) × ((emit m s).res < (emit m s).st.next)

fresh_after : {A : Type 0} (m : Prog A) (g : A → Prog ℕ) → ((x : A) → Fresh (g x)) → Fresh (m >>= g)
fresh_after m g h s =
    let made = h (emit m s).res (emit m s).st in
    let first = made.0 in
    let grown = emit-next m s in
    rw (emit_seq m g s) (omega arith, made.1)

fresh_refines : (a b : TritVec) → Fresh (tv_refines a b)
unfolding tv_refines ◌>>=◌ emit
fresh_refines a b s = (omega arith, omega arith)

abbrev FreshStep : Step → Type 0
FreshStep (declared m) = Unit {0}
FreshStep (asserted m) = Unit {0}
FreshStep (obliged m) = Fresh m

module _ (rp : ℕ → Bool) where
  fresh_new : (s w : ℕ) (a : Cell) → Fresh (new_cell rp s w a)
  unfolding new_cell
  fresh_new s w a =
      fresh_after _ _ λ terms. fresh_after _ _ λ out. fresh_refines _ _

  fresh_net : (from to : Net) → Fresh (replace_net rp from to)
  unfolding replace_net
  fresh_net from to = fresh_after _ _ λ a. fresh_after _ _ λ b. fresh_refines _ _

fresh_currents : (from to : Net) → Fresh (currents from to)
unfolding currents
fresh_currents from to = fresh_after _ _ λ a. fresh_after _ _ λ b. fresh_refines _ _

fresh_steps : (d : Design) → Each FreshStep (steps d)
fresh_steps d = each_step FreshStep d (record {
  input = λ s w. tt;
  cell = λ s w a. tt;
  new = fresh_new (reads_past d);
  void = λ from to. tt;
  pasts = λ from to. tt;
  currents = fresh_currents;
  net = fresh_net (reads_past d);
})

-- Strictly ascending, from a number on.
pub record AscendFrom (n : ℕ) (l : List ℕ) : Type 0 where
  pub high : Each (λ (k : ℕ). n ≤ k) l
  pub ascend : Ascending (λ (k : ℕ). k) l

later : (n m : ℕ) (l : List ℕ) → n ≤ m → AscendFrom m l → AscendFrom n l
later n m l le h =
    record { high = each_map l (λ k g. omega arith) h.high; ascend = h.ascend }

one_more_lem : (n k m : ℕ) (l : List ℕ) → n ≤ k → k < m → AscendFrom m l → AscendFrom n (k ∷ l)
one_more_lem n k m l low less h =
    let rest = later n m l (omega arith) h in
    record { high = (low, rest.high); ascend = (each_map l (λ j g. omega arith) h.high, h.ascend) }

work_ascends : (steps : List Step) → Each FreshStep steps → (s : St) → AscendFrom s.next (work steps s).res
unfolding work
work_ascends [] fresh s = record { high = tt; ascend = tt }
work_ascends (declared m ∷ rest) fresh s =
    later s.next (emit m s).st.next _ (let e = emit-next m s in omega arith)
    (work_ascends rest fresh.1 (emit m s).st)
work_ascends (asserted m ∷ rest) fresh s =
    later s.next (emit m s).st.next _ (let e = emit-next m s in omega arith)
    (work_ascends rest fresh.1 (emit m s).st)
work_ascends (obliged m ∷ rest) fresh s =
    let made = fresh.0 s in
    one_more_lem s.next (emit m s).res (emit m s).st.next _ made.0 made.1
    (work_ascends rest fresh.1 (emit m s).st)

pub obligations-ascend : (d : Design) → Ascending (λ (k : ℕ). k) (built d).res
obligations-ascend d = (work_ascends (steps d) (fresh_steps d) (start (total d))).ascend
