-- The slots that a cell reads currently are slots of the nets that it names, so they are below what those are below.
use mathlib.Core.Bool.{Bool, true, false, cond}
use mathlib.Core.List.{List, [], ◌∷◌, ◌++◌}
use Prim.Native.Nat.{ℕ, ◌<◌}
use Rattle.logic.specs.Net.{Net, constant, slot}
use Rattle.logic.specs.declared.Trit.{Trit}
use Rattle.logic.specs.declared.Trit.TheVariants.{Zero, One, Undef}
use Rattle.cell.specs.Cell.{Cell}
use Rattle.cell.specs.Cell as c
use Rattle.cell.specs.Each.{Each}
use Rattle.cell.proofs.EachLaws.{each_append}
use Rattle.right.specs.Nets.{nets_of, Within}
use Rattle.rules.specs.Reads.{current_net, current_nets, clock_now, compared, compared_by_any, compared_nets, current_reads}

-- What holds of each of two lists, one after the other, holds of each of both.
each_parts : {A : Type 0} (P : A → Type 0) (k l : List A) → Each P (k ++ l) → Each P k × Each P l
each_parts P [] l h = (tt, h)
each_parts P (x ∷ k) l h = let rest = each_parts P k l h.1 in ((h.0, rest.0), rest.1)

-- What holds of each net of a value holds of each that is compared.
module _ (P : Net → Type 0) where
  compared-each : (value : List Net) (pattern : List Trit) → Each P value → Each P (compared value pattern)
  unfolding compared
  compared-each [] pattern h = tt
  compared-each (v ∷ value) [] h = tt
  compared-each (v ∷ value) (Undef ∷ pattern) h = compared-each value pattern h.1
  compared-each (v ∷ value) (Zero ∷ pattern) h = (h.0, compared-each value pattern h.1)
  compared-each (v ∷ value) (One ∷ pattern) h = (h.0, compared-each value pattern h.1)

  alternates_each : (value : List Net) (alternates : List (List Trit)) → Each P value
      → Each P (compared_by_any value alternates)
  unfolding compared_by_any
  alternates_each value [] h = tt
  alternates_each value (a ∷ alternates) h =
      each_append P (compared value a) (compared_by_any value alternates) (compared-each value a h)
      (alternates_each value alternates h)

  patterns-each : (value : List Net) (patterns : List (List (List Trit))) → Each P value
      → Each P (compared_nets value patterns)
  unfolding compared_nets
  patterns-each value [] h = tt
  patterns-each value (p ∷ patterns) h =
      each_append P (compared_by_any value p) (compared_nets value patterns) (alternates_each value p h)
      (patterns-each value patterns h)

module _ (n : ℕ) where
  -- Every slot of a list is below n.
  abbrev pub Low : List ℕ → Type 0
  Low = Each (λ i. i < n)

  -- The reads of a net that is within n.
  pub net-low : (reads_past : ℕ → Bool) (net : Net) → Within n net → Low (current_net reads_past net)
  net-low reads_past (constant u) h = tt
  net-low reads_past (slot i) h = go (reads_past i)
    where
      go : (past : Bool) → Low (cond past [] (i ∷ []))
      go true = tt
      go false = (h, tt)

  both : (k l : List ℕ) → Low k → Low l → Low (k ++ l)
  both = each_append (λ i. i < n)

  module _ (reads_past : ℕ → Bool) where
    nets-low : (nets : List Net) → Each (Within n) nets → Low (current_nets reads_past nets)
    unfolding current_nets
    nets-low [] h = tt
    nets-low (a ∷ nets) h =
        both (current_net reads_past a) (current_nets reads_past nets) (net-low reads_past a h.0) (nets-low nets h.1)

    -- The reads of two vectors.
    vectors_low : (a b : List Net) → Each (Within n) (a ++ b) → Low (current_nets reads_past a ++ current_nets reads_past b)
    vectors_low a b h =
        let parts = each_parts (Within n) a b h in
        both (current_nets reads_past a) (current_nets reads_past b) (nets-low a parts.0) (nets-low b parts.1)

    -- The reads of a net, and more.
    with_net : (net : Net) (l : List ℕ) → Within n net → Low l → Low (current_net reads_past net ++ l)
    with_net net l h low = both (current_net reads_past net) l (net-low reads_past net h) low

    -- The reads of a cell whose nets are within n.
    pub reads-low : (cell : Cell) → Each (Within n) (nets_of cell) → Low (current_reads reads_past cell)
    reads-low c.void h = tt
    reads-low c.note h = tt
    reads-low (c.input m) h = tt
    reads-low (c.io_buf m) h = tt
    reads-low (c.unary op a) h = nets-low a h
    reads-low (c.binary op a b) h = vectors_low a b h
    reads-low (c.mux s a b) h = with_net s _ h.0 (vectors_low a b h.1)
    reads-low (c.adc a b carry) h =
        let parts = each_parts (Within n) a (b ++ (carry ∷ [])) h in
        let last = each_parts (Within n) b (carry ∷ []) parts.1 in
        both (current_nets reads_past a) _ (nets-low a parts.0)
        (both (current_nets reads_past b) _ (nets-low b last.0) (net-low reads_past carry last.1.0))
    reads-low (c.aig a b) h = with_net a.net _ h.0 (net-low reads_past b.net h.1.0)
    reads-low (c.shift op value amount stride) h = vectors_low value amount h
    reads-low (c.match value enable patterns) h =
        let compares = patterns-each (Within n) value patterns h.1 in
        with_net enable _ h.0 (nets-low (compared_nets value patterns) compares)
    reads-low (c.assign value enable update offset) h = with_net enable _ h.0 (vectors_low value update h.1)
    reads-low (c.dff f) h =
        both (clock_now f.clock.net) _ (net-low (λ _. false) f.clock.net h.0)
        (with_net f.clear.net _ h.1.0
        (with_net f.reset.net _ h.1.1.0
        (with_net f.enable.net _ h.1.1.1.0 (nets-low f.dat h.1.1.1.1))))
