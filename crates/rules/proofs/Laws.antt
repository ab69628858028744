-- Document 01, "Cell rules, over trits": the order of a Dff's steps, and what is hot in a Match, where their controls
-- are defined.
use mathlib.Core.Path.{◌≡◌, refl, sym, ap, ◌∙◌}
use mathlib.Core.Bool.{Bool, true, false, cond, true≢false}
use mathlib.Core.List.{List, [], ◌∷◌, ◌++◌, map}
use Prim.Native.Nat.{ℕ, zero, suc, ◌+◌}
use native.Mathlib.Nat.{suc_inj, suc-ne-zero, zero-add, add-zero, add-suc, suc-add}
use lib.ListN.{length, replicate}
use Rattle.logic.specs.Net.{Net, constant, slot}
use Rattle.logic.specs.declared.Trit.{Trit}
use Rattle.logic.specs.declared.Trit.TheVariants.{Zero, One, Undef}
use Rattle.cell.specs.Cell.{Control, FlipFlop}
use Rattle.cell.specs.Each.{Each}
use Rattle.rules.specs.Trits as t
use Rattle.rules.specs.Rules as r
use Rattle.rules.specs.CellRule.{Trits, of_net, control, inactive, has_clear, edge}
use Rattle.rules.proofs.WidthLaws as w
use Rattle.rules.proofs.WidthLaws.{Width, InputsWidth}

-- 1 takes the first side, 0 the second.
pub mux-one : {n : ℕ} {a b : List Trit} → Width n a → Width n b → r.mux One a b ≡ a
mux-one {a = a} {b = b} p q = go a b (p.is ∙ sym q.is)
  where
    go : (a b : List Trit) → length a ≡ length b → r.mux One a b ≡ a
    go [] b e = refl
    go (x ∷ a) [] e = absurd (suc-ne-zero (length a) e)
    go (x ∷ a) (y ∷ b) e = ap (λ (l : List Trit). x ∷ l) (go a b (suc_inj e))

pub mux-zero : {n : ℕ} {a b : List Trit} → Width n a → Width n b → r.mux Zero a b ≡ b
mux-zero {a = a} {b = b} p q = go a b (p.is ∙ sym q.is)
  where
    go : (a b : List Trit) → length a ≡ length b → r.mux Zero a b ≡ b
    go [] [] e = refl
    go [] (y ∷ b) e = absurd (suc-ne-zero (length b) (sym e))
    go (x ∷ a) [] e = absurd (suc-ne-zero (length a) e)
    go (x ∷ a) (y ∷ b) e = ap (λ (l : List Trit). y ∷ l) (go a b (suc_inj e))

-- ---- Dff: reset and enable in the flagged order, then the clock edge, then clear.
module _ (n : ℕ) (f : r.FlipFlopInputs) (width : InputsWidth n f) where
  -- Clear active gives the clear value, whatever the clock does.
  pub clear_active : f.has_clear ≡ true → f.clear ≡ One → r.dff f ≡ f.clear_value
  clear_active has active = rw (has, active) (mux-one width.clear_value (w.clocked-width n f width))

  pub clear-inactive : (f.has_clear ≡ true → f.clear ≡ Zero) → r.dff f ≡ r.clocked f
  clear-inactive off = go f.has_clear refl
    where
      go : (has : Bool) → f.has_clear ≡ has
          → cond has (r.mux f.clear f.clear_value (r.clocked f)) (r.clocked f) ≡ r.clocked f
      go true e = rw (off e) (mux-zero width.clear_value (w.clocked-width n f width))
      go false e = refl

  pub at_edge : f.edge ≡ One → r.clocked f ≡ r.loaded f
  at_edge e = rw e (mux-one (w.loaded-width n f width) width.past)

  pub no_edge : f.edge ≡ Zero → r.clocked f ≡ f.past
  no_edge e = rw e (mux-zero (w.loaded-width n f width) width.past)

  pub reset-over-enable : f.reset_over_enable ≡ true → f.reset ≡ One → r.loaded f ≡ f.reset_value
  reset-over-enable flag active =
      rw (flag, active) (mux-one width.reset_value (w.mux-width f.enable width.dat width.past))

  pub enable-over-reset : f.reset_over_enable ≡ false → f.enable ≡ Zero → r.loaded f ≡ f.past
  enable-over-reset flag inactive =
      rw (flag, inactive) (mux-zero (w.mux-width f.reset width.reset_value width.dat) width.past)

  pub loads_data : f.reset ≡ Zero → f.enable ≡ One → r.loaded f ≡ f.dat
  loads_data inactive active = rw (inactive, active) (go f.reset_over_enable)
    where
      go : (flag : Bool)
          → cond flag (r.mux Zero f.reset_value (r.mux One f.dat f.past))
          (r.mux One (r.mux Zero f.reset_value f.dat) f.past)
          ≡ f.dat
      go true =
          mux-zero width.reset_value (w.mux-width One width.dat width.past) ∙ mux-one width.dat width.past
      go false =
          mux-one (w.mux-width Zero width.reset_value width.dat) width.past
          ∙ mux-zero width.reset_value width.dat

-- The edge: active now and not before.
module _ (reads_past : ℕ → Bool) (θ : Trits) (clock : Control) where
  abbrev now : Trit
  now = control (of_net θ.now) clock

  abbrev before : Trit
  before = control (of_net θ.was) clock

  pub edge_rising : now ≡ One → before ≡ Zero → edge reads_past θ clock ≡ One
  edge_rising a b = rw (a, b)

  pub edge-inactive : now ≡ Zero → edge reads_past θ clock ≡ Zero
  edge-inactive a = rw a

  pub edge_steady : before ≡ One → edge reads_past θ clock ≡ Zero
  edge_steady b = rw b (zero now)
    where
      zero : (a : Trit) → t.and a Zero ≡ Zero
      zero Zero = refl
      zero One = refl
      zero Undef = refl

-- A clear that is constantly inactive reads 0: leaving its step out changes nothing.
pub never_clears : (g : ℕ → Trit) (f : FlipFlop) → has_clear f ≡ false → control (of_net g) f.clear ≡ Zero
never_clears g f e = go f.clear.inverted f.clear.net e
  where
    go : (inverted : Bool) (n : Net) → mathlib.Core.Bool.not (inactive inverted n) ≡ false
        → cond inverted (t.not (of_net g n)) (of_net g n) ≡ Zero
    go false (constant Zero) e = refl
    go false (constant One) e = absurd (true≢false e)
    go false (constant Undef) e = absurd (true≢false e)
    go false (slot i) e = absurd (true≢false e)
    go true (constant Zero) e = absurd (true≢false e)
    go true (constant One) e = refl
    go true (constant Undef) e = absurd (true≢false e)
    go true (slot i) e = absurd (true≢false e)

-- ---- Match. An X in a pattern is not compared: an alternate of Xs matches every value.
pub all-X-matches : (n : ℕ) (value : List Trit) → r.alternate value (replicate n Undef) ≡ One
unfolding r.alternate
all-X-matches n [] = refl
all-X-matches zero (v ∷ value) = refl
all-X-matches (suc n) (v ∷ value) = all-X-matches n value

-- Not enabled, all are 0.
pub match_disabled : (value : List Trit) (patterns : List (List (List Trit)))
    → r.match value Zero patterns ≡ replicate (length patterns) Zero
match_disabled value patterns =
    mux-zero (w.first_hot-width (length patterns) 0 (map (r.matches value) patterns))
    (w.replicate-width (length patterns) Zero)

pub match-enabled : (value : List Trit) (patterns : List (List (List Trit)))
    → r.match value One patterns ≡ r.first_hot (length patterns) 0 (map (r.matches value) patterns)
match-enabled value patterns =
    mux-one (w.first_hot-width (length patterns) 0 (map (r.matches value) patterns))
    (w.replicate-width (length patterns) Zero)

first_hot_hit : (k i : ℕ) (ms : List Trit) → r.first_hot k i (One ∷ ms) ≡ r.one_hot k i
unfolding r.first_hot
first_hot_hit k i ms = mux-one (w.tab-width k _) (w.first_hot-width k (suc i) ms)

first_hot_miss : (k i : ℕ) (ms : List Trit) → r.first_hot k i (Zero ∷ ms) ≡ r.first_hot k (suc i) ms
unfolding r.first_hot
first_hot_miss k i ms = mux-zero (w.tab-width k _) (w.first_hot-width k (suc i) ms)

-- Enabled, the first pattern with a matching alternate is hot, all else 0; without such a pattern all are 0.
module _ (value : List Trit) where
  abbrev pub Misses : List (List Trit) → Type 0
  Misses p = r.matches value p ≡ Zero

  hot : (k i : ℕ) (before : List (List (List Trit))) (p : List (List Trit)) (after : List (List (List Trit)))
      → Each Misses before → r.matches value p ≡ One
      → r.first_hot k i (map (r.matches value) (before ++ (p ∷ after))) ≡ r.one_hot k (i + length before)
  hot k i [] p after none hit = rw (hit, add-zero i) (first_hot_hit k i (map (r.matches value) after))
  hot k i (b ∷ before) p after none hit =
      rw (none.0, first_hot_miss, add-suc i (length before), ← suc-add i (length before))
      (hot k (suc i) before p after none.1 hit)

  pub match-first : (before : List (List (List Trit))) (p : List (List Trit)) (after : List (List (List Trit)))
      → Each Misses before → r.matches value p ≡ One
      → r.match value One (before ++ (p ∷ after)) ≡ r.one_hot (length (before ++ (p ∷ after))) (length before)
  match-first before p after none hit =
      match-enabled value (before ++ (p ∷ after)) ∙ hot (length (before ++ (p ∷ after))) 0 before p after none hit
      ∙ rw (zero-add (length before))

  cold : (k i : ℕ) (patterns : List (List (List Trit))) → Each Misses patterns
      → r.first_hot k i (map (r.matches value) patterns) ≡ replicate k Zero
  cold k i [] none = unfold r.first_hot in refl
  cold k i (p ∷ patterns) none = rw (none.0, first_hot_miss) (cold k (suc i) patterns none.1)

  pub match_none : (patterns : List (List (List Trit))) → Each Misses patterns
      → r.match value One patterns ≡ replicate (length patterns) Zero
  match_none patterns none = match-enabled value patterns ∙ cold (length patterns) 0 patterns none
