-- Laws of runs of words in a list, cut after the first and in two, and of the nets among them that are read. Assumes
-- nothing.
use mathlib.Core.Path.{◌≡◌, refl, ap, ◌∙◌}
use mathlib.Core.Bool.{Bool, true, false, cond}
use mathlib.Core.List.{List, [], ◌∷◌, ◌++◌, append_assoc, append-nil}
use Prim.Native.Nat.{ℕ, zero, suc, ◌+◌, ◌*◌, ◌-◌, ◌<◌, ◌≤◌}
use native.Mathlib.Nat.{zero-add, suc-add}
use native.Mathlib.Omega.{arith}
use lib.ListN.{length, length-append}
use Rattle.logic.specs.Net.{Net, constant, slot}
use Rattle.logic.specs.Table.{tab}
use Rattle.logic.proofs.TableLaws.{tab_ext}
use Rattle.rules.specs.Reads.{current_net, current_nets}
use Rattle.cell_reader.specs.Parse.{net_in, nets_in}

module _ {A : Type 0} where
  -- The first, and the rest one step on.
  tab-first : (n : ℕ) (f g : ℕ → A) → 0 < n → ((i : ℕ) → f (suc i) ≡ g i) → tab n f ≡ f 0 ∷ tab (n - 1) g
  unfolding tab
  tab-first zero f g some step = absurd (omega arith)
  tab-first (suc n) f g some step =
      let one : suc n - 1 ≡ n = omega arith in
      rw one (ap (λ (r : List A). f 0 ∷ r) (tab_ext n (λ i. f (suc i)) g (λ i low. step i)))

  -- A run of words, the next run of n, one step on.
  pub run-first : (n at : ℕ) (f : ℕ → A) → 0 < n
      → tab n (λ i. f (at + i)) ≡ f at ∷ tab (n - 1) (λ i. f (at + 1 + i))
  run-first n at f some =
      let none : at + 0 ≡ at = omega arith in
      let step : (i : ℕ) → f (at + suc i) ≡ f (at + 1 + i) =
      λ i. let same : at + suc i ≡ at + 1 + i = omega arith in ap f same in
      tab-first n (λ i. f (at + i)) (λ i. f (at + 1 + i)) some step ∙ rw none

  -- The same in strides of size words.
  pub stride_first : (n size at : ℕ) (f : ℕ → A) → 0 < n
      → tab n (λ i. f (at + i * size)) ≡ f at ∷ tab (n - 1) (λ i. f (at + size + i * size))
  stride_first n size at f some =
      let none : at + 0 * size ≡ at = omega arith in
      let step : (i : ℕ) → f (at + suc i * size) ≡ f (at + size + i * size) =
      λ i. let same : at + suc i * size ≡ at + size + i * size = omega arith in ap f same in
      tab-first n (λ i. f (at + i * size)) (λ i. f (at + size + i * size)) some step ∙ rw none

  -- None is left.
  pub tab-none : (n : ℕ) (f : ℕ → A) → n ≤ 0 → tab n f ≡ []
  unfolding tab
  tab-none zero f none = refl
  tab-none (suc n) f none = absurd (omega arith)

  -- The first n of a run, and the rest.
  tab_split : (n m : ℕ) (f g : ℕ → A) → ((i : ℕ) → f (n + i) ≡ g i) → tab (n + m) f ≡ tab n f ++ tab m g
  unfolding tab
  tab_split zero m f g same =
      rw (zero-add m) (tab_ext m f g (λ i low. rw (zero-add i) at (same i)))
  tab_split (suc n) m f g same =
      rw (suc-add n m)
      (ap (λ (r : List A). f 0 ∷ r)
      (tab_split n m (λ i. f (suc i)) g (λ i. rw (suc-add n i) at (same i))))

-- Nets that stand one run after another.
pub nets_split : (w : List ℕ) (n m at : ℕ) → nets_in w (n + m) at ≡ nets_in w n at ++ nets_in w m (at + n)
nets_split w n m at =
    tab_split n m (λ i. net_in w (at + i)) (λ i. net_in w (at + n + i))
    (λ i. let same : at + (n + i) ≡ at + n + i = omega arith in ap (net_in w) same)

-- One net.
pub nets-one : (w : List ℕ) (at : ℕ) → nets_in w 1 at ≡ net_in w at ∷ []
nets-one w at =
    run-first 1 at (net_in w) (omega arith)
    ∙ ap (λ (r : List Net). net_in w at ∷ r) (tab-none (1 - 1) _ (omega arith))

module _ (past : ℕ → Bool) where
  -- The reads of nets one list after another.
  pub current_append : (a b : List Net) → current_nets past (a ++ b) ≡ current_nets past a ++ current_nets past b
  unfolding current_nets
  current_append [] b = refl
  current_append (n ∷ a) b = rw (current_append a b, append_assoc)

  -- Of one net.
  pub current-one : (n : Net) → current_nets past (n ∷ []) ≡ current_net past n
  unfolding current_nets
  current-one n = append-nil (current_net past n)

  -- A net is read once or not at all.
  pub few_of_net : (n : Net) → length (current_net past n) ≤ 1
  few_of_net (constant t) = omega arith
  few_of_net (slot i) = go (past i)
    where
      go : (b : Bool) → length (cond b [] (i ∷ [])) ≤ 1
      go true = omega arith
      go false = omega arith

  pub few_of_nets : (nets : List Net) → length (current_nets past nets) ≤ length nets
  unfolding current_nets
  few_of_nets [] = omega arith
  few_of_nets (n ∷ nets) =
      omega
      (arith, length-append (current_net past n) (current_nets past nets), few_of_net n, few_of_nets nets)

  -- The reads of a run of nets: the first net's, and those of the rest.
  pub nets-first : (w : List ℕ) (n at : ℕ) → 0 < n
      → current_nets past (nets_in w n at) ≡ current_net past (net_in w at) ++ current_nets past (nets_in w (n - 1) (at + 1))
  unfolding current_nets
  nets-first w n at some = ap (current_nets past) (run-first n at (net_in w) some)

  pub nets-none : (w : List ℕ) (n at : ℕ) → n ≤ 0 → current_nets past (nets_in w n at) ≡ []
  unfolding current_nets
  nets-none w n at none = ap (current_nets past) (tab-none n (λ i. net_in w (at + i)) none)
