-- What a net number's driver says of the net, and which trit each way of reading takes. Assumes nothing.
use mathlib.Core.Path.{◌≡◌, refl, sym, ap, ◌∙◌}
use mathlib.Core.Bool.{Bool, true, false, cond}
use mathlib.Core.List.{List, [], ◌∷◌}
use Prim.Native.Nat.{ℕ, ◌<◌, ◌^◌}
use native.Mathlib.Omega.{arith}
use borrow.Author.Tests.{lt-ltb}
use Rattle.logic.specs.Net.{Net, constant, slot, net_of, driver_of, driver_of_net}
use Rattle.logic.specs.declared.Slot.{Slot}
use Rattle.logic.specs.declared.Trit.{Trit}
use Rattle.logic.specs.declared.Driver.TheVariants.{Constant, Output, NoNet}
use Rattle.bitvec.specs.Bits.{bit, nat2bv}
use Rattle.smt.specs.Prog.{curr, past}
use Rattle.smt.specs.Builder.{net}
use Rattle.smt.specs.Builder as model
use Rattle.nets.specs.declared.Reading.{Reading}
use Rattle.nets.specs.declared.Reading.TheVariants.{Curr, Past, Either}
use Rattle.nets.specs.Reads.{past_in, age_in, reader, age_by}

pub bit-lit : (b : Bool) → nat2bv 1 (bit b) ≡ b ∷ []
unfolding nat2bv
bit-lit true = refl
bit-lit false = refl

-- ---- what drives a net

module _ (p : ℕ) (low : p < 2 ^ 29) where
  drives : driver_of p ≡ driver_of_net (net_of p)
  drives = rw (lt-ltb p (2 ^ 29) low)

  pub drives_constant : {t : Trit} → driver_of p ≡ Constant t → net_of p ≡ constant t
  drives_constant {t} e = go (net_of p) refl
    where
      go : (n : Net) → net_of p ≡ n → net_of p ≡ constant t
      go (constant u) same =
          let d : Constant u ≡ Constant t = sym (ap driver_of_net same) ∙ sym drives ∙ e in
          let u≡t : u ≡ t = cc in same ∙ ap constant u≡t
      go (slot i) same =
          let d : Output (record { 0 = i }) ≡ Constant t = sym (ap driver_of_net same) ∙ sym drives ∙ e in
          let z : ◌≡◌ {A = ℕ} 0 1 = cc in absurd (omega arith)

  pub drives_output : {i : Slot} → driver_of p ≡ Output i → net_of p ≡ slot i.0
  drives_output {i} e = go (net_of p) refl
    where
      go : (n : Net) → net_of p ≡ n → net_of p ≡ slot i.0
      go (constant u) same =
          let d : Constant u ≡ Output i = sym (ap driver_of_net same) ∙ sym drives ∙ e in
          let z : ◌≡◌ {A = ℕ} 0 1 = cc in absurd (omega arith)
      go (slot j) same =
          let d : Output (record { 0 = j }) ≡ Output i = sym (ap driver_of_net same) ∙ sym drives ∙ e in
          let j≡i : record { 0 = j } ≡ i = cc in same ∙ ap (λ (k : Slot). slot k.0) j≡i

  pub drives_something : driver_of p ≡ NoNet → ⊥
  drives_something e = go (net_of p) refl
    where
      go : (n : Net) → net_of p ≡ n → ⊥
      go (constant u) same =
          let d : Constant u ≡ NoNet = sym (ap driver_of_net same) ∙ sym drives ∙ e in
          let z : ◌≡◌ {A = ℕ} 0 1 = cc in omega arith
      go (slot j) same =
          let d : Output (record { 0 = j }) ≡ NoNet = sym (ap driver_of_net same) ∙ sym drives ∙ e in
          let z : ◌≡◌ {A = ℕ} 0 1 = cc in omega arith

-- ---- which trit is read

pub net_aged : (reads_past : ℕ → Bool) (n : Net) → net reads_past n ≡ model.net_of (age_in reads_past n) n
unfolding net
net_aged reads_past (constant t) = refl
net_aged reads_past (slot i) = go (reads_past i)
  where
    go : (b : Bool)
        → cond b (model.net_of past (slot i)) (model.net_of curr (slot i)) ≡ model.net_of (cond b past curr) (slot i)
    go true = refl
    go false = refl

pub reader_aged : (r : Reading) (table : List ℕ) (n : Net) → reader r table n ≡ model.net_of (age_by r table n) n
unfolding reader
reader_aged Curr table n = refl
reader_aged Past table n = refl
reader_aged Either table n = net_aged (past_in table) n
