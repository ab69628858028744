-- Document 01, "Faults and what stays", "Each field": the words of a right field are read without a fault, and as that
-- field.
use mathlib.Core.Path.{◌≡◌, refl, ap₂}
use mathlib.Core.Bool.{Bool, true, false, cond}
use mathlib.Core.List.{List, [], ◌∷◌, map}
use Prim.Native.Nat.{ℕ, ◌+◌, ◌^◌, ◌≤◌, ◌<◌}
use native.Mathlib.Omega.{arith}
use lib.ListN.{length}
use lib.Dec.{eqb}
use borrow.Author.Tests.{lt-ltb, le-leb}
use Rattle.std.specs.Prelude.{Ok}
use Rattle.logic.specs.Word.{kind_of, payload_of, number_word}
use Rattle.logic.proofs.WordLaws.{kind_of_word, payload_of_word}
use Rattle.logic.specs.Net.{Net, constant, slot, net_of, payload_of_net}
use Rattle.logic.proofs.NetLaws.{net_of_payload, constant_of_payload, driver_of_slot, driver_of_constant}
use Rattle.logic.specs.declared.Trit.{Trit}
use Rattle.logic.specs.declared.Trit.TheVariants.{Zero, One, Undef}
use Rattle.cell.specs.Cell.{Control}
use Rattle.cell.specs.Each.{Each}
use Rattle.right.specs.Nets.{Within}
use Rattle.fields.specs.Field.{is_constant, is_known, most_kind, number_at, net_at, bit_at, constant_at, scan_many}
use Rattle.cell_reader.specs.Parse.{number_in, net_in, control_in, trit_in, trits_in}
use Rattle.valid.specs.Words.{net_word_of, control_word_of, trit_word_of}
use Rattle.valid.proofs.Stands.{reads-tab, word_at, reads-map, Stands, scan-words, each-words}

-- ---- Numbers.
module _ (w : List ℕ) where
  pub number_of_word : (at n : ℕ) → word_at w at ≡ number_word n → n < 2 ^ 29 → number_in w at ≡ n
  number_of_word at n word low = rw word (payload_of_word 3 n low)

  pub number-right :
      (bound end at n : ℕ) → at < end → word_at w at ≡ number_word n → n < 2 ^ 29 → n ≤ bound →
      number_at w bound end at ≡ Ok (n, at + 1)
  unfolding number_at
  number-right bound end at n inside word low fits =
      rw (lt-ltb at end inside, word, kind_of_word 3 n, payload_of_word 3 n low, le-leb n bound fits)

-- ---- Nets, controls and constants.
-- The payload of a net is one that a word holds, and it names that net.
module _ (total : ℕ) (few : total ≤ 4096) where
  pub payload_low : (n : Net) → Within total n → payload_of_net n < 2 ^ 29
  payload_low (constant Zero) within = omega arith
  payload_low (constant One) within = omega arith
  payload_low (constant Undef) within = omega arith
  payload_low (slot i) within = omega arith

  pub payload_names : (n : Net) → Within total n → net_of (payload_of_net n) ≡ n
  payload_names (constant t) within = constant_of_payload t
  payload_names (slot i) within = net_of_payload i (omega arith)

  pub payload_known : (n : Net) → Within total n → is_known total (payload_of_net n) ≡ true
  payload_known (constant Zero) within = refl
  payload_known (constant One) within = refl
  payload_known (constant Undef) within = refl
  payload_known (slot i) within =
      rw (driver_of_slot i (omega arith), lt-ltb i total within)

trit-low : (t : Trit) → payload_of_net (constant t) < 2 ^ 29
trit-low Zero = omega arith
trit-low One = omega arith
trit-low Undef = omega arith

pub trit-constant : (t : Trit) → is_constant (payload_of_net (constant t)) ≡ true
trit-constant t = rw (driver_of_constant t)

-- A word that a scan of nets, or of controls, passes.
pub record Named (total : ℕ) (may_invert : Bool) (word : ℕ) : Type 0 where
  pub kind : kind_of word ≤ most_kind may_invert
  pub known : is_known total (payload_of word) ≡ true

-- A word that a scan of constants passes.
pub record Fixed (word : ℕ) : Type 0 where
  pub kind : kind_of word ≡ 0
  pub constant : is_constant (payload_of word) ≡ true

module _ (w : List ℕ) (end at : ℕ) (inside : at < end) where
  pub net-right :
      {total : ℕ} {may_invert : Bool} → Named total may_invert (word_at w at) →
      net_at w total may_invert end at ≡ Ok (at + 1)
  unfolding net_at
  net-right {total} {may_invert} named =
      rw (lt-ltb at end inside, le-leb (kind_of (word_at w at)) (most_kind may_invert) named.kind, named.known)

  pub constant-right : Fixed (word_at w at) → constant_at w end at ≡ Ok (at + 1)
  unfolding constant_at bit_at
  constant-right fixed = rw (lt-ltb at end inside, fixed.kind, fixed.constant)

pub inverted-kind : (b : Bool) → cond b 1 0 ≤ 1
inverted-kind true = omega arith
inverted-kind false = omega arith

pub inverted_back : (b : Bool) → eqb (cond b 1 0) 1 ≡ b
inverted_back true = refl
inverted_back false = refl

abbrev control : Net → Bool → Control
control net inverted = record { net = net; inverted = inverted }

module _ (w : List ℕ) (total : ℕ) (few : total ≤ 4096) where
  pub net-named : (n : Net) → Within total n → Named total false (net_word_of n)
  unfolding net_word_of
  net-named n within = record {
    kind = rw (kind_of_word 0 (payload_of_net n)) (omega arith);
    known = rw (payload_of_word 0 (payload_of_net n) (payload_low total few n within)) (payload_known total few n within);
  }

  pub control-named : (c : Control) → Within total c.net → Named total true (control_word_of c)
  unfolding control_word_of
  control-named c within = record {
    kind = rw (kind_of_word (cond c.inverted 1 0) (payload_of_net c.net)) (inverted-kind c.inverted);
    known =
        rw (payload_of_word (cond c.inverted 1 0) (payload_of_net c.net) (payload_low total few c.net within))
        (payload_known total few c.net within);
  }

  pub payload_of_net_word :
      (at : ℕ) (n : Net) → word_at w at ≡ net_word_of n → Within total n → number_in w at ≡ payload_of_net n
  unfolding net_word_of
  payload_of_net_word at n word within = rw word (payload_of_word 0 (payload_of_net n) (payload_low total few n within))

  pub net_of_word_lem : (at : ℕ) (n : Net) → word_at w at ≡ net_word_of n → Within total n → net_in w at ≡ n
  net_of_word_lem at n word within = rw (payload_of_net_word at n word within) (payload_names total few n within)

  pub control_of_word :
      (at : ℕ) (c : Control) → word_at w at ≡ control_word_of c → Within total c.net → control_in w at ≡ c
  unfolding control_word_of
  control_of_word at c word within =
      let kind : ℕ = cond c.inverted 1 0 in
      ap₂ control
      (rw (word, payload_of_word kind (payload_of_net c.net) (payload_low total few c.net within))
      (payload_names total few c.net within))
      (rw (word, kind_of_word kind (payload_of_net c.net)) (inverted_back c.inverted))

pub trit_fixed : (t : Trit) → Fixed (trit_word_of t)
unfolding trit_word_of
trit_fixed t = record {
  kind = kind_of_word 0 (payload_of_net (constant t));
  constant = rw (payload_of_word 0 (payload_of_net (constant t)) (trit-low t)) (trit-constant t);
}

pub trit_of_word : (w : List ℕ) (at : ℕ) (t : Trit) → word_at w at ≡ trit_word_of t → Unit {0} → trit_in w at ≡ t
unfolding trit_word_of
trit_of_word w at t word any =
    rw (word, payload_of_word 0 (payload_of_net (constant t)) (trit-low t), constant_of_payload t)

pub each_all : {A : Type 0} (P : A → Type 0) → ((x : A) → P x) → (xs : List A) → Each P xs
each_all P one [] = tt
each_all P one (x ∷ xs) = (one x, each_all P one xs)

pub each-any : {A : Type 0} (xs : List A) → Each (λ _. Unit {0}) xs
each-any = each_all (λ _. Unit {0}) (λ _. tt)

-- A vector of constants.
module _ (w : List ℕ) (end : ℕ) where
  pub constants-right :
      (ts : List Trit) (at : ℕ) → Stands w end at (map trit_word_of ts) →
      scan_many (constant_at w end) (length (map trit_word_of ts)) at ≡ Ok (at + length (map trit_word_of ts))
  constants-right ts at s =
      scan-words w end (constant_at w end) Fixed (constant-right w end) (map trit_word_of ts) at s
      (each-words trit_word_of (λ _. Unit {0}) Fixed (λ t any. trit_fixed t) ts (each-any ts))

  pub constants-read : (ts : List Trit) (at : ℕ) → Stands w end at (map trit_word_of ts) → trits_in w (length ts) at ≡ ts
  constants-read ts at s =
      reads-tab (trit_in w) ts at
      (reads-map w trit_word_of (trit_in w) (λ _. Unit {0}) (trit_of_word w) ts at (each-any ts) s.reads)
