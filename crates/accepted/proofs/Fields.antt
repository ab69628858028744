-- What a clean scan of fields says of what is read there: nets within the total, constants and patterns of their sizes.
use mathlib.Core.Path.{◌≡◌, refl, ◌∙◌}
use mathlib.Core.Bool.{Bool, true, false, cond}
use mathlib.Core.List.{List}
use Prim.Native.Nat.{ℕ, zero, suc, ◌+◌, ◌-◌, ◌*◌, ◌^◌, ◌≤◌, ◌<◌}
use native.Mathlib.Omega.{arith}
use native.Mathlib.Decide.{dec_lt}
use lib.ListN.{length, get_or}
use lib.Dec.{ltb}
use borrow.Author.Tests.{ltb-true}
use Rattle.std.specs.Prelude.{Result, Ok, Err}
use Rattle.logic.specs.declared.Fault.{Fault}
use Rattle.logic.specs.Word.{kind_of}
use Rattle.logic.specs.Net.{Net, constant, slot, net_of, driver_of_net}
use Rattle.logic.specs.declared.Driver.TheVariants.{NoNet}
use Rattle.logic.specs.Table.{tab}
use Rattle.logic.proofs.TableLaws.{length-tab}
use Rattle.logic.specs.declared.Trit.{Trit}
use Rattle.cell.specs.declared.Fields.{Fields}
use Rattle.cell.specs.Each.{Each}
use Rattle.right.specs.Nets.{Within}
use Rattle.fields.specs.Field.{on_number, known_driver, is_known, most_kind, number_at, net_at, constant_at, nets_at}
use Rattle.fields.specs.Field.{constants_at, scan_many}
use Rattle.fields.specs.Pattern.{alternate_at, pattern_at, patterns_at}
use Rattle.fields.proofs.AcceptedLaws.{number_read, IsNet, net-read, constant-read, many_read, both_read}
use Rattle.cell_reader.specs.Parse.{number_in, net_in, nets_in, trits_in, patterns_in}
use Rattle.cell_reader.specs.Accepted.{IsBody}
use Rattle.bound.specs.Costs.{sum_by}
use Rattle.bound.specs.Words.{pattern_words}

pub each-tab : {A : Type 0} (P : A → Type 0) (n : ℕ) (f : ℕ → A) → ((i : ℕ) → i < n → P (f i)) → Each P (tab n f)
unfolding tab
each-tab P zero f h = tt
each-tab P (suc n) f h = (h zero (omega arith), each-tab P n (λ i. f (suc i)) (λ i l. h (suc i) (omega arith)))

-- A known payload names a net within the total.
pub known-within : (total p : ℕ) → is_known total p ≡ true → Within total (net_of p)
known-within total p known = go (ltb p (2 ^ 29)) (net_of p) known
  where
    go : (low : Bool) (n : Net) → known_driver total (cond low (driver_of_net n) NoNet) ≡ true → Within total n
    go low (constant t) e = tt
    go true (slot i) e = ltb-true _ _ e
    go false (slot i) e = let z : ◌≡◌ {A = ℕ} 0 1 = cc in absurd (omega arith)

-- A net of a net or control word between two places, within the total.
pub record NetStands (w : List ℕ) (total from to : ℕ) (net : Net) : Type 0 where
  pub place : ℕ
  pub low : from ≤ place
  pub high : place < to
  pub kind : kind_of (get_or w place 0) ≤ 1
  pub same : net ≡ net_in w place
  pub within : Within total net

-- n nets of which P holds.
pub record Vector (P : Net → Type 0) (n : ℕ) (nets : List Net) : Type 0 where
  pub size : length nets ≡ n
  pub each : Each P nets

module _ (w : List ℕ) (total : ℕ) where
  -- The words from a place on are net or control words.
  abbrev pub Named : ℕ → ℕ → ℕ → Type 0
  Named end from to = (at : ℕ) → from ≤ at → at < to → IsNet w total true end at

  pub net :
      {end from to : ℕ} → Named end from to → (at : ℕ) → from ≤ at → at < to → NetStands w total from end (net_in w at)
  net named at low high =
      let is = named at low high in
      record {
        place = at;
        low = low;
        high = is.inside;
        kind = is.kind;
        same = refl;
        within = known-within total (number_in w at) is.known;
      }

  pub vector :
      {end from to : ℕ} → Named end from to → (n at : ℕ) → from ≤ at → at + n ≤ to →
      Vector (NetStands w total from end) n (nets_in w n at)
  vector {end} {from} named n at low high = record {
    size = length-tab n _;
    each = each-tab (NetStands w total from end) n (λ i. net_in w (at + i))
        (λ i l. net named (at + i) (omega arith) (omega arith));
  }

  most_kind_lem : (may_invert : Bool) → most_kind may_invert ≤ 1
  most_kind_lem true = omega arith
  most_kind_lem false = omega arith

  pub nets-read :
      (may_invert : Bool) (end n at : ℕ) {next : ℕ} → nets_at w total may_invert end n at ≡ Ok next →
      (next ≡ at + n) × Named end at (at + n)
  nets-read may_invert end n at {next} read = (all.0, at_place)
    where
      all : (next ≡ at + n) × ((i : ℕ) → i < n → IsNet w total may_invert end (at + i))
      all =
          many_read (net_at w total may_invert end) (IsNet w total may_invert end)
          (λ i next e. net-read w total may_invert end i e) n at next read

      at_place : Named end at (at + n)
      at_place i low high =
          let same : at + (i - at) ≡ i = omega arith in
          let is : IsNet w total may_invert end i = rw same at (all.1 (i - at) (omega arith)) in
          let right : kind_of (get_or w i 0) ≤ most_kind may_invert = is.kind in
          let few = most_kind_lem may_invert in
          record { inside = is.inside; kind = omega arith; known = is.known }

module _ (w : List ℕ) (end : ℕ) where
  pub constants-read : (n at : ℕ) {next : ℕ} → constants_at w end n at ≡ Ok next → next ≡ at + n
  constants-read n at {next} read =
      (many_read (constant_at w end) (λ _. Unit {0}) (λ i next e. (constant-read w end i e, tt)) n at next read).0

  alternates_read :
      (n a at : ℕ) {next : ℕ} → scan_many (alternate_at w n end) a at ≡ Ok next → next ≡ at + a * n
  unfolding scan_many alternate_at
  alternates_read n zero at {next} read = let same : next ≡ at = cc in omega arith
  alternates_read n (suc a) at {next} read =
      let both = both_read (alternate_at w n end at) _ read in
      let first : both.place ≡ at + n = constants-read n at both.first in
      let rest : next ≡ both.place + a * n = alternates_read n a both.place both.second in
      omega arith

  -- The words of alternates of one size.
  sum_alternates : (n a : ℕ) (f : ℕ → ℕ) → sum_by length (tab a (λ i. trits_in w n (f i))) ≡ a * n
  unfolding sum_by tab
  sum_alternates n zero f = omega arith
  sum_alternates n (suc a) f =
      let size : length (trits_in w n (f 0)) ≡ n = length-tab n _ in
      let rest = sum_alternates n a (λ i. f (suc i)) in
      omega arith

  pub patterns-read :
      (n k at : ℕ) {next : ℕ} → patterns_at w n end k at ≡ Ok next →
      (next ≡ at + sum_by pattern_words (patterns_in w n k at)) ×
      Each (λ (alternates : List (List Trit)). length alternates ≤ 64) (patterns_in w n k at)
  unfolding patterns_at pattern_at scan_many patterns_in sum_by
  patterns-read n zero at {next} read = let same : next ≡ at = cc in (omega arith, tt)
  patterns-read n (suc k) at {next} read =
      let both = both_read (pattern_at w n end at) _ read in
      go (number_at w 64 end at) refl both.first (patterns-read n k both.place both.second)
    where
      go :
          (v : Result (ℕ × ℕ) Fault) → number_at w 64 end at ≡ v → {place : ℕ} →
          on_number v Err (scan_many (alternate_at w n end)) ≡ Ok place →
          (next ≡ place + sum_by pattern_words (patterns_in w n k place)) ×
          Each (λ (alternates : List (List Trit)). length alternates ≤ 64) (patterns_in w n k place) →
          (next ≡ at + sum_by pattern_words (patterns_in w n (suc k) at)) ×
          Each (λ (alternates : List (List Trit)). length alternates ≤ 64) (patterns_in w n (suc k) at)
      go (Err f) v e rest = let z : ◌≡◌ {A = ℕ} 0 1 = cc in absurd (omega arith)
      go (Ok (a, start)) v {place} e rest =
          let is = number_read w 64 end at v in
          let value : a ≡ number_in w at = is.value in
          let after : start ≡ at + 1 = is.after in
          let few : a ≤ 64 = is.bounded in
          let ends : place ≡ start + a * n = alternates_read n a start e in
          let same : place ≡ at + 1 + number_in w at * n = ends ∙ rw (value, after) in
          let later = rw same at rest in
          let size : length (tab (number_in w at) (λ i. trits_in w n (at + 1 + i * n))) ≡ number_in w at =
          length-tab (number_in w at) _ in
          let words = sum_alternates n (number_in w at) (λ i. at + 1 + i * n) in
          let sum : next ≡ at + 1 + number_in w
          at * n + sum_by pattern_words (patterns_in w n k (at + 1 + number_in w at * n)) = later.0 in
          (omega arith, (omega arith, later.1))

  pub patterns-shaped :
      (n k at : ℕ) → Each (Each (λ (alternate : List Trit). length alternate ≡ n)) (patterns_in w n k at)
  unfolding patterns_in
  patterns-shaped n zero at = tt
  patterns-shaped n (suc k) at =
      (each-tab _ (number_in w at) _ (λ i l. length-tab n _), patterns-shaped n k (at + 1 + number_in w at * n))

-- What a body that was read says of its words: the controls and nets name nets within the total, and the record ends
-- after the patterns.
pub record Body (w : List ℕ) (total : ℕ) (layout : Fields) (n end start : ℕ) : Type 0 where
  pub named : Named w total end start (start + layout.controls + layout.nets)
  pub ends : end ≡ start + layout.controls + layout.nets + layout.constants +
      sum_by pattern_words
      (patterns_in w n layout.patterns (start + layout.controls + layout.nets + layout.constants))
  pub few : Each (λ (alternates : List (List Trit)). length alternates ≤ 64)
      (patterns_in w n layout.patterns (start + layout.controls + layout.nets + layout.constants))

pub body_of :
    {w : List ℕ} {total : ℕ} {layout : Fields} {n end start : ℕ} → IsBody w total layout n end start →
    Body w total layout n end start
body_of {w} {total} {layout} {n} {end} {start} is =
    let controls = nets-read w total true end layout.controls start is.controls-read in
    let nets = nets-read w total false end layout.nets is.nets is.nets-read in
    let nets-at : is.nets ≡ start + layout.controls = controls.0 in
    let constants-at : is.constants ≡ start + layout.controls + layout.nets = nets.0 ∙ rw nets-at in
    let patterns-at : is.patterns ≡ start + layout.controls + layout.nets + layout.constants =
    constants-read w end layout.constants is.constants is.constants-read ∙ rw constants-at in
    let patterns = rw patterns-at at (patterns-read w end n layout.patterns is.patterns is.patterns-read) in
    record {
      named = λ at low high. go
          at low high (dec_lt at (start + layout.controls)) controls.1 (rw nets-at at nets.1);
      ends = patterns.0;
      few = patterns.1;
    }
  where
    go : (at : ℕ) → start ≤ at → at < start + layout.controls + layout.nets → Dec (at < start + layout.controls) →
        Named w total end start (start + layout.controls) →
        Named w total end (start + layout.controls) (start + layout.controls + layout.nets) →
        IsNet w total true end at
    go at low high (yes y) controls nets = controls at low y
    go at low high (no n) controls nets = nets at (omega arith) high
