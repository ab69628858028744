-- The net replacements of an accepted list stand one after another, two words each, from the place after the cell
-- replacements up to the last word.
use mathlib.Core.Path.{◌≡◌, refl}
use mathlib.Core.List.{List, [], ◌++◌}
use Prim.Native.Nat.{ℕ, ◌+◌, ◌≤◌, ◌<◌, ◌^◌}
use native.Mathlib.Omega.{arith}
use lib.ListN.{length}
use Rattle.logic.specs.Net.{net_of}
use Rattle.cell.specs.declared.Mode.{Mode}
use Rattle.cell.specs.Design.{Design, NetPair, total}
use Rattle.right.specs.Nets.{Within}
use Rattle.cell_reader.specs.Parse.{number_in, net_in}
use Rattle.items.specs.Items.{net_pair}
use Rattle.design_list.specs.Read.{read, accepted}
use Rattle.design_list.proofs.AcceptedLaws.{accepted-read}
use Rattle.working_out.specs.Reading.{reads_past, pair_of}
use Rattle.accepted.proofs.Fields.{known-within}
use Rattle.accepted.proofs.Replacements.{Climb, IsPair}
use Rattle.accepted.proofs.Replacements as R
use Rattle.accepted.proofs.Laid.{stages}
use Rattle.nets.specs.Reads.{past_in}
use Rattle.order.specs.Verify.{pair_steps, each_pair}
use Rattle.slots.specs.Tells.{Tells}
use Rattle.slots.specs.Pairs.{pair_in}
use Rattle.slots.proofs.Laws.{tells-past}
use Rattle.slots.proofs.Pairs.{tells-pair}
use Rattle.net_pairs.specs.declared.Walked.{Walked}
use Rattle.net_pairs.specs.Does.{Does}
use Rattle.net_pairs.proofs.Does.{Left, left-start, left_turn, left_end}

-- The net replacements that are left from a place on.
pub record AtPair (d : Design) (w : List ℕ) (at : ℕ) : Type 0 where
  pub pairs : List NetPair
  pub least : ℕ
  pub climb : Climb (IsPair w (total d)) (net_pair w) least at pairs (length w)

-- Where one is left: both its words stand in the list, and name nets of the design.
pub record HerePair (d : Design) (w : List ℕ) (at : ℕ) : Type 0 where
  pub inside : at + 1 < length w
  pub from : Within (total d) (net_in w at)
  pub to : Within (total d) (net_in w (at + 1))

unfoldable pub pairs_start : (mode : Mode) (w : List ℕ) {d : Design} {replacements pairs : ℕ} →
    read mode w ≡ accepted d replacements pairs → AtPair d w pairs
pairs_start mode w {d} accepts =
    record { pairs = d.net_reps; least = 0; climb = (stages (accepted-read mode w accepts)).nets }

module _ (d : Design) (w : List ℕ) where
  here_in : {least at : ℕ} {pairs : List NetPair} → Climb (IsPair w (total d)) (net_pair w) least at pairs (length w) →
      at < length w → HerePair d w at
  here_in (R.done ended) inside = absurd (omega arith)
  here_in (R.taken {at = at} is rest) inside = record {
    inside = is.to_is.inside;
    from = known-within (total d) (number_in w at) is.from_is.known;
    to = known-within (total d) (number_in w (at + 1)) is.to_is.known;
  }

  pub here-pair : {at : ℕ} → AtPair d w at → at < length w → HerePair d w at
  here-pair place inside = here_in place.climb inside

  -- A turn: the steps of the first pair that is left, and the place after it.
  pub record PairTurn (pairs : List NetPair) (at : ℕ) : Type 0 where
    pub next : AtPair d w (at + 2)
    pub step : each_pair d pairs
        ≡ pair_steps (reads_past d) d.mode (pair_of d (net_pair w at)) (net_pair w at) ++ each_pair d next.pairs

  turn_in : {least at : ℕ} {pairs : List NetPair} → Climb (IsPair w (total d)) (net_pair w) least at pairs (length w) →
      at < length w → PairTurn pairs at
  unfolding each_pair
  turn_in (R.done ended) inside = absurd (omega arith)
  turn_in (R.taken {above = top} {items = pairs} is rest) inside = record {
    next = record { pairs = pairs; least = top; climb = rw (← is.after) rest };
    step = refl;
  }

  pub pair_turn : {at : ℕ} (place : AtPair d w at) → at < length w → PairTurn place.pairs at
  pair_turn place inside = turn_in place.climb inside

  end_in : {least at : ℕ} {pairs : List NetPair} → Climb (IsPair w (total d)) (net_pair w) least at pairs (length w) →
      length w ≤ at → each_pair d pairs ≡ []
  unfolding each_pair
  end_in (R.done ended) past = refl
  end_in (R.taken is rest) past = absurd (let inside = is.from_is.inside in omega arith)

  pub pairs_end : {at : ℕ} (place : AtPair d w at) → length w ≤ at → each_pair d place.pairs ≡ []
  pairs_end place past = end_in place.climb past

-- Along the net replacements.
pub record AlongPairs (d : Design) (w : List ℕ) (at : ℕ) (calls₀ names₀ marks₀ eqs₀ : List ℕ) (s₀ : Walked)
    (calls names marks eqs : List ℕ) (s : Walked) : Type 0 where
  pub place : AtPair d w at
  pub left : Left (each_pair d d.net_reps) (each_pair d place.pairs) calls₀ names₀ marks₀ eqs₀ s₀ calls names marks
      eqs s

pub pairs_along : (mode : Mode) (w : List ℕ) {d : Design} {replacements pairs : ℕ} →
    read mode w ≡ accepted d replacements pairs → (calls names marks eqs : List ℕ) (s : Walked) →
    AlongPairs d w pairs calls names marks eqs s calls names marks eqs s
unfolding pairs_start
pairs_along mode w accepts calls names marks eqs s =
    record { place = pairs_start mode w accepts; left = left-start _ calls names marks eqs s }

module _ {mode : Mode} {w table : List ℕ} {d : Design} where
  -- The mode is the design's, the nets are those of the two words, and the table tells what the pair is.
  pub pairs_turn : {at : ℕ} {calls₀ names₀ marks₀ eqs₀ calls names marks eqs calls₁ names₁ marks₁ eqs₁ : List ℕ}
      {s₀ s s₁ : Walked} {from to : ℕ}
      → d.mode ≡ mode → Tells d table → AlongPairs d w at calls₀ names₀ marks₀ eqs₀ s₀ calls names marks eqs s →
      at < length w → from ≡ number_in w at → to ≡ number_in w (at + 1)
      → (from < 2 ^ 29 → to < 2 ^ 29 →
      Does (pair_steps (past_in table) mode (pair_in table from to) (record { from = net_of from; to = net_of to }))
      calls names marks eqs s calls₁ names₁ marks₁ eqs₁ s₁)
      → AlongPairs d w (at + 2) calls₀ names₀ marks₀ eqs₀ s₀ calls₁ names₁ marks₁ eqs₁ s₁
  pairs_turn {at} same-mode tells along inside from_is to_is does =
      let here = here-pair d w along.place inside in
      let turn = pair_turn d w along.place inside in
      let low : number_in w at < 2 ^ 29 = omega arith in
      let high : number_in w (at + 1) < 2 ^ 29 = omega arith in
      let told = tells-pair tells (number_in w at) (number_in w (at + 1)) low high here.from here.to in
      let step = rw (tells-past tells, from_is, to_is, told, ← same-mode) at (does (omega arith) (omega arith)) in
      record {
        place = turn.next;
        left = left_turn (pair_steps (reads_past d) d.mode (pair_of d (net_pair w at)) (net_pair w at))
            (each_pair d turn.next.pairs)
            (rw turn.step at along.left) step;
      }

module _ {w : List ℕ} {d : Design} where
  pub pairs-done : {at : ℕ} {calls₀ names₀ marks₀ eqs₀ calls names marks eqs : List ℕ} {s₀ s : Walked}
      → AlongPairs d w at calls₀ names₀ marks₀ eqs₀ s₀ calls names marks eqs s → length w ≤ at
      → Does (each_pair d d.net_reps) calls₀ names₀ marks₀ eqs₀ s₀ calls names marks eqs s
  pairs-done along past = left_end (rw (pairs_end d w along.place past) at along.left)
