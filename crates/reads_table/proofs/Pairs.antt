-- Where a loop stands among the net replacements of an accepted list: those that are left, two words each, up to the
-- last word. A turn takes the first of them, whose words stand at the loop's place.
use mathlib.Core.Path.{◌≡◌, refl}
use mathlib.Core.List.{List, [], ◌∷◌}
use Prim.Native.Nat.{ℕ, ◌+◌, ◌≤◌, ◌<◌, ◌^◌}
use native.Mathlib.Omega.{arith}
use lib.ListN.{length}
use Rattle.logic.specs.Net.{driver_of_net}
use Rattle.logic.proofs.NetLaws.{driver_of_payload}
use Rattle.cell.specs.declared.Mode.{Mode}
use Rattle.cell.specs.Design.{Design, NetPair, total}
use Rattle.right.specs.Nets.{Within}
use Rattle.cell_reader.specs.Parse.{number_in, net_in}
use Rattle.items.specs.Items.{net_pair}
use Rattle.design_list.specs.Read.{read, accepted}
use Rattle.design_list.proofs.AcceptedLaws.{accepted-read}
use Rattle.working_out.specs.Reading.{pair_of}
use Rattle.accepted.proofs.Fields.{known-within}
use Rattle.accepted.proofs.Replacements.{Climb, IsPair}
use Rattle.accepted.proofs.Replacements as R
use Rattle.accepted.proofs.Laid.{stages}
use Rattle.slots.specs.Tells.{Tells}
use Rattle.slots.proofs.Pairs.{tells-pair}
use Rattle.reads_table.specs.Nodes.{void_by, void_in}

-- The net replacements from a place on.
pub record AtPair (d : Design) (w : List ℕ) (at : ℕ) : Type 0 where
  pub pairs : List NetPair
  pub least : ℕ
  pub climb : Climb (IsPair w (total d)) (net_pair w) least at pairs (length w)

-- A turn: the first net replacement that is left, its nets, and the place after it.
pub record PairTurn (d : Design) (w : List ℕ) (at : ℕ) (pairs : List NetPair) : Type 0 where
  pub inside : at + 1 < length w
  pub from : Within (total d) (net_in w at)
  pub to : Within (total d) (net_in w (at + 1))
  pub next : AtPair d w (at + 2)
  pub first : pairs ≡ net_pair w at ∷ next.pairs

unfoldable pub pairs_start : (mode : Mode) (w : List ℕ) {d : Design} {replacements pairs : ℕ}
    → read mode w ≡ accepted d replacements pairs → AtPair d w pairs
pairs_start mode w {d} accepts =
    record { pairs = d.net_reps; least = 0; climb = (stages (accepted-read mode w accepts)).nets }

module _ (d : Design) (w : List ℕ) where
  turn_in : {least at : ℕ} {pairs : List NetPair} → Climb (IsPair w (total d)) (net_pair w) least at pairs (length w)
      → at < length w → PairTurn d w at pairs
  turn_in (R.done ended) inside = absurd (omega arith)
  turn_in (R.taken {at = at} {above = top} {items = pairs} is rest) inside = record {
    inside = is.to_is.inside;
    from = known-within (total d) (number_in w at) is.from_is.known;
    to = known-within (total d) (number_in w (at + 1)) is.to_is.known;
    next = record { pairs = pairs; least = top; climb = rw (← is.after) rest };
    first = refl;
  }

  pub pair_turn : {at : ℕ} (place : AtPair d w at) → at < length w → PairTurn d w at place.pairs
  pair_turn place inside = turn_in place.climb inside

  end_in : {least at : ℕ} {pairs : List NetPair} → Climb (IsPair w (total d)) (net_pair w) least at pairs (length w)
      → length w ≤ at → (pairs ≡ []) × (at ≡ length w)
  end_in (R.done ended) past = (refl, ended)
  end_in (R.taken is rest) past = absurd (let inside = is.from_is.inside in omega arith)

  -- Past the last word none is left, and the place is just past it.
  pub pairs_end : {at : ℕ} (place : AtPair d w at) → length w ≤ at → (place.pairs ≡ []) × (at ≡ length w)
  pairs_end place past = end_in place.climb past

  -- The replaced Void by the words of the table is the design's.
  pub void-told : {table : List ℕ} {at : ℕ} {pairs : List NetPair} → Tells d table → PairTurn d w at pairs
      → void_in table (number_in w at) (number_in w (at + 1)) ≡ void_by (driver_of_net (net_in w at)) (pair_of d (net_pair w at))
  void-told {table} {at} tells turn =
      let low : number_in w at < 2 ^ 29 = omega arith in
      let high : number_in w (at + 1) < 2 ^ 29 = omega arith in
      rw (
        tells-pair tells (number_in w at) (number_in w (at + 1)) low high turn.from turn.to,
        driver_of_payload (number_in w at) low,
      )
