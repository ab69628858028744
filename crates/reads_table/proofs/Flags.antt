-- The loops that flag the nodes: what they have flagged and what is left make the flags of all nodes.
use mathlib.Core.Path.{◌≡◌, refl, sym, ap, ◌∙◌}
use mathlib.Core.Bool.{cond}
use mathlib.Core.List.{List, [], ◌∷◌}
use Prim.Native.Nat.{ℕ, ◌+◌, ◌%◌, ◌≤◌, ◌<◌, max}
use native.Mathlib.Omega.{arith}
use lib.ListN.{length, replicate}
use Rattle.cell.specs.declared.Mode.{Mode}
use Rattle.cell.specs.Design.{Design, total}
use Rattle.logic.specs.Net.{driver_of_net}
use Rattle.cell_reader.specs.Parse.{number_in, net_in, cell_at, end_at}
use Rattle.items.specs.Items.{net_pair}
use Rattle.design_list.specs.Read.{read, accepted}
use Rattle.design_list.proofs.AcceptedLaws.{accepted-read}
use Rattle.working_out.specs.Reading.{asserted, pair_of}
use Rattle.accepted.proofs.Laid.{accepted-laid}
use Rattle.loops.specs.Graph.{node_flags}
use Rattle.slots.specs.Tells.{width_in}
use Rattle.reads_table.specs.Table.{IsTable}
use Rattle.reads_table.specs.Nodes.{asserted_in, cell_nodes, void_by, slots_in, void_in, pair_nodes, flag_all}
use Rattle.reads_table.proofs.Nodes.{flag_append, flags_are}
use Rattle.reads_table.proofs.Pairs.{AtPair, pairs_start, pair_turn, pairs_end, void-told}
use Rattle.reads_table.proofs.Cells.{AtCell, cells-start, cell_turn, cells-end, asserted_in_lem}

-- Along the cells: flagging those left gives what flagging all does.
pub record FlagsLeft (d : Design) (w table : List ℕ) (end index at : ℕ) (flags₀ flags : List ℕ) : Type 0 where
  pub place : AtCell d w table end index at
  pub left : flag_all flags₀ (cell_nodes d.cells) ≡ flag_all flags (cell_nodes place.cells)

module _ (mode : Mode) (w : List ℕ) {table : List ℕ} {d : Design} {replacements pairs : ℕ}
    (accepts : read mode w ≡ accepted d replacements pairs) (is : IsTable d table) where
  pub flags_start : (flags : List ℕ) → FlagsLeft d w table replacements 0 4 flags flags
  unfolding cells-start
  flags_start flags = record { place = cells-start mode w accepts is; left = refl }

  -- A turn in the code's terms: the slot's number is the index, and what each call answers.
  pub flags_step : {index number k at at₁ : ℕ} {flags₀ flags flags₁ : List ℕ}
      → FlagsLeft d w table replacements index at flags₀ flags → index < length table → number ≡ index % 4294967296
      → flags₁ ≡ flag_all flags (cond (asserted_in w table at number) (number ∷ []) [])
      → (at < length w → at₁ ≡ end_at w at) → k ≡ max 1 (width_in table number)
      → FlagsLeft d w table replacements (index + k) at₁ flags₀ flags₁
  unfolding cell_nodes
  flags_step {index} {number} {at = at} {flags = flags} along inside same put next size =
      let low = (accepted-read mode w accepts).low in
      let full = is.size in
      let number_is : number ≡ index = omega arith in
      let turn = cell_turn d w table along.place (omega arith) in
      let first = ap (λ l. flag_all flags (cell_nodes l)) turn.first
      ∙ flag_append flags (cond (asserted (cell_at w at)) (index ∷ []) []) (cell_nodes turn.next.cells) in
      rw (put, size, next turn.record_is.inside, number_is, asserted_in_lem w table at index turn.wide)
      record { place = turn.next; left = along.left ∙ first }

module _ {w table : List ℕ} {d : Design} {end : ℕ} where
  pub flags_end : {index at : ℕ} {flags₀ flags : List ℕ} → length table ≡ total d
      → FlagsLeft d w table end index at flags₀ flags → length table ≤ index → flags
      ≡ flag_all flags₀ (cell_nodes d.cells)
  unfolding cell_nodes flag_all
  flags_end {flags = flags} full along past =
      sym (along.left ∙ ap (λ l. flag_all flags (cell_nodes l)) (cells-end d w table along.place (omega arith)).0)

-- Along the net replacements: flagging the Voids of those left gives what flagging all does.
pub record VoidsLeft (d : Design) (w : List ℕ) (at : ℕ) (flags₀ flags : List ℕ) : Type 0 where
  pub place : AtPair d w at
  pub left : flag_all flags₀ (pair_nodes d d.net_reps) ≡ flag_all flags (pair_nodes d place.pairs)

pub voids-start : (mode : Mode) (w : List ℕ) {d : Design} {replacements pairs : ℕ}
    → read mode w ≡ accepted d replacements pairs → (flags : List ℕ) → VoidsLeft d w pairs flags flags
unfolding pairs_start
voids-start mode w accepts flags = record { place = pairs_start mode w accepts; left = refl }

module _ {w table : List ℕ} {d : Design} where
  pub voids-step : {at from to : ℕ} {flags₀ flags flags₁ : List ℕ} → IsTable d table → VoidsLeft d w at flags₀ flags
      → at < length w → from ≡ number_in w at → to ≡ number_in w (at + 1)
      → flags₁ ≡ flag_all flags (slots_in (void_in table from to)) → VoidsLeft d w (at + 2) flags₀ flags₁
  unfolding pair_nodes
  voids-step {at} {flags = flags} is along inside from_is to_is put =
      let turn = pair_turn d w along.place inside in
      let first = ap (λ l. flag_all flags (pair_nodes d l)) turn.first
      ∙ flag_append flags (slots_in (void_by (driver_of_net (net_in w at)) (pair_of d (net_pair w at))))
      (pair_nodes d turn.next.pairs) in
      rw (put, from_is, to_is, void-told d w is.tells turn)
      record { place = turn.next; left = along.left ∙ first }

module _ {w : List ℕ} {d : Design} where
  pub voids-end : {at : ℕ} {flags₀ flags : List ℕ} → VoidsLeft d w at flags₀ flags → length w ≤ at
      → flags ≡ flag_all flags₀ (pair_nodes d d.net_reps)
  unfolding pair_nodes flag_all
  voids-end {flags = flags} along past =
      sym (along.left ∙ ap (λ l. flag_all flags (pair_nodes d l)) (pairs_end d w along.place past).0)

-- The cells' flags and then the Voids', where all were 0, are those of the nodes.
pub flags_whole : (mode : Mode) (w : List ℕ) {d : Design} {replacements pairs : ℕ}
    → read mode w ≡ accepted d replacements pairs → {flags flags₁ flags₂ : List ℕ} → flags ≡ replicate (total d) 0
    → flags₁ ≡ flag_all flags (cell_nodes d.cells) → flags₂ ≡ flag_all flags₁ (pair_nodes d d.net_reps)
    → flags₂ ≡ node_flags d
flags_whole mode w {d} accepts zeros cells voids = rw (voids, cells, zeros) (flags_are d (accepted-laid mode w accepts))
