-- What unsat says, of two designs of the course, by the cell rules alone: s0 is an input, s1 its Not and s2 the Not of
-- that. With the readers of s1 reading s0 instead the calls have a satisfying assignment; with those of s2, none.
use mathlib.Core.Path.{◌≡◌, refl, sym, ◌∙◌}
use mathlib.Core.Bool.{false, true≢false}
use mathlib.Core.List.Memᴰ
use mathlib.Core.List.{[], ◌∷◌, flat_map}
use Prim.Native.Nat.{ℕ, ◌<◌}
use native.Mathlib.Omega.{arith}
use lib.ListN.{length}
use Rattle.logic.specs.Table.{tab}
use Rattle.logic.specs.Net.{slot}
use Rattle.logic.specs.declared.Trit.{Trit}
use Rattle.logic.specs.declared.Trit.TheVariants.{Zero, One, Undef}
use Rattle.cell.specs.declared.Mode.TheVariants.{Ported}
use Rattle.cell.specs.Cell.{input, unary, inverter}
use Rattle.cell.specs.Design.{Design, cell_in}
use Rattle.cell.specs.Each.{Each}
use Rattle.right.specs.Valid.{Valid}
use Rattle.rules.specs.Reads.{current_nets}
use Rattle.engine.specs.Encode.{decode}
use Rattle.working_out.specs.Reading.{node_of, replacement_in}
use Rattle.working_out.specs.Graph.{never_ready, mark_all, mark, order, undone, lowest_ready, lacks}
use Rattle.working_out.specs.Order.{lowest}
use Rattle.working_out.specs.System.{owns, reads, any, work_out, fill}
use Rattle.working_out.specs.Equations.{worked_out_by, slot_rule}
use Rattle.working_out.specs.WorkingOut.{whole}
use Rattle.working_out.specs.Loop.{has_loop, currently_read, node_cell}
use Rattle.working_out.specs.Obligations.{as_read, cell_obligations, net_obligations, obligations, all_refine, broken}
use Rattle.working_out.proofs.Solutions.{loop_decided}
use Rattle.valid.specs.Words.{net_word_of, record_of, words_of}
use Rattle.valid.proofs.TheoremLaws.{valid_read}
use Rattle.requirement.specs.Verified.{call_words}
use Rattle.requirement.proofs.Required.{read-numbered}
use Rattle.unsat.specs.Choice.{BreakingChoice}
use Rattle.unsat.specs.Unsat.{Questions, Satisfiable}
use Rattle.unsat.proofs.Unsat.{what_unsat-says, unsat_keeps}

-- The readers of a slot read s0 instead.
abbrev pub nots : ℕ → Design
nots from = record {
  mode = Ported;
  base = 3;
  added = 0;
  cells =
      record { slot = 0; cell = input 1 } ∷ record { slot = 1; cell = unary inverter (slot 0 ∷ []) }
      ∷ record { slot = 2; cell = unary inverter (slot 1 ∷ []) } ∷ [];
  cell_reps = [];
  net_reps = record { from = slot from; to = slot 0 } ∷ [];
}

nots_valid : (from : ℕ) → from < 3 → Valid (nots from)
unfolding cell_in
nots_valid from low = record {
  slots = omega arith;
  few-cells = omega arith;
  few-nets = omega arith;
  bounds = omega arith;
  laid = omega arith;
  voids = record {
    cells = (tt, (((λ _. refl), tt), (((λ _. refl), tt), tt)));
    new_cells = tt;
    tos = ((λ _. refl), tt);
  };
}

nots_questions : (from : ℕ) → from < 3 → has_loop (nots from) ≡ false → length (obligations (nots from)) ≡ 1 →
    Questions 0 (words_of (nots from)) (nots from)
unfolding flat_map record_of net_word_of
nots_questions from low none one = record {
  replacements = 12;
  pairs = 12;
  is = read-numbered Ported (words_of (nots from)) ∙ valid_read (nots from) (nots_valid from low) (omega arith);
  no_loop = λ loop. true≢false (sym ((loop_decided (nots from) (nots_valid from low).laid).1 loop) ∙ none);
  some = omega arith;
}

-- One Not left out: the source 0 breaks the obligation, for s1 is 1 and s0 is 0.
pub one-not-sat : Satisfiable (decode (call_words 0 (words_of (nots 1))))
unfolding lowest mark order undone owns node_of cell_in lowest_ready lacks reads any currently_read node_cell replacement_in
    current_nets worked_out_by work_out fill slot_rule all_refine cell_obligations net_obligations tab never_ready mark_all
one-not-sat = (what_unsat-says 0 _ (nots 1) (nots_questions 1 (omega arith) refl refl)).1 breaking
  where
    breaking : BreakingChoice (nots 1)
    breaking = record {
      given = record { now = λ i. Zero; was = λ i. Undef };
      alike = (λ joined. cc, tt);
      obligation = as_read (record { from = slot 1; to = slot 0 });
      among = Memᴰ.head refl;
      breaks = refl;
    }

-- Both left out: whatever the source is, s2 is the same.
pub two_nots_unsat : Satisfiable (decode (call_words 0 (words_of (nots 2)))) → ⊥
unfolding lowest mark order undone owns node_of cell_in lowest_ready lacks reads any currently_read node_cell replacement_in
    current_nets worked_out_by work_out fill slot_rule all_refine cell_obligations net_obligations tab never_ready mark_all
two_nots_unsat =
    (unsat_keeps 0 _ (nots 2) (nots_questions 2 (omega arith) refl refl)).1 (λ g alike. keeps g.was (g.now 0))
  where
    keeps : (was : ℕ → Trit) (t : Trit) →
        Each (λ o. broken (nots 2) (whole (nots 2) (record { now = λ i. t; was = was })) o ≡ false)
        (obligations (nots 2))
    keeps was Zero = (refl, tt)
    keeps was One = (refl, tt)
    keeps was Undef = (refl, tt)
