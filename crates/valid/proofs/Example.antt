-- Document 01, "Examples": the design of #2 #0 #0 #1, Input #1, Not #1 s0, s1 s0 is valid, and these are its words.
use mathlib.Core.Path.{◌≡◌, refl}
use mathlib.Core.List.{List, [], ◌∷◌, flat_map}
use Prim.Native.Nat.{ℕ}
use native.Mathlib.Omega.{arith}
use Rattle.logic.specs.Word.{net_word, head_word, number_word}
use Rattle.logic.specs.Net.{slot}
use Rattle.cell.specs.declared.Mode.TheVariants.{Ported}
use Rattle.cell.specs.Cell.{input, unary, inverter}
use Rattle.cell.specs.Design.{Design, cell_in}
use Rattle.right.specs.Valid.{Valid}
use Rattle.design_list.specs.Read.{read, accepted}
use Rattle.valid.specs.Words.{net_word_of, record_of, words_of}
use Rattle.valid.proofs.TheoremLaws.{valid_read}

abbrev pub example : Design
example = record {
  mode = Ported;
  base = 2;
  added = 0;
  cells = record { slot = 0; cell = input 1 } ∷ record { slot = 1; cell = unary inverter (slot 0 ∷ []) } ∷ [];
  cell_reps = [];
  net_reps = record { from = slot 1; to = slot 0 } ∷ [];
}

-- Input is operation 21, Not 2; the payload of a slot's net is two above the slot.
abbrev pub words : List ℕ
words =
    number_word 2 ∷ number_word 0 ∷ number_word 0 ∷ number_word 1 ∷
    head_word 21 1 ∷ number_word 1 ∷
    head_word 2 2 ∷ number_word 1 ∷ net_word 2 ∷
    net_word 3 ∷ net_word 2 ∷ []

pub example_words : words_of example ≡ words
unfolding flat_map record_of net_word_of
example_words = refl

pub example_valid : Valid example
unfolding cell_in
example_valid = record {
  slots = omega arith;
  few-cells = omega arith;
  few-nets = omega arith;
  bounds = omega arith;
  laid = record {
    run = omega arith;
    apart = omega arith;
    cells = omega arith;
    new_cells = tt;
    replaces = tt;
    slots = tt;
    nets = omega arith;
    froms = (tt, tt);
  };
  voids = record { cells = (tt, (((λ _. refl), tt), tt)); new_cells = tt; tos = ((λ _. refl), tt) };
}

pub example_read : read Ported words ≡ accepted example 9 9
unfolding flat_map record_of net_word_of
example_read = valid_read example example_valid (omega arith)
