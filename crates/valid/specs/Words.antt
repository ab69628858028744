-- Document 01, "Words": the words of a design, in the order and layout of a design list.
use Rattle.std.specs.Prelude.{cond, ℕ, ◌+◌, length}
use mathlib.Core.List.{List, [], ◌∷◌, ◌++◌, map, flat_map}
use Rattle.logic.specs.Word.{word_of, net_word, head_word, number_word}
use Rattle.logic.specs.Net.{Net, constant, payload_of_net}
use Rattle.logic.specs.declared.Trit.{Trit}
use Rattle.cell.specs.Cell.{Cell, Control}
use Rattle.cell.specs.Cell as C
use Rattle.cell.specs.Design.{Placed, NetPair, Design}
use Rattle.cell.specs.Operation.{number_of}
use Rattle.cell.specs.declared.Operation.{Operation}
use Rattle.cell.specs.declared.Operation.TheVariants as O

-- A net word, kind 0.
unfoldable pub net_word_of : Net → ℕ
net_word_of n = net_word (payload_of_net n)

-- A control's word: kind 1 if it is inverted, else kind 0.
unfoldable pub control_word_of : Control → ℕ
control_word_of c = word_of (cond c.inverted 1 0) (payload_of_net c.net)

-- The word of a constant 0, 1 or X.
unfoldable pub trit_word_of : Trit → ℕ
trit_word_of t = net_word (payload_of_net (constant t))

-- ---- The operation of a cell.
abbrev pub operation_of_cell : Cell → Operation
operation_of_cell C.void = O.Void
operation_of_cell C.note = O.Note
operation_of_cell (C.input n) = O.Input
operation_of_cell (C.io_buf n) = O.IoBuf
operation_of_cell (C.unary op a) = O.Unary op
operation_of_cell (C.binary op a b) = O.Binary op
operation_of_cell (C.mux s a b) = O.Mux
operation_of_cell (C.adc a b carry) = O.Adc
operation_of_cell (C.aig a b) = O.Aig
operation_of_cell (C.shift op value amount stride) = O.Shift op
operation_of_cell (C.match value enable patterns) = O.Match
operation_of_cell (C.assign value enable update offset) = O.Assign
operation_of_cell (C.dff f) = O.Dff

-- ---- The fields of a body, in their order: a few numbers, then controls, then nets, then constants, then patterns.
pub record Contents : Type 0 where
  pub numbers : List ℕ
  pub controls : List Control
  pub nets : List Net
  pub constants : List Trit
  pub patterns : List (List (List Trit))

abbrev contents : List ℕ → List Control → List Net → List Trit → List (List (List Trit)) → Contents
contents numbers controls nets constants patterns =
    record { numbers = numbers; controls = controls; nets = nets; constants = constants; patterns = patterns }

-- "Operations and bodies".
abbrev pub contents_of : Cell → Contents
-- columns: numbers, controls, nets, constants, patterns
contents_of C.void = contents [] [] [] [] []
contents_of C.note = contents [] [] [] [] []
-- #n
contents_of (C.input n) = contents (n ∷ []) [] [] [] []
contents_of (C.io_buf n) = contents (n ∷ []) [] [] [] []
-- #n n*
contents_of (C.unary op a) = contents (length a ∷ []) [] a [] []
-- #n n* n*
contents_of (C.binary op a b) = contents (length a ∷ []) [] (a ++ b) [] []
-- #n s n* n*
contents_of (C.mux s a b) = contents (length a ∷ []) [] (s ∷ (a ++ b)) [] []
-- #n n* n* c
contents_of (C.adc a b carry) = contents (length a ∷ []) [] (a ++ (b ++ (carry ∷ []))) [] []
-- two controls
contents_of (C.aig a b) = contents [] (a ∷ b ∷ []) [] [] []
-- #n #m #stride n* m*
contents_of (C.shift op value amount stride) =
    contents (length value ∷ length amount ∷ stride ∷ []) [] (value ++ amount) [] []
-- #n #k enable n*, the patterns
contents_of (C.match value enable patterns) =
    contents (length value ∷ length patterns ∷ []) [] (enable ∷ value) [] patterns
-- #n #u #offset enable n* u*
contents_of (C.assign value enable update offset) =
    contents (length value ∷ length update ∷ offset ∷ []) [] (enable ∷ (value ++ update)) [] []
-- #n #reset-over-enable clock clear reset enable, n* data, n* clear value, n* reset value
contents_of (C.dff f) =
    contents (length f.dat ∷ cond f.reset_over_enable 1 0 ∷ []) (f.clock ∷ f.clear ∷ f.reset ∷ f.enable ∷ [])
    f.dat (f.clear_value ++ f.reset_value) []

-- "per pattern #alternates and its constants".
unfoldable pub pattern_words_of : List (List Trit) → List ℕ
pattern_words_of alternates = number_word (length alternates) ∷ flat_map (map trit_word_of) alternates

abbrev pub body_of : Cell → List ℕ
body_of c =
    map number_word (contents_of c).numbers
    ++ (map control_word_of (contents_of c).controls
    ++ (map net_word_of (contents_of c).nets
    ++ (map trit_word_of (contents_of c).constants
    ++ flat_map pattern_words_of (contents_of c).patterns)))

-- A record: its head, "operation + 32 × count of following words", and its body.
unfoldable pub record_of : Cell → List ℕ
record_of c = head_word (number_of (operation_of_cell c)) (length (body_of c)) ∷ body_of c

-- ---- The design list.
abbrev pub cell_words_of : Placed → List ℕ
cell_words_of p = record_of p.cell

-- "cell replacements (#slot, cell)".
abbrev pub replacement_words_of : Placed → List ℕ
replacement_words_of p = number_word p.slot ∷ record_of p.cell

-- "net replacements (from, to)".
abbrev pub pair_words_of : NetPair → List ℕ
pair_words_of p = net_word_of p.from ∷ net_word_of p.to ∷ []

abbrev pub words_of_cells : Design → List ℕ
words_of_cells d = flat_map cell_words_of d.cells

abbrev pub words_of_replacements : Design → List ℕ
words_of_replacements d = flat_map replacement_words_of d.cell_reps

abbrev pub words_of_pairs : Design → List ℕ
words_of_pairs d = flat_map pair_words_of d.net_reps

-- "A design list is #base #added #cellreps #netreps, then cells, cell replacements, net replacements".
abbrev pub words_of : Design → List ℕ
words_of d =
    number_word d.base ∷ number_word d.added ∷
    number_word (length d.cell_reps) ∷ number_word (length d.net_reps) ∷
    (words_of_cells d ++ (words_of_replacements d ++ words_of_pairs d))

-- The places of the cell replacements and of the net replacements.
abbrev pub replacements_at : Design → ℕ
replacements_at d = 4 + length (words_of_cells d)

abbrev pub pairs_at : Design → ℕ
pairs_at d = replacements_at d + length (words_of_replacements d)
