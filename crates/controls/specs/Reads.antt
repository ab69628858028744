-- Document 01, "Modules", builder. How the code reads a control.
use Rattle.std.specs.Prelude.{ℕ, eqb}
use Rattle.logic.specs.Word.{kind_of, payload_of}
use Rattle.logic.specs.Net.{net_of}
use Rattle.cell.specs.Cell.{Control}
use Rattle.controls.specs.declared.ControlNet.{ControlNet}

-- The model's control, and the control of a word.
abbrev pub control_of : ControlNet → Control
control_of c = record { net = net_of c.net.0; inverted = c.inverted }

abbrev pub control_word : ℕ → ControlNet
control_word word = record { net = record { 0 = payload_of word }; inverted = eqb (kind_of word) 1 }
