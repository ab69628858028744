-- Document 02, change 4: "The program writes a loop as a line like `; loop s1 s4` before the script".
use Rattle.std.specs.Prelude.{List, [], ◌∷◌, ◌++◌, ℕ}
use Rattle.text.specs.Bytes.{ascii, decimal}

-- The names of slots, each after a space.
unfoldable pub slot_names : List ℕ → List ℕ
slot_names [] = []
slot_names (i ∷ slots) = (ascii " s" ++ decimal i) ++ slot_names slots

-- The line of a loop, with its line feed.
abbrev pub loop_line : List ℕ → List ℕ
loop_line slots = (ascii "; loop" ++ slot_names slots) ++ (10 ∷ [])
