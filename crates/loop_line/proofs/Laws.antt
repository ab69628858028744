-- Laws of the names of slots.
use mathlib.Core.Path.{◌≡◌, refl, sym, ap, ◌∙◌}
use mathlib.Core.List.{List, [], ◌∷◌, ◌++◌, append_assoc, append-nil}
use Prim.Native.Nat.{ℕ, ◌+◌, ◌<◌}
use native.Mathlib.Numerals.{add-one}
use lib.ListN.{length, get_or, take}
use lib.Seq.{take-suc}
use Rattle.text.specs.Bytes.{ascii, decimal}
use Rattle.loop_line.specs.Line.{slot_names}

names-append : (a b : List ℕ) → slot_names (a ++ b) ≡ slot_names a ++ slot_names b
unfolding slot_names
names-append [] b = refl
names-append (i ∷ a) b =
    ap (λ (l : List ℕ). (ascii " s" ++ decimal i) ++ l) (names-append a b)
    ∙ sym (append_assoc (ascii " s" ++ decimal i) (slot_names a) (slot_names b))

pub names_none : (slots : List ℕ) → slot_names (take 0 slots) ≡ []
unfolding slot_names
names_none slots = refl

-- The name of one slot more.
pub names_more : (slots : List ℕ) (index : ℕ) → index < length slots
    → slot_names (take (index + 1) slots)
    ≡ slot_names (take index slots) ++ (ascii " s" ++ decimal (get_or slots index 0))
unfolding slot_names
names_more slots index inside =
    rw (add-one index, take-suc slots index 0 inside)
    (names-append (take index slots) (get_or slots index 0 ∷ [])
    ∙ ap (λ (l : List ℕ). slot_names (take index slots) ++ l) (append-nil (ascii " s" ++ decimal (get_or slots index 0))))
