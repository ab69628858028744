-- Laws of the definitions of Cursors.
use mathlib.Core.Path.{◌≡◌, ◌∙◌}
use mathlib.Core.Bool.{Bool, true, false}
use mathlib.Core.List.{List}
use Prim.Native.Nat.{ℕ, ◌+◌, ◌≤◌, ◌<◌}
use native.Mathlib.Omega.{arith}
use Rattle.bitvec.specs.Bits.{bit}
use Rattle.engine.specs.Encode.{makes_term, operation_at, bare, next_at}
use Rattle.engine.specs.Emit.{counted, last}
use Rattle.call_list.specs.Operations.{is_declare}
use Rattle.call_list.specs.declared.Cursor.{Cursor}
use Rattle.call_list.specs.Cursors.{passed}

-- Nothing is read at first.
abbrev pub nothing_read : Cursor
nothing_read = record { at = 0; terms = 0; declared = 0 }

-- After the record at a cursor's place.
abbrev pub cursor_next : List ℕ → Cursor → Cursor
cursor_next w s =
    record {
      at = next_at bare w s.at;
      terms = s.terms + bit (makes_term (operation_at w s.at));
      declared = s.declared + bit (is_declare (operation_at w s.at));
    }

pub bit-low : (b : Bool) → bit b ≤ 1
bit-low true = omega arith
bit-low false = omega arith

counted_is : (n : ℕ) → n ≤ last → counted n ≡ n
counted_is n h = omega arith

-- Where no count is the largest number, nothing stops.
pub passed-next : (w : List ℕ) (s : Cursor) {t : Cursor} → t ≡ passed w s → next_at bare w s.at ≤ last →
    s.terms < last →
    s.declared < last
    → t ≡ cursor_next w s
passed-next w s e h terms declared =
    let makes = bit-low (makes_term (operation_at w s.at)) in
    let declares = bit-low (is_declare (operation_at w s.at)) in
    e
    ∙ rw (
      counted_is (next_at bare w s.at) h,
      counted_is (s.terms + bit (makes_term (operation_at w s.at))) (omega arith),
      counted_is (s.declared + bit (is_declare (operation_at w s.at))) (omega arith),
    )
