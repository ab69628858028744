-- Document 01, "Words": a call record. How far a list is read, record by record.
use Rattle.std.specs.Prelude.{List, ℕ, ◌+◌}
use Rattle.bitvec.specs.Bits.{bit}
use Rattle.engine.specs.Encode.{makes_term, operation_at, bare, next_at}
use Rattle.engine.specs.Emit.{counted}
use Rattle.call_list.specs.Operations.{is_declare}
use Rattle.call_list.specs.declared.Cursor.{Cursor}

-- The same in counts that stop at the largest number.
abbrev pub passed : List ℕ → Cursor → Cursor
passed w s =
    record {
      at = counted (next_at bare w s.at);
      terms = counted (s.terms + bit (makes_term (operation_at w s.at)));
      declared = counted (s.declared + bit (is_declare (operation_at w s.at)));
    }
