-- Document 01, "Faults and what stays", 19. What the tables of the records before say of a record: the sorts of its
-- words and its faults.
use Rattle.std.specs.Prelude.{Bool, false, not, cond, ◌&&◌, List, ℕ, ◌+◌, ◌-◌, length, get_or, eqb, ltb, Option, Some, None}
use Rattle.std.proofs.Math.Option as found
use Rattle.logic.specs.Word.{kind_of, payload_of}
use Rattle.engine.specs.Sorts.{Sort, no_sort}
use Rattle.engine.specs.Encode.{operation_at, count_at, bare, argument_at}
use Rattle.engine.specs.WellFormed.{count_fits, argument_of, admits, first_failing}
use Rattle.call_list.specs.Operations.{is_declare}
use Rattle.name_table.specs.Names.{known_by}

-- ---- sorts

-- The sort of the term that a word refers to, of `terms` terms so far.
abbrev pub word_sort : (ℕ → Sort) → ℕ → ℕ → Sort
word_sort sort terms word = cond (eqb (kind_of word) 4 && ltb (payload_of word) terms) (sort (payload_of word)) no_sort

-- Argument i of the record at a place may stand there.
abbrev pub stands_by : (ℕ → Sort) → List ℕ → ℕ → ℕ → ℕ → Bool
stands_by sort w terms at i =
    admits (argument_of (operation_at w at) i) (argument_at bare w at 0) (get_or w (at + i) 0) (argument_at bare w at i)
    (word_sort sort terms (get_or w (at + i) 0)) (word_sort sort terms (argument_at bare w at i))

abbrev pub wrong_by : (ℕ → Sort) → List ℕ → ℕ → ℕ → found.Option ℕ
wrong_by sort w terms at = first_failing (stands_by sort w terms at) 0 (count_at w at)

-- ---- names

abbrev pub again_by : List ℕ → List ℕ → List ℕ → ℕ → Bool
again_by names tops w at =
    cond (is_declare (operation_at w at))
    (known_by names tops w at (argument_at bare w at 0) (argument_at bare w at 1) (argument_at bare w at 2)) false

-- The head of the record at a place stands.
abbrev pub head_by : List ℕ → List ℕ → List ℕ → ℕ → Bool
head_by names tops w at =
    cond (eqb (kind_of (get_or w at 0)) 2)
    (cond (ltb (count_at w at) (length w - at))
    (cond (count_fits (operation_at w at) (count_at w at) (argument_at bare w at 0)) (not (again_by names tops w at)) false)
    false)
    false

-- The place of the first fault of a record.
abbrev pub on_wrong : found.Option ℕ → (ℕ → ℕ) → Option ℕ
on_wrong found.none f = None
on_wrong (found.some i) f = Some (f i)

abbrev pub fault_by : (ℕ → Sort) → List ℕ → List ℕ → List ℕ → ℕ → ℕ → Option ℕ
fault_by sort names tops w terms at =
    cond (head_by names tops w at) (on_wrong (wrong_by sort w terms at) (λ i. at + 1 + i)) (Some at)
