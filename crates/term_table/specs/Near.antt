-- Document 01, "Words": a call record. Terms past the table of sorts: a ring has the sorts of the latest terms, and of
-- the others the records say where their sorts come from.
use Rattle.std.specs.Prelude.{Bool, cond, ◌&&◌, List, ℕ, zero, suc, ◌-◌, ◌%◌, length, get_or, set, leb, ltb}
use Rattle.engine.specs.Sorts.{Sort, no_sort}
use Rattle.engine.specs.Encode.{makes_term, operation_at, call_at}
use Rattle.engine.specs.Structure.{origin_of, choose, guarded, sort_from}
use Rattle.engine.specs.declared.Origin.{Origin}
use Rattle.engine.specs.declared.Origin.TheVariants.{Given}
use Rattle.term_places.specs.Places.{place_near}
use Rattle.term_table.specs.declared.Tables.{Tables}

-- Term k is one of the latest, of `terms` terms so far.
abbrev pub is_recent : List ℕ → ℕ → ℕ → Bool
is_recent recent terms k = ltb k terms && leb (terms - k) (length recent)

-- What is known of the sort of term k: from the table of the first terms or the ring of the latest its sort, else what
-- its record says.
abbrev pub origin_near : List ℕ → List ℕ → List ℕ → ℕ → List ℕ → ℕ → ℕ → Origin
origin_near sorts recent places gap w terms k =
    choose (ltb k (length sorts)) (Given (get_or sorts k 0))
    (choose (is_recent recent terms k) (Given (get_or recent (k % length recent) 0))
    (guarded k (origin_of (call_at w (place_near places gap w k)))))

-- The sort of term k through at most n terms, by what is known of each.
unfoldable pub sort_via : ℕ → (ℕ → Origin) → ℕ → Sort
sort_via zero known k = no_sort
sort_via (suc n) known k = sort_from (sort_via n known) (known k)

abbrev pub sort_near : List ℕ → List ℕ → List ℕ → ℕ → List ℕ → ℕ → ℕ → Sort
sort_near sorts recent places gap w terms k = sort_via (suc k) (origin_near sorts recent places gap w terms) k

-- The same, from a list's tables.
abbrev pub origin_in : Tables → ℕ → ℕ → Origin
origin_in t terms k = origin_near t.sorts.now t.recent.now t.places.now t.gap t.calls.now terms k

abbrev pub sort_in : Tables → ℕ → ℕ → Sort
sort_in t terms k = sort_near t.sorts.now t.recent.now t.places.now t.gap t.calls.now terms k

-- The sort of the term that the record at a place makes, by the sorts of terms.
abbrev pub record_by : (ℕ → Sort) → List ℕ → ℕ → Sort
record_by sort w at = sort_from sort (origin_of (call_at w at))

-- The sort of a record's term, if it makes one, goes into the table, and past it into the ring.
abbrev pub note_sort : (ℕ → Sort) → List ℕ → List ℕ → ℕ → ℕ → List ℕ
note_sort sort sorts w at terms = cond (makes_term (operation_at w at)) (set sorts terms (record_by sort w at)) sorts

abbrev pub note_recent : (ℕ → Sort) → List ℕ → List ℕ → List ℕ → ℕ → ℕ → List ℕ
note_recent sort sorts recent w at terms =
    cond (makes_term (operation_at w at) && leb (length sorts) terms)
    (set recent (terms % length recent) (record_by sort w at)) recent
