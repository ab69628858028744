-- Document 01, "Words": a call record. The terms of calls: the call that makes term k, and its sort.
use Rattle.std.specs.Prelude.{Bool, true, false, List, [], ◌∷◌}
use Rattle.engine.specs.Call.{Call}
use Rattle.engine.specs.Call as c
use Rattle.engine.specs.Sorts.{Sort, no_sort, sort_of, start, leaves}

-- The calls that make terms; the call of term k is at place k.
unfoldable pub made : List Call → List Call
made [] = []
made (c.term t ∷ calls) = c.term t ∷ made calls
made (c.declare name w ∷ calls) = c.declare name w ∷ made calls
made (c.assert k ∷ calls) = made calls
made (c.check ∷ calls) = made calls

-- The sorts of the terms that calls make.
abbrev pub sorts_of : List Call → List Sort
sorts_of calls = (leaves start calls).sorts

-- Does a call make a term, and of which sort?
abbrev pub makes : Call → Bool
makes (c.term t) = true
makes (c.declare name w) = true
makes (c.assert k) = false
makes c.check = false

abbrev pub sort_of_call : List Sort → Call → Sort
sort_of_call sorts (c.term t) = sort_of sorts t
sort_of_call sorts (c.declare name w) = w
sort_of_call sorts (c.assert k) = no_sort
sort_of_call sorts c.check = no_sort
