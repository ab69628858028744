-- Document 01, "Modules", builder. The steps of bv_bind and tv_bind: calls of which one makes a term, and one more
-- temporary.
use Rattle.std.specs.Prelude.{◌≡◌, List, ℕ}
use Rattle.engine.specs.Call.{Call}
use Rattle.engine.specs.Encode.{encode}
use Rattle.engine.specs.Emit.{Wrote}
use Rattle.builder.specs.declared.Counts.{Counts}
use Rattle.builder.specs.Ran.{following}

-- Calls of which one makes a term, of this number: their words are written, and there is one term more.
pub record Called (cs : List Call) (term : ℕ) (calls : List ℕ) (c : Counts) (calls' : List ℕ) (c' : Counts) : Type 0
  where
    pub wrote : Wrote calls c.words (encode cs) calls' c'.words
    pub made : term ≡ c.terms
    pub terms : c'.terms ≡ following c.terms
    pub temporaries : c'.temporaries ≡ c.temporaries

-- `self.temp += 1`
abbrev pub next_temporary : Counts → Counts
next_temporary c = record { terms = c.terms; temporaries = following c.temporaries; words = c.words }
