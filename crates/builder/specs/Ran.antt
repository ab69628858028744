-- Document 01, "Modules", builder. What a function of the builder leaves, against what its model (smt, Builder) emits:
-- one record for every function. The code keeps the model's state as its counts and two lent tables, names and marks,
-- and keeps no widths: a contract speaks of every width.
use Rattle.std.specs.Prelude.{◌≡◌, List, ℕ, ◌<◌, ◌≤◌, ◌^◌, suc, min, length}
use Rattle.engine.specs.Encode.{encode}
use Rattle.engine.specs.Emit.{Wrote, last}
use Rattle.smt.specs.Prog.{Prog, BitVec, tv, bv}
use Rattle.smt.specs.Prog as model
use Rattle.smt.specs.Emit.{St, Out, emit}
use Rattle.builder.specs.declared.Counts.{Counts}
use Rattle.builder.specs.declared.TritVec.{TritVec}
use Rattle.builder.specs.declared.Built.{Built}
use Rattle.builder.specs.declared.BuiltTrits.{BuiltTrits}

-- The model's state.
abbrev pub state_of : Counts → List ℕ → List ℕ → St
state_of c names marks = record { next = c.terms; temp = c.temporaries; names = names; marks = marks }

-- A trit vector of the code, at a width.
abbrev pub trits : ℕ → TritVec → model.TritVec
trits w a = tv (bv a.x.0 w) (bv a.y.0 w)

-- Counts that 32 bits hold: an accepted list's do (its terms are fewer than 2^27).
pub record Fits (s : St) : Type 0 where
  pub next : s.next < 2 ^ 32
  pub temp : s.temp < 2 ^ 32

-- A lent slice and a count of words, as the machine has them.
pub record Lent (calls : List ℕ) (at : ℕ) : Type 0 where
  pub short : length calls < 2 ^ 64
  pub low : at ≤ last

-- What a run leaves: the state, the result, and the words of its calls, written from a count on.
pub record Ends {A : Type 0} (o : Out A) (calls : List ℕ) (at : ℕ) (calls' : List ℕ) (at' : ℕ) (s : St) (a : A) : Type 0
  where
    pub state : o.st ≡ s
    pub res : o.res ≡ a
    pub wrote : Wrote calls at (encode o.calls) calls' at'

-- The code did what the model's program emits. That the counts after it fit is a premise, met once, for the whole list.
pub record Ran {A : Type 0} (m : Prog A) (calls names marks : List ℕ) (c : Counts) (calls' names' marks' : List ℕ)
    (c' : Counts) (a : A) : Type 0 where
  pub ends : Lent calls c.words → Fits (emit m (state_of c names marks)).st
      → Ends (emit m (state_of c names marks)) calls c.words calls' c'.words (state_of c' names' marks') a

-- The same of code that has no part in the names and marks.
abbrev pub Writes : {A : Type 0} (m : Prog A) (calls : List ℕ) (c : Counts) (calls' : List ℕ) (c' : Counts) (a : A) →
    Type 0
Writes m calls c calls' c' a = (names marks : List ℕ) → Ran m calls names marks c calls' names marks c' a

-- The same, with a Bool, a bit vector or a trit vector of a width as the result.
abbrev pub MakesBool : Prog ℕ → List ℕ → Counts → List ℕ → Built → Type 0
MakesBool m calls c calls' r = Writes m calls c calls' r.counts r.term.0

abbrev pub MakesVector : Prog BitVec → ℕ → List ℕ → Counts → List ℕ → Built → Type 0
MakesVector m w calls c calls' r = Writes m calls c calls' r.counts (bv r.term.0 w)

abbrev pub MakesTrits : Prog model.TritVec → ℕ → List ℕ → Counts → List ℕ → BuiltTrits → Type 0
MakesTrits m w calls c calls' r = Writes m calls c calls' r.counts (trits w r.value)

-- Code that has a part in the names and marks, with a trit vector of a width as the result.
abbrev pub RanTrits : Prog model.TritVec → ℕ → List ℕ → List ℕ → List ℕ → Counts → List ℕ → List ℕ → List ℕ → BuiltTrits
    → Type 0
RanTrits m w calls names marks c calls' names' marks' r =
    Ran m calls names marks c calls' names' marks' r.counts (trits w r.value)

-- The same of a cell: its terms are the model's, of some width. (Those of an accepted cell have its output width;
-- nothing looks at it.)
abbrev pub RanCell : Prog model.TritVec → List ℕ → List ℕ → List ℕ → Counts → List ℕ → List ℕ → List ℕ → BuiltTrits →
    Type 0
RanCell m calls names marks c calls' names' marks' r = (w : ℕ) × RanTrits m w calls names marks c calls' names' marks' r

-- A count of terms stops at the largest number of 32 bits.
abbrev pub following : ℕ → ℕ
following n = min (suc n) 4294967295

-- A call's term, and the counts after it.
abbrev pub built_at : Counts → ℕ → Built
built_at c words = record {
  term = record { 0 = c.terms };
  counts = record { terms = following c.terms; temporaries = c.temporaries; words = words };
}
