-- Document 01, "Modules", builder. The model's ages and halves under the code's names, and what declaring a net's name
-- leaves.
use Rattle.std.specs.Prelude.{◌≡◌, List, ℕ, set}
use Rattle.engine.specs.Call as k
use Rattle.engine.specs.Encode.{record_of}
use Rattle.engine.specs.Emit.{Wrote}
use Rattle.smt.specs.Prog as m
use Rattle.smt.specs.Emit.{net_name}
use Rattle.builder.specs.declared.Counts.{Counts}
use Rattle.builder.specs.declared.Built.{Built}
use Rattle.builder.specs.Ran.{built_at, following}
use Rattle.names.specs.declared.Age.{Age}
use Rattle.names.specs.declared.Age.TheVariants.{Curr, Past}
use Rattle.names.specs.declared.Half.{Half}
use Rattle.names.specs.declared.Half.TheVariants.{IsUndef, IsOne}

abbrev pub age_of : Age → m.Age
age_of Curr = m.curr
age_of Past = m.past

abbrev pub half_of : Half → m.Half
half_of IsUndef = m.is_undef
half_of IsOne = m.is_one

-- A name was declared: its call is written, and the table has one more than its term.
pub record Declared (a : m.Age) (i : ℕ) (h : m.Half) (calls names : List ℕ) (c : Counts) (at : ℕ)
    (calls' names' : List ℕ) (r : Built) : Type 0 where
  pub words : ℕ
  pub wrote : Wrote calls c.words (record_of (k.declare (net_name a i h) 1)) calls' words
  pub built : r ≡ built_at c words
  pub knows : names' ≡ set names at (following c.terms)
