-- Document 01, "Modules", order of work. What the code of the order of work is given and what it leaves: `verify` is to
-- answer `verified`, and to leave the two slices as it says.
use Rattle.std.specs.Prelude.{◌≡◌, List, ℕ, ◌*◌, ◌≤◌, length, replicate, Result}
use Rattle.logic.specs.declared.Fault.{Fault}
use Rattle.cell.specs.declared.Mode.{Mode}
use Rattle.cell.specs.Design.{Design, total}
use Rattle.engine.specs.Encode.{encode}
use Rattle.engine.specs.Emit.{Wrote}
use Rattle.design_list.specs.declared.Extent.{Extent}
use Rattle.design_list.specs.Read.{accepted, read}
use Rattle.order.specs.Verify.{built, verify}
use Rattle.builder.specs.declared.Counts.{Counts}
use Rattle.slots.specs.Tells.{Tells}
use Rattle.walk.specs.Works.{most_obligations}
use Rattle.running.specs.declared.Tally.{Tally}
use Rattle.requirement.specs.declared.Verified.{Verified}
use Rattle.requirement.specs.Verified.{counted, told, told_by, verified, calls_after, recorded_after}

-- An accepted list with its mode, the table of its slots and what the reader counted.
pub record Ready (mode : Mode) (w : List ℕ) (x : Extent) (table : List ℕ) : Type 0 where
  pub d : Design
  pub is : read mode w ≡ accepted d x.replacements x.pairs
  pub tells : Tells d table
  pub size : length table ≡ total d
  pub netreps : x.netreps ≡ length d.net_reps

-- Tables of no names and no marks for its slots.
pub record Blank (table names marks : List ℕ) : Type 0 where
  pub unnamed : names ≡ replicate (4 * length table) 0
  pub unmarked : marks ≡ replicate (length table) 0

-- Room for the terms of its obligations.
abbrev pub Roomy : Mode → List ℕ → Extent → List ℕ → ℕ → Type 0
Roomy mode w x table room = (ready : Ready mode w x table) → most_obligations ready.d ≤ room

-- What a pass counts, wherever it writes.
pub record Tallied (d : Design) (p : Tally) : Type 0 where
  pub counts : p.counts ≡ counted (verify d)
  pub asked : (n : Counts) → told_by p.obligations n ≡ told (built d).res n

pub record Passes (d : Design) (calls calls' marks' : List ℕ) (p : Tally) : Type 0 where
  pub wrote : Wrote calls 0 (encode (verify d)) calls' p.counts.words
  pub counts : p.counts ≡ counted (verify d)
  pub marks : marks' ≡ (built d).st.marks
  pub asked : (n : Counts) → told_by p.obligations n ≡ told (built d).res n

pub record Verifies (mode : ℕ) (w calls recorded calls' recorded' : List ℕ) (r : Result Verified Fault) : Type 0 where
  pub answer : r ≡ verified mode w (length calls) (length recorded)
  pub called : calls' ≡ calls_after mode w calls recorded
  pub marked : recorded' ≡ recorded_after mode w calls recorded
