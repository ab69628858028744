-- Requirement 3, "nothing left to choice", as one record about a design and its call list. Trits for the sources are
-- `Trits`: a current trit for each source slot and a past trit for each slot.
use Rattle.std.specs.Prelude.{◌≡◌, Bool, true, false, not, ℕ, suc, ◌<◌, length, get_or}
use mathlib.Core.List.{List, [], ◌∷◌, ◌++◌, map, Memᴰ}
use Rattle.logic.specs.Trit.{shows}
use Rattle.logic.specs.declared.Trit.{Trit}
use Rattle.cell.specs.Design.{Design, total}
use Rattle.right.specs.Laid.{Ascending}
use Rattle.rules.specs.CellRule.{Trits}
use Rattle.rules.specs.Refine.{Refines}
use Rattle.engine.specs.Call.{Name, Call}
use Rattle.engine.specs.Call as c
use Rattle.engine.specs.Meaning.{as_bool, Assignment, Fits, Asserted, run, value_at, terms, Earlier}
use Rattle.working_out.specs.Reading.{source, Alike}
use Rattle.working_out.specs.WorkingOut.{worked_out, whole}
use Rattle.working_out.specs.Obligations.{obligations, broken}
use Rattle.smt.specs.Prog.{Age, curr, past, Half, is_undef, is_one}
use Rattle.smt.specs.Emit.{net_name}

-- ---- names and what they show

unfoldable pub declared_names : List Call → List Name
declared_names [] = []
declared_names (c.term t ∷ cs) = declared_names cs
declared_names (c.declare name w ∷ cs) = name ∷ declared_names cs
declared_names (c.assert k ∷ cs) = declared_names cs
declared_names (c.check ∷ cs) = declared_names cs

abbrev pub IsDeclared : List Call → Name → Type 0
IsDeclared cs name = Memᴰ name (declared_names cs)

-- A net is declared with its two names, x and y.
abbrev pub Declared : List Call → Age → ℕ → Type 0
Declared cs a i = (h : Half) → IsDeclared cs (net_name a i h)

-- The trit that an assignment shows on a net: x of 1 hides y.
abbrev pub bit_in : Assignment → Name → Bool
bit_in ρ name = get_or (ρ name) 0 false

abbrev pub trit_in : Assignment → Age → ℕ → Trit
trit_in ρ a i = shows (bit_in ρ (net_name a i is_undef)) (bit_in ρ (net_name a i is_one))

abbrev pub trits_in : Assignment → Trits
trits_in ρ = record { now = trit_in ρ curr; was = trit_in ρ past }

-- ---- assignments that show given trits and satisfy every assertion but the query

-- The given trit of a net that is a source: a past net, or the current net of a source slot.
abbrev pub given_trit : Trits → Age → ℕ → Trit
given_trit g curr i = g.now i
given_trit g past i = g.was i

abbrev pub IsSource : Design → Age → ℕ → Type 0
IsSource d curr i = source d i ≡ true
IsSource d past i = Unit {0}

pub record Shows (d : Design) (g : Trits) (calls but : List Call) (ρ : Assignment) : Type 0 where
  -- the declared names have values of their widths
  pub fits : Fits ρ calls
  -- the sources that are declared show the given trits
  pub sources : (a : Age) (i : ℕ) → IsSource d a i → Declared calls a i → trit_in ρ a i ≡ given_trit g a i
  -- the assertions but the query are true
  pub satisfied : Asserted (value_at (run ρ [] calls)) but

-- ---- the query: the not of the and of the obligations' terms, asserted, and check after it; with no obligation
-- neither

abbrev pub query_calls : ℕ → List ℕ → List Call
query_calls next [] = []
query_calls next (o ∷ more) =
    c.term (c.and (o ∷ more)) ∷ c.term (c.not next) ∷ c.assert (suc next) ∷ c.check ∷ []

-- `but` has no check: all its assertions are claims.
unfoldable pub unchecked : List Call → Bool
unchecked [] = true
unchecked (c.term t ∷ cs) = unchecked cs
unchecked (c.declare name w ∷ cs) = unchecked cs
unchecked (c.assert k ∷ cs) = unchecked cs
unchecked (c.check ∷ cs) = false

-- Given trits made from others by turning Xs of sources into 0 or 1.
pub record Turned (d : Design) (g g' : Trits) : Type 0 where
  pub now : (i : ℕ) → source d i ≡ true → Refines (g.now i) (g'.now i)
  pub was : (i : ℕ) → Refines (g.was i) (g'.was i)

-- ---- the requirement

pub record Requirement3 (d : Design) (calls : List Call) : Type 0 where
  -- the calls but the query, and the arguments of the query's and
  pub but : List Call
  pub asked : List ℕ
  -- the calls end in the query, whose and has an argument for each obligation and no other
  pub query : calls ≡ but ++ query_calls (terms but) asked
  pub claims : unchecked but ≡ true
  pub each : length asked ≡ length (obligations d)
  -- the arguments ascend strictly: no obligation's term stands for another's
  pub ascend : Ascending (λ (k : ℕ). k) asked
  -- every call refers to earlier terms only
  pub earlier : Earlier 0 calls
  -- n x and n y of a slot are declared together or not at all, p x and p y likewise
  pub together : (a : Age) (i : ℕ) (h : Half) → IsDeclared calls (net_name a i h) → Declared calls a i
  -- for given trits, alike on joined flip-flops, some assignment shows them and satisfies every assertion but the query
  pub exists : (g : Trits) → Alike d g → (ρ : Assignment) × Shows d g calls but ρ
  -- every one that does shows on each declared current net exactly the trit of working out
  pub shown : (g : Trits) (ρ : Assignment) → Shows d g calls but ρ → (i : ℕ) → Declared calls curr i → trit_in ρ curr i
      ≡ worked_out d g i
  -- and makes an obligation false exactly when it is broken there
  pub judged : (g : Trits) (ρ : Assignment) → Shows d g calls but ρ
      → map (λ k. as_bool (value_at (run ρ [] calls) k)) asked ≡ map (λ o. not (broken d (whole d g) o)) (obligations d)
  -- every slot that is no source is declared as a current net
  pub declared : (i : ℕ) → i < total d → source d i ≡ false → Declared calls curr i
  -- turning given Xs into 0 or 1, joined ones alike, changes no declared net that showed 0 or 1
  pub monotone : (g g' : Trits) → Turned d g g' → (ρ ρ' : Assignment) → Shows d g calls but ρ → Shows d g' calls but ρ'
      → (a : Age) (i : ℕ) → Declared calls a i → Refines (trit_in ρ a i) (trit_in ρ' a i)
  -- an assignment that satisfies every assertion but the query shows joined flip-flops alike
  pub joined : (ρ : Assignment) → Fits ρ calls → Asserted (value_at (run ρ [] calls)) but → Alike d (trits_in ρ)
  -- the number of net trits left to a solver's choice is nought
  pub choiceless : (g : Trits) (ρ ρ' : Assignment) → Shows d g calls but ρ → Shows d g calls but ρ'
      → (a : Age) (i : ℕ) → Declared calls a i → trit_in ρ a i ≡ trit_in ρ' a i
