-- Document 01, "Modules", builder. What holds of the result of a run of the builder, under any valuation of the terms
-- that meets what it emits. The rule of each kind of call is a weakest precondition with no state in it, so a run's
-- parts are judged one by one.
use Rattle.std.specs.Prelude.{◌≡◌, List, ℕ, suc, length, get_or}
use Rattle.engine.specs.Call.{Call}
use Rattle.engine.specs.Meaning.{Value, bits, Assignment, denote, Holds}
use Rattle.smt.specs.Prog.{Prog, ret, op, declare, bind, bind2, Age, Half}
use Rattle.smt.specs.Emit.{St, net_name, place}

module _ (ρ : Assignment) (v : ℕ → Value) where
  -- The bits of a net's name, one of them.
  pub record Named (a : Age) (i : ℕ) (h : Half) (k : ℕ) : Type 0 where
    pub is : v k ≡ bits (ρ (net_name a i h))
    pub one : length (ρ (net_name a i h)) ≡ 1

  abbrev pub wp : {A : Type 0} → Prog A → (A → Type 0) → Type 0
  wp (ret a) Q = Q a
  wp (op t f) Q = (k : ℕ) → v k ≡ denote v t → wp (f k) Q
  wp (declare a i h f) Q = (k : ℕ) → Named a i h k → wp (f k) Q
  wp (bind w t f) Q = (k : ℕ) → v k ≡ v t → wp (f k) Q
  wp (bind2 w x y f) Q = (k l : ℕ) → v k ≡ v x → v l ≡ v y → wp (f k l) Q

module _ (ρ : Assignment) (v : ℕ → Value) where
  -- Every known name's term is the name's bits.
  abbrev pub Known : List ℕ → Type 0
  Known names = (a : Age) (i : ℕ) (h : Half) (k : ℕ) → get_or names (place a i h) 0 ≡ suc k → Named ρ v a i h k

  -- After a run: what its weakest precondition promises of the result, the names still known, and the calls that
  -- follow met.
  pub record Sound {A : Type 0} (a : A) (s : St) (rest : List Call) (Q : A → Type 0) : Type 0 where
    pub post : Q a
    pub names : Known s.names
    pub more : Holds ρ v s.next rest
