-- Document 01, requirement 3. The recorded marks and the calls: one mark for each slot, none, n or p. Both names of a
-- marked slot are declared (the writer never gives fault 2 at a mark), and no net of a slot that is marked none is: a
-- slot's mark is that of its last read, and the declared names are those that are read.
use Rattle.std.specs.Prelude.{◌≡◌, List, ℕ, ◌≤◌, ◌<◌, length, get_or}
use Rattle.engine.specs.Call.{Call}
use Rattle.smt.specs.Prog.{Age, curr, past, Half}
use Rattle.smt.specs.Emit.{net_name}
use Rattle.requirement.specs.Requirement3.{IsDeclared, Declared}

-- Marks and calls: a mark for each slot, 0 (none), 1 (n) or 2 (p). A slot marked none has no net declared, and both
-- names of a marked slot are.
pub record Marked (slots : ℕ) (marks : List ℕ) (calls : List Call) : Type 0 where
  pub many : length marks ≡ slots
  pub low : (i : ℕ) → get_or marks i 0 ≤ 2
  pub unread : (i : ℕ) → i < slots → get_or marks i 0 ≡ 0 → (a : Age) (h : Half) → IsDeclared calls (net_name a i h) → ⊥
  pub current : (i : ℕ) → get_or marks i 0 ≡ 1 → Declared calls curr i
  pub past : (i : ℕ) → get_or marks i 0 ≡ 2 → Declared calls past i
