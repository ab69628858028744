-- Document 02, change 4: what the order and the loop are, said of the reads alone.
use Rattle.std.specs.Prelude.{◌≡◌, ◌≢◌, Bool, true, List, ℕ, ◌+◌, ◌-◌, ◌≤◌, ◌<◌, get_or, length}

-- Slot a stands among the first k of a list.
abbrev pub Among : List ℕ → ℕ → ℕ → Type 0
Among l k a = (j : ℕ) × ((j < k) × (get_or l j 0 ≡ a))

-- No slot stands twice in a list.
abbrev pub Distinct : List ℕ → Type 0
Distinct l = (i j : ℕ) → i < j → j < length l → get_or l i 0 ≢ get_or l j 0

-- reads a b: does node a read node b currently?
module _ (reads : ℕ → ℕ → Bool) where
  -- All nodes and nothing else, none twice, "each after all of them it reads currently, the lowest ready one always
  -- next".
  pub record IsOrder (node : ℕ → Bool) (l : List ℕ) : Type 0 where
    pub only : (k : ℕ) → k < length l → node (get_or l k 0) ≡ true
    pub all : (a : ℕ) → node a ≡ true → Among l (length l) a
    pub once : Distinct l
    pub after : (k b : ℕ) → k < length l → reads (get_or l k 0) b ≡ true → Among l k b
    pub lowest : (k a : ℕ) → k < length l → node a ≡ true → (Among l k a → ⊥)
        → ((b : ℕ) → reads a b ≡ true → Among l k b) → get_or l k 0 ≤ a

  -- A loop without a repetition: "each one's cell or Void reading the next and the last reading the first".
  pub record IsLoop (l : List ℕ) : Type 0 where
    pub some : 0 < length l
    pub next : (k : ℕ) → k + 1 < length l → reads (get_or l k 0) (get_or l (k + 1) 0) ≡ true
    pub closed : reads (get_or l (length l - 1) 0) (get_or l 0 0) ≡ true
    pub once : Distinct l
