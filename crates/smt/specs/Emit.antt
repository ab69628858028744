-- Document 01, "Modules", builder. What a run of the builder emits: from the builder's state its result, the state
-- after it, and the calls in order.
use Rattle.std.specs.Prelude.{List, [], ◌∷◌, ◌++◌, ℕ, zero, suc, ◌+◌, ◌*◌, get_or, set}
use Rattle.engine.specs.Call.{Name, Letter, Suffix, Call, term, assert, equal}
use Rattle.engine.specs.Call as c
use Rattle.smt.specs.Prog.{Prog, ret, op, declare, bind, bind2, Age, curr, past, Half, is_undef, is_one}

-- The number of the next term and of the next temporary; for each name of a net (four to a slot: n x, n y, p x, p y)
-- 0 where it is not declared, else one more than its term; for each slot its mark, by its last read: 0 (none), 1 (n),
-- 2 (p).
pub record St : Type 0 where
  pub next : ℕ
  pub temp : ℕ
  pub names : List ℕ
  pub marks : List ℕ

pub record Out (A : Type 0) : Type 0 where
  pub res : A
  pub st : St
  pub calls : List Call

abbrev pub letter_of : Age → Letter
letter_of curr = c.n
letter_of past = c.p

abbrev pub suffix_of : Half → Suffix
suffix_of is_undef = c.x
suffix_of is_one = c.y

-- The name of a net, the temporary of a number, and where a net's name stands in `names`.
abbrev pub net_name : Age → ℕ → Half → Name
net_name a i h = record { letter = letter_of a; index = i; suffix = suffix_of h }

abbrev pub temp_name : ℕ → Suffix → Name
temp_name i s = record { letter = c.t; index = i; suffix = s }

abbrev pub offset : Age → Half → ℕ
offset curr is_undef = 0
offset curr is_one = 1
offset past is_undef = 2
offset past is_one = 3

abbrev pub place : Age → ℕ → Half → ℕ
place a i h = 4 * i + offset a h

abbrev pub mark : Age → ℕ
mark curr = 1
mark past = 2

-- The state with other counts; after a read of a known name; after a name's declaration.
abbrev pub at : ℕ → ℕ → St → St
at next temp s = record { next = next; temp = temp; names = s.names; marks = s.marks }

abbrev pub reread : Age → ℕ → St → St
reread a i s = record { next = s.next; temp = s.temp; names = s.names; marks = set s.marks i (mark a) }

abbrev pub learn : Age → ℕ → Half → St → St
learn a i h s = record {
  next = suc s.next;
  temp = s.temp;
  names = set s.names (place a i h) (suc s.next);
  marks = set s.marks i (mark a);
}

-- The calls of a bind: the temporaries declared, and each asserted equal to its term.
abbrev pub bound : St → ℕ → ℕ → List Call
bound s w t =
    c.declare (temp_name s.temp c.none) w
    ∷ term (equal s.next t) ∷ assert (suc s.next) ∷ []

abbrev pub bound2 : St → ℕ → ℕ → ℕ → List Call
bound2 s w x y =
    c.declare (temp_name s.temp c.x) w
    ∷ c.declare (temp_name s.temp c.y) w
    ∷ term (equal s.next x) ∷ assert (suc (suc s.next))
    ∷ term (equal (suc s.next) y) ∷ assert (suc (suc (suc s.next))) ∷ []

abbrev pub after : {A : Type 0} → List Call → Out A → Out A
after cs o = record { res = o.res; st = o.st; calls = cs ++ o.calls }

-- By what `names` has for a name: not declared, or declared with a term.
abbrev pub known : {X : Type 0} → ℕ → X → (ℕ → X) → X
known zero new old = new
known (suc k) new old = old k

unfoldable pub emit : {A : Type 0} → Prog A → St → Out A
emit (ret a) s = record { res = a; st = s; calls = [] }
emit (op t f) s = after (term t ∷ []) (emit (f s.next) (at (suc s.next) s.temp s))
emit (declare a i h f) s =
    known (get_or s.names (place a i h) 0)
    (after (c.declare (net_name a i h) 1 ∷ []) (emit (f s.next) (learn a i h s)))
    (λ k. emit (f k) (reread a i s))
emit (bind w t f) s = after (bound s w t) (emit (f s.next) (at (suc (suc s.next)) (suc s.temp) s))
emit (bind2 w x y f) s =
    after (bound2 s w x y)
    (emit (f s.next (suc s.next)) (at (suc (suc (suc (suc s.next)))) (suc s.temp) s))
