-- Laws of the definitions of Small.
use Prim.Native.Nat.{ℕ, zero, suc, ◌+◌, ◌-◌, ◌/◌, ◌%◌, ◌^◌, ◌<◌, ◌≤◌, max}
use mathlib.Core.Path.{◌≡◌, refl}
use mathlib.Core.Bool.{Bool, true, false, cond}
use mathlib.Core.List.{List}
use native.Mathlib.Omega.{arith}
use lib.ListN.{length, get_or, get_or-eq_default}
use lib.Dec.{ltb, leb, eqb}
use borrow.Author.Tests.{ltb-true, ltb-false, leb-true}
use Rattle.std.specs.Prelude.{Option, Some, None, Result, Ok, Err}
use Rattle.logic.specs.declared.Fault.{Fault}
use Rattle.logic.specs.Word.{kind_of, payload_of}
use Rattle.logic.specs.Net.{driver_of}
use Rattle.logic.specs.declared.Slot.{Slot}
use Rattle.cell.specs.declared.Mode.{Mode}
use Rattle.cell.specs.Operation.{operation_of, numbers_of, fields_of}
use Rattle.cell.specs.declared.Operation.{Operation}
use Rattle.cell.specs.declared.Numbers.{Numbers}
use Rattle.cell.specs.declared.Fields.{Fields}
use Rattle.fields.specs.declared.Head.{Head}
use Rattle.fields.specs.Field.{fault, on_number, on_read, is_constant, is_known, most_kind, number_at, net_at, bit_at}
use Rattle.fields.specs.Field.{scan_bit, constant_at, scan_many, nets_at, constants_at, ends_at}
use Rattle.fields.specs.Pattern.{alternate_at, pattern_at, patterns_at}
use Rattle.fields.specs.Head.{record_of, on_head, head_of, head_at}
use Rattle.cell_reader.specs.declared.Leading.{Leading}
use Rattle.cell_reader.specs.declared.Record.{Record}
use Rattle.cell.specs.Design.{Placed}
use Rattle.cell_reader.specs.Parse.{number_in, cell_at}
use Rattle.items.specs.declared.Header.{Header}
use Rattle.placing.specs.declared.Placing.{Placing}
use Rattle.items.specs.Items.{Reading, stop, refuse, push, counts_at, header_at, listed_number_at, listed_net_at}
use Rattle.items.specs.Items.{replaces, Test, replacement_at, ascending, new_cell, cell_reps_from}
use Rattle.items.specs.Items.{pair_at, net_pair, net_reps_from, finish_at}
use Rattle.placing.specs.Cells.{limit_of, on_placing, placed_at, cells_from, cells_of}
use Rattle.placing.specs.Slots.{at_slot, is_void}
use Rattle.voids.specs.Voids.{void_driver, names_void, offends, void_at, clock_at, record_voids_at, replacement_voids_at}
use Rattle.voids.specs.Voids.{pair_voids_at, voids_at}
use Rattle.design_list.specs.Read.{Read, refused, read_net_reps, read_cell_reps, read_cells, read}
use Rattle.cell_reader.specs.Record.{on_leading, on_record, third_at, second_at, first_at, leading_at, tail_at, body_at}
use Rattle.cell_reader.specs.Record.{contents_at, record_at}
use Rattle.refusals.specs.Small.{Small, SmallRead}
use Rattle.fields.specs.Head.{head}
use Rattle.cell_reader.specs.Record.{leading}
use Rattle.cell_reader.specs.Record.{cell_record}
use Rattle.placing.specs.Cells.{placing}

-- What each answer may be, where its places are at most `end`.
abbrev SmallNumber : ℕ → Result (ℕ × ℕ) Fault → Type 0
SmallNumber end (Ok (n, next)) = next ≤ end
SmallNumber end (Err e) = Small e

abbrev SmallScan : ℕ → Result ℕ Fault → Type 0
SmallScan end (Ok next) = next ≤ end
SmallScan end (Err e) = Small e

abbrev SmallLeading : ℕ → Result Leading Fault → Type 0
SmallLeading end (Ok l) = l.next ≤ end
SmallLeading end (Err e) = Small e

abbrev SmallRecord : ℕ → Result Record Fault → Type 0
SmallRecord end (Ok r) = r.next ≤ end
SmallRecord end (Err e) = Small e

abbrev SmallHead : ℕ → Result Head Fault → Type 0
SmallHead top (Ok h) = (h.first ≤ h.end) × (h.end ≤ top)
SmallHead top (Err e) = Small e

abbrev SmallPlacing : ℕ → Result Placing Fault → Type 0
SmallPlacing end (Ok p) = p.next ≤ end
SmallPlacing end (Err e) = Small e

abbrev SmallStep : ℕ → Result (ℕ × ℕ) Fault → Type 0
SmallStep end (Ok (least, next)) = next ≤ end
SmallStep end (Err e) = Small e

module _ (w : List ℕ) (end : ℕ) (low : end ≤ 16384) where
  number_small : (bound at : ℕ) → at ≤ end → SmallNumber end (number_at w bound end at)
  unfolding number_at
  number_small bound at here = go (ltb at end) (eqb (kind_of (get_or w at 0)) 3) (leb (payload_of (get_or w at 0)) bound) refl
    where
      go :
          (a b c : Bool) → ltb at end ≡ a →
          SmallNumber end
          (cond a (cond b (cond c (Ok (payload_of (get_or w at 0), at + 1)) (Err (fault 4 at)))
          (Err (fault 2 at))) (Err (fault 5 at)))
      go true true true e = let inside : at < end = ltb-true _ _ e in omega arith
      go true true false e = omega arith
      go true false c e = omega arith
      go false b c e = omega arith

  net_small : (total : ℕ) (may_invert : Bool) (at : ℕ) → at ≤ end → SmallScan end (net_at w total may_invert end at)
  unfolding net_at
  net_small total may_invert at here =
      go (ltb at end) (leb (kind_of (get_or w at 0)) (most_kind may_invert)) (is_known total (payload_of (get_or w at 0))) refl
    where
      go :
          (a b c : Bool) → ltb at end ≡ a →
          SmallScan end
          (cond a (cond b (cond c (Ok (at + 1)) (Err (fault 6 at))) (Err (fault 2 at)))
          (Err (fault 5 at)))
      go true true true e = let inside : at < end = ltb-true _ _ e in omega arith
      go true true false e = omega arith
      go true false c e = omega arith
      go false b c e = omega arith

  constant_small : (at : ℕ) → at ≤ end → SmallScan end (constant_at w end at)
  unfolding constant_at bit_at
  constant_small at here = go (ltb at end) (eqb (kind_of (get_or w at 0)) 0) (is_constant (payload_of (get_or w at 0))) refl
    where
      go :
          (a b c : Bool) → ltb at end ≡ a →
          SmallScan end
          (scan_bit (cond a (cond b (cond c (Ok (Some (at + 1))) (Ok None)) (Err (fault 2 at)))
          (Err (fault 5 at))) at)
      go true true true e = let inside : at < end = ltb-true _ _ e in omega arith
      go true true false e = omega arith
      go true false c e = omega arith
      go false b c e = omega arith

  -- One scan after another, and many.
  clean_small : (s : Result ℕ Fault) (f : ℕ → Result ℕ Fault) → SmallScan end s → ((n : ℕ) → n ≤ end → SmallScan end (f n)) →
      SmallScan end (on_read s Err f)
  clean_small (Ok n) f here rest = rest n here
  clean_small (Err e) f here rest = here

  many_small :
      (step : ℕ → Result ℕ Fault) → ((at : ℕ) → at ≤ end → SmallScan end (step at)) → (n at : ℕ) →
      at ≤ end → SmallScan end (scan_many step n at)
  unfolding scan_many
  many_small step one zero at here = here
  many_small step one (suc n) at here = clean_small (step at) (scan_many step n) (one at here) (many_small step one n)

  pattern_small : (n at : ℕ) → at ≤ end → SmallScan end (pattern_at w n end at)
  unfolding pattern_at alternate_at
  pattern_small n at here = go (number_at w 64 end at) (number_small 64 at here)
    where
      go : (c : Result (ℕ × ℕ) Fault) → SmallNumber end c → SmallScan end (on_number c Err (scan_many (alternate_at w n end)))
      go (Err e) s = s
      go (Ok (a, next)) s = many_small (alternate_at w n end) (many_small (constant_at w end) constant_small n) a next s

  patterns_small : (n k at : ℕ) → at ≤ end → SmallScan end (patterns_at w n end k at)
  unfolding patterns_at
  patterns_small n k at here = many_small (pattern_at w n end) (pattern_small n) k at here

  ends_small : (at : ℕ) → at ≤ end → SmallScan end (ends_at end at)
  unfolding ends_at
  ends_small at here = go (eqb at end)
    where
      go : (a : Bool) → SmallScan end (cond a (Ok end) (Err (fault 5 at)))
      go true = omega arith
      go false = omega arith

  body_small : (total : ℕ) (layout : Fields) (n at : ℕ) → at ≤ end → SmallScan end (body_at w total layout n end at)
  unfolding body_at tail_at
  body_small total layout n at here =
      clean_small (nets_at w total true end layout.controls at) _
      (many_small (net_at w total true end) (net_small total true) layout.controls at here) (λ a ha.
      clean_small (nets_at w total false end layout.nets a) _
      (many_small (net_at w total false end) (net_small total false) layout.nets a ha) (λ b hb.
      clean_small (constants_at w end layout.constants b) _
      (many_small (constant_at w end) constant_small layout.constants b hb) (λ c hc.
      clean_small (patterns_at w n end layout.patterns c) _ (patterns_small n layout.patterns c hc) ends_small)))

  value_small :
      (v : Result (ℕ × ℕ) Fault) (f : ℕ → ℕ → Result Leading Fault) → SmallNumber end v → ((n next : ℕ) → next ≤ end → SmallLeading end (f n next))
      → SmallLeading end (on_number v Err f)
  value_small (Ok (n, next)) f here rest = rest n next here
  value_small (Err e) f here rest = here

  third_small : (numbers : Numbers) (n m at : ℕ) → at ≤ end → SmallLeading end (third_at w numbers end n m at)
  unfolding third_at
  third_small numbers n m at here =
      value_small (number_at w (2 ^ 29 - 1) end at) _ (number_small (2 ^ 29 - 1) at here) (λ offset next s.
      go numbers.within (ltb n (offset + m)) next s)
    where
      go : (a b : Bool) (next : ℕ) → next ≤ end →
          SmallLeading end (cond a (cond b (Err (fault 9 at)) (Ok (leading n m next))) (Ok (leading n m next)))
      go true true next s = omega arith
      go true false next s = s
      go false b next s = s

  second_small : (numbers : Numbers) (n at : ℕ) → at ≤ end → SmallLeading end (second_at w numbers end n at)
  unfolding second_at
  second_small numbers n at here =
      value_small (number_at w numbers.second end at) _ (number_small numbers.second at here) (λ m next s.
      go (eqb numbers.count 2) m next s)
    where
      go : (a : Bool) (m next : ℕ) → next ≤ end →
          SmallLeading end (cond a (Ok (leading n m next)) (third_at w numbers end n m next))
      go true m next s = s
      go false m next s = third_small numbers n m next s

  leading_small : (numbers : Numbers) (at : ℕ) → at ≤ end → SmallLeading end (leading_at w numbers end at)
  unfolding leading_at first_at
  leading_small numbers at here = none (eqb numbers.count 0)
    where
      go :
          (a b : Bool) (n next : ℕ) → next ≤ end →
          SmallLeading end (cond a (Err (fault 7 at)) (cond b (Ok (leading n 0 next)) (second_at w numbers end n next)))
      go true b n next s = omega arith
      go false true n next s = s
      go false false n next s = second_small numbers n next s

      none : (a : Bool) → SmallLeading end (cond a (Ok (leading 0 0 at)) (first_at w numbers end at))
      none true = here
      none false =
          value_small (number_at w 63 end at) _ (number_small 63 at here)
          (λ n next s. go (ltb n numbers.least) (eqb numbers.count 1) n next s)

  contents_small : (total : ℕ) (op : Operation) (first : ℕ) → first ≤ end →
      SmallRecord end (contents_at w total op end first)
  unfolding contents_at
  contents_small total op first here =
      go (leading_at w (numbers_of op) end first) (leading_small (numbers_of op) first here)
    where
      body : (s : Result ℕ Fault) (width : ℕ) → SmallScan end s →
          SmallRecord end (on_read s Err (λ (after : ℕ). Ok (cell_record op width after)))
      body (Ok next) width s = s
      body (Err e) width s = s

      go :
          (l : Result Leading Fault) → SmallLeading end l →
          SmallRecord end
          (on_leading l Err
          (λ (n m next : ℕ). on_read (body_at w total (fields_of op n m) n end next) Err
          (λ (after : ℕ). Ok (cell_record op (fields_of op n m).width after))))
      go (Err e) s = s
      go (Ok l) s =
          body (body_at w total (fields_of op l.n l.m) l.n end l.next) (fields_of op l.n l.m).width
          (body_small total (fields_of op l.n l.m) l.n l.next s)

abbrev SmallOpening : Result Header Fault → Type 0
SmallOpening (Ok h) = Unit {0}
SmallOpening (Err e) = Small e

abbrev RefusesSmall : Result ℕ Fault → Type 0
RefusesSmall (Ok next) = Unit {0}
RefusesSmall (Err e) = Small e

clean_refuses : (s : Result ℕ Fault) (f : ℕ → Result ℕ Fault) → RefusesSmall s → ((n : ℕ) → RefusesSmall (f n)) →
    RefusesSmall (on_read s Err f)
clean_refuses (Ok n) f here rest = rest n
clean_refuses (Err e) f here rest = here

many_refuses : (step : ℕ → Result ℕ Fault) → ((at : ℕ) → RefusesSmall (step at)) → (n at : ℕ) → RefusesSmall (scan_many step n at)
unfolding scan_many
many_refuses step one zero at = tt
many_refuses step one (suc n) at = clean_refuses (step at) (scan_many step n) (one at) (many_refuses step one n)

module _ (w : List ℕ) (short : length w ≤ 16384) where
  head_small : (at : ℕ) → at ≤ length w → SmallHead (length w) (head_at w at)
  unfolding head_at record_of
  head_small at here =
      go (ltb at (length w)) (eqb (kind_of (get_or w at 0)) 2) (operation_of (payload_of (get_or w at 0) % 32))
    where
      count : ℕ
      count = payload_of (get_or w at 0) / 32

      known : (o : Operation) (c : Bool) → leb (at + 1 + count) (length w) ≡ c →
          SmallHead (length w) (cond c (Ok (head o (at + 1) (at + 1 + count))) (Err (fault 1 (length w))))
      known o true e = let fits : at + 1 + count ≤ length w = leb-true _ _ e in omega arith
      known o false e = omega arith

      go :
          (a b : Bool) (d : Option Operation) →
          SmallHead (length w)
          (cond a (cond b (head_of d count (length w) at) (Err (fault 2 at))) (Err (fault 1 (length w))))
      go true true (Some o) = known o (leb (at + 1 + count) (length w)) refl
      go true true None = omega arith
      go true false d = omega arith
      go false b d = omega arith

  wider : (end : ℕ) (r : Result Record Fault) → end ≤ length w → SmallRecord end r → SmallRecord (length w) r
  wider end (Ok r) low s = omega arith
  wider end (Err e) low s = s

  record_small : (total at : ℕ) → at ≤ length w → SmallRecord (length w) (record_at w total at)
  unfolding record_at
  record_small total at here = go (head_at w at) (head_small at here)
    where
      go : (h : Result Head Fault) → SmallHead (length w) h →
          SmallRecord (length w)
          (on_head h Err (λ (op : Operation) (first end : ℕ). contents_at w total op end first))
      go (Err e) s = s
      go (Ok h) s =
          wider h.end (contents_at w total h.op h.end h.first) s.1
          (contents_small w h.end (omega (arith, s.1)) total h.op h.first s.0)

  placed_small : (base total slot at : ℕ) → at ≤ length w → SmallPlacing (length w) (placed_at w base total slot at)
  unfolding placed_at
  placed_small base total slot at here = go (record_at w total at) (record_small total at here)
    where
      fits :
          (a : Bool) (op : Operation) (width next : ℕ) → next ≤ length w →
          SmallPlacing (length w)
          (cond a (Ok (placing op width (record { 0 = slot + max 1 width }) next)) (Err (fault 11 at)))
      fits true op width next s = s
      fits false op width next s = omega arith

      go :
          (r : Result Record Fault) → SmallRecord (length w) r →
          SmallPlacing (length w)
          (on_record r Err (λ (op : Operation) (width next : ℕ).
          cond (leb (slot + max 1 width) (limit_of base total slot))
          (Ok (placing op width (record { 0 = slot + max 1 width }) next)) (Err (fault 11 at))))
      go (Err e) s = s
      go (Ok r) s = fits (leb (slot + max 1 r.width) (limit_of base total slot)) r.op r.width r.next s

  cells_small : (base total turns slot at : ℕ) →
      at ≤ length w → SmallScan (length w) (cells_from w base total turns slot at).scan
  unfolding cells_from
  cells_small base total zero slot at here = here
  cells_small base total (suc turns) slot at here =
      more (ltb slot total) (placed_at w base total slot at) (placed_small base total slot at here)
      (λ after next s. cells_small base total turns after next s)
    where
      rest : Operation → ℕ → Slot → ℕ → Reading Placed
      rest op width after next =
          push (record { slot = slot; cell = cell_at w at }) (cells_from w base total turns after.0 next)

      more :
          (a : Bool) (p : Result Placing Fault) → SmallPlacing (length w) p →
          ((after next : ℕ) → next ≤ length w → SmallScan (length w) (cells_from w base total turns after next).scan) →
          SmallScan (length w) (cond a (on_placing p refuse rest) (stop (Ok at))).scan
      more false p s next = here
      more true (Err e) s next = s
      more true (Ok p) s next = next p.after.0 p.next s

  listed-number_small : (at : ℕ) → at ≤ length w → SmallNumber (length w) (listed_number_at w at)
  unfolding listed_number_at
  listed-number_small at here = go (ltb at (length w))
    where
      go : (a : Bool) →
          SmallNumber (length w) (cond a (number_at w (2 ^ 29 - 1) (length w) at) (Err (fault 1 (length w))))
      go true = number_small w (length w) short (2 ^ 29 - 1) at here
      go false = omega arith

  listed-net_small : (total at : ℕ) → at ≤ length w → SmallScan (length w) (listed_net_at w total at)
  unfolding listed_net_at
  listed-net_small total at here = go (ltb at (length w))
    where
      go : (a : Bool) → SmallScan (length w) (cond a (net_at w total false (length w) at) (Err (fault 1 (length w))))
      go true = net_small w (length w) short total false at here
      go false = omega arith

  replacement_small : (total : ℕ) (right : Test) (least at : ℕ) →
      at ≤ length w → SmallStep (length w) (replacement_at w total right least at)
  unfolding replacement_at
  replacement_small total right least at here = numbered (listed_number_at w at) (listed-number_small at here)
    where
      chosen : (a : Bool) (slot next : ℕ) → next ≤ length w →
          SmallStep (length w) (cond a (Ok (slot + 1, next)) (Err (fault 12 at)))
      chosen true slot next s = s
      chosen false slot next s = omega arith

      made :
          (slot : ℕ) (r : Result Record Fault) → SmallRecord (length w) r →
          SmallStep (length w)
          (on_record r Err (λ (op : Operation) (width next : ℕ).
          cond (right least slot op width) (Ok (slot + 1, next)) (Err (fault 12 at))))
      made slot (Err e) s = s
      made slot (Ok r) s = chosen (right least slot r.op r.width) slot r.next s

      numbered :
          (n : Result (ℕ × ℕ) Fault) → SmallNumber (length w) n →
          SmallStep (length w)
          (on_number n Err (λ (slot start : ℕ).
          on_record (record_at w total start) Err (λ (op : Operation) (width next : ℕ).
          cond (right least slot op width) (Ok (slot + 1, next)) (Err (fault 12 at)))))
      numbered (Err e) s = s
      numbered (Ok (slot, start)) s = made slot (record_at w total start) (record_small total start s)

  pair_small : (total least at : ℕ) → at ≤ length w → SmallStep (length w) (pair_at w total least at)
  unfolding pair_at
  pair_small total least at here = first (listed_net_at w total at) (listed-net_small total at here)
    where
      last : (a : Bool) (next : ℕ) → next ≤ length w →
          SmallStep (length w) (cond a (Ok (number_in w at + 1, next)) (Err (fault 13 at)))
      last true next s = s
      last false next s = omega arith

      second :
          (t : Result ℕ Fault) → SmallScan (length w) t →
          SmallStep (length w)
          (on_read t Err (λ (next : ℕ). cond (leb least (number_in w at)) (Ok (number_in w at + 1, next))
          (Err (fault 13 at))))
      second (Err e) s = s
      second (Ok next) s = last (leb least (number_in w at)) next s

      first :
          (t : Result ℕ Fault) → SmallScan (length w) t →
          SmallStep (length w)
          (on_read t Err (λ (to : ℕ). on_read (listed_net_at w total to) Err (λ (next : ℕ).
          cond (leb least (number_in w at)) (Ok (number_in w at + 1, next)) (Err (fault 13 at)))))
      first (Err e) s = s
      first (Ok to) s = second (listed_net_at w total to) (listed-net_small total to s)

  ascending_small :
      {A : Type 0} (step : ℕ → ℕ → Result (ℕ × ℕ) Fault) (item : ℕ → A) →
      ((least at : ℕ) → at ≤ length w → SmallStep (length w) (step least at)) →
      (k least at : ℕ) → at ≤ length w → SmallScan (length w) (ascending step item k least at).scan
  unfolding ascending
  ascending_small step item one zero least at here = here
  ascending_small {A} step item one (suc k) least at here =
      go (step least at) (one least at here) (λ above next s. ascending_small step item one k above next s)
    where
      go :
          (t : Result (ℕ × ℕ) Fault) → SmallStep (length w) t →
          ((above next : ℕ) → next ≤ length w → SmallScan (length w) (ascending step item k above next).scan) →
          SmallScan (length w)
          (on_number t refuse (λ (above next : ℕ). push (item at) (ascending step item k above next))).scan
      go (Err e) s rest = s
      go (Ok (above, next)) s rest = rest above next s

  -- The second pass refuses only at words of the list: past its end a word reads as constant 0.
  offends-inside : (void : ℕ → Bool) (clock at : ℕ) → offends w void clock at ≡ true → at < length w
  unfolding offends names_void
  offends-inside void clock at e = go (ltb at (length w)) refl e
    where
      zeroed : length w ≤ at → get_or w at 0 ≡ 0
      zeroed past = get_or-eq_default w 0 past

      silent : (b : Bool) → cond b false false ≡ true → ⊥
      silent true f = let z : ◌≡◌ {A = ℕ} 0 1 = cc in omega arith
      silent false f = let z : ◌≡◌ {A = ℕ} 0 1 = cc in omega arith

      go :
          (a : Bool) → ltb at (length w) ≡ a →
          cond (leb (kind_of (get_or w at 0)) 1)
          (cond (eqb at clock) false (void_driver void (driver_of (payload_of (get_or w at 0))))) false ≡ true →
          at < length w
      go true a f = ltb-true _ _ a
      go false a f = absurd (silent (eqb at clock) (rw (zeroed (ltb-false _ _ a)) at f))

  void_small : (void : ℕ → Bool) (clock at : ℕ) → RefusesSmall (void_at w void clock at)
  unfolding void_at
  void_small void clock at = go (offends w void clock at) refl
    where
      go : (a : Bool) → offends w void clock at ≡ a → RefusesSmall (cond a (Err (fault 10 at)) (Ok (at + 1)))
      go true a = let inside = offends-inside void clock at a in omega (arith, inside)
      go false a = tt

  fields_small : (void : ℕ → Bool) (at : ℕ) → RefusesSmall (record_voids_at w void at)
  unfolding record_voids_at
  fields_small void at = go (ltb at (length w))
    where
      go : (a : Bool) →
          RefusesSmall (cond a (scan_many (void_at w void (clock_at w at)) (number_in w at / 32) (at + 1)) (Ok at))
      go true =
          many_refuses (void_at w void (clock_at w at)) (void_small void (clock_at w at)) (number_in w at / 32) (at + 1)
      go false = tt

  replaced_small : (void : ℕ → Bool) (at : ℕ) → RefusesSmall (replacement_voids_at w void at)
  unfolding replacement_voids_at
  replaced_small void at = go (ltb at (length w))
    where
      go : (a : Bool) → RefusesSmall (cond a (record_voids_at w void (at + 1)) (Ok at))
      go true = fields_small void (at + 1)
      go false = tt

  to_small : (void : ℕ → Bool) (at : ℕ) → RefusesSmall (pair_voids_at w void at)
  unfolding pair_voids_at
  to_small void at = go (ltb at (length w))
    where
      go : (a : Bool) → RefusesSmall (cond a (void_at w void 0 (at + 1)) (Ok at))
      go true = void_small void 0 (at + 1)
      go false = tt

  voids_small : (void : ℕ → Bool) (cells reps pairs : ℕ) → RefusesSmall (voids_at w void cells reps pairs)
  unfolding voids_at
  voids_small void cells reps pairs =
      clean_refuses (scan_many (record_voids_at w void) cells 4) _
      (many_refuses (record_voids_at w void) (fields_small void) cells 4) (λ a.
      clean_refuses (scan_many (replacement_voids_at w void) reps a) _
      (many_refuses (replacement_voids_at w void) (replaced_small void) reps a) (λ b.
      many_refuses (pair_voids_at w void) (to_small void) pairs b))

  finish_small : (at : ℕ) → at ≤ length w → RefusesSmall (finish_at w at)
  unfolding finish_at
  finish_small at here = go (eqb at (length w))
    where
      go : (a : Bool) → RefusesSmall (cond a (Ok at) (Err (fault 1 at)))
      go true = tt
      go false = omega arith

  -- The stages after the header.
  scan_small :
      (s : Result ℕ Fault) (f : ℕ → Read) → SmallScan (length w) s → ((n : ℕ) → n ≤ length w → SmallRead (f n)) →
      SmallRead (on_read s refused f)
  scan_small (Ok n) f here rest = rest n here
  scan_small (Err e) f here rest = here

  refuses_small : (s : Result ℕ Fault) (f : ℕ → Read) → RefusesSmall s → ((n : ℕ) → SmallRead (f n)) →
      SmallRead (on_read s refused f)
  refuses_small (Ok n) f here rest = rest n
  refuses_small (Err e) f here rest = here

  net_reps_small :
      (mode : Mode) (h : Header) (cells reps : List Placed) (replacements pairs : ℕ) → pairs ≤ length w →
      SmallRead (read_net_reps mode w h cells reps replacements pairs)
  unfolding read_net_reps
  net_reps_small mode h cells reps replacements pairs here =
      scan_small (net_reps_from w (h.base + h.added) h.netreps 0 pairs).scan _
      (ascending_small (pair_at w (h.base + h.added)) (net_pair w) (pair_small (h.base + h.added)) h.netreps 0
      pairs here) (λ c hc.
      refuses_small (finish_at w c) _ (finish_small c hc) (λ _.
      refuses_small (voids_at w (is_void cells h.base) (length cells) h.cellreps h.netreps) _
      (voids_small (is_void cells h.base) (length cells) h.cellreps h.netreps) (λ _. tt)))

  cell_reps_small : (mode : Mode) (h : Header) (cells : List Placed) (replacements : ℕ) → replacements ≤ length w →
      SmallRead (read_cell_reps mode w h cells replacements)
  unfolding read_cell_reps
  cell_reps_small mode h cells replacements here =
      let right : Test = replaces (at_slot cells) h.base in
      scan_small (cell_reps_from w (h.base + h.added) right h.cellreps 0 replacements).scan _
      (ascending_small (replacement_at w (h.base + h.added) right) (new_cell w)
      (replacement_small (h.base + h.added) right) h.cellreps 0 replacements here) (λ b hb.
      net_reps_small mode h cells _ replacements b hb)

  cells-read_small : (mode : Mode) (h : Header) → 4 ≤ length w → SmallRead (read_cells mode w h)
  unfolding read_cells cells_of
  cells-read_small mode h long =
      scan_small (cells_from w h.base (h.base + h.added) (h.base + h.added) 0 4).scan _
      (cells_small h.base (h.base + h.added) (h.base + h.added) 0 4 long) (λ a ha. cell_reps_small mode h _ a ha)

  -- The header.
  header-number_small :
      (v : Result (ℕ × ℕ) Fault) (f : ℕ → ℕ → Result Header Fault) → SmallNumber 4 v → ((n next : ℕ) → SmallOpening (f n next)) →
      SmallOpening (on_number v Err f)
  header-number_small (Ok (n, next)) f here rest = rest n next
  header-number_small (Err e) f here rest = here

  header_small : SmallOpening (header_at w)
  unfolding header_at counts_at
  header_small =
      header-number_small (number_at w 4096 4 0) _ (number_small w 4 (omega arith) 4096 0 (omega arith)) (λ base _.
      header-number_small (number_at w (4096 - base) 4 1) _
      (number_small w 4 (omega arith) (4096 - base) 1 (omega arith)) (λ added _.
      header-number_small (number_at w 4096 4 2) _ (number_small w 4 (omega arith) 4096 2 (omega arith)) (λ cellreps _.
      header-number_small (number_at w 4096 4 3) _ (number_small w 4 (omega arith) 4096 3 (omega arith))
      (λ netreps _. tt))))

pub read_small : (mode : Mode) (w : List ℕ) → SmallRead (read mode w)
unfolding read
read_small mode w = go (ltb 16384 (length w)) (ltb (length w) 4) refl refl
  where
    opened : (short : length w ≤ 16384) → 4 ≤ length w → (o : Result Header Fault) → SmallOpening o →
        SmallRead (on_read o refused (read_cells mode w))
    opened short long (Err e) s = s
    opened short long (Ok h) s = cells-read_small w short mode h long

    go :
        (a b : Bool) → ltb 16384 (length w) ≡ a → ltb (length w) 4 ≡ b →
        SmallRead
        (cond a (refused (fault 4 16384))
        (cond b (refused (fault 1 (length w))) (on_read (header_at w) refused (read_cells mode w))))
    go true b x y = omega arith
    go false true x y = let short : length w ≤ 16384 = ltb-false _ _ x in omega arith
    go false false x y = opened (ltb-false _ _ x) (ltb-false _ _ y) (header_at w) (header_small w (ltb-false _ _ x))
