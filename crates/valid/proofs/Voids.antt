-- Document 01, fault 10: the second pass over the words of a design that names no Void of the base meets no fault.
use mathlib.Core.Path.{◌≡◌, refl}
use mathlib.Core.Bool.{Bool, true, false, cond, true≢false}
use mathlib.Core.List.{List, [], ◌∷◌, ◌++◌, map, flat_map}
use Prim.Native.Nat.{ℕ, suc, ◌+◌, ◌≤◌, ◌<◌}
use native.Mathlib.Omega.{arith}
use lib.ListN.{length}
use lib.Dec.{ltb, leb, eqb}
use borrow.Author.Tests.{ltb-true, lt-ltb, eq-eqb}
use Rattle.std.specs.Prelude.{Ok}
use Rattle.logic.specs.Word.{kind_of, payload_of, word_of, number_word}
use Rattle.logic.proofs.WordLaws.{kind_of_word, payload_of_word}
use Rattle.logic.specs.Net.{Net, constant, slot, payload_of_net}
use Rattle.logic.proofs.NetLaws.{driver_of_slot, driver_of_constant}
use Rattle.logic.specs.declared.Trit.{Trit}
use Rattle.cell.specs.Cell.{Cell, Control, FlipFlop, standing, stands_void, stands_dff}
use Rattle.cell.specs.Cell as C
use Rattle.cell.specs.Operation.{standing_of}
use Rattle.cell.specs.Design.{Placed, NetPair, Design, total, cell_of}
use Rattle.cell.specs.Role.{role, is_void}
use Rattle.cell.specs.Each.{Each}
use Rattle.cell.proofs.EachLaws.{each_append}
use Rattle.right.specs.Nets.{Within, nets_of}
use Rattle.right.specs.Voids.{nets_beside_clock, NoVoid}
use Rattle.right.specs.Laid.{Run}
use Rattle.fields.specs.Field.{scan_many}
use Rattle.placing.specs.Slots as Slots
use Rattle.placing.specs.Slots.{takes}
use Rattle.voids.specs.Voids.{names_void, offends, void_at, clock_at, record_voids_at, replacement_voids_at, pair_voids_at}
use Rattle.accepted.proofs.Laid.{cell-takes}
use Rattle.valid.specs.Words.{net_word_of, control_word_of, trit_word_of, pattern_words_of, operation_of_cell, contents_of}
use Rattle.valid.specs.Words.{body_of, record_of, replacement_words_of, pair_words_of}
use Rattle.valid.proofs.Stands.{word_at, Stands, stands_tail, stands_inside, scan-words, each-words, each-items}
use Rattle.valid.proofs.Fields.{payload_low, each-any}
use Rattle.valid.proofs.Bodies.{head-count, head_operation}
use Rattle.valid.proofs.Records.{each-control, each-net, control_words, net_words, constant_words, pattern_words}

-- ---- What the second pass looks for.
-- Whether a slot is that of a Void of the base, as the reader tests it.
abbrev pub voids : Design → ℕ → Bool
voids d = Slots.is_void d.cells d.base

pub standing-not-void : (c : Cell) → is_void (role c) ≡ false → stands_void (standing c) ≡ false
standing-not-void C.void e = absurd (true≢false e)
standing-not-void C.note e = refl
standing-not-void (C.input n) e = refl
standing-not-void (C.io_buf n) e = refl
standing-not-void (C.unary op a) e = refl
standing-not-void (C.binary op a b) e = refl
standing-not-void (C.mux s a b) e = refl
standing-not-void (C.adc a b carry) e = refl
standing-not-void (C.aig a b) e = refl
standing-not-void (C.shift op value amount stride) e = refl
standing-not-void (C.match value enable patterns) e = refl
standing-not-void (C.assign value enable update offset) e = refl
standing-not-void (C.dff f) e = refl

-- A word that names no Void of the base.
abbrev NoVoidWord : Design → ℕ → Type 0
NoVoidWord d word = cond (leb (kind_of word) 1) (names_void (voids d) (payload_of word)) false ≡ false

-- A net that may be read.
abbrev pub Readable : Design → Net → Type 0
Readable d n = Within (total d) n × NoVoid d n

module _ (d : Design) (few : total d ≤ 4096) (run : Run 0 d.cells (total d)) where
  names-none : (n : Net) → Readable d n → names_void (voids d) (payload_of_net n) ≡ false
  unfolding names_void Slots.is_void
  names-none (constant t) r = rw (driver_of_constant t)
  names-none (slot i) r =
      let low : i < total d = r.0 in
      rw (driver_of_slot i (omega arith)) (go (ltb i d.base) refl)
    where
      go : (b : Bool) → ltb i d.base ≡ b → cond b (stands_void (standing (takes d.cells i).cell)) false ≡ false
      go false b = refl
      go true b =
          rw (← cell-takes d i run r.0) (standing-not-void (cell_of d i).cell (r.1 (ltb-true i d.base b)))

  number_no_void : (n : ℕ) → NoVoidWord d (number_word n)
  number_no_void n = rw (kind_of_word 3 n)

  -- A net or control word of a net that may be read.
  word_no_void : (kind : ℕ) (n : Net) → Readable d n → NoVoidWord d (word_of kind (payload_of_net n))
  word_no_void kind n r =
      rw (payload_of_word kind (payload_of_net n) (payload_low (total d) few n r.0), names-none n r)
      (either (leb (kind_of (word_of kind (payload_of_net n))) 1))
    where
      either : (b : Bool) → cond b false false ≡ false
      either true = refl
      either false = refl

  net_no_void : (n : Net) → Readable d n → NoVoidWord d (net_word_of n)
  unfolding net_word_of
  net_no_void n r = word_no_void 0 n r

  control_no_void : (k : Control) → Readable d k.net → NoVoidWord d (control_word_of k)
  unfolding control_word_of
  control_no_void k r = word_no_void (cond k.inverted 1 0) k.net r

  trit_no_void : (t : Trit) → Unit {0} → NoVoidWord d (trit_word_of t)
  unfolding trit_word_of
  trit_no_void t any = word_no_void 0 (constant t) (tt, tt)

  trits_no_void : (ts : List Trit) → Each (NoVoidWord d) (map trit_word_of ts)
  trits_no_void ts = each-words trit_word_of (λ _. Unit {0}) (NoVoidWord d) trit_no_void ts (each-any ts)

  pattern_no_void : (p : List (List Trit)) → Each (NoVoidWord d) (pattern_words_of p)
  unfolding pattern_words_of
  pattern_no_void p = (number_no_void (length p), each-items (map trit_word_of) (NoVoidWord d) trits_no_void p)

  -- The words of a body that follow its controls.
  fields_no_void :
      (c : Cell) → Each (Readable d) (contents_of c).nets →
      Each (NoVoidWord d) (net_words c ++ (constant_words c ++ pattern_words c))
  fields_no_void c readable =
      each_append (NoVoidWord d) (net_words c) _
      (each-words net_word_of (Readable d) (NoVoidWord d) net_no_void (contents_of c).nets readable)
      (each_append (NoVoidWord d) (constant_words c) _ (trits_no_void (contents_of c).constants)
      (each-items pattern_words_of (NoVoidWord d) pattern_no_void (contents_of c).patterns))

  module _ (w : List ℕ) where
    void-right : (clock at : ℕ) → NoVoidWord d (word_at w at) → void_at w (voids d) clock at ≡ Ok (at + 1)
    unfolding void_at offends
    void-right clock at q =
        rw (go (leb (kind_of (word_at w at)) 1) (eqb at clock) (names_void (voids d) (payload_of (word_at w at))) q)
      where
        go : (a b c : Bool) → cond a c false ≡ false → cond a (cond b false c) false ≡ false
        go false b c e = refl
        go true true c e = refl
        go true false c e = e

    -- A Dff's clock is not looked at.
    clock-right : (at : ℕ) → void_at w (voids d) at at ≡ Ok (at + 1)
    unfolding void_at offends
    clock-right at = rw (eq-eqb at at refl, go (leb (kind_of (word_at w at)) 1))
      where
        go : (a : Bool) → cond a false false ≡ false
        go true = refl
        go false = refl

    words_right :
        (clock end at : ℕ) (xs : List ℕ) → Stands w end at xs → Each (NoVoidWord d) xs →
        scan_many (void_at w (voids d) clock) (length xs) at ≡ Ok (at + length xs)
    words_right clock end at xs s all =
        scan-words w end (void_at w (voids d) clock) (NoVoidWord d) (λ place inside. void-right clock place) xs at s all

    -- The words of a cell other than a Dff.
    plain :
        (c : Cell) (clock end at : ℕ) → Each (Readable d) (nets_of c) → Stands w end at (body_of c) →
        scan_many (void_at w (voids d) clock) (length (body_of c)) at ≡ Ok (at + length (body_of c))
    plain c clock end at readable s =
        words_right clock end at (body_of c) s
        (each_append (NoVoidWord d) (map number_word (contents_of c).numbers) _
        (each-words number_word (λ _. Unit {0}) (NoVoidWord d) (λ n any. number_no_void n) (contents_of c).numbers
        (each-any (contents_of c).numbers))
        (each_append (NoVoidWord d) (control_words c) _
        (each-words control_word_of (λ (k : Control). Readable d k.net) (NoVoidWord d) control_no_void
        (contents_of c).controls (each-control (Readable d) c readable))
        (fields_no_void c (each-net (Readable d) c readable))))

    -- The words of a Dff, whose clock is its third field.
    flip_flop :
        (f : FlipFlop) (end at : ℕ) → Each (Readable d) (nets_beside_clock (C.dff f)) →
        Stands w end (at + 1) (body_of (C.dff f)) →
        scan_many (void_at w (voids d) (at + 3)) (length (body_of (C.dff f))) (at + 1)
        ≡ Ok (at + 1 + length (body_of (C.dff f)))
    unfolding scan_many
    flip_flop f end at readable s =
        let after : List ℕ = map control_word_of (f.clear ∷ f.reset ∷ f.enable ∷ [])
        ++ (map net_word_of f.dat ++ (map trit_word_of (f.clear_value ++ f.reset_value) ++ flat_map pattern_words_of [])) in
        let third : at + 1 + 1 + 1 ≡ at + 3 = omega arith in
        let rest : Stands w end (at + 3 + 1) after = rw third at (stands_tail (stands_tail (stands_tail s))) in
        let place : at + 1 + suc (suc (suc (length after))) ≡ at + 3 + 1 + length after = omega arith in
        rw (
          void-right (at + 3) (at + 1) (rw s.reads.0 (number_no_void (length f.dat))),
          void-right (at + 3) (at + 1 + 1) (rw s.reads.1.0 (number_no_void (cond f.reset_over_enable 1 0))),
          third,
          clock-right (at + 3),
          place,
        )
        (words_right (at + 3) end (at + 3 + 1) after rest (
          control_no_void f.clear readable.0,
          (
            control_no_void f.reset readable.1.0,
            (control_no_void f.enable readable.1.1.0, fields_no_void (C.dff f) readable.1.1.1),
          ),
        ))

    body-voids :
        (c : Cell) (end at : ℕ) → Each (Readable d) (nets_beside_clock c) → Stands w end (at + 1) (body_of c) →
        scan_many (void_at w (voids d) (cond (stands_dff (standing_of (operation_of_cell c))) (at + 3) 0)) (length (body_of c))
        (at + 1)
        ≡ Ok (at + 1 + length (body_of c))
    body-voids C.void end at r s = plain C.void 0 end (at + 1) r s
    body-voids C.note end at r s = plain C.note 0 end (at + 1) r s
    body-voids (C.input n) end at r s = plain (C.input n) 0 end (at + 1) r s
    body-voids (C.io_buf n) end at r s = plain (C.io_buf n) 0 end (at + 1) r s
    body-voids (C.unary op a) end at r s = plain (C.unary op a) 0 end (at + 1) r s
    body-voids (C.binary op a b) end at r s = plain (C.binary op a b) 0 end (at + 1) r s
    body-voids (C.mux sel a b) end at r s = plain (C.mux sel a b) 0 end (at + 1) r s
    body-voids (C.adc a b carry) end at r s = plain (C.adc a b carry) 0 end (at + 1) r s
    body-voids (C.aig a b) end at r s = plain (C.aig a b) 0 end (at + 1) r s
    body-voids (C.shift op a b stride) end at r s = plain (C.shift op a b stride) 0 end (at + 1) r s
    body-voids (C.match value enable patterns) end at r s = plain (C.match value enable patterns) 0 end (at + 1) r s
    body-voids (C.assign value enable update offset) end at r s =
        plain (C.assign value enable update offset) 0 end (at + 1) r s
    body-voids (C.dff f) end at r s = flip_flop f end at r s

    module _ (short : length w ≤ 16384) where
      pub record_voids :
          (at : ℕ) (c : Cell) → Stands w (length w) at (record_of c) → Each (Readable d) (nets_beside_clock c) →
          record_voids_at w (voids d) at ≡ Ok (at + length (record_of c))
      unfolding record_voids_at clock_at record_of
      record_voids at c s readable =
          let fits = s.fits in
          let op = operation_of_cell c in
          let count = length (body_of c) in
          let place : at + suc (length (body_of c)) ≡ at + 1 + length (body_of c) = omega arith in
          rw (
            lt-ltb at (length w) (stands_inside s),
            head-count w short op count at (omega arith) s.reads.0,
            head_operation w short op count at (omega arith) s.reads.0,
            place,
          )
          (body-voids c (length w) at readable (stands_tail s))

      pub replacement-voids :
          (at : ℕ) (p : Placed) → Stands w (length w) at (replacement_words_of p) →
          Each (Readable d) (nets_beside_clock p.cell) →
          replacement_voids_at w (voids d) at ≡ Ok (at + length (replacement_words_of p))
      unfolding replacement_voids_at
      replacement-voids at p s readable =
          let place : at + suc (length (record_of p.cell)) ≡ at + 1 + length (record_of p.cell) = omega arith in
          rw (lt-ltb at (length w) (stands_inside s), place) (record_voids (at + 1) p.cell (stands_tail s) readable)

      pub pair-voids :
          (at : ℕ) (p : NetPair) → Stands w (length w) at (pair_words_of p) → Readable d p.to →
          pair_voids_at w (voids d) at ≡ Ok (at + 2)
      unfolding pair_voids_at
      pair-voids at p s readable =
          let place : at + 2 ≡ at + 1 + 1 = omega arith in
          rw (lt-ltb at (length w) (stands_inside s), place)
          (void-right 0 (at + 1) (rw s.reads.1.0 (net_no_void p.to readable)))
