-- Laws of the definitions of Whole.
use mathlib.Core.Path.{◌≡◌, refl}
use mathlib.Core.Bool.{Bool, true, false, cond}
use mathlib.Core.List.{List, [], ◌∷◌}
use Prim.Native.Nat.{ℕ, ◌≤◌}
use native.Mathlib.Omega.{arith}
use lib.Dec.{ltb}
use lib.ListN.{length}
use Rattle.logic.specs.declared.Fault.{Fault}
use Rattle.builder.specs.declared.Counts.{Counts}
use Rattle.cell.specs.declared.Mode.{Mode}
use Rattle.cell.specs.Mode.{mode_of}
use Rattle.cell.specs.Design.{Design, total}
use Rattle.engine.specs.Encode.{encode}
use Rattle.design_list.specs.Read.{Read, refused, accepted}
use Rattle.refusals.specs.Small.{Small}
use Rattle.refusals.proofs.SmallLaws.{read_small}
use Rattle.order.specs.Verify.{built, verify}
use Rattle.requirement.specs.declared.Verified.{Verified}
use Rattle.std.specs.Prelude.{Result, Ok, Err, Option, Some, None}
use Rattle.requirement.specs.declared.Verified.TheVariants.{NothingAsked, Asked}
use Rattle.requirement.specs.Verified.{number_of, value_of, counted, told, of_design, roomed, of_read, verified}
use Rattle.requirement.specs.Verified.{read_by, read_in, of_read_unroomed, unroomed, room_for, in_room}
use Rattle.requirement.proofs.AnsweredLaws.{few-counts}
use Rattle.requirement.proofs.Required.{is-accepted}
use Rattle.packed.specs.Verified.{packed_verified, lent}
use Rattle.packed.specs.Whole.{Whole}

-- Numbers of the documents' faults, and values of at most 2^27.
abbrev Low : Result Verified Fault → Type 0
Low a = (number_of a ≤ 23) × (value_of a ≤ 134217728)

low-whole : (a : Result Verified Fault) → Low a → Whole a (packed_verified a)
low-whole (Err e) low = record { number = omega arith; asked = omega arith; value = omega arith }
low-whole (Ok (NothingAsked n)) low = record { number = omega arith; asked = omega arith; value = omega arith }
low-whole (Ok (Asked n)) low = record { number = omega arith; asked = omega arith; value = omega arith }

told-low : (l : List ℕ) (n : Counts) → n.words ≤ 134217728 → Low (Ok (told l n))
told-low [] n few = (omega arith, few)
told-low (o ∷ l) n few = (omega arith, few)

module _ (mode : ℕ) (w : List ℕ) where
  refused-low : {e : Fault} → read_in mode w ≡ refused e → Low (Err e)
  unfolding read_in
  refused-low {e} is = go (mode_of mode) is
    where
      go : (c : Option Mode) → read_by c w ≡ refused e → Low (Err e)
      go None is = let same : record { number = 23; place = 0 } ≡ e = cc in rw (← same) (omega arith, omega arith)
      go (Some m) is =
          let small : Small e = rw is at (read_small m w) in (omega (arith, small.0), omega (arith, small.1))

  module _ {d : Design} {reps pairs : ℕ} (is : read_in mode w ≡ accepted d reps pairs) where
    answered-low : Low (Ok (of_design d))
    answered-low = told-low (built d).res (counted (verify d)) (few-counts mode w is 0 0).words

    roomed-low : (room recorded : ℕ) → Low (roomed d room recorded)
    unfolding room_for
    roomed-low room recorded = go (ltb room (length (encode (verify d)))) (ltb recorded (total d))
      where
        go : (a b : Bool)
            → Low (in_room (cond a (Err (length (encode (verify d)))) (cond b (Err (total d)) (Ok tt))) (of_design d))
        go true b = let few = (few-counts mode w is 0 0).words in (omega arith, few)
        go false true = let low = (is-accepted mode w is).slots in (omega arith, omega arith)
        go false false = answered-low

  verified-low : (room recorded : ℕ) → Low (verified mode w room recorded)
  unfolding verified
  verified-low room recorded = go (read_in mode w) refl
    where
      go : (r : Read) → read_in mode w ≡ r → Low (of_read r room recorded)
      go (refused e) is = refused-low is
      go (accepted d reps pairs) is = roomed-low is room recorded

  unroomed-low : Low (unroomed mode w)
  unfolding unroomed
  unroomed-low = go (read_in mode w) refl
    where
      go : (r : Read) → read_in mode w ≡ r → Low (of_read_unroomed r)
      go (refused e) is = refused-low is
      go (accepted d reps pairs) is = answered-low is

lent-low : (a : Result Verified Fault) (room : ℕ) → Low a → Low (lent a room)
lent-low (Err e) room low = low
lent-low (Ok a) room low = go (ltb room 3)
  where
    go : (b : Bool) → Low (cond b (Err (record { number = 14; place = 3 })) (Ok a))
    go true = (omega arith, omega arith)
    go false = low

-- What verify answers, for every mode, every list and every two slices.
pub verified-whole : (mode : ℕ) (w : List ℕ) (room marks : ℕ) →
    let a = verified mode w room marks in Whole a (packed_verified a)
verified-whole mode w room marks = low-whole (verified mode w room marks) (verified-low mode w room marks)

-- What counts answers, for every mode, every list and every slice.
pub unroomed-whole : (mode : ℕ) (w : List ℕ) (room : ℕ) →
    let a = lent (unroomed mode w) room in Whole a (packed_verified a)
unroomed-whole mode w room =
    low-whole (lent (unroomed mode w) room) (lent-low (unroomed mode w) room (unroomed-low mode w))
