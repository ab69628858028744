-- Laws of the definitions of Theorem.
use mathlib.Core.Path.{◌≡◌, refl, ap, ◌∙◌}
use mathlib.Core.List.{List}
use Prim.Native.Nat.{ℕ, ◌≤◌}
use lib.ListN.{length}
use Rattle.cell.specs.declared.Mode.{Mode}
use Rattle.cell.specs.Design.{Design}
use Rattle.right.specs.Valid.{Valid}
use Rattle.design_list.specs.Read.{read, accepted}
use Rattle.design_list.proofs.AcceptedLaws.{accepted-read}
use Rattle.valid.specs.Words.{words_of, replacements_at, pairs_at}
use Rattle.valid.proofs.Stands.{stands_whole}
use Rattle.valid.proofs.Stages.{stands_read}
use Rattle.valid.proofs.Converse.{accepted_valid}
use Rattle.valid.proofs.Lists.{accepted-same}
use Rattle.valid.specs.Theorem.{IsWritten}

-- The reader does not refuse too much: every valid design has a list that is accepted, unless it is too long for one.
pub valid_read :
    (d : Design) → Valid d → length (words_of d) ≤ 16384 →
    read d.mode (words_of d) ≡ accepted d (replacements_at d) (pairs_at d)
valid_read d valid short = stands_read (words_of d) d valid short (stands_whole (words_of d)) refl

-- Nor too little: what is accepted stands for a valid design.
pub read_valid :
    (mode : Mode) (w : List ℕ) {d : Design} {replacements pairs : ℕ} → read mode w ≡ accepted d replacements pairs →
    Valid d
read_valid mode w e = accepted_valid mode w e

pub read-written :
    (mode : Mode) (w : List ℕ) {d : Design} {replacements pairs : ℕ} → read mode w ≡ accepted d replacements pairs →
    IsWritten w d replacements pairs
read-written mode w {d} {replacements} {pairs} e =
    let is = accepted-read mode w e in
    let same : w ≡ words_of d = accepted-same mode w e in
    let short : length (words_of d) ≤ 16384 = rw same at is.short in
    let again : read d.mode (words_of d) ≡ accepted d (replacements_at d) (pairs_at d) =
    valid_read d (read_valid mode w e) short in
    let once : read d.mode (words_of d) ≡ accepted d replacements pairs =
    ap (λ m. read m (words_of d)) is.same-mode ∙ rw same at e in
    record { words = same; short = short; replacements-at = cc; pairs-at = cc }
