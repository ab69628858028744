-- Whatever the reader accepts is a valid design.
use mathlib.Core.Path.{◌≡◌, refl, sym, ap, ◌∙◌}
use mathlib.Core.List.{List, [], ◌∷◌}
use Prim.Native.Nat.{ℕ, ◌-◌, ◌≤◌}
use native.Mathlib.Omega.{arith}
use lib.ListN.{length}
use Rattle.std.specs.Prelude.{Result, Ok, Err}
use Rattle.logic.specs.declared.Fault.{Fault}
use Rattle.logic.specs.Word.{number_word}
use Rattle.cell.specs.declared.Mode.{Mode}
use Rattle.cell.specs.Design.{Design, total}
use Rattle.right.specs.Valid.{Valid}
use Rattle.fields.specs.Field.{on_number, number_at}
use Rattle.fields.specs.Accepted.{IsNumber}
use Rattle.fields.proofs.AcceptedLaws.{number_read}
use Rattle.items.specs.declared.Header.{Header}
use Rattle.placing.specs.Slots.{at_slot}
use Rattle.items.specs.Items.{counts_at, header_at, replaces, ascending, replacement_at, new_cell, pair_at, net_pair}
use Rattle.design_list.specs.Read.{read, accepted}
use Rattle.design_list.specs.Accepted.{IsAccepted}
use Rattle.design_list.proofs.AcceptedLaws.{accepted-read}
use Rattle.accepted.proofs.Replacements.{climb_read}
use Rattle.accepted.proofs.Laid.{accepted-laid}
use Rattle.accepted.proofs.Bounds.{accepted-bounds}
use Rattle.accepted.proofs.Voids.{accepted-voids}
use Rattle.valid.proofs.Stands.{Reads, word_at}
use Rattle.valid.proofs.Spans.{number_word_lem}

-- A number of the header was read, and what follows it.
record Onward (v : Result (ℕ × ℕ) Fault) (f : ℕ → ℕ → Result Header Fault) (h : Header) : Type 0 where
  number : ℕ
  next : ℕ
  value : v ≡ Ok (number, next)
  rest : f number next ≡ Ok h

onward : (v : Result (ℕ × ℕ) Fault) (f : ℕ → ℕ → Result Header Fault) {h : Header} → on_number v Err f ≡ Ok h → Onward v f h
onward (Ok (n, next)) f e = record { number = n; next = next; value = refl; rest = e }
onward (Err fault) f e = let z : ◌≡◌ {A = ℕ} 0 1 = cc in absurd (omega arith)

-- A header that was read has at most 4,096 replacements of each kind, and its words are those of its numbers.
pub record IsHeader (w : List ℕ) (h : Header) : Type 0 where
  pub few-cells : h.cellreps ≤ 4096
  pub few-nets : h.netreps ≤ 4096
  pub words :
      Reads (word_at w) 0
      (number_word h.base ∷ number_word h.added ∷ number_word h.cellreps ∷ number_word h.netreps ∷ [])

pub header_is : (w : List ℕ) {h : Header} → header_at w ≡ Ok h → IsHeader w h
unfolding header_at counts_at
header_is w {h} read =
    let base = onward (number_at w 4096 4 0) _ read in
    let added = onward (number_at w (4096 - base.number) 4 1) _ base.rest in
    let reps = onward (number_at w 4096 4 2) _ added.rest in
    let nets = onward (number_at w 4096 4 3) _ reps.rest in
    let last = nets.rest in
    let is₀ = number_read w 4096 4 0 base.value in
    let is₁ = number_read w (4096 - base.number) 4 1 added.value in
    let is₂ = number_read w 4096 4 2 reps.value in
    let is₃ = number_read w 4096 4 3 nets.value in
    let same₀ : base.number ≡ h.base = cc in
    let same₁ : added.number ≡ h.added = cc in
    let same₂ : reps.number ≡ h.cellreps = cc in
    let same₃ : nets.number ≡ h.netreps = cc in
    record {
      few-cells = rw same₂ at is₂.bounded;
      few-nets = rw same₃ at is₃.bounded;
      words = (word 0 is₀ same₀, (word 1 is₁ same₁, (word 2 is₂ same₂, (word 3 is₃ same₃, tt))));
    }
  where
    word :
        (at : ℕ) {bound n m next : ℕ} → IsNumber w bound 4 at n next → n ≡ m → word_at w at ≡ number_word m
    word at {n = n} is same = number_word_lem w at is.kind ∙ ap number_word (sym is.value ∙ same)

-- As many items as were to be read.
many-items :
    {A : Type 0} (step : ℕ → ℕ → Result (ℕ × ℕ) Fault) (item : ℕ → A) (k least at end : ℕ) →
    (ascending step item k least at).scan ≡ Ok end → length (ascending step item k least at).items ≡ k
many-items step item k least at end read =
    (climb_read (λ _ _ _ _. Unit {0}) item step (λ least at above next e. tt) k least at end read).many

pub accepted-counts :
    {mode : Mode} {w : List ℕ} {d : Design} {replacements pairs : ℕ} (is : IsAccepted mode w d replacements pairs) →
    (length d.cell_reps ≡ is.header.cellreps) × (length d.net_reps ≡ is.header.netreps)
accepted-counts {mode} {w} {d} {replacements} {pairs} is =
    let step = replacement_at w (total d) (replaces (at_slot d.cells) d.base) in (
      ap length is.reps_are ∙
          many-items step (new_cell w) is.header.cellreps 0 replacements pairs is.reps_read,
      ap length is.pairs_are ∙
          many-items (pair_at w (total d)) (net_pair w) is.header.netreps 0 pairs is.end is.pairs-read,
    )

pub accepted_valid :
    (mode : Mode) (w : List ℕ) {d : Design} {replacements pairs : ℕ} → read mode w ≡ accepted d replacements pairs →
    Valid d
accepted_valid mode w e =
    let is = accepted-read mode w e in
    let head = header_is w is.header_read in
    let counts = accepted-counts is in
    record {
      slots = is.low;
      few-cells = rw counts.0 head.few-cells;
      few-nets = rw counts.1 head.few-nets;
      bounds = accepted-bounds mode w e;
      laid = accepted-laid mode w e;
      voids = accepted-voids mode w e;
    }
