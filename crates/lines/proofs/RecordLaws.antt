-- Laws of the definitions of Record.
use mathlib.Core.Path.{◌≡◌, ap, ◌∙◌, sym}
use mathlib.Core.List.{List}
use Prim.Native.Nat.{ℕ}
use Rattle.engine.specs.Call.{Call}
use Rattle.engine.specs.Encode.{Op, operation_at, count_at, bare, argument_at, call_at}
use Rattle.call_list.specs.declared.Cursor.{Cursor}
use Rattle.call_list.specs.Literal.{payloads}
use Rattle.text.specs.Bytes.{ascii}
use Rattle.pieces.specs.Text.{reference}
use Rattle.pieces.specs.Shape.{line_of, body_of}
use Rattle.pieces.specs.declared.Line.{Line}
use Rattle.pieces.specs.declared.Line.TheVariants.{Define, Declare, Assert, Check}
use Rattle.pieces.specs.declared.Body.{Body}
use Rattle.lines.specs.Line.{line}
use Rattle.lines.specs.Shape.{body_by, define_line, assert_line}
use Rattle.lines.proofs.ShapeLaws.{line_by, line_by_lem}
use Rattle.lines.specs.Record.{line_kind, body_kind, sort_by, define_at, declare_at, assert_at, Writable}

-- The same as the code finds them.
pub line-kind : (w : List ℕ) (head : ℕ) {op : Op} {found told : Line} → op ≡ operation_at w head → found ≡ line_of op
    → found ≡ told
    → line_kind w head ≡ told
line-kind w head is-op is-line is-told = ap line_of (sym is-op) ∙ sym is-line ∙ is-told

pub body-kind : (w : List ℕ) (head : ℕ) {op : Op} {found told : Body} → op ≡ operation_at w head → found ≡ body_of op
    → found ≡ told
    → body_kind w head ≡ told
body-kind w head is-op is_IsBody is-told = ap body_of (sym is-op) ∙ sym is_IsBody ∙ is-told

module _ {gap : ℕ} {w places sorts recent : List ℕ} {before : List Call} {seen : Cursor}
    (can : Writable gap w places sorts recent before seen) where
  by_kind : line before (call_at w seen.at)
      ≡ line_by (line_kind w seen.at) before (operation_at w seen.at) (count_at w seen.at) (payloads w seen.at)
  by_kind = line_by_lem (operation_at w seen.at) (count_at w seen.at) (payloads w seen.at)
      (argument_at bare w seen.at 0) before can.counted

  pub line-declared : line_kind w seen.at ≡ Declare → line before (call_at w seen.at) ≡ declare_at w seen.at
  line-declared e = by_kind ∙ rw e

  pub line-checked : line_kind w seen.at ≡ Check → line before (call_at w seen.at) ≡ ascii "(check-sat)\n"
  line-checked e = by_kind ∙ rw e

  pub line-asserted : line_kind w seen.at ≡ Assert
      → line before (call_at w seen.at) ≡ assert_at places gap w seen.terms seen.at
  line-asserted e =
      by_kind ∙ asserted ∙ ap (λ (r : ℕ → List ℕ). assert_line (r (payloads w seen.at 0))) (sym can.references)
    where
      asserted :
          line_by (line_kind w seen.at) before (operation_at w seen.at) (count_at w seen.at)
          (payloads w seen.at)
          ≡ assert_line (reference before (payloads w seen.at 0))
      asserted = rw e

  pub line_defined : line_kind w seen.at ≡ Define
      → line before (call_at w seen.at)
      ≡ define_at places gap w seen.terms seen.at (sort_by sorts recent places gap w seen.terms seen.at)
  line_defined e =
      by_kind ∙ defined
      ∙ ap (λ (r : ℕ → List ℕ). define_line seen.terms (sort_by sorts recent places gap w seen.terms seen.at)
      (body_by (body_kind w seen.at) r (operation_at w seen.at) (count_at w seen.at) (payloads w seen.at)))
      (sym can.references)
    where
      defined :
          line_by (line_kind w seen.at) before (operation_at w seen.at) (count_at w seen.at)
          (payloads w seen.at)
          ≡ define_line seen.terms (sort_by sorts recent places gap w seen.terms seen.at)
          (body_by (body_kind w seen.at) (reference before) (operation_at w seen.at) (count_at w seen.at)
          (payloads w seen.at))
      defined = rw (e, can.sort e, can.many)
