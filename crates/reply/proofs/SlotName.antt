-- The name of a slot, written into bytes that hold any.
use mathlib.Core.Path.{◌≡◌}
use mathlib.Core.List.{List}
use Prim.Native.Nat.{ℕ, ◌<◌, ◌≤◌, ◌^◌}
use native.Mathlib.Omega.{arith}
use lib.ListN.{length, take}
use Rattle.engine.specs.Emit.{Wrote}
use Rattle.text.specs.Names.{spelling}
use Rattle.text.proofs.NamesLaws.{spelling-length}
use Rattle.text.proofs.Write.{start-inside, start_bytes}

-- It stands whole at their start.
pub name_stands : {before after : List ℕ} (letter slot suffix : ℕ) {n : ℕ} → slot < 2 ^ 64 → length before ≡ 24
    → Wrote before 0 (spelling letter slot suffix) after n
    → (n ≤ length after) × (take n after ≡ spelling letter slot suffix)
name_stands letter slot suffix low room wrote =
    let short = spelling-length letter slot suffix low in
    (start-inside wrote (omega arith) (omega arith), start_bytes wrote (omega arith) (omega arith))
