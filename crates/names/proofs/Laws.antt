-- A net's name read: declared where the table has 0 for it (`ran_new`), else known by its term (`ran_known`); its slot
-- is marked both times.
use mathlib.Core.Path.{◌≡◌, refl}
use mathlib.Core.List.{List}
use Prim.Native.Nat.{ℕ, suc, ◌≤◌}
use native.Mathlib.Omega.{arith}
use lib.ListN.{get_or, set}
use Rattle.engine.specs.Call as k
use Rattle.engine.specs.Encode.{encode}
use Rattle.engine.proofs.EmitLaws.{wrote_none}
use Rattle.smt.specs.Prog.{Age, curr, past, Half, is_undef, is_one, bv}
use Rattle.smt.specs.Emit.{emit, place, offset, mark, net_name}
use Rattle.smt.specs.Builder.{bv_const}
use Rattle.builder.specs.declared.Counts.{Counts}
use Rattle.builder.specs.declared.Built.{Built}
use Rattle.builder.specs.Ran.{Ran, following}
use Rattle.builder.proofs.Laws.{wrote_call}
use Rattle.names.specs.Names.{Declared}

module _ (a : Age) (i : ℕ) (h : Half) {calls names marks : List ℕ} {c : Counts} where
  pub ran_new : {calls' names' : List ℕ} {r : Built} → get_or names (place a i h) 0 ≡ 0
      → Declared a i h calls names c (place a i h) calls' names' r
      → Ran (bv_const a i h) calls names marks c calls' names' (set marks i (mark a)) r.counts (bv r.term.0 1)
  unfolding emit encode
  ran_new {calls'} {names'} {r} new d =
      rw d.built (record {
        ends = λ lent fits.
            let fits' = rw new at fits in
            let exact : following c.terms ≡ suc c.terms = let low = fits'.next in omega arith in
            let wrote = wrote_call (k.declare (net_name a i h) 1) d.wrote in
            rw new (record { state = rw (d.knows, exact); res = refl; wrote = wrote });
      })

  pub ran_known : (j : ℕ) → get_or names (place a i h) 0 ≡ suc j
      → Ran (bv_const a i h) calls names marks c calls names (set marks i (mark a)) c (bv j 1)
  unfolding emit encode
  ran_known j old = record {
    ends = λ lent fits. rw old (record { state = refl; res = refl; wrote = wrote_none calls c.words lent.low });
  }

pub offset-low : (a : Age) (h : Half) → offset a h ≤ 3
offset-low curr is_undef = omega arith
offset-low curr is_one = omega arith
offset-low past is_undef = omega arith
offset-low past is_one = omega arith
