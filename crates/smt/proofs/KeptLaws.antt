-- Lists accepted before the divisions keep their calls, by computation. Assumes nothing.
use mathlib.Core.Path.{refl}
use Rattle.smt.specs.Builder.{tv_strict}
use Rattle.smt.specs.Kept.{tv_mul, Kept}

pub kept : Kept
unfolding tv_strict tv_mul
kept = record { numbers = refl; terms = λ a b n w. refl }
