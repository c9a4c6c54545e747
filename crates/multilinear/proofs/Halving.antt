-- Halving, step by step.
-- Assumes nothing.
use mathlib.Core.Path.{◌≡◌, refl}
use mathlib.Core.List.{List, [], ◌∷◌}
use Prim.Native.Nat.{◌/◌, ◌<◌}
use native.Mathlib.Omega.{arith}
use lib.ListN.{length, take, drop, get_or}
use Rattle.algebra.specs.Numbers.{Numbers}
use Rattle.multilinear.specs.Extension.{between, halving}

module _ {C : Type 0} (N : Numbers C) where
  open N use {𝟘}

  pub halving_none : (vs z : List C) → length z ≡ 0 → halving N vs z ≡ get_or vs 0 𝟘
  unfolding halving
  halving_none vs [] e = refl
  halving_none vs (x ∷ z) e = absurd (omega arith)

  pub halving_step : (vs z : List C) (d : C) → 0 < length z
      → halving N vs z
      ≡ between N (get_or z 0 d) (halving N (take (length vs / 2) vs) (drop 1 z)) (halving N (drop (length vs / 2) vs) (drop 1 z))
  unfolding halving
  halving_step vs [] d h = absurd (omega arith)
  halving_step vs (x ∷ z) d h = refl
