-- The weight of an index: bit by bit, below and above the half, and over appended points.
-- Assumes nothing.
use mathlib.Core.Path.{◌≡◌, refl, sym, ap, ◌∙◌}
use mathlib.Core.Bool.{Bool, true, false}
use mathlib.Core.List.{List, [], ◌∷◌, ◌++◌}
use Prim.Native.Nat.{ℕ, ◌+◌, ◌^◌, ◌<◌}
use native.Mathlib.Nat.{suc_inj}
use native.Mathlib.Omega.{arith}
use lib.ListN.{length}
use Rattle.algebra.specs.Numbers.{Numbers}
use Rattle.algebra.specs.Ring.{Ring}
use Rattle.algebra.proofs.Ring.{one_mul}
use Rattle.multilinear.specs.Extension.{bits, factor, weight_of_bits, weight}
use Rattle.multilinear.proofs.Bits.{bits_low, bits_high}

module _ {C : Type 0} (N : Numbers C) where
  open N use {𝟙, sub as ◌⊖◌, mul as ◌⊗◌}

  infixl 60 ◌⊖◌
  infixl 70 ◌⊗◌
  -- an empty product
  pub weight_none : (zs : List C) → weight_of_bits N [] zs ≡ 𝟙
  unfolding weight_of_bits
  weight_none zs = refl

  pub weight_more : (b : Bool) (bs : List Bool) (z : C) (zs : List C) → weight_of_bits N (b ∷ bs) (z ∷ zs) ≡ factor N b z ⊗ weight_of_bits N bs zs
  unfolding weight_of_bits
  weight_more b bs z zs = refl

  -- an index below the half, and one above
  pub weight_low : (b : ℕ) (z : C) (zs : List C) → b < 2 ^ length zs → weight N b (z ∷ zs) ≡ (𝟙 ⊖ z) ⊗ weight N b zs
  weight_low b z zs h =
      ap (λ (bs : List Bool). weight_of_bits N bs (z ∷ zs)) (bits_low (length zs) b h) ∙ weight_more false (bits (length zs) b) z zs

  pub weight_high : (b : ℕ) (z : C) (zs : List C) → b < 2 ^ length zs → weight N (2 ^ length zs + b) (z ∷ zs) ≡ z ⊗ weight N b zs
  weight_high b z zs h =
      ap (λ (bs : List Bool). weight_of_bits N bs (z ∷ zs)) (bits_high (length zs) b h) ∙ weight_more true (bits (length zs) b) z zs

module _ {C : Type 0} {N : Numbers C} (R : Ring N) where
  open N use {mul as ◌⊗◌}

  infixl 70 ◌⊗◌
  pub weight_append : (bs cs : List Bool) (us vs : List C) → length bs ≡ length us
      → weight_of_bits N (bs ++ cs) (us ++ vs) ≡ weight_of_bits N bs us ⊗ weight_of_bits N cs vs
  unfolding weight_of_bits
  weight_append [] cs [] vs e = sym (one_mul R (weight_of_bits N cs vs))
  weight_append [] cs (u ∷ us) vs e = absurd (omega arith)
  weight_append (b ∷ bs) cs [] vs e = absurd (omega arith)
  weight_append (b ∷ bs) cs (u ∷ us) vs e =
      ap (λ (y : C). factor N b u ⊗ y) (weight_append bs cs us vs (suc_inj e))
      ∙ sym (R.mul_assoc (factor N b u) (weight_of_bits N bs us) (weight_of_bits N cs vs))
