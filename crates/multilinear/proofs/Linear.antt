-- Each weight has each coordinate in one factor, z or 1 - z, so weights and the extension are linear in it; and a table with its first
-- variable fixed has the extension with that coordinate in front.
-- Assumes nothing.
use mathlib.Core.Path.{◌≡◌, sym, ap, ap₂, ◌∙◌}
use mathlib.Core.Bool.{Bool, true, false}
use mathlib.Core.List.{List, [], ◌∷◌, ◌++◌}
use Prim.Native.Nat.{ℕ, suc, ◌/◌}
use native.Mathlib.Nat.{two-pow-succ, suc_inj}
use native.Mathlib.Omega.{arith}
use lib.ListN.{length, take, drop, length-append, length-drop}
use lib.Seq.{length-take-le}
use Rattle.algebra.specs.Numbers.{Numbers}
use Rattle.algebra.specs.Ring.{Ring}
use Rattle.algebra.proofs.Ring.{ring}
use Rattle.multilinear.specs.Extension.{bits, factor, weight_of_bits, weight, sum_from, extension, between, blend, fold}
use Rattle.multilinear.specs.Theorems.{Linear, FirstFixed}
use Rattle.multilinear.proofs.Sum.{sum_from_same, sum_from_add, sum_from_scale}
use Rattle.multilinear.proofs.Extension.{half, from_halved}

module _ {C : Type 0} {N : Numbers C} (R : Ring N) where
  open N use {𝟘, 𝟙, add as ◌⊕◌, sub as ◌⊖◌, mul as ◌⊗◌}

  infixl 60 ◌⊕◌ ◌⊖◌
  infixl 70 ◌⊗◌
  pub between_same : (r a : C) → between N r a a ≡ a
  between_same r a = simp ring

  pub mul_between : (c r a b : C) → c ⊗ between N r a b ≡ between N r (c ⊗ a) (c ⊗ b)
  mul_between c r a b = simp ring

  pub weight_linear : (bs : List Bool) (xs : List C) (r : C) (zs : List C)
      → weight_of_bits N bs (xs ++ r ∷ zs) ≡ between N r (weight_of_bits N bs (xs ++ 𝟘 ∷ zs)) (weight_of_bits N bs (xs ++ 𝟙 ∷ zs))
  unfolding weight_of_bits
  weight_linear [] xs r zs = sym (between_same r 𝟙)
  weight_linear (true ∷ bs) [] r zs = up r (weight_of_bits N bs zs)
    where
      up : (r w : C) → r ⊗ w ≡ between N r (𝟘 ⊗ w) (𝟙 ⊗ w)
      up r w = simp ring
  weight_linear (false ∷ bs) [] r zs = down r (weight_of_bits N bs zs)
    where
      down : (r w : C) → (𝟙 ⊖ r) ⊗ w ≡ between N r ((𝟙 ⊖ 𝟘) ⊗ w) ((𝟙 ⊖ 𝟙) ⊗ w)
      down r w = simp ring
  weight_linear (b ∷ bs) (x ∷ xs) r zs =
      ap (λ (y : C). factor N b x ⊗ y) (weight_linear bs xs r zs)
      ∙ mul_between (factor N b x) r (weight_of_bits N bs (xs ++ 𝟘 ∷ zs)) (weight_of_bits N bs (xs ++ 𝟙 ∷ zs))

  -- a sum of values × terms that are linear
  sum_between : (r : C) (f f₀ f₁ : ℕ → C) → ((b : ℕ) → f b ≡ between N r (f₀ b) (f₁ b)) → (vs : List C)
      → sum_from N (λ b v. v ⊗ f b) 0 vs ≡ between N r (sum_from N (λ b v. v ⊗ f₀ b) 0 vs) (sum_from N (λ b v. v ⊗ f₁ b) 0 vs)
  sum_between r f f₀ f₁ e vs =
      sum_from_same N (λ b v. v ⊗ f b) (λ b v. (𝟙 ⊖ r) ⊗ (v ⊗ f₀ b) ⊕ r ⊗ (v ⊗ f₁ b))
      (λ b v. ap (λ (w : C). v ⊗ w) (e b) ∙ mul_between v r (f₀ b) (f₁ b)) 0 vs
      ∙ sum_from_add R (λ b v. (𝟙 ⊖ r) ⊗ (v ⊗ f₀ b)) (λ b v. r ⊗ (v ⊗ f₁ b)) 0 vs
      ∙ ap₂ ◌⊕◌ (sum_from_scale R (𝟙 ⊖ r) (λ b v. v ⊗ f₀ b) 0 vs) (sum_from_scale R r (λ b v. v ⊗ f₁ b) 0 vs)

  blend_sum : (r : C) (f : ℕ → C) (a : ℕ) (low high : List C) → length low ≡ length high
      → sum_from N (λ b v. v ⊗ f b) a (blend N r low high) ≡ between N r (sum_from N (λ b v. v ⊗ f b) a low) (sum_from N (λ b v. v ⊗ f b) a high)
  unfolding sum_from blend
  blend_sum r f a [] [] e = sym (between_same r 𝟘)
  blend_sum r f a [] (y ∷ high) e = absurd (omega arith)
  blend_sum r f a (x ∷ low) [] e = absurd (omega arith)
  blend_sum r f a (x ∷ low) (y ∷ high) e =
      ap (λ (s : C). between N r x y ⊗ f a ⊕ s) (blend_sum r f (suc a) low high (suc_inj e))
      ∙ step r x y (f a) (sum_from N (λ b v. v ⊗ f b) (suc a) low) (sum_from N (λ b v. v ⊗ f b) (suc a) high)
    where
      step : (r x y w s t : C) → between N r x y ⊗ w ⊕ between N r s t ≡ between N r (x ⊗ w ⊕ s) (y ⊗ w ⊕ t)
      step r x y w s t = simp ring

module _ {C : Type 0} {N : Numbers C} where
  open N use {𝟘, 𝟙}

  pub linear : Linear N
  unfolding extension
  linear R vs xs r zs =
      sum_between R r (λ b. weight N b (xs ++ r ∷ zs)) (λ b. weight N b (xs ++ 𝟘 ∷ zs)) (λ b. weight N b (xs ++ 𝟙 ∷ zs))
      (λ b. weight_linear R (bits (length (xs ++ r ∷ zs)) b) xs r zs
      ∙ ap₂ (λ (j k : ℕ). between N r (weight_of_bits N (bits j b) (xs ++ 𝟘 ∷ zs)) (weight_of_bits N (bits k b) (xs ++ 𝟙 ∷ zs))) (sized 𝟘) (sized 𝟙)) vs
    where
      sized : (c : C) → length (xs ++ r ∷ zs) ≡ length (xs ++ c ∷ zs)
      sized c = length-append xs (r ∷ zs) ∙ sym (length-append xs (c ∷ zs))

  pub first_fixed : FirstFixed N
  unfolding extension fold
  first_fixed R vs r zs e =
      let m = half (length zs) (length vs) e in
      let s = two-pow-succ (length zs) in
      (unfold extension in from_halved R vs r zs e)
      ∙ sym (blend_sum R r (λ b. weight N b zs) 0 (take (length vs / 2) vs) (drop (length vs / 2) vs)
      (length-take-le (length vs / 2) vs (omega arith) ∙ sym (length-drop (length vs / 2) vs ∙ omega arith)))
