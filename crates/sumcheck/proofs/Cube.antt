-- Laws of sums over {0, 1}; over a ring, the weights of one index's bits pick its corner.
-- Assumes nothing.
use mathlib.Core.Path.{◌≡◌, refl, sym, ap, ap₂, ◌∙◌}
use mathlib.Core.Bool.{Bool, true, false}
use mathlib.Core.List.{List, [], ◌∷◌}
use Prim.Native.Nat.{ℕ, zero, suc}
use native.Mathlib.Nat.{suc_inj}
use native.Mathlib.Omega.{arith}
use lib.ListN.{length}
use Rattle.algebra.specs.Numbers.{Numbers}
use Rattle.algebra.specs.Ring.{Ring}
use Rattle.algebra.proofs.Ring.{ring, zero_add}
use Rattle.multilinear.specs.Extension.{weight_of_bits, sum_from, corner}
use Rattle.sumcheck.specs.Summand.{cube}

module _ {C : Type 0} (N : Numbers C) where
  open N use {𝟘, 𝟙, add as ◌⊕◌}

  infixl 60 ◌⊕◌
  pub cube_more : (n : ℕ) (f : List C → C) → cube N (suc n) f ≡ cube N n (λ bs. f (𝟘 ∷ bs)) ⊕ cube N n (λ bs. f (𝟙 ∷ bs))
  unfolding cube
  cube_more n f = refl

  -- where the terms agree at all corners
  pub cube_same : (n : ℕ) (f g : List C → C) → ((bs : List C) → length bs ≡ n → f bs ≡ g bs) → cube N n f ≡ cube N n g
  unfolding cube
  cube_same zero f g e = e [] refl
  cube_same (suc n) f g e =
      ap₂ ◌⊕◌
      (cube_same n (λ bs. f (𝟘 ∷ bs)) (λ bs. g (𝟘 ∷ bs)) (λ bs l. e (𝟘 ∷ bs) (ap suc l)))
      (cube_same n (λ bs. f (𝟙 ∷ bs)) (λ bs. g (𝟙 ∷ bs)) (λ bs l. e (𝟙 ∷ bs) (ap suc l)))

module _ {C : Type 0} {N : Numbers C} (R : Ring N) where
  open N use {𝟘, 𝟙, add as ◌⊕◌, sub as ◌⊖◌, mul as ◌⊗◌}

  infixl 60 ◌⊕◌ ◌⊖◌
  infixl 70 ◌⊗◌
  pub cube_zero : (n : ℕ) → cube N n (λ bs. 𝟘) ≡ 𝟘
  unfolding cube
  cube_zero zero = refl
  cube_zero (suc n) = ap₂ ◌⊕◌ (cube_zero n) (cube_zero n) ∙ R.add_zero 𝟘

  pub cube_add : (n : ℕ) (f g : List C → C) → cube N n (λ bs. f bs ⊕ g bs) ≡ cube N n f ⊕ cube N n g
  unfolding cube
  cube_add zero f g = refl
  cube_add (suc n) f g =
      ap₂ ◌⊕◌ (cube_add n (λ bs. f (𝟘 ∷ bs)) (λ bs. g (𝟘 ∷ bs))) (cube_add n (λ bs. f (𝟙 ∷ bs)) (λ bs. g (𝟙 ∷ bs)))
      ∙ four (cube N n (λ bs. f (𝟘 ∷ bs))) (cube N n (λ bs. g (𝟘 ∷ bs))) (cube N n (λ bs. f (𝟙 ∷ bs))) (cube N n (λ bs. g (𝟙 ∷ bs)))
    where
      four : (s t u v : C) → s ⊕ t ⊕ (u ⊕ v) ≡ s ⊕ u ⊕ (t ⊕ v)
      four s t u v = simp ring

  pub cube_scale : (n : ℕ) (c : C) (f : List C → C) → cube N n (λ bs. c ⊗ f bs) ≡ c ⊗ cube N n f
  unfolding cube
  cube_scale zero c f = refl
  cube_scale (suc n) c f =
      ap₂ ◌⊕◌ (cube_scale n c (λ bs. f (𝟘 ∷ bs))) (cube_scale n c (λ bs. f (𝟙 ∷ bs)))
      ∙ sym (R.mul_add c (cube N n (λ bs. f (𝟘 ∷ bs))) (cube N n (λ bs. f (𝟙 ∷ bs))))

  pub cube_sum_from : {A : Type 0} (n : ℕ) (f : List C → ℕ → A → C) (a : ℕ) (l : List A)
      → cube N n (λ bs. sum_from N (f bs) a l) ≡ sum_from N (λ i x. cube N n (λ bs. f bs i x)) a l
  unfolding sum_from
  cube_sum_from n f a [] = cube_zero n
  cube_sum_from n f a (x ∷ l) =
      cube_add n (λ bs. f bs a x) (λ bs. sum_from N (f bs) (suc a) l)
      ∙ ap (λ (y : C). cube N n (λ bs. f bs a x) ⊕ y) (cube_sum_from n f (suc a) l)

  at_zero : (w f : C) → 𝟘 ⊗ w ⊗ f ≡ 𝟘
  at_zero w f = simp ring

  at_one : (w f : C) → 𝟙 ⊗ w ⊗ f ≡ w ⊗ f
  at_one w f = simp ring

  not_at_zero : (w f : C) → (𝟙 ⊖ 𝟘) ⊗ w ⊗ f ≡ w ⊗ f
  not_at_zero w f = simp ring

  not_at_one : (w f : C) → (𝟙 ⊖ 𝟙) ⊗ w ⊗ f ≡ 𝟘
  not_at_one w f = simp ring

  pub cube_picks : (bs : List Bool) (n : ℕ) → length bs ≡ n → (f : List C → C)
      → cube N n (λ us. weight_of_bits N bs us ⊗ f us) ≡ f (corner N bs)
  unfolding cube weight_of_bits
  cube_picks [] zero l f = plain (f [])
    where
      plain : (c : C) → 𝟙 ⊗ c ≡ c
      plain c = simp ring
  cube_picks [] (suc n) l f = absurd (omega arith)
  cube_picks (b ∷ bs) zero l f = absurd (omega arith)
  cube_picks (true ∷ bs) (suc n) l f =
      ap₂ ◌⊕◌
      (cube_same N n (λ us. 𝟘 ⊗ weight_of_bits N bs us ⊗ f (𝟘 ∷ us)) (λ us. 𝟘) (λ us e. at_zero (weight_of_bits N bs us) (f (𝟘 ∷ us))) ∙ cube_zero n)
      (cube_same N n (λ us. 𝟙 ⊗ weight_of_bits N bs us ⊗ f (𝟙 ∷ us)) (λ us. weight_of_bits N bs us ⊗ f (𝟙 ∷ us)) (λ us e. at_one (weight_of_bits N bs us) (f (𝟙 ∷ us)))
      ∙ cube_picks bs n (suc_inj l) (λ us. f (𝟙 ∷ us)))
      ∙ zero_add R (f (𝟙 ∷ corner N bs))
  cube_picks (false ∷ bs) (suc n) l f =
      ap₂ ◌⊕◌
      (cube_same N n (λ us. (𝟙 ⊖ 𝟘) ⊗ weight_of_bits N bs us ⊗ f (𝟘 ∷ us)) (λ us. weight_of_bits N bs us ⊗ f (𝟘 ∷ us))
      (λ us e. not_at_zero (weight_of_bits N bs us) (f (𝟘 ∷ us)))
      ∙ cube_picks bs n (suc_inj l) (λ us. f (𝟘 ∷ us)))
      (cube_same N n (λ us. (𝟙 ⊖ 𝟙) ⊗ weight_of_bits N bs us ⊗ f (𝟙 ∷ us)) (λ us. 𝟘) (λ us e. not_at_one (weight_of_bits N bs us) (f (𝟙 ∷ us))) ∙ cube_zero n)
      ∙ R.add_zero (f (𝟘 ∷ corner N bs))
