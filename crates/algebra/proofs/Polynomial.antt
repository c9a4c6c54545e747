-- Laws of coefficient lists: their values, the maps that keep them, how long they get.
-- Assumes nothing.
use mathlib.Core.Path.{◌≡◌, refl, sym, ap, ap₂, ◌∙◌}
use mathlib.Core.List.{List, [], ◌∷◌, map}
use Prim.Native.Nat.{ℕ, zero, suc, ◌+◌, ◌≤◌, ◌<◌, zero-le}
use native.Mathlib.Nat.{mod-lt}
use native.Mathlib.Omega.{arith}
use lib.ListN.{length, length-map}
use Rattle.lists.proofs.Map.{map_map, map_same}
use Rattle.algebra.specs.Numbers.{Numbers, words}
use Rattle.algebra.specs.Ring.{Ring}
use Rattle.algebra.specs.Hom.{Hom}
use Rattle.algebra.specs.Polynomial.{value_at, plus, minus, times, constant, X, polynomials}
use Rattle.algebra.proofs.Ring.{ring, add_zero, zero_add, mul_zero, zero_mul}
use Rattle.algebra.proofs.Hom.{hom_add, hom_sub, hom_mul}

-- VALUES
module _ {C : Type 0} (N : Numbers C) where
  open N use {𝟘, 𝟙, add as ◌⊕◌, mul as ◌⊗◌}

  infixl 60 ◌⊕◌
  infixl 70 ◌⊗◌
  pub value_nil : (x : C) → value_at N [] x ≡ 𝟘
  unfolding value_at
  value_nil x = refl

module _ {C : Type 0} {N : Numbers C} (R : Ring N) where
  open N use {𝟘, 𝟙, add as ◌⊕◌, sub as ◌⊖◌, mul as ◌⊗◌}

  infixl 60 ◌⊕◌ ◌⊖◌
  infixl 70 ◌⊗◌
  -- the first coefficient is the constant
  pub value_zero : (c : C) (f : List C) → value_at N (c ∷ f) 𝟘 ≡ c
  unfolding value_at
  value_zero c f = ap (λ (y : C). c ⊕ y) (zero_mul R (value_at N f 𝟘)) ∙ add_zero R c

  pub value_constant : (c x : C) → value_at N (constant N c) x ≡ c
  unfolding value_at
  value_constant c x = ap (λ (y : C). c ⊕ y) (mul_zero R x) ∙ add_zero R c

  pub value_X : (x : C) → value_at N (X N) x ≡ x
  unfolding value_at
  value_X x = plain x
    where
      plain : (x : C) → 𝟘 ⊕ x ⊗ (𝟙 ⊕ x ⊗ 𝟘) ≡ x
      plain x = simp ring

  value_plus : (f g : List C) (x : C) → value_at N (plus N f g) x ≡ value_at N f x ⊕ value_at N g x
  unfolding value_at plus
  value_plus [] g x = sym (zero_add R (value_at N g x))
  value_plus (a ∷ f) [] x = sym (add_zero R (a ⊕ x ⊗ value_at N f x))
  value_plus (a ∷ f) (b ∷ g) x = ap (λ (y : C). a ⊕ b ⊕ x ⊗ y) (value_plus f g x) ∙ step a b x (value_at N f x) (value_at N g x)
    where
      step : (a b x u v : C) → a ⊕ b ⊕ x ⊗ (u ⊕ v) ≡ a ⊕ x ⊗ u ⊕ (b ⊕ x ⊗ v)
      step a b x u v = simp ring

  value_minus : (f g : List C) (x : C) → value_at N (minus N f g) x ≡ value_at N f x ⊖ value_at N g x
  unfolding value_at minus
  value_minus [] [] x = none
    where
      none : 𝟘 ≡ 𝟘 ⊖ 𝟘
      none = simp ring
  value_minus [] (b ∷ g) x = ap (λ (y : C). 𝟘 ⊖ b ⊕ x ⊗ y) (value_minus [] g x) ∙ step b x (value_at N g x)
    where
      step : (b x v : C) → 𝟘 ⊖ b ⊕ x ⊗ (𝟘 ⊖ v) ≡ 𝟘 ⊖ (b ⊕ x ⊗ v)
      step b x v = simp ring
  value_minus (a ∷ f) [] x = less (a ⊕ x ⊗ value_at N f x)
    where
      less : (u : C) → u ≡ u ⊖ 𝟘
      less u = simp ring
  value_minus (a ∷ f) (b ∷ g) x = ap (λ (y : C). a ⊖ b ⊕ x ⊗ y) (value_minus f g x) ∙ step a b x (value_at N f x) (value_at N g x)
    where
      step : (a b x u v : C) → a ⊖ b ⊕ x ⊗ (u ⊖ v) ≡ a ⊕ x ⊗ u ⊖ (b ⊕ x ⊗ v)
      step a b x u v = simp ring

  value_scale : (a : C) (g : List C) (x : C) → value_at N (map (λ b. a ⊗ b) g) x ≡ a ⊗ value_at N g x
  unfolding value_at
  value_scale a [] x = sym (mul_zero R a)
  value_scale a (b ∷ g) x = ap (λ (y : C). a ⊗ b ⊕ x ⊗ y) (value_scale a g x) ∙ step a b x (value_at N g x)
    where
      step : (a b x v : C) → a ⊗ b ⊕ x ⊗ (a ⊗ v) ≡ a ⊗ (b ⊕ x ⊗ v)
      step a b x v = simp ring

  value_times : (f g : List C) (x : C) → value_at N (times N f g) x ≡ value_at N f x ⊗ value_at N g x
  unfolding value_at times
  value_times [] g x = sym (zero_mul R (value_at N g x))
  value_times (a ∷ f) g x =
      value_plus (map (λ b. a ⊗ b) g) (𝟘 ∷ times N f g) x
      ∙ ap₂ (λ (u v : C). u ⊕ (𝟘 ⊕ x ⊗ v)) (value_scale a g x) (value_times f g x)
      ∙ step a x (value_at N f x) (value_at N g x)
    where
      step : (a x u v : C) → a ⊗ v ⊕ (𝟘 ⊕ x ⊗ (u ⊗ v)) ≡ (a ⊕ x ⊗ u) ⊗ v
      step a x u v = simp ring

  -- the value at a point keeps sum, difference and product
  pub value_hom : (x : C) → Hom (polynomials N) N (λ f. value_at N f x)
  value_hom x = record {
    keeps_𝟘 = value_nil N x;
    keeps_𝟙 = value_constant 𝟙 x;
    keeps_add = λ f g. value_plus f g x;
    keeps_sub = λ f g. value_minus f g x;
    keeps_mul = λ f g. value_times f g x;
  }

-- values of words are residues
pub value_below : (p : ℕ) → 0 < p → (f : List ℕ) (x : ℕ) → value_at (words p) f x < p
unfolding value_at
value_below p pos [] x = pos
value_below p pos (c ∷ f) x = mod-lt _ pos

-- MAPS THAT KEEP THE OPERATIONS
module _ {C D : Type 0} {N : Numbers C} {M : Numbers D} {h : C → D} (H : Hom N M h) where
  pub hom_value : (f : List C) (x : C) → h (value_at N f x) ≡ value_at M (map h f) (h x)
  unfolding value_at
  hom_value [] x = H.keeps_𝟘
  hom_value (c ∷ f) x = hom_add H refl (hom_mul H refl (hom_value f x))

  hom_plus : (f g : List C) → map h (plus N f g) ≡ plus M (map h f) (map h g)
  unfolding plus
  hom_plus [] g = refl
  hom_plus (a ∷ f) [] = refl
  hom_plus (a ∷ f) (b ∷ g) = ap₂ (λ (c : D) (l : List D). c ∷ l) (H.keeps_add a b) (hom_plus f g)

  hom_minus : (f g : List C) → map h (minus N f g) ≡ minus M (map h f) (map h g)
  unfolding minus
  hom_minus [] [] = refl
  hom_minus [] (b ∷ g) = ap₂ (λ (c : D) (l : List D). c ∷ l) (hom_sub H H.keeps_𝟘 refl) (hom_minus [] g)
  hom_minus (a ∷ f) [] = refl
  hom_minus (a ∷ f) (b ∷ g) = ap₂ (λ (c : D) (l : List D). c ∷ l) (H.keeps_sub a b) (hom_minus f g)

  hom_scale : (a : C) (g : List C) → map h (map (λ b. N.mul a b) g) ≡ map (λ b. M.mul (h a) b) (map h g)
  hom_scale a g =
      map_map (λ b. N.mul a b) h g ∙ map_same (λ b. h (N.mul a b)) (λ b. M.mul (h a) (h b)) g (λ b. H.keeps_mul a b)
      ∙ sym (map_map h (λ b. M.mul (h a) b) g)

  hom_times : (f g : List C) → map h (times N f g) ≡ times M (map h f) (map h g)
  unfolding times
  hom_times [] g = refl
  hom_times (a ∷ f) g =
      hom_plus (map (λ b. N.mul a b) g) (N.𝟘 ∷ times N f g)
      ∙ ap₂ (plus M) (hom_scale a g) (ap₂ (λ (c : D) (l : List D). c ∷ l) H.keeps_𝟘 (hom_times f g))

  -- a map that keeps the operations keeps them coefficient by coefficient
  pub map_hom : Hom (polynomials N) (polynomials M) (map h)
  map_hom = record {
    keeps_𝟘 = refl;
    keeps_𝟙 = ap (λ (c : D). constant M c) H.keeps_𝟙;
    keeps_add = hom_plus;
    keeps_sub = hom_minus;
    keeps_mul = hom_times;
  }

-- LENGTHS: a list of d + 1 coefficients is of degree at most d
module _ {C : Type 0} (N : Numbers C) where
  pub length_plus : (m : ℕ) (f g : List C) → length f ≤ m → length g ≤ m → length (plus N f g) ≤ m
  unfolding plus
  length_plus m [] g a b = b
  length_plus m (x ∷ f) [] a b = a
  length_plus zero (x ∷ f) (y ∷ g) a b = absurd (omega arith)
  length_plus (suc m) (x ∷ f) (y ∷ g) a b = let ih = length_plus m f g (omega arith) (omega arith) in omega arith

  pub length_minus : (m : ℕ) (f g : List C) → length f ≤ m → length g ≤ m → length (minus N f g) ≤ m
  unfolding minus
  length_minus m [] [] a b = b
  length_minus zero [] (y ∷ g) a b = absurd (omega arith)
  length_minus (suc m) [] (y ∷ g) a b = let ih = length_minus m [] g zero-le (omega arith) in omega arith
  length_minus m (x ∷ f) [] a b = a
  length_minus zero (x ∷ f) (y ∷ g) a b = absurd (omega arith)
  length_minus (suc m) (x ∷ f) (y ∷ g) a b = let ih = length_minus m f g (omega arith) (omega arith) in omega arith

  pub length_times : (d e : ℕ) (f g : List C) → length f ≤ suc d → length g ≤ suc e → length (times N f g) ≤ suc (d + e)
  unfolding times
  length_times d e [] g a b = zero-le
  length_times zero e (x ∷ []) g a b =
      length_plus (suc (zero + e)) (map (λ y. N.mul x y) g) (N.𝟘 ∷ []) (omega (arith, length-map g (λ y. N.mul x y))) (omega arith)
  length_times zero e (x ∷ y ∷ f) g a b = absurd (omega arith)
  length_times (suc d) e (x ∷ f) g a b =
      let ih = length_times d e f g (omega arith) b in
      length_plus (suc (suc d + e)) (map (λ y. N.mul x y) g) (N.𝟘 ∷ times N f g)
      (omega (arith, length-map g (λ y. N.mul x y))) (omega arith)
