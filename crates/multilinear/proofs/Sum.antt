-- Laws of sums over a list with its indices.
-- Assumes nothing.
use mathlib.Core.Path.{◌≡◌, refl, sym, ap, ap₂, ◌∙◌}
use mathlib.Core.List.{List, [], ◌∷◌, ◌++◌, map}
use Prim.Native.Nat.{ℕ, suc, ◌+◌, ◌≤◌, ◌<◌}
use native.Mathlib.Nat.{add-suc}
use native.Mathlib.Nat.{add-zero as n-add-zero}
use native.Mathlib.Omega.{arith}
use lib.ListN.{length}
use Rattle.lists.specs.Each.{All}
use Rattle.algebra.specs.Numbers.{Numbers}
use Rattle.algebra.specs.Ring.{Ring}
use Rattle.algebra.proofs.Ring.{ring, mul_zero, zero_add}
use Rattle.multilinear.specs.Extension.{sum_from}

module _ {C : Type 0} (N : Numbers C) {A : Type 0} where
  open N use {𝟘, add as ◌⊕◌}

  infixl 60 ◌⊕◌
  pub sum_from_same : (f g : ℕ → A → C) → ((i : ℕ) (x : A) → f i x ≡ g i x) → (a : ℕ) (l : List A) → sum_from N f a l ≡ sum_from N g a l
  unfolding sum_from
  sum_from_same f g e a [] = refl
  sum_from_same f g e a (x ∷ l) = ap₂ ◌⊕◌ (e a x) (sum_from_same f g e (suc a) l)

  -- where the terms agree on what holds of all elements
  pub sum_from_same_all : (P : A → Type 0) (f g : ℕ → A → C) → ((i : ℕ) (x : A) → P x → f i x ≡ g i x) → (a : ℕ) (l : List A) → All P l
      → sum_from N f a l ≡ sum_from N g a l
  unfolding sum_from
  sum_from_same_all P f g e a [] h = refl
  sum_from_same_all P f g e a (x ∷ l) h = ap₂ ◌⊕◌ (e a x h.0) (sum_from_same_all P f g e (suc a) l h.1)

  -- where the terms agree at all indices below n
  pub sum_from_same_below : (n : ℕ) (f g : ℕ → A → C) → ((i : ℕ) (x : A) → i < n → f i x ≡ g i x) → (a : ℕ) (l : List A) → a + length l ≤ n
      → sum_from N f a l ≡ sum_from N g a l
  unfolding sum_from
  sum_from_same_below n f g e a [] h = refl
  sum_from_same_below n f g e a (x ∷ l) h = ap₂ ◌⊕◌ (e a x (omega arith)) (sum_from_same_below n f g e (suc a) l (omega arith))

  -- indices that start n later
  pub sum_from_shift : (n : ℕ) (f : ℕ → A → C) (a : ℕ) (l : List A) → sum_from N f (n + a) l ≡ sum_from N (λ i x. f (n + i) x) a l
  unfolding sum_from
  sum_from_shift n f a [] = refl
  sum_from_shift n f a (x ∷ l) =
      ap (λ (y : C). f (n + a) x ⊕ y) (ap (λ (i : ℕ). sum_from N f i l) (sym (add-suc n a)) ∙ sum_from_shift n f (suc a) l)

pub sum_from_map : {C : Type 0} (N : Numbers C) {A B : Type 0} (t : A → B) (f : ℕ → B → C) (a : ℕ) (l : List A)
    → sum_from N f a (map t l) ≡ sum_from N (λ i x. f i (t x)) a l
unfolding sum_from
sum_from_map N t f a [] = refl
sum_from_map N t f a (x ∷ l) = ap (N.add (f a (t x))) (sum_from_map N t f (suc a) l)

module _ {C : Type 0} {N : Numbers C} (R : Ring N) {A : Type 0} where
  open N use {𝟘, add as ◌⊕◌, mul as ◌⊗◌}

  infixl 60 ◌⊕◌
  infixl 70 ◌⊗◌
  pub sum_from_scale : (c : C) (f : ℕ → A → C) (a : ℕ) (l : List A) → sum_from N (λ i x. c ⊗ f i x) a l ≡ c ⊗ sum_from N f a l
  unfolding sum_from
  sum_from_scale c f a [] = sym (mul_zero R c)
  sum_from_scale c f a (x ∷ l) =
      ap (λ (y : C). c ⊗ f a x ⊕ y) (sum_from_scale c f (suc a) l) ∙ sym (R.mul_add c (f a x) (sum_from N f (suc a) l))

  pub sum_from_add : (f g : ℕ → A → C) (a : ℕ) (l : List A) → sum_from N (λ i x. f i x ⊕ g i x) a l ≡ sum_from N f a l ⊕ sum_from N g a l
  unfolding sum_from
  sum_from_add f g a [] = sym (R.add_zero 𝟘)
  sum_from_add f g a (x ∷ l) = ap (λ (y : C). f a x ⊕ g a x ⊕ y) (sum_from_add f g (suc a) l) ∙ four (f a x) (g a x) (sum_from N f (suc a) l) (sum_from N g (suc a) l)
    where
      four : (s t u v : C) → s ⊕ t ⊕ (u ⊕ v) ≡ s ⊕ u ⊕ (t ⊕ v)
      four s t u v = simp ring

  pub sum_from_append : (f : ℕ → A → C) (a : ℕ) (l m : List A) → sum_from N f a (l ++ m) ≡ sum_from N f a l ⊕ sum_from N f (a + length l) m
  unfolding sum_from
  sum_from_append f a [] m = ap (λ (i : ℕ). sum_from N f i m) (sym (n-add-zero a)) ∙ sym (zero_add R (sum_from N f (a + 0) m))
  sum_from_append f a (x ∷ l) m =
      let e : suc a + length l ≡ a + suc (length l) = omega arith in
      ap (λ (y : C). f a x ⊕ y) (sum_from_append f (suc a) l m ∙ ap (λ (i : ℕ). sum_from N f (suc a) l ⊕ sum_from N f i m) e)
      ∙ sym (R.add_assoc (f a x) (sum_from N f (suc a) l) (sum_from N f (a + suc (length l)) m))

  none : (a : ℕ) (l : List A) → sum_from N (λ i x. 𝟘) a l ≡ 𝟘
  unfolding sum_from
  none a [] = refl
  none a (x ∷ l) = zero_add R (sum_from N (λ i x. 𝟘) (suc a) l) ∙ none (suc a) l

-- a sum of sums, in either order
pub sum_from_swap : {C : Type 0} {N : Numbers C} (R : Ring N) {A B : Type 0} (f : ℕ → A → ℕ → B → C) (a b : ℕ) (l : List A) (m : List B)
    → sum_from N (λ j y. sum_from N (λ i x. f i x j y) a l) b m ≡ sum_from N (λ i x. sum_from N (f i x) b m) a l
unfolding sum_from
sum_from_swap R f a b [] m = none R b m
sum_from_swap {C} {N} R f a b (x ∷ l) m =
    sum_from_add R (f a x) (λ j y. sum_from N (λ i x. f i x j y) (suc a) l) b m
    ∙ ap (λ (y : C). N.add (sum_from N (f a x) b m) y) (sum_from_swap R f (suc a) b l m)
