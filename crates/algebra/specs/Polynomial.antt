-- Polynomials in one variable as coefficient lists, the constant first.
-- Assumes nothing.
use Rattle.std.specs.Prelude.{◌≡◌, refl}
use mathlib.Core.List.{List, [], ◌∷◌, map}
use Rattle.algebra.specs.Numbers.{Numbers, words}

module _ {C : Type 0} (N : Numbers C) where
  open N use {𝟘, 𝟙, add as ◌⊕◌, sub as ◌⊖◌, mul as ◌⊗◌}

  infixl 60 ◌⊕◌ ◌⊖◌
  infixl 70 ◌⊗◌
  -- the value at a point, by Horner's rule
  unfoldable pub value_at : List C → C → C
  value_at [] x = 𝟘
  value_at (c ∷ f) x = c ⊕ x ⊗ value_at f x

-- 2 + 8 x + 3 x² at 4, modulo 13
value_example : value_at (words 13) (2 ∷ 8 ∷ 3 ∷ []) 4 ≡ 4
unfolding value_at
value_example = refl

-- formal sum, difference and product
module _ {C : Type 0} (N : Numbers C) where
  open N use {𝟘, 𝟙, add as ◌⊕◌, sub as ◌⊖◌, mul as ◌⊗◌}

  infixl 60 ◌⊕◌ ◌⊖◌
  infixl 70 ◌⊗◌
  unfoldable pub plus : List C → List C → List C
  plus [] g = g
  plus (a ∷ f) [] = a ∷ f
  plus (a ∷ f) (b ∷ g) = (a ⊕ b) ∷ plus f g

  unfoldable pub minus : List C → List C → List C
  minus [] [] = []
  minus [] (b ∷ g) = (𝟘 ⊖ b) ∷ minus [] g
  minus (a ∷ f) [] = a ∷ f
  minus (a ∷ f) (b ∷ g) = (a ⊖ b) ∷ minus f g

  unfoldable pub times : List C → List C → List C
  unfolding plus
  times [] g = []
  times (a ∷ f) g = plus (map (λ b. a ⊗ b) g) (𝟘 ∷ times f g)

  abbrev pub constant : C → List C
  constant c = c ∷ []

  -- the variable itself
  abbrev pub X : List C
  X = 𝟘 ∷ 𝟙 ∷ []

  -- coefficient lists are numbers again
  abbrev pub polynomials : Numbers (List C)
  polynomials = record { 𝟘 = []; 𝟙 = constant 𝟙; add = plus; sub = minus; mul = times }
