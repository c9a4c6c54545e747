-- Tables of a point's weights, and tables with their first variables fixed; and what `proofs/Tables` proves of them.
-- Assumes nothing.
use Rattle.std.specs.Prelude.{ℕ, ◌+◌, ◌^◌, ◌<◌, ◌≡◌, List, [], ◌∷◌, ◌++◌, map, length, get_or}
use Rattle.algebra.specs.Numbers.{Numbers}
use Rattle.algebra.specs.Ring.{Ring}
use Rattle.algebra.specs.Hom.{Hom}
use Rattle.multilinear.specs.Extension.{bits, weight, extension, corner, fold}

module _ {C : Type 0} (N : Numbers C) where
  open N use {𝟘, 𝟙, sub as ◌⊖◌, mul as ◌⊗◌}

  infixl 60 ◌⊖◌
  infixl 70 ◌⊗◌
  -- the weights of all indices at a point, in order: the first variable has the highest bit, so its two factors make two halves
  unfoldable pub weights : List C → List C
  weights [] = 𝟙 ∷ []
  weights (z ∷ zs) = map (λ w. (𝟙 ⊖ z) ⊗ w) (weights zs) ++ map (λ w. z ⊗ w) (weights zs)

  -- a table with its first variables fixed, one after another
  unfoldable pub folded : List C → List C → List C
  folded [] vs = vs
  folded (r ∷ rs) vs = folded rs (fold N r vs)

  -- the list holds the weights
  abbrev pub Listed : Type 0
  Listed = (zs : List C) (b : ℕ) → b < 2 ^ length zs → get_or (weights zs) b 𝟘 ≡ weight N b zs

  abbrev pub WeightsLength : Type 0
  WeightsLength = (zs : List C) → length (weights zs) ≡ 2 ^ length zs

  -- the entries of a table with variables fixed: the extension where the other coordinates are an index's bits
  abbrev pub FoldedEntry : Type 0
  FoldedEntry =
      Ring N → (xs vs : List C) (m b : ℕ) → length vs ≡ 2 ^ (length xs + m) → b < 2 ^ m
      → get_or (folded xs vs) b 𝟘 ≡ extension N vs (xs ++ corner N (bits m b))

-- maps that keep the operations keep both tables
abbrev pub WeightsKept : {C D : Type 0} → Numbers C → Numbers D → (C → D) → Type 0
WeightsKept {C} N M h = Hom N M h → (zs : List C) → map h (weights N zs) ≡ weights M (map h zs)

abbrev pub FoldedKept : {C D : Type 0} → Numbers C → Numbers D → (C → D) → Type 0
FoldedKept {C} N M h = Hom N M h → (xs vs : List C) → map h (folded N xs vs) ≡ folded M (map h xs) (map h vs)
