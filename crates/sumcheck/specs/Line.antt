-- The coefficients of V along a line, from those of its halves, over any numbers.
-- Assumes nothing.
use Rattle.std.specs.Prelude.{◌/◌, ◌≡◌, refl, List, [], ◌∷◌, length, take, drop, get_or}
use Rattle.algebra.specs.Numbers.{Numbers, words}

module _ {C : Type 0} (N : Numbers C) where
  open N use {𝟘, add as ◌⊕◌, sub as ◌⊖◌, mul as ◌⊗◌}

  infixl 60 ◌⊕◌ ◌⊖◌
  infixl 70 ◌⊗◌
  -- the coefficients of low + (x + d X) × (high - low), one more than low has; `carry` is the difference before, which X has moved here
  unfoldable pub along : C → C → C → List C → List C → List C
  along x d carry [] high = (d ⊗ carry) ∷ []
  along x d carry (a ∷ low) [] = (d ⊗ carry) ∷ []
  along x d carry (a ∷ low) (b ∷ high) = (a ⊕ x ⊗ (b ⊖ a) ⊕ d ⊗ carry) ∷ along x d (b ⊖ a) low high

  -- The first coordinate of the line from u to v is x + (y - x) X. This is what the code computes; where there are 2^k values it is the line
  -- message (`LineByHalves`).
  unfoldable pub line_halving : List C → List C → List C → List C
  line_halving vs [] v = get_or vs 0 𝟘 ∷ []
  line_halving vs (x ∷ u) [] = get_or vs 0 𝟘 ∷ []
  line_halving vs (x ∷ u) (y ∷ v) =
      along x (y ⊖ x) 𝟘 (line_halving (take (length vs / 2) vs) u v) (line_halving (drop (length vs / 2) vs) u v)

-- 3 + 2 z along 4 + 2 t, modulo 13: the line of the worked transcript
line_example : line_halving (words 13) (3 ∷ 5 ∷ []) (4 ∷ []) (6 ∷ []) ≡ 11 ∷ 4 ∷ []
unfolding along line_halving
line_example = refl
