-- The honest messages: formal coefficients, from multiplying out. A message is the same sum, or the same extension, with the variable X for
-- the coordinate that it speaks of.
-- Assumes nothing.
use Rattle.std.specs.Prelude.{ℕ, zero, suc, List, [], ◌∷◌, ◌++◌, map, length}
use Rattle.algebra.specs.Numbers.{Numbers}
use Rattle.algebra.specs.Polynomial.{constant, X, polynomials}
use Rattle.multilinear.specs.Extension.{extension}
use Rattle.circuit.specs.Gate.{Gate}
use Rattle.sumcheck.specs.Summand.{partial_sum, line_point}

module _ {C : Type 0} (N : Numbers C) where
  -- exactly n coefficients
  unfoldable pub fit : ℕ → List C → List C
  fit zero f = []
  fit (suc n) [] = N.𝟘 ∷ fit n []
  fit (suc n) (c ∷ f) = c ∷ fit n f

  -- "three coefficients, constant first, of the sum over {0, 1} of the coordinates not yet fixed", the next one being the variable
  unfoldable pub sum_message : ℕ → List Gate → List C → List C → List C → List C
  sum_message k gs point vs xs =
      fit 3 (partial_sum (polynomials N) k gs (map (constant N) point) (map (constant N) vs) (map (constant N) xs ++ (X N ∷ [])))

  -- "the k+1 coefficients, constant first, of V along u + t × (v - u)"
  unfoldable pub line_message : List C → List C → List C → List C
  line_message vs u v =
      fit (suc (length u)) (extension (polynomials N) (map (constant N) vs) (line_point (polynomials N) (map (constant N) u) (map (constant N) v) (X N)))
