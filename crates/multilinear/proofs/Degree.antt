-- How many coefficients weights and extensions have where the point's coordinates are polynomials: each coordinate stands once in each weight.
-- Assumes nothing.
use mathlib.Core.Path.{◌≡◌, refl}
use mathlib.Core.Bool.{Bool, true, false}
use mathlib.Core.List.{List, [], ◌∷◌, ◌++◌, map}
use Prim.Native.Nat.{ℕ, zero, suc, ◌+◌, ◌≤◌, zero-le}
use native.Mathlib.Nat.{le_refl}
use native.Mathlib.Omega.{arith}
use lib.ListN.{length, take, drop}
use Rattle.lists.specs.Each.{All}
use Rattle.algebra.specs.Numbers.{Numbers}
use Rattle.algebra.specs.Polynomial.{times, constant, polynomials}
use Rattle.algebra.proofs.Polynomial.{length_plus, length_minus, length_times}
use Rattle.multilinear.specs.Extension.{factor, weight_of_bits, weight, sum_from, extension}
use Rattle.multilinear.specs.Theorems.{degree, degrees, DegreeBound}

module _ {C : Type 0} where
  pub degrees_append : (a b : List (List C)) → degrees (a ++ b) ≡ degrees a + degrees b
  degrees_append [] b = omega arith
  degrees_append (f ∷ a) b = let ih = degrees_append a b in omega arith

  pub degrees_halves : (k : ℕ) (l : List (List C)) → degrees (take k l) + degrees (drop k l) ≡ degrees l
  degrees_halves zero l = omega arith
  degrees_halves (suc k) [] = omega arith
  degrees_halves (suc k) (f ∷ l) = let ih = degrees_halves k l in omega arith

  -- lists of at most one coefficient
  pub degrees_none : (l : List (List C)) → All (λ f. length f ≤ 1) l → degrees l ≡ 0
  degrees_none [] h = refl
  degrees_none (f ∷ l) h = let ih = degrees_none l h.1 in let one = h.0 in omega arith

module _ {C : Type 0} (N : Numbers C) where
  abbrev P : Numbers (List C)
  P = polynomials N

  pub constants_short : (l : List C) → All (λ f. length f ≤ 1) (map (constant N) l)
  constants_short [] = tt
  constants_short (c ∷ l) = (le_refl 1, constants_short l)

  pub length_sum_from : {A : Type 0} (m : ℕ) (f : ℕ → A → List C) (a : ℕ) (l : List A) → ((i : ℕ) (x : A) → length (f i x) ≤ m)
      → length (sum_from P f a l) ≤ m
  unfolding sum_from
  length_sum_from m f a [] h = zero-le
  length_sum_from m f a (x ∷ l) h = length_plus N m (f a x) (sum_from P f (suc a) l) (h a x) (length_sum_from m f (suc a) l h)

  length_factor : (b : Bool) (z : List C) → length (factor P b z) ≤ suc (degree z)
  length_factor true z = omega arith
  length_factor false z = length_minus N (suc (degree z)) (constant N N.𝟙) z (omega arith) (omega arith)

  pub length_weight : (bs : List Bool) (z : List (List C)) → length (weight_of_bits P bs z) ≤ suc (degrees z)
  unfolding weight_of_bits
  length_weight [] z = omega arith
  length_weight (b ∷ bs) [] = omega arith
  length_weight (b ∷ bs) (f ∷ z) =
      length_times N (degree f) (degrees z) (factor P b f) (weight_of_bits P bs z) (length_factor b f) (length_weight bs z)

  pub degree_bound : DegreeBound N
  unfolding extension sum_from
  degree_bound vs z = go 0 vs
    where
      go : (a : ℕ) (l : List C) → length (sum_from P (λ b v. times N v (weight P b z)) a (map (constant N) l)) ≤ suc (degrees z)
      go a [] = zero-le
      go a (c ∷ l) =
          let one : length (times N (constant N c) (weight P a z)) ≤ suc (0 + degrees z) =
          length_times N 0 (degrees z) (constant N c) (weight P a z) (le_refl 1) (length_weight _ z) in
          length_plus N (suc (degrees z)) (times N (constant N c) (weight P a z))
          (sum_from P (λ b v. times N v (weight P b z)) (suc a) (map (constant N) l)) (omega arith) (go (suc a) l)
