-- Over a ring the value at a point keeps the operations, so a message's value is the sum, or the extension, with that point for the
-- variable; and `fit` drops nothing where there are no more coefficients than it keeps.
-- Assumes nothing.
use mathlib.Core.Path.{◌≡◌, refl, ap, ap₂, ◌∙◌}
use mathlib.Core.List.{List, [], ◌∷◌, ◌++◌, map}
use Prim.Native.Nat.{ℕ, zero, suc, ◌≤◌}
use native.Mathlib.Nat.{suc_inj}
use native.Mathlib.Omega.{arith}
use lib.ListN.{length}
use Rattle.lists.proofs.Map.{map_append}
use Rattle.algebra.specs.Numbers.{Numbers}
use Rattle.algebra.specs.Ring.{Ring}
use Rattle.algebra.specs.Polynomial.{value_at, constant, X, polynomials}
use Rattle.algebra.proofs.Ring.{ring}
use Rattle.algebra.proofs.Solve.{var, 𝟏, ◌:+◌, ◌:-◌, ◌:*◌, equal, solve}
use Rattle.algebra.proofs.Polynomial.{value_hom, value_X}
use Rattle.multilinear.specs.Extension.{extension}
use Rattle.multilinear.proofs.Hom.{value_constants, value_along}
use Rattle.circuit.specs.Gate.{Gate}
use Rattle.sumcheck.specs.Summand.{partial_sum, line_point}
use Rattle.sumcheck.specs.Message.{fit, sum_message, line_message}
use Rattle.sumcheck.proofs.Hom.{hom_partial_sum, hom_line_point}
use Rattle.sumcheck.proofs.Degree.{three_coefficients, line_coefficients}

module _ {C : Type 0} (N : Numbers C) where
  pub length_line : (n : ℕ) (u v : List C) (t : C) → length u ≡ n → length v ≡ n → length (line_point N u v t) ≡ n
  unfolding line_point
  length_line n [] v t e e' = e
  length_line n (x ∷ u) [] t e e' = e'
  length_line zero (x ∷ u) (y ∷ v) t e e' = absurd (omega arith)
  length_line (suc n) (x ∷ u) (y ∷ v) t e e' = ap suc (length_line n u v t (suc_inj e) (suc_inj e'))

module _ {C : Type 0} {N : Numbers C} (R : Ring N) where
  open N use {𝟘, 𝟙, add as ◌⊕◌, sub as ◌⊖◌, mul as ◌⊗◌}

  infixl 60 ◌⊕◌ ◌⊖◌
  infixl 70 ◌⊗◌
  pub value_fit : (n : ℕ) (f : List C) (x : C) → length f ≤ n → value_at N (fit N n f) x ≡ value_at N f x
  unfolding value_at fit
  value_fit zero [] x h = refl
  value_fit zero (c ∷ f) x h = absurd (omega arith)
  value_fit (suc n) [] x h = ap (λ (y : C). 𝟘 ⊕ x ⊗ y) (value_fit n [] x (omega arith)) ∙ none x
    where
      none : (x : C) → 𝟘 ⊕ x ⊗ 𝟘 ≡ 𝟘
      none x = simp ring
  value_fit (suc n) (c ∷ f) x h = ap (λ (y : C). c ⊕ x ⊗ y) (value_fit n f x (omega arith))

  -- SUM ROUNDS
  pub sum_value : (k : ℕ) (gs : List Gate) (point vs xs : List C) (r : C)
      → value_at N (sum_message N k gs point vs xs) r ≡ partial_sum N k gs point vs (xs ++ (r ∷ []))
  unfolding sum_message
  sum_value k gs point vs xs r =
      let fixed : List (List C) = map (constant N) xs ++ (X N ∷ []) in
      value_fit _ (partial_sum (polynomials N) k gs (map (constant N) point) (map (constant N) vs) fixed) r (three_coefficients N k gs point vs xs)
      ∙ hom_partial_sum (value_hom R r) k gs (map (constant N) point) (map (constant N) vs) fixed
      ∙ ap₂ (λ (a b : List C). partial_sum N k gs a b (map (λ f. value_at N f r) fixed)) (value_constants R point r) (value_constants R vs r)
      ∙ ap (partial_sum N k gs point vs)
      (map_append (λ f. value_at N f r) (map (constant N) xs) (X N ∷ [])
      ∙ ap₂ (λ (a : List C) (b : C). a ++ (b ∷ [])) (value_constants R xs r) (value_X R r))

  -- THE LINE
  pub line_value : (vs u v : List C) (t : C) → value_at N (line_message N vs u v) t ≡ extension N vs (line_point N u v t)
  unfolding line_message
  line_value vs u v t =
      let line : List (List C) = line_point (polynomials N) (map (constant N) u) (map (constant N) v) (X N) in
      value_fit _ (extension (polynomials N) (map (constant N) vs) line) t (line_coefficients N vs u v)
      ∙ value_along R vs line t
      ∙ ap (extension N vs)
      (hom_line_point (value_hom R t) (map (constant N) u) (map (constant N) v) (X N)
      ∙ ap₂ (λ (a b : List C). line_point N a b (value_at N (X N) t)) (value_constants R u t) (value_constants R v t)
      ∙ ap (line_point N u v) (value_X R t))

  pub line_zero : (u v : List C) → length u ≡ length v → line_point N u v 𝟘 ≡ u
  unfolding line_point
  line_zero [] v e = refl
  line_zero (x ∷ u) [] e = absurd (omega arith)
  line_zero (x ∷ u) (y ∷ v) e = ap₂ (λ (a : C) (l : List C). a ∷ l) (start x y) (line_zero u v (suc_inj e))
    where
      start : (x y : C) → x ⊕ 𝟘 ⊗ (y ⊖ x) ≡ x
      start x y = simp ring

  pub line_one : (u v : List C) → length u ≡ length v → line_point N u v 𝟙 ≡ v
  unfolding line_point equal
  line_one [] [] e = refl
  line_one [] (y ∷ v) e = absurd (omega arith)
  line_one (x ∷ u) [] e = absurd (omega arith)
  line_one (x ∷ u) (y ∷ v) e = ap₂ (λ (a : C) (l : List C). a ∷ l) (end x y) (line_one u v (suc_inj e))
    where
      end : (x y : C) → x ⊕ 𝟙 ⊗ (y ⊖ x) ≡ y
      end x y = solve R (x ∷ y ∷ []) (var 0 :+ 𝟏 :* (var 1 :- var 0)) (var 1) tt
