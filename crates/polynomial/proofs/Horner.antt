-- Horner's rule is a fold from the last coefficient: its value over a list with one more in front is one step more.
-- Assumes nothing.
use mathlib.Core.Path.{◌≡◌, refl, ap, ◌∙◌}
use mathlib.Core.List.{List, [], ◌∷◌, reverse}
use Rattle.std.specs.List.{fold}
use Rattle.std.proofs.lemmas.List.{reverse-append}
use Rattle.std.proofs.lemmas.List.Sums.{fold-append}
use Rattle.algebra.specs.Numbers.{Numbers}
use Rattle.algebra.specs.Polynomial.{value_at}

module _ {C : Type 0} (N : Numbers C) (x : C) where
  abbrev pub step : C → C → C
  step value c = N.add c (N.mul x value)

  pub from_last : (coefficients : List C) → fold step N.𝟘 (reverse coefficients) ≡ value_at N coefficients x
  unfolding value_at
  from_last [] = refl
  from_last (c ∷ f) =
      ap (fold step N.𝟘) (reverse-append (c ∷ []) f) ∙ fold-append step N.𝟘 (reverse f) (c ∷ []) ∙ ap (λ (y : C). step y c) (from_last f)
