-- The operations' results under a map that keeps them, from what it makes of their arguments.
-- Assumes nothing.
use mathlib.Core.Path.{◌≡◌, ap₂, ◌∙◌}
use Rattle.algebra.specs.Numbers.{Numbers}
use Rattle.algebra.specs.Hom.{Hom}

module _ {C D : Type 0} {N : Numbers C} {M : Numbers D} {h : C → D} (H : Hom N M h) where
  pub hom_add : {a b : C} {x y : D} → h a ≡ x → h b ≡ y → h (N.add a b) ≡ M.add x y
  hom_add {a} {b} e f = H.keeps_add a b ∙ ap₂ M.add e f

  pub hom_sub : {a b : C} {x y : D} → h a ≡ x → h b ≡ y → h (N.sub a b) ≡ M.sub x y
  hom_sub {a} {b} e f = H.keeps_sub a b ∙ ap₂ M.sub e f

  pub hom_mul : {a b : C} {x y : D} → h a ≡ x → h b ≡ y → h (N.mul a b) ≡ M.mul x y
  hom_mul {a} {b} e f = H.keeps_mul a b ∙ ap₂ M.mul e f
