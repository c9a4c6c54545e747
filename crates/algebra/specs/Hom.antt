-- Maps that keep the operations.
-- Assumes nothing.
use Rattle.std.specs.Prelude.{◌≡◌}
use Rattle.algebra.specs.Numbers.{Numbers}

pub record Hom {C D : Type 0} (N : Numbers C) (M : Numbers D) (h : C → D) : Type 0 where
  pub keeps_𝟘 : h N.𝟘 ≡ M.𝟘
  pub keeps_𝟙 : h N.𝟙 ≡ M.𝟙
  pub keeps_add : (a b : C) → h (N.add a b) ≡ M.add (h a) (h b)
  pub keeps_sub : (a b : C) → h (N.sub a b) ≡ M.sub (h a) (h b)
  pub keeps_mul : (a b : C) → h (N.mul a b) ≡ M.mul (h a) (h b)
