-- The laws of a commutative ring.
-- Assumes nothing.
use Rattle.std.specs.Prelude.{◌≡◌}
use Rattle.algebra.specs.Numbers.{Numbers}

pub record Ring {C : Type 0} (N : Numbers C) : Type 0 where
  pub add_assoc : (a b c : C) → N.add (N.add a b) c ≡ N.add a (N.add b c)
  pub add_comm : (a b : C) → N.add a b ≡ N.add b a
  pub add_zero : (a : C) → N.add a N.𝟘 ≡ a
  pub sub_add : (a b : C) → N.add (N.sub a b) b ≡ a
  pub mul_assoc : (a b c : C) → N.mul (N.mul a b) c ≡ N.mul a (N.mul b c)
  pub mul_comm : (a b : C) → N.mul a b ≡ N.mul b a
  pub mul_one : (a : C) → N.mul a N.𝟙 ≡ a
  pub mul_add : (a b c : C) → N.mul a (N.add b c) ≡ N.add (N.mul a b) (N.mul a c)
