-- Gates and their values.
-- Assumes nothing.
use Rattle.std.specs.Prelude.{ℕ, zero, suc, List, [], ◌∷◌, length, get_or}
use Rattle.algebra.specs.Numbers.{Numbers}

-- "three words each: kind, left, right"
pub record Gate : Type 0 where
  pub kind : ℕ
  pub left : ℕ
  pub right : ℕ

abbrev pub gate : ℕ → ℕ → ℕ → Gate
gate kind left right = record { kind = kind; left = left; right = right }

-- "Kind 1 adds, kind 2 multiplies, kind 3 is left minus right": the kinds that do something with two values
abbrev pub kinds : List ℕ
kinds = 1 ∷ 2 ∷ 3 ∷ []

-- they are numbered from 1 on, so the last number is how many they are
abbrev pub max_kind : ℕ
max_kind = length kinds

module _ {C : Type 0} (N : Numbers C) where
  -- "Kind 0 is empty: value 0 .. Kind 1 adds, kind 2 multiplies, kind 3 is left minus right, modulo p"; no other kind is legal
  abbrev pub operate : ℕ → C → C → C
  operate zero x y = N.𝟘
  operate (suc zero) x y = N.add x y
  operate (suc (suc zero)) x y = N.mul x y
  operate (suc (suc (suc zero))) x y = N.sub x y
  operate (suc (suc (suc (suc kind)))) x y = N.𝟘

  -- "Left and right name gates of the next layer", whose values are `next`
  unfoldable pub gate_value : List C → Gate → C
  gate_value next g = operate g.kind (get_or next g.left N.𝟘) (get_or next g.right N.𝟘)
