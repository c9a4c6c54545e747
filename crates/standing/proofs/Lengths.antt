-- The length of a round's message, by the kind of the round.
-- Assumes nothing.
use Prim.Native.Nat.{ℕ, ◌+◌}
use mathlib.Core.Path.{◌≡◌, refl}
use mathlib.Core.Bool.{true, false}
use mathlib.Core.List.{List}
use Rattle.circuit.specs.Circuit.{exponent_at}
use Rattle.protocol.specs.Rounds.{Place, is_line}
use Rattle.protocol.specs.Judge.{message_length}

module _ (c : List ℕ) (r : Place) where
  pub length_of_line : (k : ℕ) → k ≡ exponent_at c r.layer → is_line c r ≡ true → k + 1 ≡ message_length c r
  unfolding message_length
  length_of_line k own e = rw (own, e) refl

  pub length_of_sum : is_line c r ≡ false → 3 ≡ message_length c r
  unfolding message_length
  length_of_sum e = rw e refl
