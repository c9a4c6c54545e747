-- A list at the front of an array.
-- Assumes nothing.
use Rattle.std.specs.Prelude.{ℕ, ◌≡◌, List, length, take}

-- an array of n words that begins with a list
pub record Front (n : ℕ) (words array : List ℕ) : Type 0 where
  pub size : length array ≡ n
  pub holds : take (length words) array ≡ words
