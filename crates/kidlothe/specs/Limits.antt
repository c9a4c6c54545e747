-- The arrays that Read takes are long enough for every legal circuit.
-- Assumes nothing.
use Rattle.std.specs.Prelude.{ℕ, ◌≤◌, ◌≡◌, List, length}
use Rattle.xdr.specs.Limits.{max_count}
use Rattle.circuit.specs.Legal.{load_answer}

abbrev pub ArraysLongEnough : Type 0
ArraysLongEnough = (c : List ℕ) → load_answer c ≡ 0 → length c ≤ max_count

-- all that this crate states besides its contracts; `proved` in `proofs/Proved` inhabits it
pub record Theorems : Type 0 where
  pub arrays_long_enough : ArraysLongEnough
