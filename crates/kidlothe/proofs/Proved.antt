-- Every statement of this crate, proved.
-- Assumes nothing.
use Rattle.kidlothe.specs.Limits.{Theorems}
use Rattle.kidlothe.proofs.Limits.{arrays_long_enough}

pub proved : Theorems
proved = record {
  arrays_long_enough = arrays_long_enough;
}
