-- Every statement of this crate, proved.
-- Assumes nothing.
use Rattle.sums.specs.Round.{Theorems}
use Rattle.sums.proofs.Rounds.{honest_round}

pub proved : Theorems
proved = record {
  honest_round = honest_round;
}
