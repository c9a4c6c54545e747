-- Every statement of this crate, proved.
-- Assumes nothing.
use Rattle.algebra.specs.Theorems.{Theorems}
use Rattle.algebra.proofs.Euclid.{no_zero_divisors}
use Rattle.algebra.proofs.Roots.{root_bound, equal_words}

pub proved : Theorems
proved = record {
  no_zero_divisors = no_zero_divisors;
  root_bound = root_bound;
  equal_by_values = equal_words;
}
