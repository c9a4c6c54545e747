-- Every statement of this crate, proved.
-- Assumes nothing.
use Rattle.primes.specs.Prime.{Theorems}
use Rattle.primes.proofs.Prime.{listed_prime}

pub proved : Theorems
proved = record {
  listed_are_prime = listed_prime;
}
