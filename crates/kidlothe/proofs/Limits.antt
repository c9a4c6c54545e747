-- A legal circuit's words are within the limit of an array.
-- Assumes nothing.
use native.Mathlib.Omega.{arith}
use Rattle.circuit.proofs.Loading.{legal_circuit}
use Rattle.circuit.proofs.Largest.{legal_sizes}
use Rattle.kidlothe.specs.Limits.{ArraysLongEnough}

pub arrays_long_enough : ArraysLongEnough
arrays_long_enough c e = omega (arith, (legal_circuit c e).sized.counted, (legal_sizes c e).words)
