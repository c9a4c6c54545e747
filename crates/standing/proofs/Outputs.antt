-- As many outputs as layer 0 is wide.
-- Assumes nothing.
use Prim.Native.Nat.{ℕ, ◌^◌, zero-le}
use mathlib.Core.Path.{◌≡◌}
use mathlib.Core.List.{List}
use Rattle.circuit.specs.Circuit.{output_exponent, exponent_at, width_of}
use Rattle.circuit.specs.Sized.{LegalCircuit}
use Rattle.circuit.proofs.Sized.{layer_of, exponent_width}

pub as_wide : (c : List ℕ) → LegalCircuit c → width_of (exponent_at c 0) ≡ 2 ^ output_exponent c
as_wide c legal = exponent_width c 0 (layer_of c legal 0 zero-le)
