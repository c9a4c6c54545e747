-- What legality says, part by part: conditions that the inner functions share.
-- Assumes nothing.
use Rattle.std.specs.Prelude.{ℕ, ◌+◌, ◌≤◌, ◌≡◌, true, List, length}
use Rattle.primes.specs.Prime.{is_listed}
use Rattle.circuit.specs.Limits.{max_depth, max_exponent, max_output_exponent}
use Rattle.circuit.specs.Circuit.{prime_of, depth, output_exponent, exponents, gate_layers, word_count}
use Rattle.circuit.specs.Legal.{all_below, layers_cause}

-- neither 3 nor 4: the exponents are there
pub record Exponents (c : List ℕ) : Type 0 where
  pub shallow : depth c ≤ max_depth
  pub few : output_exponent c ≤ max_output_exponent
  pub whole : length (exponents c) ≡ depth c
  pub small : all_below (max_exponent + 1) (exponents c) ≡ true

-- nor 5: the gates are there too
pub record Sized (c : List ℕ) : Type 0 where
  pub headed : Exponents c
  pub counted : length c ≡ word_count c

-- none of 1 to 7: a legal circuit
pub record LegalCircuit (c : List ℕ) : Type 0 where
  pub sized : Sized c
  pub listed : is_listed (prime_of c) ≡ true
  pub some : 1 ≤ depth c
  pub wired : layers_cause (exponents c) (gate_layers c) ≡ 0

-- a layer of a list whose exponents are there
pub record LayerOf (c : List ℕ) (layer : ℕ) : Type 0 where
  pub headed : Exponents c
  pub inside : layer ≤ depth c
