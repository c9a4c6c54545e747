-- What legality gives.
-- Assumes nothing.
use Rattle.std.specs.Prelude.{ℕ, suc, ◌^◌, ◌≤◌, ◌<◌, ◌≡◌, List, [], ◌∷◌, map, length, replicate}
use Rattle.lists.specs.Each.{All}
use Rattle.primes.specs.Prime.{Prime}
use Rattle.algebra.specs.Numbers.{words}
use Rattle.circuit.specs.Gate.{gate_value}
use Rattle.circuit.specs.Limits.{max_depth, max_exponent, max_output_exponent, max_outputs, max_values, max_words, max_coins, max_message_words}
use Rattle.circuit.specs.Circuit.{prime_of, depth, output_exponent, exponents, exponent_at, gates_at, word_count, value_count, coin_count, message_words}
use Rattle.circuit.specs.Legal.{load_answer, lists_cause}
use Rattle.circuit.specs.Values.{layers, values_at, outputs, value}

abbrev pub LegalPrime : Type 0
LegalPrime = (c : List ℕ) → load_answer c ≡ 0 → Prime (prime_of c)

-- every value of a legal circuit on a legal input is a residue
abbrev pub ValuesAreResidues : Type 0
ValuesAreResidues = (c input : List ℕ) → lists_cause c input ≡ 0 → All (λ layer. All (λ v. v < prime_of c) layer) (layers c input)

-- "Layer i has 2^k gates", and layer D as many words
abbrev pub LayerSizes : Type 0
LayerSizes = (c input : List ℕ) → lists_cause c input ≡ 0 → (i : ℕ) → i ≤ depth c → length (values_at c input i) ≡ 2 ^ exponent_at c i

-- "Layer D's values are the input words"; each other layer's are those of its gates
abbrev pub LastLayer : Type 0
LastLayer = (c input : List ℕ) → lists_cause c input ≡ 0 → values_at c input (depth c) ≡ input

abbrev pub LayerByLayer : Type 0
LayerByLayer =
    (c input : List ℕ) → lists_cause c input ≡ 0 → (i : ℕ) → i < depth c
    → values_at c input i ≡ map (gate_value (words (prime_of c)) (values_at c input (suc i))) (gates_at c i)

-- "Left and right name gates of the next layer"
abbrev pub WiresBelow : Type 0
WiresBelow =
    (c : List ℕ) → load_answer c ≡ 0 → (i : ℕ) → i < depth c
    → All (λ g. (g.left < 2 ^ exponent_at c (suc i)) × (g.right < 2 ^ exponent_at c (suc i))) (gates_at c i)

-- the outputs are "a list of 2^k_0 words", which are residues
pub record OutputList (c ys : List ℕ) : Type 0 where
  pub size : length ys ≡ 2 ^ output_exponent c
  pub residues : All (λ y. y < prime_of c) ys

abbrev pub OutputLayer : Type 0
OutputLayer = (c input : List ℕ) → lists_cause c input ≡ 0 → OutputList c (outputs c input)

-- with k_0 = 0 it is the circuit's value alone
abbrev pub OneOutput : Type 0
OneOutput = (c input : List ℕ) → lists_cause c input ≡ 0 → output_exponent c ≡ 0 → outputs c input ≡ value c input ∷ []

-- no legal circuit is larger than the limits say
pub record InLimits (c : List ℕ) : Type 0 where
  pub outputs : 2 ^ output_exponent c ≤ max_outputs
  pub words : word_count c ≤ max_words
  pub values : value_count c ≤ max_values
  pub coins : coin_count c ≤ max_coins
  pub messages : message_words c ≤ max_message_words

abbrev pub LegalSizes : Type 0
LegalSizes = (c : List ℕ) → load_answer c ≡ 0 → InLimits c

-- and no limit is larger than it must be: a circuit of as many outputs and layers as there can be, each layer as wide as it can be,
-- has these sizes
pub record AtLimits (c : List ℕ) : Type 0 where
  pub most_outputs : 2 ^ output_exponent c ≡ max_outputs
  pub most_words : word_count c ≡ max_words
  pub most_values : value_count c ≡ max_values
  pub most_coins : coin_count c ≡ max_coins
  pub most_messages : message_words c ≡ max_message_words

abbrev pub LargestSizes : Type 0
LargestSizes =
    (c : List ℕ) → depth c ≡ max_depth → output_exponent c ≡ max_output_exponent → exponents c ≡ replicate max_depth max_exponent → AtLimits c

-- all that this crate states; `proved` in `proofs/Proved` inhabits it
pub record Theorems : Type 0 where
  pub legal_prime : LegalPrime
  pub values_are_residues : ValuesAreResidues
  pub layer_sizes : LayerSizes
  pub last_layer : LastLayer
  pub layer_by_layer : LayerByLayer
  pub wires_below : WiresBelow
  pub output_layer : OutputLayer
  pub one_output : OneOutput
  pub legal_sizes : LegalSizes
  pub largest_sizes : LargestSizes
