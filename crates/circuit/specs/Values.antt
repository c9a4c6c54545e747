-- The values of a circuit's gates.
-- Assumes nothing.
use Rattle.std.specs.Prelude.{ℕ, List, [], ◌∷◌, map, get_or}
use Rattle.algebra.specs.Numbers.{Numbers, words}
use Rattle.circuit.specs.Gate.{Gate, gate_value}
use Rattle.circuit.specs.Circuit.{prime_of, gate_layers}

-- layers 0 to D: "Layer D's values are the input words"; each other layer's come from the layer after it
module _ {C : Type 0} (N : Numbers C) where
  unfoldable pub layers_from : List (List Gate) → List C → List (List C)
  layers_from [] input = input ∷ []
  layers_from (gs ∷ ls) input = map (gate_value N (get_or (layers_from ls input) 0 [])) gs ∷ layers_from ls input

unfoldable pub layers : List ℕ → List ℕ → List (List ℕ)
layers c input = layers_from (words (prime_of c)) (gate_layers c) input

-- layer i's values
unfoldable pub values_at : List ℕ → List ℕ → ℕ → List ℕ
values_at c input i = get_or (layers c input) i []

-- the circuit's outputs are the values of its gates in layer 0
abbrev pub outputs : List ℕ → List ℕ → List ℕ
outputs c input = values_at c input 0

-- where it has one gate there, "the circuit's value is that of its gate in layer 0"
abbrev pub value : List ℕ → List ℕ → ℕ
value c input = get_or (outputs c input) 0 0
