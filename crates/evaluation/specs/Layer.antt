-- One layer of an evaluation, as the code fills it: a layer's values go directly before those of the layer after it.
-- Assumes nothing.
use Rattle.std.specs.Prelude.{ℕ, ◌+◌, ◌-◌, ◌≤◌, ◌<◌, ◌≡◌, length, drop}
use mathlib.Core.List.{List, map, flatten}
use Rattle.lists.specs.Each.{All}
use Rattle.lists.specs.Front.{Front}
use Rattle.algebra.specs.Numbers.{Numbers}
use Rattle.circuit.specs.Limits.{max_values}
use Rattle.circuit.specs.Gate.{Gate, gate_value}
use Rattle.circuit.specs.Values.{layers}

-- the values of a layer's gates, where the next layer's stand behind as many places
unfoldable pub layer_values : Numbers ℕ → List Gate → List ℕ → List ℕ
layer_values N gates values = map (gate_value N (drop (length gates) values)) gates

-- there is room for them, and each gate's wires lead to values behind those of its own layer
pub record Fillable (gates : List Gate) (values : List ℕ) : Type 0 where
  pub room : length gates ≤ length values
  pub wired : All (λ g. (length gates + g.left < length values) × (length gates + g.right < length values)) gates

-- a working array with a list at its place: from there on it stands at the front
abbrev pub Placed : List ℕ → ℕ → List ℕ → Type 0
Placed words at values = (length values ≡ max_values) × Front (max_values - at) words (drop at values)

-- a working array with the values of all layers at its front
abbrev pub AllValues : List ℕ → List ℕ → List ℕ → Type 0
AllValues c input values = Front max_values (flatten (layers c input)) values
