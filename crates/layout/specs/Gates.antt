-- What is promised of the gates that the readers count and give back.
-- Assumes nothing.
use Rattle.std.specs.Prelude.{ℕ, ◌-◌, ◌*◌, ◌^◌, ◌≤◌, ◌≡◌, List, length}
use Rattle.circuit.specs.Limits.{max_depth, max_width}
use Rattle.circuit.specs.Circuit.{depth, exponent_at, gates_of, gates_before, gates_at}
use Rattle.circuit.specs.Sized.{LayerOf, Sized}

-- the gates of the layers before one: whatever the list, not many
pub record GatesBefore (c : List ℕ) (layer r : ℕ) : Type 0 where
  pub few : r ≤ max_depth * max_width
  pub counted : LayerOf c layer → r ≡ gates_before c layer

-- the words of the gates of a layer
pub record LayerWords (c : List ℕ) (layer : ℕ) (ws : List ℕ) : Type 0 where
  pub size : length ws ≡ 3 * 2 ^ exponent_at c layer
  pub gates : gates_of (2 ^ exponent_at c layer) ws ≡ gates_at c layer

-- those of the layer above one, where there is such a layer
abbrev pub GatesAbove : List ℕ → ℕ → List ℕ → Type 0
GatesAbove c layer ws = Sized c → 1 ≤ layer → layer ≤ depth c → LayerWords c (layer - 1) ws
