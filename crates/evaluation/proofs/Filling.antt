-- Laws of a layer that is filled: its gates by their words, and their values.
-- Assumes nothing.
use Prim.Native.Nat.{ℕ, ◌+◌, ◌≤◌, ◌<◌}
use mathlib.Core.Path.{◌≡◌, refl, sym, ap, ap₂, ◌∙◌, subst}
use mathlib.Core.List.{List, [], ◌∷◌, map}
use native.Mathlib.Omega.{arith}
use lib.ListN.{length, get_or, set, drop, length-map}
use lib.Seq.{get_or-drop}
use Rattle.lists.specs.Each.{All}
use Rattle.lists.specs.Buffer.{over}
use Rattle.lists.proofs.Storing.{Stored, start, kept, next, end}
use Rattle.lists.proofs.Each.{all_at}
use Rattle.lists.proofs.Map.{get_d_map_lt}
use Rattle.algebra.specs.Numbers.{Numbers, words}
use Rattle.circuit.specs.Gate.{Gate, gate, operate, gate_value}
use Rattle.layout.specs.Gate.{gate_in}
use Rattle.evaluation.specs.Layer.{layer_values}

-- a gate of a list; triple i as gate i
abbrev pub none : Gate
none = gate 0 0 0

pub triple_gate : (rows : List (List ℕ)) (i : ℕ) (g : Gate) → i < length rows → g ≡ gate_in (get_or rows i []) → get_or (map gate_in rows) i none ≡ g
triple_gate rows i g h e = get_d_map_lt gate_in rows i none [] h ∙ sym e

-- where a gate's wires lead
pub wires_in : (n : ℕ) (gates : List Gate) (i : ℕ) {g : Gate} → All (λ g. (length gates + g.left < n) × (length gates + g.right < n)) gates → i < length gates
    → get_or gates i none ≡ g → (length gates + g.left < n) × (length gates + g.right < n)
wires_in n gates i {g} all h e =
    subst (λ (x : Gate). (length gates + x.left < n) × (length gates + x.right < n)) e
    (all_at (λ g. (length gates + g.left < n) × (length gates + g.right < n)) gates i none h all)

module _ (N : Numbers ℕ) (gates : List Gate) (values : List ℕ) where
  pub length_layer : length (layer_values N gates values) ≡ length gates
  unfolding layer_values
  length_layer = length-map gates (gate_value N (drop (length gates) values))

layer_at : (p : ℕ) (gates : List Gate) (values : List ℕ) (i : ℕ) (g : Gate) → i < length gates → get_or gates i none ≡ g
    → get_or (layer_values (words p) gates values) i 0
    ≡ operate (words p) g.kind (get_or values (length gates + g.left) 0) (get_or values (length gates + g.right) 0)
unfolding layer_values gate_value
layer_at p gates values i g h e =
    get_d_map_lt (gate_value (words p) (drop (length gates) values)) gates i 0 none h
    ∙ ap (gate_value (words p) (drop (length gates) values)) e
    ∙ ap₂ (operate (words p) g.kind) (get_or-drop (length gates) values g.left 0) (get_or-drop (length gates) values g.right 0)

-- i values of the layer stand, before those of the next
module _ (p : ℕ) (gates : List Gate) (before : List ℕ) where
  abbrev pub LayerStored : List ℕ → ℕ → Type 0
  LayerStored values i = Stored (layer_values (words p) gates before) before values i

  pub layer_start_lem : length gates ≤ length before → LayerStored before 0
  layer_start_lem room = start (layer_values (words p) gates before) before (omega (arith, length_layer (words p) gates before))

  module _ (values : List ℕ) (i : ℕ) (h : LayerStored values i) where
    -- one value more: it is read behind the places that are filled, which still hold what they held
    pub layer_step : (g : Gate) (r : ℕ) → i < length gates → get_or gates i none ≡ g
        → r ≡ operate (words p) g.kind (get_or values (length gates + g.left) 0) (get_or values (length gates + g.right) 0)
        → LayerStored (set values i r) (i + 1)
    layer_step g r more eg e =
        let behind : (j : ℕ) → get_or values (length gates + j) 0 ≡ get_or before (length gates + j) 0 = λ j. kept h (length gates + j) 0 (omega arith) in
        next h 0 r (omega (arith, length_layer (words p) gates before))
        (e ∙ ap₂ (operate (words p) g.kind) (behind g.left) (behind g.right) ∙ sym (layer_at p gates before i g more eg))

    pub layer_end : length gates ≤ i → values ≡ over (layer_values (words p) gates before) before
    layer_end all = end h (omega (arith, length_layer (words p) gates before))

-- gates whose wires are below `next` see no more of the values
pub values_agree : (p next : ℕ) (gs : List Gate) (v w : List ℕ) → All (λ g. (g.left < next) × (g.right < next)) gs
    → ((i : ℕ) → i < next → get_or v i 0 ≡ get_or w i 0) → map (gate_value (words p) v) gs ≡ map (gate_value (words p) w) gs
unfolding gate_value
values_agree p next [] v w h same = refl
values_agree p next (g ∷ gs) v w h same =
    ap₂ (λ (x : ℕ) (l : List ℕ). x ∷ l)
    (ap₂ (operate (words p) g.kind) (same g.left h.0.0) (same g.right h.0.1))
    (values_agree p next gs v w h.1 same)
