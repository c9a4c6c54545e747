-- Evaluation from the input up: from its place on the working array holds all values, and one layer more is filled before them.
-- Assumes nothing.
use Prim.Native.Nat.{ℕ, suc, ◌+◌, ◌-◌, ◌/◌, ◌^◌, ◌≤◌, ◌<◌}
use mathlib.Core.Path.{◌≡◌, sym, ap, ap₂, ◌∙◌, subst}
use mathlib.Core.List.{List, ◌++◌, map, flatten}
use native.Mathlib.Nat.{le_refl, sub-zero}
use native.Mathlib.Omega.{arith}
use lib.ListN.{length, take, drop, get_or, length-append, length-drop, length-map, take-append-drop}
use lib.Seq.{length-take-le, drop_at, drop-drop, get_or-take, take_all, take-append-add}
use Rattle.lists.specs.Each.{All}
use Rattle.lists.specs.Buffer.{over}
use Rattle.lists.specs.Front.{Front}
use Rattle.lists.proofs.Each.{all_weaken}
use Rattle.lists.proofs.Buffer.{length_over, rest_lent, rest_back}
use Rattle.lists.proofs.Front.{front_over, front_take}
use Rattle.algebra.specs.Numbers.{Numbers, words}
use Rattle.circuit.specs.Limits.{max_values}
use Rattle.circuit.specs.Gate.{gate_value}
use Rattle.circuit.specs.Circuit.{prime_of, depth, exponent_at, gates_start, gates_before, gates_at, value_count}
use Rattle.circuit.specs.Legal.{lists_cause}
use Rattle.circuit.specs.Sized.{LegalCircuit}
use Rattle.circuit.specs.Values.{layers, values_at}
use Rattle.circuit.proofs.Legal.{length_gates}
use Rattle.circuit.proofs.Gates.{before_next, count_none, layer_count}
use Rattle.circuit.proofs.Loading.{legal_lists}
use Rattle.circuit.proofs.Layers.{layer_by_layer, last_layer, legal_wires}
use Rattle.circuit.proofs.Values.{values_split, layer_part, layer_room, all_size}
use Rattle.circuit.proofs.Largest.{in_limits}
use Rattle.layout.specs.Gate.{gate_in}
use Rattle.layout.proofs.Triples.{all_of, layer_fits, layer_cut}
use Rattle.std.proofs.lemmas.List.{take-map, drop-map}
use Rattle.evaluation.specs.Layer.{layer_values, AllValues, Fillable, Placed}
use Rattle.evaluation.proofs.Filling.{values_agree, length_layer}

-- a list put over the rest of the array from `at` on
module _ (values part ws : List ℕ) (at : ℕ) (size : length values ≡ max_values) (fits : at + length ws ≤ max_values)
    (e : part ≡ over ws (take (max_values - at) (drop at values))) where
  put : take at values ++ (part ++ drop (max_values - at) (drop at values)) ≡ take at values ++ over ws (drop at values)
  put = rest_back values part at max_values size
      ∙ ap (λ (l : List ℕ). take at values ++ l) (e ∙ ap (over ws) (rest_lent values at max_values size))

  front : length (take at values) ≡ at
  front = length-take-le at values (omega arith)

  put_rest : drop at (take at values ++ over ws (drop at values)) ≡ over ws (drop at values)
  put_rest = drop_at (take at values) (over ws (drop at values)) at front

  put_size : length (take at values ++ over ws (drop at values)) ≡ max_values
  put_size =
      let room : length ws ≤ length (drop at values) = simp length-drop (omega arith) in
      length-append (take at values) (over ws (drop at values)) ∙ omega (arith, front, length_over ws (drop at values) room, length-drop at values)

  pub placed : Placed ws at (take at values ++ (part ++ drop (max_values - at) (drop at values)))
  placed = (
    ap length put ∙ put_size,
    subst (λ (l : List ℕ). Front (max_values - at) ws l) (sym (ap (drop at) put ∙ put_rest))
        (front_over (max_values - at) ws (drop at values) (length-drop at values ∙ ap (λ (n : ℕ). n - at) size) (omega arith)),
  )

-- from the place of layer j on, the array holds all values
pub record Filled (c input values : List ℕ) (j at : ℕ) : Type 0 where
  pub inside : j ≤ depth c
  pub place : at ≡ gates_before c j
  pub size : length values ≡ max_values
  pub holds : take (value_count c - at) (drop at values) ≡ drop at (flatten (layers c input))

-- the same, of a layer that is named otherwise
pub from_layer : {c input values : List ℕ} {i j at : ℕ} → i ≡ j → Filled c input values i at → Filled c input values j at
from_layer {c} {input} {values} {i} {j} {at} same F = subst (λ (l : ℕ). Filled c input values l at) same F

module _ (c input : List ℕ) (e : lists_cause c input ≡ 0) where
  legal : LegalCircuit c
  legal = (legal_lists c input e).circuit

  abbrev all : List ℕ
  all = flatten (layers c input)

  layer_inside : (j : ℕ) → j ≤ depth c → gates_before c j + 2 ^ exponent_at c j ≤ value_count c
  layer_inside j l = omega (arith, layer_room c input e j l, all_size c input e)

  -- THE INPUT
  module _ (at : ℕ) (place : at ≡ gates_before c (depth c)) where
    last : drop at all ≡ input
    last =
        let w : ℕ = 2 ^ exponent_at c (depth c) in
        let size : length (drop at all) ≡ w = length-drop at all ∙ omega (arith, all_size c input e, values_split c legal) in
        sym (take_all w (drop at all) (omega arith)) ∙ ap (λ (m : ℕ). take w (drop m all)) place ∙ layer_part c input e (depth c) (le_refl (depth c)) ∙ last_layer c input e

    pub input_ends : at + length input ≡ value_count c
    input_ends = omega (arith, ap length last, length-drop at all, all_size c input e, layer_inside (depth c) (le_refl (depth c)))

    pub input_fits : at + length input ≤ max_values
    input_fits = omega (arith, input_ends, (in_limits c legal).values)

    pub filled_start : (values : List ℕ) → Placed input at values → Filled c input values (depth c) at
    filled_start values placed =
        let n : value_count c - at ≡ length input = omega (arith, input_ends) in
        record {
          inside = le_refl (depth c);
          place = place;
          size = placed.0;
          holds = front_take placed.1 (value_count c - at) n ∙ sym last;
        }

  -- ONE LAYER MORE, where the array is filled from layer j + 1 on
  module _ (j from count : ℕ) (values : List ℕ) (inside : j < depth c) (F : Filled c input values (suc j) from) (wide : count ≡ 2 ^ exponent_at c j) where
    abbrev at : ℕ
    at = from - count

    abbrev N : Numbers ℕ
    N = words (prime_of c)

    next : from ≡ gates_before c j + count
    next = F.place ∙ before_next c legal.sized.headed j inside ∙ ap (λ (n : ℕ). gates_before c j + n) (sym wide)

    here : at ≡ gates_before c j
    here = omega (arith, next)

    room : from + 2 ^ exponent_at c (suc j) ≤ value_count c
    room = omega (arith, F.place, layer_inside (suc j) inside)

    pub turn_sizes : (count ≤ from) × (from ≤ max_values)
    turn_sizes = (omega (arith, next), omega (arith, room, (in_limits c legal).values))

    -- its gates, among the triples of all gates, and what their wires name
    module _ (rows : List (List ℕ)) (er : map gate_in rows ≡ all_of c) where
      pub turn_room : from ≤ length rows
      turn_room =
          let size = ap length er in
          let gates = length_gates (length (drop (gates_start c) c) / 3) (drop (gates_start c) c) in
          omega (arith, next, layer_fits c legal.sized j at count inside here wide, length-map rows gate_in)

      pub turn_gates : map gate_in (take (from - at) (drop at rows)) ≡ gates_at c j
      turn_gates =
          let n : from - at ≡ count = omega (arith, next) in
          ap (λ (m : ℕ). map gate_in (take m (drop at rows))) n ∙ sym (take-map gate_in count (drop at rows)) ∙ ap (take count) (sym (drop-map gate_in at rows) ∙ ap (drop at) er)
          ∙ layer_cut c legal.sized j at count inside here wide

    size_is : length (gates_at c j) ≡ count
    size_is = layer_count c legal.sized.headed j inside ∙ sym wide

    wires : All (λ g. (g.left < 2 ^ exponent_at c (suc j)) × (g.right < 2 ^ exponent_at c (suc j))) (gates_at c j)
    wires = legal_wires c legal j inside

    -- what the filling asks, with the values as they are lent
    pub turn_fillable : Fillable (gates_at c j) (take (max_values - at) (drop at values))
    turn_fillable =
        let most = (in_limits c legal).values in
        let ends = room in
        let starts = next in
        let size : length (take (max_values - at) (drop at values)) ≡ max_values - at =
        ap length (rest_lent values at max_values F.size) ∙ length-drop at values ∙ ap (λ (n : ℕ). n - at) F.size in
        record {
          room = omega (arith, size_is);
          wired =
              rw (size_is, size)
              (all_weaken (gates_at c j) (λ g w. (let l = w.0 in omega arith, let r = w.1 in omega arith)) wires);
        }

    -- what a gate sees of the array is the next layer
    seen : (i : ℕ) → i < 2 ^ exponent_at c (suc j) → get_or (drop from values) i 0 ≡ get_or (values_at c input (suc j)) i 0
    seen i l =
        let w : ℕ = 2 ^ exponent_at c (suc j) in
        sym (get_or-take (value_count c - from) (drop from values) i 0 (let ends = room in omega arith)) ∙ ap (λ (t : List ℕ). get_or t i 0) F.holds
        ∙ sym (get_or-take w (drop from all) i 0 l)
        ∙ ap (λ (t : List ℕ). get_or t i 0) (ap (λ (m : ℕ). take w (drop m all)) F.place ∙ layer_part c input e (suc j) inside)

    abbrev layer : List ℕ
    layer = layer_values N (gates_at c j) (drop at values)

    behind : (l : List ℕ) → drop count (drop at l) ≡ drop from l
    behind l = let n : at + count ≡ from = omega (arith, next) in drop-drop count at l ∙ ap (λ (m : ℕ). drop m l) n

    layer_is : layer ≡ values_at c input j
    unfolding layer_values
    layer_is =
        ap (λ (n : ℕ). map (gate_value N (drop n (drop at values))) (gates_at c j)) size_is
        ∙ ap (λ (v : List ℕ). map (gate_value N v) (gates_at c j)) (behind values)
        ∙ values_agree (prime_of c) (2 ^ exponent_at c (suc j)) (gates_at c j) (drop from values) (values_at c input (suc j)) wires seen
        ∙ sym (layer_by_layer c input e j inside)

    -- the layer, then those that stood
    split : values_at c input j ++ drop from all ≡ drop at all
    split =
        ap₂ (λ (a b : List ℕ). a ++ b)
        (sym (ap₂ (λ (n m : ℕ). take n (drop m all)) wide here ∙ layer_part c input e j (omega arith))) (sym (behind all))
        ∙ take-append-drop count (drop at all)

    -- the array with the layer, as the borrow checker gives it
    pub turn_filled : (rest : List ℕ)
        → rest ≡ over (layer_values N (gates_at c j) (take (max_values - at) (drop at values))) (take (max_values - at) (drop at values))
        → Filled c input (take at values ++ (rest ++ drop (max_values - at) (drop at values))) j at
    turn_filled rest er =
        let n : length layer ≡ count = length_layer N (gates_at c j) (drop at values) ∙ size_is in
        let starts = next in
        let fits : at + length layer ≤ max_values = let most = turn_sizes in omega arith in
        let now : rest ≡ over layer (take (max_values - at) (drop at values)) =
        er ∙ ap (λ (v : List ℕ). over (layer_values N (gates_at c j) v) (take (max_values - at) (drop at values)))
        (rest_lent values at max_values F.size) in
        let whole = put values rest layer at F.size fits now in
        let long : value_count c - at ≡ length layer + (value_count c - from) = let ends = room in omega arith in
        let tail : drop (length layer) (drop at values) ≡ drop from values = ap (λ (m : ℕ). drop m (drop at values)) n ∙ behind values in
        record {
          inside = omega arith;
          place = here;
          size = ap length whole ∙ put_size values rest layer at F.size fits now;
          holds =
              ap (λ (l : List ℕ). take (value_count c - at) (drop at l)) whole
              ∙ ap (take (value_count c - at)) (put_rest values rest layer at F.size fits now)
              ∙ ap (λ (m : ℕ). take m (layer ++ drop (length layer) (drop at values))) long
              ∙ take-append-add layer (drop (length layer) (drop at values)) (value_count c - from)
              ∙ ap₂ (λ (a b : List ℕ). a ++ take (value_count c - from) b) layer_is tail
              ∙ ap (λ (l : List ℕ). values_at c input j ++ l) F.holds ∙ split;
        }

  -- ALL LAYERS
  pub filled_all : (values : List ℕ) (at : ℕ) → Filled c input values 0 at → AllValues c input values
  filled_all values at F =
      let top : at ≡ 0 = F.place ∙ sym (count_none c) in
      let whole : value_count c - 0 ≡ value_count c = sub-zero (value_count c) in
      record {
        size = F.size;
        holds =
            ap (λ (n : ℕ). take n values) (all_size c input e)
            ∙ sym (ap₂ (λ (n m : ℕ). take n (drop m values)) (ap (λ (m : ℕ). value_count c - m) top ∙ whole) top)
            ∙ F.holds ∙ ap (λ (m : ℕ). drop m all) top;
      }
