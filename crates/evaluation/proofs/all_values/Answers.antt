-- `all_values` meets its contract: before the turn of a layer the array holds all values from the layer behind it on.
use Prim.Native.Nat.{ℕ, suc, ◌-◌, ◌/◌, ◌^◌, ◌<◌}
use mathlib.Core.Path.{◌≡◌, sym, ap, ◌∙◌}
use mathlib.Core.List.{List}
use native.Mathlib.Omega.{arith}
use lib.ListN.{length}
use Rattle.circuit.specs.Circuit.{exponent_at, gates_of, width_of}
use Rattle.circuit.specs.Circuit.{depth as depth_of}
use Rattle.circuit.specs.Legal.{lists_cause}
use Rattle.circuit.proofs.Sized.{exponent_width, layer_of}
use Rattle.circuit.proofs.Loading.{legal_lists}
use Rattle.circuit.proofs.Layers.{prime_modulus}
use Rattle.evaluation.proofs.Evaluating.{Filled, from_layer, input_fits, filled_start, turn_sizes, turn_room, turn_gates, turn_fillable, turn_filled, filled_all}
use Rattle.evaluation.proofs.all_values.Goals as goal

-- a turn: its layer is one of the circuit's, the array is filled from the next layer on, and it is as wide as was read
turn : (c input values : List ℕ) (layer at count : ℕ) → lists_cause c input ≡ 0 → 0 < layer → Filled c input values layer at
    → count ≡ width_of (exponent_at c (layer - 1))
    → (layer - 1 < depth_of c) × Filled c input values (suc (layer - 1)) at × (count ≡ 2 ^ exponent_at c (layer - 1))
turn c input values layer at count e more F ec =
    let low : layer - 1 < depth_of c = omega (arith, F.inside) in
    let next : layer ≡ suc (layer - 1) = omega arith in
    (low, from_layer next F, ec ∙ exponent_width c (layer - 1) (layer_of c (legal_lists c input e).circuit (layer - 1) (omega arith)))

pub place_input-values-requires : goal.place_input-values-requires
place_input-values-requires c = input_fits _ _ c.requires.0 _ c.requires.1

pub loop-layer-init : goal.loop-layer-init
loop-layer-init c = from_layer (sym c.depth-layer.ensures.0) (filled_start _ _ c.requires.0 _ c.requires.1 _ c.place_input-values.ensures)

pub overflow_sub-at : goal.overflow_sub-at
overflow_sub-at c =
    let t = turn c.args.circuit.now c.args.input.now _ _ _ _ c.requires.0 c.loop-layer-test.true c.loop-layer.invariant c.layer_width-at.ensures in
    (turn_sizes _ _ c.requires.0 _ _ _ _ t.0 t.1 t.2).0

pub offset_bounds-gates-at : goal.offset_bounds-gates-at
offset_bounds-gates-at c =
    let t = turn c.args.circuit.now c.args.input.now _ _ _ _ c.requires.0 c.loop-layer-test.true c.loop-layer.invariant c.layer_width-at.ensures in
    let s = turn_sizes _ _ c.requires.0 _ _ _ _ t.0 t.1 t.2 in
    omega arith

pub slice_bounds-fill_layer-end : goal.slice_bounds-fill_layer-end
slice_bounds-fill_layer-end c =
    let t = turn c.args.circuit.now c.args.input.now _ _ _ _ c.requires.0 c.loop-layer-test.true c.loop-layer.invariant c.layer_width-at.ensures in
    let all = c.gates-gates.ensures ∙ ap (λ (ws : List ℕ). gates_of (length ws / 3) ws) c.all_gates.ensures in
    let r = turn_room _ _ c.requires.0 _ _ _ _ t.0 t.1 t.2 c.gates-gates.result.now all in
    omega arith

pub offset_bounds-values-at : goal.offset_bounds-values-at
offset_bounds-values-at c =
    let t = turn c.args.circuit.now c.args.input.now _ _ _ _ c.requires.0 c.loop-layer-test.true c.loop-layer.invariant c.layer_width-at.ensures in
    let s = turn_sizes _ _ c.requires.0 _ _ _ _ t.0 t.1 t.2 in
    omega arith

pub slice_bounds-fill_layer-count-in-loop-layer : goal.slice_bounds-fill_layer-count-in-loop-layer
slice_bounds-fill_layer-count-in-loop-layer c =
    let t = turn c.args.circuit.now c.args.input.now _ _ _ _ c.requires.0 c.loop-layer-test.true c.loop-layer.invariant c.layer_width-at.ensures in
    let s = turn_sizes _ _ c.requires.0 _ _ _ _ t.0 t.1 t.2 in
    omega arith

pub slice_bounds-values-start : goal.slice_bounds-values-start
slice_bounds-values-start c =
    let t = turn c.args.circuit.now c.args.input.now _ _ _ _ c.requires.0 c.loop-layer-test.true c.loop-layer.invariant c.layer_width-at.ensures in
    let s = turn_sizes _ _ c.requires.0 _ _ _ _ t.0 t.1 t.2 in
    omega arith

pub fill_layer-requires : goal.fill_layer-requires
fill_layer-requires c =
    let t = turn c.args.circuit.now c.args.input.now _ _ _ _ c.requires.0 c.loop-layer-test.true c.loop-layer.invariant c.layer_width-at.ensures in
    let all = c.gates-gates.ensures ∙ ap (λ (ws : List ℕ). gates_of (length ws / 3) ws) c.all_gates.ensures in
    rw (turn_gates _ _ c.requires.0 _ _ _ _ t.0 t.1 t.2 c.gates-gates.result.now all) (turn_fillable _ _ c.requires.0 _ _ _ _ t.0 t.1 t.2)

pub loop-layer-preserved : goal.loop-layer-preserved
loop-layer-preserved c =
    let t = turn c.args.circuit.now c.args.input.now _ _ _ _ c.requires.0 c.loop-layer-test.true c.loop-layer.invariant c.layer_width-at.ensures in
    let all = c.gates-gates.ensures ∙ ap (λ (ws : List ℕ). gates_of (length ws / 3) ws) c.all_gates.ensures in
    let l = c.args.circuit.now in
    let legal = (legal_lists l c.args.input.now c.requires.0).circuit in
    let prime = prime_modulus l legal _ c.field-f.ensures in
    let gates = turn_gates _ _ c.requires.0 _ _ _ _ t.0 t.1 t.2 c.gates-gates.result.now all in
    turn_filled _ _ c.requires.0 _ _ _ _ t.0 t.1 t.2 _ (rw (gates, prime) at c.fill_layer.ensures)

pub returns : goal.returns
returns c =
    let none : c.loop-layer.layer ≡ 0 = omega (arith, c.loop-layer-test.false) in
    filled_all _ _ c.requires.0 _ _ (from_layer none c.loop-layer.invariant)
