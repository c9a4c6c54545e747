-- `gates_above` meets its contract: as many gates as the layer is wide, behind those of the layers before it.
use Prim.Native.Nat.{◌-◌, ◌≤◌}
use mathlib.Core.Path.{◌∙◌}
use native.Mathlib.Omega.{arith}
use Rattle.circuit.specs.Limits.{max_width}
use Rattle.circuit.specs.Circuit.{exponent_at}
use Rattle.circuit.specs.Sized.{LayerOf}
use Rattle.circuit.proofs.Sized.{width_small, exponent_width}
use Rattle.layout.proofs.Readers.{gates_part, layer_read}
use Rattle.layout.proofs.gates_above.Goals as goal

pub overflow_mul-layer_width : goal.overflow_mul-layer_width
overflow_mul-layer_width c =
    let w = width_small (exponent_at c.args.circuit.now (c.args.layer - 1)) in
    let s : c.layer_width.result ≤ max_width = omega (arith, c.layer_width.ensures) in
    omega arith

pub overflow_add-start : goal.overflow_add-start
overflow_add-start c =
    let w = width_small (exponent_at c.args.circuit.now (c.args.layer - 1)) in
    let s : c.layer_width.result ≤ max_width = omega (arith, c.layer_width.ensures) in
    omega (arith, c.min-start.ensures, c.gates_before.ensures.few)

pub returns : goal.returns
returns c h some last =
    let l = c.args.circuit.now in
    let above = c.args.layer - 1 in
    let there : LayerOf l above = record { headed = h.headed; inside = omega arith } in
    layer_read l above _ _ _ h (omega arith) (c.gates_before.ensures.counted there)
    (c.layer_width.ensures ∙ exponent_width l above there)
    (gates_part l _ _ _ _ _ c.all_gates-gates.ensures c.min-start.ensures c.min-end.ensures)
