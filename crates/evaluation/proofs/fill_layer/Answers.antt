-- `fill_layer` meets its contract: i values stand over the front, and the next layer's are untouched behind them.
use Prim.Native.Nat.{ℕ, ◌+◌, ◌<◌}
use mathlib.Core.Path.{◌≡◌}
use mathlib.Core.List.{List, [], map}
use native.Mathlib.Omega.{arith}
use lib.ListN.{length, length-map, get_or}
use Rattle.circuit.specs.Gate.{Gate}
use Rattle.layout.specs.Gate.{gate_in}
use Rattle.evaluation.specs.Layer.{Fillable}
use Rattle.evaluation.proofs.Filling.{none, triple_gate, wires_in, layer_start_lem, layer_step, layer_end}
use Rattle.evaluation.proofs.fill_layer.Goals as goal

-- triple i is a gate, whose wires lead into the values
turn : (rows : List (List ℕ)) (values : List ℕ) (i : ℕ) {g : Gate} → Fillable (map gate_in rows) values → i < length rows → g ≡ gate_in (get_or rows i [])
    → (i < length (map gate_in rows)) × (get_or (map gate_in rows) i none ≡ g) × (length rows + g.left < length values) × (length rows + g.right < length values)
turn rows values i {g} h more e =
    let size = length-map rows gate_in in
    let here : i < length (map gate_in rows) = omega arith in
    let is = triple_gate rows i g more e in
    let w = wires_in (length values) (map gate_in rows) i h.wired here is in
    (here, is, omega (arith, w.0), omega (arith, w.1))

pub loop-i-init : goal.loop-i-init
loop-i-init c = layer_start_lem _ _ _ c.requires.room

pub bounds-values-gates : goal.bounds-values-gates
bounds-values-gates c =
    let t = turn c.args.gates.now c.args.values.now _ c.requires c.loop-i-test.true c.from-gate.ensures in
    omega (arith, t.2, c.loop-i.auto.values)

pub bounds-values-gates-in-loop-i : goal.bounds-values-gates-in-loop-i
bounds-values-gates-in-loop-i c =
    let t = turn c.args.gates.now c.args.values.now _ c.requires c.loop-i-test.true c.from-gate.ensures in
    omega (arith, t.3, c.loop-i.auto.values)

pub loop-i-preserved : goal.loop-i-preserved
loop-i-preserved c =
    let t = turn c.args.gates.now c.args.values.now _ c.requires c.loop-i-test.true c.from-gate.ensures in
    let size = length-map c.args.gates.now gate_in in
    layer_step _ _ _ _ c.loop-i.i c.loop-i.invariant _ _ t.0 t.1 (rw size c.gate_value.ensures)

pub returns : goal.returns
returns c = let size = length-map c.args.gates.now gate_in in layer_end _ _ _ _ c.loop-i.i c.loop-i.invariant (omega (arith, c.loop-i-test.false))
