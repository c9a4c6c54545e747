-- `fill_layer` meets its contract: i values stand over the front, and the next layer's are untouched behind them.
use Rattle.std.proofs.Common.{map}
use Rattle.field.specs.Modulus.{modulus}
use Rattle.layout.specs.Gate.{gate_in}
use Rattle.evaluation.proofs.Filling.{LayerStored}
use Rattle.evaluation.proofs.fill_layer.Given as goal

abbrev pub invariant-loop-i : goal.invariant-loop-i
invariant-loop-i l = LayerStored (modulus l.f) (map gate_in l.gates) l.initial.values l.values l.i
