-- `all_values` meets its contract: before the turn of a layer the array holds all values from the layer behind it on.
use Rattle.evaluation.proofs.Evaluating.{Filled}
use Rattle.evaluation.proofs.all_values.Given as goal

abbrev pub invariant-loop-layer : goal.invariant-loop-layer
invariant-loop-layer l = Filled l.circuit l.input l.values l.layer l.at
