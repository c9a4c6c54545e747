-- `check_layers` meets its contract: what is left from a layer on decides as all the layers do.
use Rattle.legality.proofs.Checking.{BeforeLayer}
use Rattle.legality.proofs.check_layers.Given as goal

abbrev pub invariant-loop-k : goal.invariant-loop-k
invariant-loop-k l = BeforeLayer l.circuit l.k-index l.count l.gates
