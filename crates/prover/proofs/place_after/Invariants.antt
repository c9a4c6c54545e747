-- `place_after` meets its contract: before each turn the coins are those before the layer and the rounds that are left.
use Prim.Native.Nat.{◌+◌, ◌≤◌}
use mathlib.Core.Path.{◌≡◌}
use Rattle.circuit.specs.Circuit.{depth}
use Rattle.protocol.specs.Rounds.{layer_start}
use Rattle.prover.proofs.place_after.Given as goal

abbrev pub invariant-loop-round : goal.invariant-loop-round
invariant-loop-round l =
    (1 ≤ l.layer) × (l.layer ≤ depth l.circuit) × (l.coins ≡ layer_start l.circuit l.layer + l.round)

abbrev pub decreases-loop-round : goal.decreases-loop-round
decreases-loop-round l = l.round
