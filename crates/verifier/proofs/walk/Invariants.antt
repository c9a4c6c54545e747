-- `walk` meets its contract: what is left before a layer, or before a round, is the whole walk; the loops end where nothing is left or a
-- message is refused.
use Rattle.std.proofs.Common.{◌+◌, ◌-◌, ◌*◌, ◌≡◌}
use Rattle.circuit.specs.Circuit.{exponent_at}
use Rattle.circuit.specs.Circuit.{depth as depth_of}
use Rattle.verifier.proofs.Walking.{claimed, BeforeLayer, BeforeRound}
use Rattle.verifier.proofs.walk.Given as goal

abbrev pub invariant-loop-round : goal.invariant-loop-round
invariant-loop-round l =
    (l.round-end ≡ 2 * exponent_at l.job.circuit.now l.layer + 1) × BeforeRound (claimed l.job.circuit.now l.job.input.now l.first l.messages l.job.coins.now) l.layer l.round l.n l.at l.claim

abbrev pub decreases-loop-round : goal.decreases-loop-round
decreases-loop-round l = l.round-end - l.round

abbrev pub invariant-walk : goal.invariant-walk
invariant-walk l = BeforeLayer (claimed l.job.circuit.now l.job.input.now l.first l.messages l.job.coins.now) l.layer l.n l.at l.claim

abbrev pub decreases-walk : goal.decreases-walk
decreases-walk l = 1 + depth_of l.job.circuit.now - l.layer
