-- `write_all` meets its contract: the messages of the rounds before stand over the buffer's front, and the loops end where none is left. The
-- inner loop goes on with whatever buffer the outer one started from.
use Prim.Native.Nat.{ℕ, ◌+◌, ◌-◌, ◌*◌, ◌≤◌}
use mathlib.Core.Path.{◌≡◌}
use mathlib.Core.List.{List}
use lib.ListN.{length}
use Rattle.circuit.specs.Circuit.{depth, exponent_at, message_words}
use Rattle.prover.proofs.Transcripts.{BeforeLayer, BeforeRound}
use Rattle.prover.proofs.write_all.Given as goal

abbrev pub invariant-loop-round : goal.invariant-loop-round
invariant-loop-round l =
    (l.layer-end ≡ depth l.job.circuit.now + 1) × (l.round-end ≡ 2 * exponent_at l.job.circuit.now l.layer + 1)
    × ((first : List ℕ) → message_words l.job.circuit.now ≤ length first
    → BeforeLayer l.job.circuit.now l.job.input.now l.job.coins.now first l.layer l.initial.n l.initial.at l.initial.messages
    → BeforeRound l.job.circuit.now l.job.input.now l.job.coins.now first l.layer l.round l.n l.at l.messages)

abbrev pub decreases-loop-round : goal.decreases-loop-round
decreases-loop-round l = l.round-end - l.round

abbrev pub invariant-loop-layer : goal.invariant-loop-layer
invariant-loop-layer l =
    (l.layer-end ≡ depth l.job.circuit.now + 1)
    × BeforeLayer l.job.circuit.now l.job.input.now l.job.coins.now l.initial.messages l.layer l.n l.at l.messages

abbrev pub decreases-loop-layer : goal.decreases-loop-layer
decreases-loop-layer l = l.layer-end - l.layer
