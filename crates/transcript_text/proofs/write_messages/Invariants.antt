-- `write_messages` meets its contract: the lines written and those left are the whole; the loops end where none is left.
use Prim.Native.Nat.{ℕ, ◌+◌, ◌-◌, ◌*◌}
use mathlib.Core.Path.{◌≡◌}
use mathlib.Core.List.{List}
use Rattle.circuit.specs.Circuit.{depth, exponent_at}
use Rattle.transcript_text.proofs.Messages.{BeforeLayer, BeforeRound}
use Rattle.transcript_text.proofs.write_messages.Given as goal

abbrev pub invariant-loop-round : goal.invariant-loop-round
invariant-loop-round l =
    (l.round-end ≡ 2 * exponent_at l.circuit l.layer + 1)
    × ((before : List ℕ) → BeforeLayer l.circuit l.messages before l.initial.text l.initial.at l.initial.to l.layer
    → BeforeRound l.circuit l.messages before l.text l.at l.to l.layer l.round)

abbrev pub decreases-loop-round : goal.decreases-loop-round
decreases-loop-round l = l.round-end - l.round

abbrev pub invariant-loop-layer : goal.invariant-loop-layer
invariant-loop-layer l =
    (l.layer-end ≡ depth l.circuit + 1) × BeforeLayer l.circuit l.messages l.initial.text l.text l.at l.to l.layer

abbrev pub decreases-loop-layer : goal.decreases-loop-layer
decreases-loop-layer l = l.layer-end - l.layer
