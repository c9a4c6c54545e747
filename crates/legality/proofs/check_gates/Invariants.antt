-- `check_gates` meets its contract: what is left from a gate on decides as all the gates do.
use Rattle.std.proofs.Common.{◌≡◌, map, drop}
use Rattle.circuit.specs.Legal.{gates_cause}
use Rattle.layout.specs.Gate.{gate_in}
use Rattle.legality.proofs.check_gates.Given as goal

abbrev pub invariant-loop-words : goal.invariant-loop-words
invariant-loop-words l = gates_cause l.next (map gate_in l.gates) ≡ gates_cause l.next (drop l.words-index (map gate_in l.gates))
