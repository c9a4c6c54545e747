-- `by_gates` meets its contract. The loop keeps `Passed`: the three sums over the gates passed, from the last on. The measure is the number
-- of gates to come.
use Rattle.field.specs.Modulus.{modulus}
use Rattle.tally.specs.Tally.{tallied}
use Rattle.sums.specs.Wire.{side}
use Rattle.sums.proofs.Counting.{Passed}
use Rattle.sums.proofs.by_gates.Given as goal

abbrev pub invariant-loop-a : goal.invariant-loop-a
invariant-loop-a l =
    Passed (modulus l.f) l.gates l.weights (side l.left) (side l.right)
    (tallied (modulus l.f) l.zeros) (tallied (modulus l.f) l.ones) (tallied (modulus l.f) l.squares) l.a

abbrev pub decreases-loop-a : goal.decreases-loop-a
decreases-loop-a l = l.a
