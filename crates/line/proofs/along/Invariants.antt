-- `along` meets its contract. The loop keeps `Carried`: i coefficients stand over the row, and the last difference is carried.
use Rattle.field.specs.Modulus.{numbers}
use Rattle.line.proofs.Carry.{Carried}
use Rattle.line.proofs.along.Given as goal

abbrev pub invariant-loop-i : goal.invariant-loop-i
invariant-loop-i l = Carried (numbers l.f) l.x l.d l.initial.row l.high l.row l.carry l.i
