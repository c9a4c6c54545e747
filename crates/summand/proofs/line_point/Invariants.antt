-- `line_point` meets its contract. The loop keeps `Drawn`: i coordinates of the line stand at the front of the row.
use Rattle.field.specs.Modulus.{numbers}
use Rattle.extension.specs.Limits.{row_length}
use Rattle.summand.proofs.Line.{Drawn}
use Rattle.summand.proofs.line_point.Given as goal

abbrev pub invariant-loop-i : goal.invariant-loop-i
invariant-loop-i l = Drawn (numbers l.f) row_length l.x-items l.v l.t l.initial.line l.line l.i
