-- `weights` meets its contract. The loop keeps `Weighed`: at the front stand the weights at the coordinates passed, from the last on.
use Rattle.std.proofs.Common.{reverse, map}
use Rattle.field.specs.Modulus.{numbers}
use Rattle.tables.proofs.Spreading.{Weighed}
use Rattle.tables.proofs.weights.Given as goal

abbrev pub invariant-loop-z : goal.invariant-loop-z
invariant-loop-z l = Weighed (numbers l.f) (reverse (map (λ z. z.now) l.yielded)) l.table l.n
