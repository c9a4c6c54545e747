-- `wirings` meets its contract. The loop keeps `Passed`: the sums over the gates passed, from the first on.
use Rattle.std.proofs.Common.{map}
use Rattle.field.specs.Modulus.{modulus}
use Rattle.layout.specs.Gate.{gate_in}
use Rattle.summand.proofs.Sums.{Passed}
use Rattle.summand.proofs.wirings.Given as goal

abbrev pub invariant-loop-a : goal.invariant-loop-a
invariant-loop-a l = Passed (modulus l.f) (map gate_in l.words-items) l.point l.u l.v l.sums l.a
