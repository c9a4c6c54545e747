-- `weight_of` meets its contract. The loop keeps `Product`: the weight at the coordinates passed, from the last on, and the bits not yet used.
use Rattle.std.proofs.Common.{reverse, map}
use Rattle.field.specs.Modulus.{numbers}
use Rattle.extension.proofs.Product.{Product}
use Rattle.extension.proofs.weight_of.Given as goal

abbrev pub invariant-loop-z : goal.invariant-loop-z
invariant-loop-z l = Product (numbers l.f) l.index (reverse (map (λ z. z.now) l.yielded)) l.product l.rest
