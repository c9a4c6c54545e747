-- `layer_sum` meets its contract: the sum is the iterator's, and twelve terms of one word each are not much.
use Rattle.std.proofs.Common.{rules, ◌≡◌, ◌+◌, ◌*◌, ◌∙◌}
use Rattle.std.specs.Prelude.{sum_by}
use Rattle.standing.proofs.Coins.{layer_sum_by, layer_sum_few}
use Rattle.circuit.specs.Limits.{max_depth}
use Rattle.standing.specs.Standing.{layer_sum}
use native.Mathlib.Omega.{arith}
use Rattle.std.proofs.Math.Facts.{Fits-lt-pow}
use Rattle.standing.proofs.layer_sum.Goals as goal

sum_is : (c : goal.After-sum) → c.sum.result ≡ layer_sum c.args.a c.args.exponents.now
sum_is c =
    let e : c.sum.result ≡ sum_by (λ k. c.args.a * k + 1) c.args.exponents.now = search rules in
    e ∙ layer_sum_by c.args.a c.args.exponents.now

pub returns-clause-sum : goal.returns-clause-sum
returns-clause-sum c = sum_is c

pub returns-clause-small : goal.returns-clause-small
returns-clause-small c =
    let few = layer_sum_few c.args.a max_depth c.args.exponents.now c.requires.0 c.requires.1 (λ i. Fits-lt-pow (c.type_inv.exponents i)) in
    omega (arith, few, sum_is c)
