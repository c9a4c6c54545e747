-- `weight_of` meets its contract. The loop keeps `Product`: the weight at the coordinates passed, from the last on, and the bits not yet used.
use Rattle.std.proofs.Common.{rules, Bor, ℕ, ◌∙◌}
use Rattle.field.specs.Modulus.{numbers}
use Rattle.extension.proofs.Product.{start, factor_one, factor_zero, step, one_passed}
use Rattle.extension.proofs.weight_of.Goals as goal
use Rattle.extension.proofs.weight_of.Goals.{then-rest-eq1, else-rest-eq1}

pub loop-z-init : goal.loop-z-init
loop-z-init c = start _ _

pub loop-z-preserved : goal.loop-z-preserved
loop-z-preserved c =
    let N = numbers c.args.f in
    let factor = c.if-rest-eq1.factor in
    let rest = c.loop-z.rest in
    rw (one_passed (λ (z : Bor ℕ). z.now) c.loop-z.yielded c.in-Some.field-0, c.mul-product.ensures)
    (step N _ _ factor _ _ rest c.loop-z.invariant
    (elim c.if-rest-eq1.branch [
      | then-rest-eq1 w ↦ factor_one N rest factor _ w.if-rest-eq1.true (w.factor-is ∙ search rules)
      | else-rest-eq1 w ↦ factor_zero N rest factor _ w.if-rest-eq1.false (w.factor-is ∙ search rules)
    ]))
