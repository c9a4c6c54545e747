-- `value_at` meets its contract: its chain is the fold over the coefficients in reverse, and that is Horner's rule.
use Rattle.std.proofs.Common.{rules, ◌∙◌}
use Rattle.std.proofs.lemmas.Iterator.Adapters.{YieldsList-from_rev_slice}
use Rattle.std.proofs.lemmas.Iterator.Consumers.{fold_from_yields_List}
use Rattle.field.specs.Modulus.{numbers}
use Rattle.polynomial.proofs.Horner.{step, from_last}
use Rattle.polynomial.proofs.value_at.Goals as goal

pub returns : goal.returns
returns c =
    let N = numbers c.args.f in
    let coefficients = c.args.coefficients.now in
    fold_from_yields_List _ (step N c.args.x) _ _ c.fold.ensures.ran (YieldsList-from_rev_slice coefficients cc) (λ a x b q k. search rules)
    ∙ from_last N c.args.x coefficients
