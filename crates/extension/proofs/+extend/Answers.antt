-- `extend` meets its contract, by recursion on the number of coordinates: with none it is the first value, and otherwise the two calls give the
-- extensions of the halves at the rest of the point.
use Rattle.std.proofs.Common.{rules, ◌∙◌}
use Rattle.field.specs.Modulus.{numbers}
use Rattle.multilinear.proofs.Halving.{halving_none}
use Rattle.extension.proofs.Halves.{from_halves, extends}
use Rattle.extension.proofs.+extend.Goals as goal

pub returns : goal.returns
returns t c =
    extends c.args.f
    (c.between.ensures
    ∙ from_halves (numbers c.args.f) c.args.values.now c.args.point.now 0 _ _ (search rules)
    (rw c.split_at.ensures.front at c.extend-low.ensures.halves) (rw c.split_at.ensures.back at c.extend-high.ensures.halves))

pub returns-in_default : goal.returns-in_default
returns-in_default t c = extends c.args.f (search (halving_none, rules))
