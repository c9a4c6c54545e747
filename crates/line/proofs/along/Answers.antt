-- `along` meets its contract. The loop keeps `Carried`: i coefficients stand over the row, and the last difference is carried.
use Rattle.line.proofs.Carry.{start, step, end}
use borrow.Author.Rules.{rules}
use Rattle.line.proofs.along.Goals as goal

pub loop-i-init : goal.loop-i-init
loop-i-init c = start _ _ _ _ _ (search rules)

pub loop-i-preserved : goal.loop-i-preserved
loop-i-preserved c =
    rw (c.add-in-loop-i.ensures, c.mul-in-loop-i.ensures, c.add.ensures, c.mul.ensures, c.sub-difference.ensures)
    (step _ _ _ _ _ _ _ _ c.loop-i.invariant (search rules))

pub returns : goal.returns
returns c = rw c.mul-2.ensures (end _ _ _ _ _ _ _ _ c.loop-i.invariant (search rules))
