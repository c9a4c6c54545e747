-- `line_point` meets its contract. The loop keeps `Drawn`: i coordinates of the line stand at the front of the row.
use mathlib.Core.Path.{refl}
use native.Mathlib.Omega.{arith}
use Rattle.extension.specs.Limits.{row_length}
use Rattle.summand.proofs.Rows.{length_row}
use Rattle.summand.proofs.Line.{start, step}
use borrow.Author.Rules.{rules}
use Rattle.summand.proofs.line_point.Goals as goal

pub loop-i-init : goal.loop-i-init
loop-i-init c =
    let rows = c.well_formed.1.0 in
    start _ row_length _ _ _ _ (length_row 2 row_length c.args.points _ 0 rows (omega arith)) (length_row 2 row_length c.args.points _ 1 rows (omega arith)) refl

pub loop-i-preserved : goal.loop-i-preserved
loop-i-preserved c = rw (c.add.ensures, c.scaled.ensures, c.sub.ensures) (step _ row_length _ _ _ _ _ _ c.loop-i.invariant (search rules))
