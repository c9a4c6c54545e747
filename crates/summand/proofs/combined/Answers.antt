-- `combined` meets its contract: the part that is lent of a row is its first k words, and of these the sums are those of the definition.
use mathlib.Core.Path.{◌∙◌}
use native.Mathlib.Omega.{arith}
use Rattle.summand.proofs.Rows.{part_of_row}
use Rattle.summand.proofs.Sums.{from_sums}
use Rattle.summand.proofs.combined.Goals as goal

pub returns : goal.returns
returns c =
    let rows = c.well_formed.1.1.1.0 in
    let first = part_of_row c.args.points _ 0 c.args.k _ rows (omega arith) c.min-n.ensures in
    let second = part_of_row c.args.points _ 1 c.args.k _ rows (omega arith) c.min-n.ensures in
    c.by_kinds.ensures ∙ rw (c.wirings.ensures, first, second) (from_sums _ _ _ _ _ _ _)
