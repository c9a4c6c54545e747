-- `folded` meets its contract. The loop keeps `Fixed`: at the front stand the values with as many first variables fixed as turns were made.
use Rattle.std.proofs.Common.{take}
use Rattle.field.specs.Modulus.{numbers}
use Rattle.tables.specs.Limits.{table_width}
use Rattle.tables.proofs.Folding.{Fixed}
use Rattle.tables.proofs.folded.Given as goal

abbrev pub invariant-loop-r : goal.invariant-loop-r
invariant-loop-r l = Fixed (numbers l.f) l.coordinates (take table_width l.values) l.table l.n l.r-index
