-- `halves` calls itself on the rest of the points.
use Rattle.std.proofs.Common.{length}
use Rattle.line.proofs.+halves.Given as goal

abbrev pub decreases-halves : goal.decreases-halves
decreases-halves l = length l.u.now
