-- The measure of `extend` is the number of coordinates, which falls at each call.
use Rattle.std.proofs.Common.{length}
use Rattle.extension.proofs.+extend.Given as goal

abbrev pub decreases-extend : goal.decreases-extend
decreases-extend l = length l.point.now
