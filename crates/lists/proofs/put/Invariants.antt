-- `put` meets its contract: i items stand over the front.
use Rattle.std.proofs.Common.{length, take}
use Rattle.lists.proofs.Storing.{Stored}
use Rattle.lists.proofs.put.Given as goal

abbrev pub invariant-loop-i : goal.invariant-loop-i
invariant-loop-i g l = Stored (take (length l.initial.buffer) l.items) l.initial.buffer l.buffer l.i
