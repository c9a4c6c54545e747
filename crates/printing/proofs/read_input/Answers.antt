-- `read_input` meets its contract: what was read is the front of the input, as much as the array holds.
use Rattle.std.proofs.Common.{arith}
use Rattle.printing.proofs.Taken.{front_taken}
use Rattle.printing.proofs.read_input.Goals as goal

pub returns-clause-front : goal.returns-clause-front
returns-clause-front g c =
    front_taken _ _ _ _ 65537 (omega arith) c.read_full.ensures.within c.read_full.ensures.taken c.read_full.ensures.end
