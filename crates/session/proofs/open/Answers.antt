-- `open` meets its contract: where the session starts decides.
use Rattle.session.proofs.Opens.{opens_refused, opens_all}
use Rattle.session.proofs.«open».Goals as goal

pub returns-in-Ok : goal.returns-in-Ok
returns-in-Ok c = rw c.new.ensures (opens_all _ _ _ _ _ _ c.in-Ok.ensures c.first_point.ensures)

pub returns-in-Err : goal.returns-in-Err
returns-in-Err c = rw c.new-in-Err.ensures (opens_refused _ _ _ _ _ c.in-Err.ensures)
