-- `evaluate` meets its contract: what writing the values answers decides.
use Rattle.evaluation.proofs.Answering.{evaluated_refused, evaluated_all}
use Rattle.evaluation.proofs.evaluate.Goals as goal

pub returns-in-Ok : goal.returns-in-Ok
returns-in-Ok c = rw c.new.ensures (evaluated_all _ _ _ _ _ c.in-Ok.ensures)

pub returns-in-Err : goal.returns-in-Err
returns-in-Err c = rw c.new-in-Err.ensures (evaluated_refused _ _ _ _ _ c.in-Err.ensures)
