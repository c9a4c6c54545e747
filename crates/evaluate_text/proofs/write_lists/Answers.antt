-- `write_lists` meets its contract: the evaluation's outputs are the circuit's, or its refusal is the lists'.
use Rattle.std.proofs.Common.{arith, ap, ◌∙◌}
use Rattle.refusal.proofs.Told.{told}
use Rattle.short_list.specs.Short.{list_of}
use Rattle.evaluation.specs.Evaluate.{evaluation_from}
use Rattle.text.proofs.Writing.{wrote_as}
use Rattle.evaluate_text.specs.Output.{outputs_text}
use Rattle.evaluate_text.proofs.Lists.{printed_refused, printed_outputs}
use Rattle.evaluate_text.proofs.write_lists.Goals as goal

pub returns-in-Err : goal.returns-in-Err
returns-in-Err c =
    let call = c.evaluate-evaluated in
    wrote_as _ _ _ _ c.write_refused.ensures _
    (printed_refused _ _ _ (omega arith) _ (told (λ o. evaluation_from o (list_of call.result.outputs)) c.in-Err.is call.ensures.answer))

pub returns-in-Ok : goal.returns-in-Ok
returns-in-Ok c =
    let call = c.evaluate-evaluated in
    wrote_as _ _ _ _ c.put_line.ensures _
    (ap outputs_text c.list.ensures
    ∙ printed_outputs _ _ _ (omega arith) _ (told (λ o. evaluation_from o (list_of call.result.outputs)) c.in-Ok.is call.ensures.answer))
