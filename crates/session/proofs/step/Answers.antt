-- `step` meets its contract: a refusal that leaves the record, or what an open record's step answers. The job's lists are those that it checked.
use Rattle.std.proofs.Common.{sym, ◌∙◌}
use Rattle.refusal.proofs.Told.{refusal_told, none_told}
use Rattle.session.proofs.Coming.{lists_left, record_left, steps_open}
use Rattle.session.proofs.step.Goals as goal

pub returns-in-Err : goal.returns-in-Err
returns-in-Err c = lists_left _ _ _ _ _ _ (refusal_told c.in-Err.is c.check.ensures.answer) _ c.refusal.ensures

pub returns-in-Ok : goal.returns-in-Ok
returns-in-Ok c =
    let same = c.in-Ok.ensures.lists in
    let fits = sym (rw same.0 at c.fits.ensures) ∙ c.if-fits.true in
    steps_open _ _ _ _ _ (none_told c.in-Ok.is c.check.ensures.answer) fits _ (rw (same.0, same.1, same.2) at c.step_open.ensures)

pub returns-in-Ok-2 : goal.returns-in-Ok-2
returns-in-Ok-2 c =
    let same = c.in-Ok.ensures.lists in
    let fits = sym (rw same.0 at c.fits.ensures) ∙ c.if-fits.false in
    record_left _ _ _ _ _ (none_told c.in-Ok.is c.check.ensures.answer) fits _ c.refusal-in-Ok-2.ensures
