-- `kidlothe_open` meets its contract: the case of the answer gives its number and the words.
use Rattle.refusal.proofs.Told.{told}
use Rattle.short_list.specs.Short.{list_of}
use Rattle.session.specs.Answers.{record_of, opening_from}
use Rattle.kidlothe.proofs.Opened.{export_opened, export_refused}
use Rattle.kidlothe.proofs.kidlothe_open.Goals as goal

pub returns-in-Ok : goal.returns-in-Ok
returns-in-Ok c =
    let call = c.open-opening in
    let us = list_of call.result.coins in
    export_opened _ _ _ _ _ _ call.ensures.row us (record_of c.in-Ok.opened) (told (λ o. opening_from o us) c.in-Ok.is call.ensures.answer) _
    c.session_words.ensures

pub returns-in-Err : goal.returns-in-Err
returns-in-Err c =
    let call = c.open-opening in
    let us = list_of call.result.coins in
    export_refused _ _ _ _ _ _ call.ensures.row c.in-Err.cause (told (λ o. opening_from o us) c.in-Err.is call.ensures.answer) _ c.into.ensures
