-- `write_sum` meets its contract: what stands at the round gives the gates above, the standing point and the coordinates fixed so far, from
-- which one pass over the gates makes the honest message.
use Rattle.std.proofs.Common.{ℕ, ◌≡◌, take, take_all, ap, ◌∙◌}
use Rattle.extension.specs.Limits.{row_length}
use Rattle.circuit.proofs.Layers.{prime_modulus}
use Rattle.messages.proofs.Rows.{summed, sum_words, sum_written}
use Rattle.messages.proofs.write_sum.Goals as goal

pub returns : goal.returns
returns c nl h =
    let a = c.args.round in
    let vs = c.args.values.now in
    let before = c.args.buffer.now in
    let above = c.gates_above.result.now in
    let st = c.stand-stand.result in
    let t = c.stand-stand.ensures.stands h.there in
    let f = prime_modulus a.circuit.now h.there.legal _ c.field.ensures in
    let point = c.coordinates.ensures in
    let whole : take row_length c.coordinates.result.now ≡ st.point = take_all row_length c.coordinates.result.now point.few ∙ point.all in
    let said =
    rw whole at c.sum_message-words.ensures ∙ ap (λ (p : ℕ). summed p above vs a.place.round st) f
    ∙ sum_words _ a.place.layer a.place.round a.past.now vs before h st t nl above c.gates_above.ensures in
    sum_written _ a.place.layer a.place.round a.past.now vs before h c.sum_message-words.result _ said c.put.ensures.items
