-- `check` meets its contract: what refuses an opening refuses it first, then the number of message words, then the walk from the first claim.
use Rattle.std.proofs.Common.{sym, ◌∙◌}
use Rattle.refusal.proofs.Told.{passed_on}
use Rattle.protocol.proofs.Coins.{its_circuit}
use Rattle.verifier.proofs.Checking.{check_refused, started_given, check_length, check_walks}
use Rattle.verifier.proofs.check.Goals as goal

pub returns-in_err-claim : goal.returns-in_err-claim
returns-in_err-claim c = passed_on _ _ c.from_residual.ensures.1 (check_refused _ _ _ _ _ _ c.in_err-claim.ensures.cause)

pub returns-then-messages-message_words : goal.returns-then-messages-message_words
returns-then-messages-message_words c =
    let a = c.args in
    let opens = c.in_ok-claim.ensures in
    let given = started_given a.circuit.now a.input.now a.outputs.now a.coins.now a.messages.now _ opens in
    let words = c.message_words.ensures (its_circuit given) in
    check_length a.circuit.now a.input.now a.outputs.now a.coins.now a.messages.now _ opens (λ e. c.if-messages-message_words.true (e ∙ sym words))

pub invariant_of-job : goal.invariant_of-job
invariant_of-job c =
    let a = c.args in
    record { counted = started_given a.circuit.now a.input.now a.outputs.now a.coins.now a.messages.now _ c.in_ok-claim.ensures }

pub walk-requires : goal.walk-requires
walk-requires c =
    let a = c.args in
    let given = started_given a.circuit.now a.input.now a.outputs.now a.coins.now a.messages.now _ c.in_ok-claim.ensures in
    c.if-messages-message_words.false ∙ c.message_words.ensures (its_circuit given)

pub returns : goal.returns
returns c =
    let a = c.args in
    let opens = c.in_ok-claim.ensures in
    let given = started_given a.circuit.now a.input.now a.outputs.now a.coins.now a.messages.now _ opens in
    let words = c.message_words.ensures (its_circuit given) in
    c.walk.ensures ∙ check_walks a.circuit.now a.input.now a.outputs.now a.coins.now a.messages.now _ opens (c.if-messages-message_words.false ∙ words)
