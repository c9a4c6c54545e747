-- `prove` meets its contract: refusal by refusal, then all messages are written. The job's lists are those that it checked.
use Rattle.std.proofs.Common.{sym, ◌≤◌, length}
use native.Mathlib.Omega.{arith}
use Rattle.refusal.proofs.Told.{refusal_told, none_told}
use Rattle.circuit.specs.Circuit.{message_words}
use Rattle.circuit.specs.Sized.{LegalCircuit}
use Rattle.protocol.proofs.Coins.{its_circuit}
use Rattle.prover.proofs.Proving.{whole_lists, whole_short, whole_written}
use Rattle.prover.proofs.prove.Goals as goal

pub returns-in-Err : goal.returns-in-Err
returns-in-Err c = rw c.refusal.ensures (whole_lists _ _ _ _ _ (refusal_told c.in-Err.is c.check.ensures.answer))

pub write_all-requires : goal.write_all-requires
write_all-requires c =
    let legal : LegalCircuit c.in-Ok.job.circuit.now = its_circuit c.in-Ok.job.counted in
    let words = c.message_words.ensures (rw c.in-Ok.ensures.lists.0 at legal) in
    let room : message_words c.args.circuit.now ≤ length c.args.messages.now = omega (arith, words, c.if-message_words-room.true) in
    rw c.in-Ok.ensures.lists.0 room

pub returns-in-Ok : goal.returns-in-Ok
returns-in-Ok c =
    let same = c.in-Ok.ensures.lists in
    let legal : LegalCircuit c.in-Ok.job.circuit.now = its_circuit c.in-Ok.job.counted in
    let words = c.message_words.ensures (rw same.0 at legal) in
    whole_written _ _ _ _ (sym (none_told c.in-Ok.is c.check.ensures.answer)) (omega (arith, words, c.if-message_words-room.true)) _ _
    (rw (same.0, same.1, same.2) at c.write_all.ensures)

pub returns-in-Ok-2 : goal.returns-in-Ok-2
returns-in-Ok-2 c =
    let legal : LegalCircuit c.in-Ok.job.circuit.now = its_circuit c.in-Ok.job.counted in
    let words = c.message_words.ensures (rw c.in-Ok.ensures.lists.0 at legal) in
    rw c.refusal-in-Ok-2.ensures
    (whole_short _ _ _ _ (sym (none_told c.in-Ok.is c.check.ensures.answer)) (omega (arith, words, c.if-message_words-room.false)))
