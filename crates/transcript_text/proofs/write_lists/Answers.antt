-- `write_lists` meets its contract: the prover's words are the transcript, or its refusal is the lists'.
use Prim.Native.Nat.{ℕ}
use mathlib.Core.Path.{sym, ap, ◌∙◌}
use mathlib.Core.List.{List}
use lib.ListN.{take}
use native.Mathlib.Omega.{arith}
use lib.Seq.{length-take-le}
use Rattle.refusal.proofs.Told.{told}
use Rattle.prover.specs.Answers.{proved_from}
use Rattle.short_list.specs.Short.{list_of}
use Rattle.text.proofs.Writing.{wrote_as}
use Rattle.transcript_text.specs.Transcript.{proof_text}
use Rattle.transcript_text.proofs.Answers.{printed_refused, printed_proved}
use Rattle.transcript_text.proofs.write_lists.Goals as goal

pub slice_bounds-messages-end : goal.slice_bounds-messages-end
slice_bounds-messages-end c =
    let a = c.args in
    let call = c.prove-proof in
    let w = printed_proved a.circuit.now a.input.now a.coins.now _ (omega arith) _ _ _ (told (λ w. proved_from w (list_of call.result.outputs)) c.in-Ok.is call.ensures.answer) call.ensures.buffer in
    w.inside

pub slice_bounds-write_proof-end : goal.slice_bounds-write_proof-end
slice_bounds-write_proof-end c =
    let a = c.args in
    let call = c.prove-proof in
    let w = printed_proved a.circuit.now a.input.now a.coins.now _ (omega arith) _ _ _ (told (λ w. proved_from w (list_of call.result.outputs)) c.in-Ok.is call.ensures.answer) call.ensures.buffer in
    sym (length-take-le _ _ w.inside)

pub write_proof-requires : goal.write_proof-requires
write_proof-requires c =
    let a = c.args in
    let call = c.prove-proof in
    let w = printed_proved a.circuit.now a.input.now a.coins.now _ (omega arith) _ _ _ (told (λ w. proved_from w (list_of call.result.outputs)) c.in-Ok.is call.ensures.answer) call.ensures.buffer in
    (w.legal, w.words)

pub returns-in-Err : goal.returns-in-Err
returns-in-Err c =
    wrote_as _ _ _ _ c.write_refused.ensures _
    (printed_refused _ _ _ _ (omega arith) _ (told (λ w. proved_from w (list_of c.prove-proof.result.outputs)) c.in-Err.is c.prove-proof.ensures.answer))

pub returns-in-Ok : goal.returns-in-Ok
returns-in-Ok c =
    let a = c.args in
    let call = c.prove-proof in
    let w = printed_proved a.circuit.now a.input.now a.coins.now _ (omega arith) _ _ _ (told (λ w. proved_from w (list_of call.result.outputs)) c.in-Ok.is call.ensures.answer) call.ensures.buffer in
    wrote_as _ _ _ _ c.write_proof.ensures _
    (ap (λ (ys : List ℕ). proof_text a.circuit.now ys (take c.in-Ok.count call.new.messages)) c.list.ensures ∙ w.text)
