-- No text is longer than the limit.
-- Assumes nothing.
use Prim.Native.Nat.{ℕ, ◌≤◌}
use mathlib.Core.List.{List}
use native.Mathlib.Omega.{arith}
use lib.ListN.{length, length-append}
use Rattle.circuit.specs.Values.{outputs}
use Rattle.protocol.specs.Rounds.{rounds}
use Rattle.refusal.proofs.Order.{first_none}
use Rattle.circuit.specs.Legal.{lists_cause}
use Rattle.circuit.proofs.Layers.{outputs_short}
use Rattle.circuit.proofs.Largest.{in_limits}
use Rattle.protocol.specs.Prove.{honest, transcript}
use Rattle.protocol.proofs.Rounds.{as_many}
use Rattle.text.specs.Lines.{ascii}
use Rattle.text.proofs.Lengths.{line_short}
use Rattle.printing.proofs.Lengths.{answer_short}
use Rattle.transcript_text.specs.Limits.{max_text}
use Rattle.transcript_text.specs.Transcript.{lists_refusal, lists_text}
use Rattle.transcript_text.proofs.Limits.{messages_short}
use Rattle.transcript_text.proofs.Answers.{whole}

pub lists_short : (c input cs : List ℕ) → length (lists_text c input cs) ≤ max_text
unfolding lists_text
lists_short c input cs =
    answer_short (lists_refusal c input cs) _ max_text (omega arith)
    (λ e.
    let p = whole c input cs e in
    let first = line_short (ascii "claim") (outputs c input) in
    let others = messages_short c (rounds c) (transcript c (honest c input) cs) in
    rw length-append (omega (arith, first, outputs_short c input (first_none (lists_cause c input) _ e).0, others, p.words, as_many c, (in_limits c p.legal).coins, (in_limits c p.legal).messages)))
