-- The answers of both forms of Prove, by the case of the code's enums, and the whole buffer.
-- Assumes nothing.
use Rattle.std.specs.Prelude.{◌≡◌, List, [], Result, Ok, Err, ℕ}
use Rattle.refusal.specs.Number.{number_of}
use Rattle.refusal.specs.declared.Cause.{Cause}
use Rattle.protocol.specs.Prove.{Proof, proved, refused, OneMessage, wrote, prove_answer, prove_buffer, prove_one_answer, prove_one_buffer}
use Rattle.short_list.specs.Short.{short, list_of}
use Rattle.prover.specs.declared.Proof as code

-- PROVE, WHOLE
abbrev pub proved_from : Result ℕ Cause → List ℕ → Proof
proved_from (Ok n) ys = proved ys n
proved_from (Err cause) ys = refused (number_of cause)

abbrev pub proved_of : code.Proof → Proof
proved_of p = proved_from p.words (list_of p.outputs)

abbrev pub refused_proof : Cause → code.Proof
refused_proof cause = record { words = Err cause; outputs = short [] }

-- the outputs of an answer, none of a refusal
abbrev pub outputs_in : Proof → List ℕ
outputs_in (proved ys n) = ys
outputs_in (refused cause) = []

-- the words past the outputs are 0
pub record Proves (c input cs before : List ℕ) (r : code.Proof) (after : List ℕ) : Type 0 where
  pub answer : proved_of r ≡ prove_answer c input cs before
  pub row : r.outputs ≡ short (outputs_in (prove_answer c input cs before))
  pub buffer : after ≡ prove_buffer c input cs before

-- PROVE, ONE MESSAGE
abbrev pub message_of : Result ℕ Cause → OneMessage
message_of (Ok n) = wrote n
message_of (Err cause) = refused (number_of cause)

pub record ProvesOne (c input prefix before : List ℕ) (r : Result ℕ Cause) (after : List ℕ) : Type 0 where
  pub answer : message_of r ≡ prove_one_answer c input prefix before
  pub buffer : after ≡ prove_one_buffer c input prefix before
