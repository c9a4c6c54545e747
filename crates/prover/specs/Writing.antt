-- What the inner functions write.
-- Assumes nothing.
use Rattle.std.specs.Prelude.{ℕ, ◌≡◌, List, Ok}
use Rattle.lists.specs.Buffer.{over}
use Rattle.circuit.specs.Circuit.{message_words}
use Rattle.circuit.specs.Values.{outputs}
use Rattle.protocol.specs.Prove.{honest, transcript}
use Rattle.short_list.specs.Short.{short}
use Rattle.prover.specs.declared.Proof.{Proof}

-- all messages at the buffer's front, with the outputs and their number of words
pub record Writes (c input cs before : List ℕ) (r : Proof) (after : List ℕ) : Type 0 where
  pub words : r.words ≡ Ok (message_words c)
  pub outputs : r.outputs ≡ short (outputs c input)
  pub buffer : after ≡ over (transcript c (honest c input) cs) before
