-- The whole proof's answer and buffer, refusal by refusal.
-- Assumes nothing.
use Prim.Native.Nat.{ℕ, ◌≤◌, ◌<◌}
use mathlib.Core.Path.{◌≡◌, refl, sym, ap, ap₂, ◌∙◌}
use mathlib.Core.Bool.{Bool}
use mathlib.Core.List.{List}
use lib.Dec.{leb}
use lib.ListN.{length}
use borrow.Author.Tests.{le-leb, lt-leb}
use Rattle.lists.specs.Buffer.{over}
use Rattle.refusal.specs.Number.{number_of}
use Rattle.refusal.specs.Order.{need, first}
use Rattle.refusal.specs.declared.Cause.{Cause}
use Rattle.refusal.specs.declared.Cause.TheVariants.{BufferShort}
use Rattle.refusal.proofs.Order.{refused_first, refused_by, left_by, legal_first}
use Rattle.circuit.specs.Circuit.{message_words}
use Rattle.circuit.specs.Legal.{lists_cause}
use Rattle.circuit.specs.Values.{outputs}
use Rattle.protocol.specs.Check.{need_coins}
use Rattle.protocol.proofs.Coins.{by_rest}
use Rattle.protocol.specs.Prove.{Proof, proved, refused, proof_of, honest, transcript, prove_cause, prove_answer, prove_buffer}
use Rattle.prover.specs.Writing.{Writes}
use Rattle.prover.specs.Answers.{proved_from, refused_proof, outputs_in, Proves}
use Rattle.prover.specs.declared.Proof as code
use Rattle.short_list.specs.Short.{short, list_of}
use Rattle.short_list.proofs.Short.{held}

module _ (c input cs before : List ℕ) where
  by_cause : (cause : Cause) → prove_cause c input cs before ≡ number_of cause → Proves c input cs before (refused_proof cause) before
  unfolding prove_answer prove_buffer
  by_cause cause e =
      let told = refused_by (λ k. proof_of k (outputs c input) (message_words c)) refused (λ n. refl) cause (prove_cause c input cs before) e in
      record {
        answer = told;
        row = ap (λ (p : Proof). short (outputs_in p)) told;
        buffer = sym (left_by cause (prove_cause c input cs before) (over (transcript c (honest c input) cs) before) before e);
      }

  abbrev of_lists : ℕ
  of_lists = first (lists_cause c input) (need_coins c cs 0)

  pub whole_lists : (cause : Cause) → number_of cause ≡ of_lists → Proves c input cs before (refused_proof cause) before
  unfolding prove_cause
  whole_lists cause e = by_cause cause (sym (by_rest c input cs _) ∙ refused_first cause of_lists _ e)

  module _ (none : 0 ≡ of_lists) where
    only_room : prove_cause c input cs before ≡ need (leb (message_words c) (length before)) 10 0
    unfolding prove_cause
    only_room = sym (by_rest c input cs _) ∙ legal_first of_lists _ (sym none)

    pub whole_short : length before < message_words c → Proves c input cs before (refused_proof BufferShort) before
    whole_short l = by_cause BufferShort (only_room ∙ ap (λ (b : Bool). need b 10 0) (lt-leb (message_words c) (length before) l))

    module _ (room : message_words c ≤ length before) where
      no_cause : prove_cause c input cs before ≡ 0
      no_cause = only_room ∙ ap (λ (b : Bool). need b 10 0) (le-leb (message_words c) (length before) room)

      pub whole_written : (r : code.Proof) (after : List ℕ) → Writes c input cs before r after → Proves c input cs before r after
      unfolding prove_answer prove_buffer
      whole_written r after w =
          let all : prove_answer c input cs before ≡ proved (outputs c input) (message_words c) =
          ap (λ (k : ℕ). proof_of k (outputs c input) (message_words c)) no_cause in
          record {
            answer = ap₂ proved_from w.words (ap list_of w.outputs ∙ held (outputs c input)) ∙ sym all;
            row = w.outputs ∙ ap (λ (p : Proof). short (outputs_in p)) (sym all);
            buffer = w.buffer ∙ sym (rw no_cause refl);
          }
