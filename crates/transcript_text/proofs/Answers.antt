-- What is printed for lists, from what the prover answers, whose buffer is never too short.
-- Assumes nothing.
use Prim.Native.Nat.{ℕ, zero, suc, ◌≤◌}
use mathlib.Core.Path.{◌≡◌, refl, sym, ap, ap₂, ◌∙◌}
use mathlib.Core.Bool.{Bool, cond}
use mathlib.Core.List.{List}
use native.Mathlib.Omega.{arith}
use lib.Dec.{eqb, leb}
use lib.ListN.{length, take, length-take}
use borrow.Author.Tests.{le-leb}
use Rattle.lists.specs.Buffer.{over}
use Rattle.lists.proofs.Buffer.{take_over}
use Rattle.refusal.specs.Order.{need, first}
use Rattle.refusal.proofs.Order.{first_none}
use Rattle.circuit.specs.Circuit.{message_words}
use Rattle.circuit.specs.Legal.{lists_cause}
use Rattle.circuit.specs.Sized.{LegalCircuit}
use Rattle.circuit.specs.Values.{outputs}
use Rattle.circuit.proofs.Loading.{legal_lists}
use Rattle.protocol.specs.Check.{need_coins}
use Rattle.circuit.proofs.Largest.{in_limits}
use Rattle.protocol.specs.Prove.{proved, refused, proof_of, honest, transcript, prove_cause, prove_answer, prove_buffer}
use Rattle.protocol.proofs.Coins.{coin_list}
use Rattle.protocol.proofs.Check.{length_transcript}
use Rattle.protocol.proofs.Theorems.{honest_fits}
use Rattle.printing.specs.Printed.{refused_text, answer_text}
use Rattle.circuit.specs.Limits.{max_message_words}
use Rattle.transcript_text.specs.Transcript.{proof_text, lists_refusal, lists_text}

module _ (c input cs : List ℕ) where
  abbrev ms : List ℕ
  ms = transcript c (honest c input) cs

  -- nothing is refused: the transcript is whole
  pub record Whole : Type 0 where
    pub legal : LegalCircuit c
    pub words : length ms ≡ message_words c

  pub whole : lists_refusal c input cs ≡ 0 → Whole
  whole e =
      let lists = first_none (lists_cause c input) (need_coins c cs 0) e in
      record {
        legal = (legal_lists c input lists.0).circuit;
        words = length_transcript c (honest c input) (honest_fits c input lists.0) cs (coin_list c cs 0 lists.1);
      }

  -- what a proof wrote is the transcript
  pub record Printed (ys : List ℕ) (n : ℕ) (after : List ℕ) : Type 0 where
    pub legal : LegalCircuit c
    pub inside : n ≤ length after
    pub words : length (take n after) ≡ message_words c
    pub text : proof_text c ys (take n after) ≡ lists_text c input cs

  module _ (buffer : List ℕ) (room : max_message_words ≤ length buffer) where
    -- the prover's refusals
    same_cause : prove_cause c input cs buffer ≡ lists_refusal c input cs
    unfolding prove_cause
    same_cause = go (lists_cause c input) refl
      where
        go : (n : ℕ) → lists_cause c input ≡ n
            → first n (need_coins c cs (need (leb (message_words c) (length buffer)) 10 0)) ≡ first n (need_coins c cs 0)
        go zero e =
            let few = (in_limits c (legal_lists c input e).circuit).messages in
            ap (λ (b : Bool). need_coins c cs (need b 10 0)) (le-leb (message_words c) (length buffer) (omega arith))
        go (suc n) e = refl

    pub printed_refused : (n : ℕ) → refused n ≡ prove_answer c input cs buffer → refused_text n ≡ lists_text c input cs
    unfolding prove_answer lists_text
    printed_refused n e = go (lists_refusal c input cs) (e ∙ ap (λ (k : ℕ). proof_of k (outputs c input) (message_words c)) same_cause)
      where
        go : (k : ℕ) → refused n ≡ proof_of k (outputs c input) (message_words c)
            → refused_text n ≡ answer_text k (proof_text c (outputs c input) ms)
        go zero e = absurd (let z : ◌≡◌ {A = ℕ} 0 1 = cc in omega arith)
        go (suc k) e = let same : n ≡ suc k = cc in ap refused_text same

    pub printed_proved : (ys : List ℕ) (n : ℕ) (after : List ℕ) → proved ys n ≡ prove_answer c input cs buffer → after ≡ prove_buffer c input cs buffer
        → Printed ys n after
    unfolding prove_answer prove_buffer lists_text
    printed_proved ys n after e eb = go (lists_refusal c input cs) refl
      where
        go : (k : ℕ) → lists_refusal c input cs ≡ k → Printed ys n after
        go zero none =
            let cause : prove_cause c input cs buffer ≡ 0 = same_cause ∙ none in
            let answer : proved ys n ≡ proved (outputs c input) (message_words c) =
            e ∙ ap (λ (k : ℕ). proof_of k (outputs c input) (message_words c)) cause in
            let told : ys ≡ outputs c input = cc in
            let count : n ≡ message_words c = cc in
            let p = whole none in
            let wrote : after ≡ over ms buffer = eb ∙ ap (λ (k : ℕ). cond (eqb k 0) (over ms buffer) buffer) cause in
            let front : take n after ≡ ms = ap₂ (λ (i : ℕ) (l : List ℕ). take i l) (count ∙ sym p.words) wrote ∙ take_over ms buffer in
            let words : length (take n after) ≡ message_words c = ap length front ∙ p.words in
            record {
              legal = p.legal;
              inside = omega (arith, length-take n after, words, count);
              words = words;
              text =
                  ap₂ (λ (l ws : List ℕ). proof_text c l ws) told front
                  ∙ ap (λ (k : ℕ). answer_text k (proof_text c (outputs c input) ms)) (sym none);
            }
        go (suc k) some =
            let answer : proved ys n ≡ refused (suc k) =
            e ∙ ap (λ (k : ℕ). proof_of k (outputs c input) (message_words c)) (same_cause ∙ some) in
            absurd (let z : ◌≡◌ {A = ℕ} 0 1 = cc in omega arith)
