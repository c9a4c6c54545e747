-- What is printed for lists, from what an evaluation answers, whose buffer is never too short. No text is longer than the limit.
-- Assumes nothing.
use Prim.Native.Nat.{ℕ, zero, suc, ◌≤◌}
use mathlib.Core.Path.{◌≡◌, refl, ap, ◌∙◌}
use mathlib.Core.Bool.{Bool}
use mathlib.Core.List.{List}
use native.Mathlib.Omega.{arith}
use lib.Dec.{leb}
use lib.ListN.{length}
use borrow.Author.Tests.{le-leb}
use Rattle.refusal.specs.Order.{need, first}
use Rattle.circuit.specs.Circuit.{value_count}
use Rattle.circuit.specs.Legal.{lists_cause}
use Rattle.circuit.specs.Values.{outputs}
use Rattle.circuit.specs.Limits.{max_values}
use Rattle.circuit.proofs.Loading.{legal_lists}
use Rattle.circuit.proofs.Layers.{outputs_short}
use Rattle.circuit.proofs.Largest.{in_limits}
use Rattle.evaluation.specs.Evaluate.{evaluated, refused, evaluation_by, evaluate_cause, evaluate_answer}
use Rattle.text.specs.Lines.{ascii}
use Rattle.text.proofs.Lengths.{line_short}
use Rattle.printing.specs.Printed.{refused_text, answer_text}
use Rattle.printing.proofs.Lengths.{answer_short}
use Rattle.evaluate_text.specs.Output.{max_text, outputs_text, lists_text}

module _ (c input buffer : List ℕ) (room : max_values ≤ length buffer) where
  same_cause : evaluate_cause c input buffer ≡ lists_cause c input
  unfolding evaluate_cause
  same_cause = go (lists_cause c input) refl
    where
      go : (n : ℕ) → lists_cause c input ≡ n → first n (need (leb (value_count c) (length buffer)) 10 0) ≡ n
      go zero e =
          let legal = legal_lists c input e in
          let few = (in_limits c legal.circuit).values in
          ap (λ (b : Bool). need b 10 0) (le-leb (value_count c) (length buffer) (omega arith))
      go (suc n) e = refl

  pub printed_refused : (n : ℕ) → refused n ≡ evaluate_answer c input buffer → refused_text n ≡ lists_text c input
  unfolding evaluate_answer lists_text
  printed_refused n e = go (lists_cause c input) (e ∙ ap (λ (k : ℕ). evaluation_by k (outputs c input)) same_cause)
    where
      go : (k : ℕ) → refused n ≡ evaluation_by k (outputs c input) → refused_text n ≡ answer_text k (outputs_text (outputs c input))
      go zero e = absurd (let z : ◌≡◌ {A = ℕ} 0 1 = cc in omega arith)
      go (suc k) e = let same : n ≡ suc k = cc in ap refused_text same

  pub printed_outputs : (ys : List ℕ) → evaluated ys ≡ evaluate_answer c input buffer → outputs_text ys ≡ lists_text c input
  unfolding evaluate_answer lists_text
  printed_outputs ys e = go (lists_cause c input) (e ∙ ap (λ (k : ℕ). evaluation_by k (outputs c input)) same_cause)
    where
      go : (k : ℕ) → evaluated ys ≡ evaluation_by k (outputs c input) → outputs_text ys ≡ answer_text k (outputs_text (outputs c input))
      go zero e = let same : ys ≡ outputs c input = cc in ap outputs_text same
      go (suc k) e = absurd (let z : ◌≡◌ {A = ℕ} 0 1 = cc in omega arith)

pub lists_short : (c input : List ℕ) → length (lists_text c input) ≤ max_text
unfolding lists_text
lists_short c input =
    answer_short (lists_cause c input) _ max_text (omega arith)
    (λ e. omega (arith, line_short (ascii "output") (outputs c input), outputs_short c input e))
