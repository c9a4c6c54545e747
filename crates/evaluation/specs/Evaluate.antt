-- The operation Evaluate: its answer by its case, and the whole buffer.
-- Assumes nothing.
use Rattle.std.specs.Prelude.{ℕ, zero, suc, ◌≤◌, ◌≡◌, ⊤, cond, Result, Ok, Err, IfOk, eqb, leb, length, take}
use mathlib.Core.List.{List, [], flatten}
use Rattle.lists.specs.Buffer.{over}
use Rattle.refusal.specs.Number.{number_of, cause_of}
use Rattle.refusal.specs.declared.Cause.{Cause}
use Rattle.refusal.specs.Order.{need, first}
use Rattle.circuit.specs.Circuit.{value_count}
use Rattle.circuit.specs.Legal.{lists_cause}
use Rattle.circuit.specs.Values.{layers, outputs}
use Rattle.short_list.specs.Short.{short, list_of}
use Rattle.evaluation.specs.declared.Evaluated.{Evaluated}

-- EVALUATE: "It refuses by 1 to 9, then 10 where the buffer is shorter than the values of this circuit. Otherwise it answers the outputs; the buffer
-- begins with the values of layers 0 to D in order, the rest unchanged."
unfoldable pub evaluate_cause : List ℕ → List ℕ → List ℕ → ℕ
evaluate_cause c input buffer = first (lists_cause c input) (need (leb (value_count c) (length buffer)) 10 0)

-- what an evaluation answers: the outputs, or a refusal's number
pub data Evaluation : Type 0 where
  evaluated : List ℕ → Evaluation
  refused : ℕ → Evaluation

abbrev pub evaluation_by : ℕ → List ℕ → Evaluation
evaluation_by zero ys = evaluated ys
evaluation_by (suc cause) ys = refused (suc cause)

unfoldable pub evaluate_answer : List ℕ → List ℕ → List ℕ → Evaluation
evaluate_answer c input buffer = evaluation_by (evaluate_cause c input buffer) (outputs c input)

unfoldable pub evaluate_buffer : List ℕ → List ℕ → List ℕ → List ℕ
evaluate_buffer c input buffer =
    cond (eqb (evaluate_cause c input buffer) 0) (over (flatten (layers c input)) buffer) buffer

-- the outputs of an answer, none of a refusal
abbrev pub outputs_in : Evaluation → List ℕ
outputs_in (evaluated ys) = ys
outputs_in (refused cause) = []

-- the answer that the code's stands for
abbrev pub evaluation_from : Result ⊤ Cause → List ℕ → Evaluation
evaluation_from (Ok _) ys = evaluated ys
evaluation_from (Err cause) ys = refused (number_of cause)

abbrev pub evaluation_of : Evaluated → Evaluation
evaluation_of r = evaluation_from r.outcome (list_of r.outputs)

-- the words past the outputs are 0
pub record Evaluates (c input before : List ℕ) (r : Evaluated) (after : List ℕ) : Type 0 where
  pub answer : evaluation_of r ≡ evaluate_answer c input before
  pub row : r.outputs ≡ short (outputs_in (evaluate_answer c input before))
  pub buffer : after ≡ evaluate_buffer c input before

-- the values alone: the first of them, as many as are answered, are the outputs
pub record WritesValues (c input before : List ℕ) (r : Result ℕ Cause) (after : List ℕ) : Type 0 where
  pub cause : cause_of r ≡ evaluate_cause c input before
  pub first : IfOk r (λ n. (n ≤ length after) × (take n after ≡ outputs c input))
  pub buffer : after ≡ evaluate_buffer c input before
