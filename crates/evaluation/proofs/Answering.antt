-- What writing the values answers and leaves, case by case; and Evaluate's answer from it.
-- Assumes nothing.
use Prim.Native.Nat.{ℕ, ◌^◌, ◌≤◌, ◌<◌, zero-le}
use mathlib.Core.Path.{◌≡◌, refl, sym, ap, ◌∙◌, subst}
use mathlib.Core.Bool.{true}
use mathlib.Core.List.{List, [], flatten}
use native.Mathlib.Omega.{arith}
use lib.Dec.{leb}
use lib.ListN.{length, take}
use lib.Seq.{take-append-le}
use borrow.Author.Tests.{lt-leb, le-leb}
use Rattle.lists.specs.Buffer.{over}
use Rattle.lists.proofs.Buffer.{length_over}
use Rattle.lists.proofs.Front.{front_take}
use Rattle.refusal.specs.Number.{number_of}
use Rattle.refusal.specs.Order.{need}
use Rattle.refusal.specs.declared.Cause.{Cause}
use Rattle.refusal.specs.declared.Cause.TheVariants.{BufferShort}
use Rattle.refusal.proofs.Order.{first_none, refused_first, refused_by, left_by}
use Rattle.circuit.specs.Limits.{max_outputs}
use Rattle.circuit.specs.Circuit.{output_exponent, exponent_at, width_of, value_count}
use Rattle.circuit.specs.Legal.{lists_cause}
use Rattle.circuit.specs.Values.{layers, outputs}
use Rattle.circuit.proofs.Loading.{legal_lists}
use Rattle.circuit.proofs.Sized.{layer_of, exponent_width}
use Rattle.circuit.proofs.Layers.{outputs_short}
use Rattle.circuit.proofs.Values.{all_size, layer_room, output_part}
use Rattle.short_list.specs.Short.{short}
use Rattle.short_list.proofs.Short.{held, uncut}
use Rattle.evaluation.specs.Evaluate.{Evaluation, evaluated, refused, evaluation_by, outputs_in, evaluate_cause, evaluate_answer, evaluate_buffer, Evaluates, WritesValues}
use Rattle.evaluation.specs.Layer.{AllValues}
use Rattle.std.specs.Prelude.{Ok, Err}

module _ (c input before : List ℕ) where
  -- a cause, whatever it is, leaves the buffer
  by_cause : (cause : Cause) → evaluate_cause c input before ≡ number_of cause → WritesValues c input before (Err cause) before
  unfolding evaluate_buffer
  by_cause cause e = record {
    cause = sym e;
    first = tt;
    buffer = sym (left_by cause (evaluate_cause c input before) (over (flatten (layers c input)) before) before e);
  }

  pub left_lists : (cause : Cause) → number_of cause ≡ lists_cause c input → WritesValues c input before (Err cause) before
  unfolding evaluate_cause
  left_lists cause e = by_cause cause (refused_first cause (lists_cause c input) (need (leb (value_count c) (length before)) 10 0) e)

  pub left_short : lists_cause c input ≡ 0 → length before < value_count c → WritesValues c input before (Err BufferShort) before
  unfolding evaluate_cause
  left_short e l = by_cause BufferShort (simp (e, lt-leb (value_count c) (length before) l))

  -- the values of all layers over the buffer, the outputs first
  module _ (e : lists_cause c input ≡ 0) (room : value_count c ≤ length before) where
    outputs_first : (n : ℕ) → n ≡ width_of (exponent_at c 0)
        → (n ≤ length (over (flatten (layers c input)) before)) × (take n (over (flatten (layers c input)) before) ≡ outputs c input)
    outputs_first n wide =
        let all : List ℕ = flatten (layers c input) in
        let legal = (legal_lists c input e).circuit in
        let size : n ≡ 2 ^ output_exponent c = wide ∙ exponent_width c 0 (layer_of c legal 0 zero-le) in
        let inside = layer_room c input e 0 zero-le in
        let over_size = length_over all before (omega (arith, all_size c input e, room)) in (
          omega (arith, size, inside, over_size, all_size c input e, room),
          take-append-le n all _ (omega (arith, size, inside)) ∙ ap (λ (k : ℕ). take k all) size ∙ output_part c input e,
        )

    pub left_values : (total count : ℕ) (values : List ℕ) → total ≡ value_count c → count ≡ width_of (exponent_at c 0)
        → AllValues c input values → WritesValues c input before (Ok count) (over (take total values) before)
    unfolding evaluate_buffer evaluate_cause
    left_values total count values n wide v =
        let fits : leb (value_count c) (length before) ≡ true = le-leb (value_count c) (length before) room in
        let all = ap (λ (t : List ℕ). over t before) (front_take v total (n ∙ sym (all_size c input e))) in
        record {
          cause = sym (simp (e, fits));
          first = subst (λ (l : List ℕ). (count ≤ length l) × (take count l ≡ outputs c input)) (sym all) (outputs_first count wide);
          buffer = all ∙ sym (simp (e, fits));
        }

-- EVALUATE, from what writing the values answered
module _ (c input before after : List ℕ) where
  pub evaluated_refused : (cause : Cause) → WritesValues c input before (Err cause) after
      → Evaluates c input before (record { outcome = Err cause; outputs = short (take max_outputs []) }) after
  unfolding evaluate_answer
  evaluated_refused cause w =
      let e = refused_by (λ k. evaluation_by k (outputs c input)) refused (λ n. refl) cause (evaluate_cause c input before) (sym w.cause) in
      record { answer = e; row = ap (λ (a : Evaluation). short (outputs_in a)) e; buffer = w.buffer }

  pub evaluated_all : (n : ℕ) → WritesValues c input before (Ok n) after
      → Evaluates c input before (record { outcome = Ok tt; outputs = short (take max_outputs (take n after)) }) after
  unfolding evaluate_answer evaluate_cause
  evaluated_all n w =
      let legal = (first_none (lists_cause c input) _ (sym w.cause)).0 in
      let all : take max_outputs (take n after) ≡ outputs c input =
      ap (take max_outputs) w.first.1 ∙ uncut (outputs c input) (outputs_short c input legal) in
      let e : evaluate_answer c input before ≡ evaluated (outputs c input) = ap (λ (k : ℕ). evaluation_by k (outputs c input)) (sym w.cause) in
      record {
        answer = ap evaluated (held (take max_outputs (take n after)) ∙ all) ∙ sym e;
        row = ap short all ∙ ap (λ (a : Evaluation). short (outputs_in a)) (sym e);
        buffer = w.buffer;
      }
