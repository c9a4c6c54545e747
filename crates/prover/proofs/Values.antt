-- Where a layer's values stand among those of all layers, and that its messages can be written from them.
-- Assumes nothing.
use Prim.Native.Nat.{ℕ, ◌^◌, ◌≤◌, ◌<◌}
use mathlib.Core.Path.{◌≡◌, sym, ap, ◌∙◌, subst}
use mathlib.Core.List.{List, [], flatten}
use native.Mathlib.Omega.{arith}
use lib.Dec.{eqb}
use lib.ListN.{length}
use mathlib.Core.Bool.{cond}
use borrow.Author.Tests.{le-leb}
use Rattle.lists.specs.Each.{All}
use Rattle.lists.proofs.Each.{all_at}
use Rattle.lists.specs.Buffer.{over}
use Rattle.lists.proofs.Front.{front_over, front_part}
use Rattle.circuit.specs.Limits.{max_values}
use Rattle.circuit.specs.Circuit.{prime_of, depth, exponent_at, gates_before, value_count}
use Rattle.circuit.specs.Legal.{lists_cause}
use Rattle.circuit.specs.Sized.{LegalCircuit}
use Rattle.circuit.specs.Values.{layers, values_at, outputs}
use Rattle.circuit.proofs.Loading.{legal_lists}
use Rattle.circuit.proofs.Layers.{layer_sizes, values_are_residues, length_all_layers}
use Rattle.circuit.proofs.Values.{layer_part, layer_room, all_size}
use Rattle.circuit.proofs.Largest.{in_limits}
use Rattle.evaluation.specs.Layer.{AllValues}
use Rattle.short_list.specs.Short.{short}
use Rattle.evaluation.specs.Evaluate.{evaluation_by, outputs_in, evaluate_cause, evaluate_answer, evaluate_buffer, Evaluates}
use Rattle.evaluation.specs.declared.Evaluated.{Evaluated}
use Rattle.protocol.specs.Rounds.{place, AtRound}
use Rattle.protocol.specs.Judge.{message_length}
use Rattle.messages.specs.Writing.{values_in, Writable}

module _ (c input : List ℕ) (e : lists_cause c input ≡ 0) where
  legal : LegalCircuit c
  legal = (legal_lists c input e).circuit

  -- what an evaluation leaves in a working array
  module _ (before after : List ℕ) (r : Evaluated) (size : length before ≡ max_values) (v : Evaluates c input before r after) where
    none : evaluate_cause c input before ≡ 0
    unfolding evaluate_cause
    none =
        let room : value_count c ≤ length before = omega (arith, size, (in_limits c legal).values) in
        simp (e, le-leb (value_count c) (length before) room)

    pub outputs_told : r.outputs ≡ short (outputs c input)
    unfolding evaluate_answer
    outputs_told = v.row ∙ ap (λ (k : ℕ). short (outputs_in (evaluation_by k (outputs c input)))) none

    pub all_written : AllValues c input after
    unfolding evaluate_buffer
    all_written =
        let holds : after ≡ over (flatten (layers c input)) before =
        v.buffer ∙ ap (λ (k : ℕ). cond (eqb k 0) (over (flatten (layers c input)) before) before) none in
        subst (AllValues c input) (sym holds)
        (front_over max_values (flatten (layers c input)) before size
        (let most = (in_limits c legal).values in omega (arith, all_size c input e)))

  module _ (values : List ℕ) (a : AllValues c input values) where
    pub layer_values_lem : (layer : ℕ) → layer ≤ depth c → values_in c layer values ≡ values_at c input layer
    layer_values_lem layer h =
        front_part a (gates_before c layer) (2 ^ exponent_at c layer) (layer_room c input e layer h) ∙ layer_part c input e layer h

    pub writable : (layer round : ℕ) (past buffer : List ℕ) → AtRound c (place layer round) (length past)
        → message_length c (place layer round) ≤ length buffer → Writable c (place layer round) past (values_in c layer values) buffer
    unfolding values_at
    writable layer round past buffer at room =
        let same = layer_values_lem layer at.last in
        let low : layer ≤ depth c = at.last in
        record {
          there = at;
          sized = ap length same ∙ layer_sizes c input e layer at.last;
          residues =
              subst (λ (vs : List ℕ). All (λ v. v < prime_of c) vs) (sym same)
              (all_at (λ (vs : List ℕ). All (λ v. v < prime_of c) vs) (layers c input) layer [] (omega (arith, length_all_layers c input legal))
              (values_are_residues c input e));
          room = room;
        }
