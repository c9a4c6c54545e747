-- `write_values` meets its contract: each return is one case of its answer, and only the last writes.
use mathlib.Core.Path.{◌≡◌, sym, ap, ◌∙◌, subst}
use mathlib.Core.List.{List}
use Prim.Native.Nat.{ℕ, ◌+◌}
use native.Mathlib.Nat.{le_of_eq}
use native.Mathlib.Omega.{arith}
use lib.ListN.{length, take}
use lib.Seq.{length-take-le}
use Rattle.lists.proofs.Buffer.{over_whole}
use Rattle.std.proofs.lemmas.Result.{err_from_is_err_and}
use Rattle.circuit.specs.Circuit.{depth, gates_before}
use Rattle.circuit.specs.Legal.{lists_cause}
use Rattle.circuit.proofs.Sized.{layer_of}
use Rattle.circuit.proofs.Loading.{legal_lists}
use Rattle.layout.specs.Gates.{GatesBefore}
use Rattle.evaluation.specs.Evaluate.{WritesValues}
use Rattle.std.specs.Prelude.{Ok}
use Rattle.evaluation.proofs.Evaluating.{input_ends, input_fits}
use Rattle.evaluation.proofs.Answering.{left_lists, left_short, left_values}
use Rattle.evaluation.proofs.write_values.Goals as goal

-- where the input begins
place : (c input : List ℕ) (d r : ℕ) → lists_cause c input ≡ 0 → d ≡ depth c → GatesBefore c d r → r ≡ gates_before c (depth c)
place c input d r e deep b =
    b.counted (layer_of c (legal_lists c input e).circuit d (le_of_eq deep)) ∙ ap (gates_before c) deep

pub returns-in_err-check_lists : goal.returns-in_err-check_lists
returns-in_err-check_lists c =
    let p = err_from_is_err_and c.from_residual.result c.from_residual.ensures.1 in
    let r = c.in_err-check_lists in
    rw (p.1, p.2) (left_lists _ _ _ r.field-0.0 r.ensures)

pub returns-then-buffer-total : goal.returns-then-buffer-total
returns-then-buffer-total c =
    let legal = sym c.in_ok-check_lists.ensures in
    let at = place c.args.circuit.now c.args.input.now _ _ legal c.depth.ensures.0 c.gates_before-place.ensures in
    left_short _ _ _ legal (omega (arith, c.if-buffer-total.true, input_ends _ _ legal _ at))

pub all_values-values-requires : goal.all_values-values-requires
all_values-values-requires c =
    let legal = sym c.in_ok-check_lists.ensures in
    let at = place c.args.circuit.now c.args.input.now _ _ legal c.depth.ensures.0 c.gates_before-place.ensures in
    (legal, at)

pub slice_bounds-values-end : goal.slice_bounds-values-end
slice_bounds-values-end c =
    let legal = sym c.in_ok-check_lists.ensures in
    let at = place c.args.circuit.now c.args.input.now _ _ legal c.depth.ensures.0 c.gates_before-place.ensures in
    let few = input_fits _ _ legal _ at in
    omega (arith, few, c.all_values-values.ensures.size)

pub slice_bounds-put-end : goal.slice_bounds-put-end
slice_bounds-put-end c =
    let legal = sym c.in_ok-check_lists.ensures in
    let at = place c.args.circuit.now c.args.input.now _ _ legal c.depth.ensures.0 c.gates_before-place.ensures in
    let few = input_fits _ _ legal _ at in
    sym (length-take-le _ _ (omega (arith, few, c.all_values-values.ensures.size)))

pub returns : goal.returns
returns c =
    let legal = sym c.in_ok-check_lists.ensures in
    let at = place c.args.circuit.now c.args.input.now _ _ legal c.depth.ensures.0 c.gates_before-place.ensures in
    let few = input_fits _ _ legal _ at in
    let buffer = c.args.buffer.now in
    let total = c.gates_before-place.result + length c.args.input.now in
    let values = c.all_values-values.result in
    let front = length-take-le total values (omega (arith, few, c.all_values-values.ensures.size)) in
    let put = over_whole (take total values) buffer _ (omega (arith, front, c.if-buffer-total.false)) c.put.ensures.items in
    let all = input_ends _ _ legal _ at in
    subst (WritesValues _ _ buffer (Ok _)) (sym put)
    (left_values _ _ buffer legal (omega (arith, all, c.if-buffer-total.false)) total _ values all c.layer_width.ensures c.all_values-values.ensures)
