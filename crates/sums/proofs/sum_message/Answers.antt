-- `sum_message` meets its contract: the clipped numbers of coordinates take the coordinates that are fixed, and the part that is lent is
-- the weight list.
use Rattle.std.proofs.Common.{rules, refl, ap, take, ◌∙◌}
use Rattle.field.specs.Modulus.{modulus, numbers}
use Rattle.extension.specs.Limits.{row_length}
use Rattle.circuit.specs.Circuit.{width_of}
use Rattle.tables.specs.Limits.{table_width}
use Rattle.summand.specs.Gates.{gates_in}
use Rattle.sums.specs.Round.{round_message}
use Rattle.sums.proofs.Fronts.{lent, Clipped, weights_within, round_is}
use Rattle.sums.proofs.sum_message.Goals as goal

pub slice_bounds-weights-end-2 : goal.slice_bounds-weights-end-2
slice_bounds-weights-end-2 c =
    let args = c.args in
    let width = c.width-width.ensures ∙ ap width_of c.min.ensures in
    let known : Clipped (modulus args.f) c.min-exponent.result args.fixed c.min-first.result c.min-second.result c.width-width.result
    args.point.now c.weights.new.table = search (rules, width, c.weights.ensures.whole refl) in
    weights_within _ args.points known

pub slice_bounds-layer-end : goal.slice_bounds-layer-end
slice_bounds-layer-end c =
    let args = c.args in
    let width = c.width-width.ensures ∙ ap width_of c.min.ensures in
    let known : Clipped (modulus args.f) c.min-exponent.result args.fixed c.min-first.result c.min-second.result c.width-width.result
    args.point.now c.weights.new.table = search (rules, width, c.weights.ensures.whole refl) in
    lent _ _ (weights_within _ args.points known)

pub returns : goal.returns
returns c =
    let args = c.args in
    let width = c.width-width.ensures ∙ ap width_of c.min.ensures in
    let known : Clipped (modulus args.f) c.min-exponent.result args.fixed c.min-first.result c.min-second.result c.width-width.result
    args.point.now c.weights.new.table = search (rules, width, c.weights.ensures.whole refl) in
    c.by_points.ensures ∙ round_is _ args.points known (gates_in args.gates.now) (take table_width args.values.now)
    ∙ ap (λ k. round_message (numbers args.f) k (gates_in args.gates.now) (take row_length args.point.now) args.values.now args.points args.fixed)
    c.min-exponent.ensures
