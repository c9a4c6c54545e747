-- `by_side` meets its contract: with no coordinate fixed the side is one share and the values; else the parts of the arrays that are lent
-- are its tables.
use Rattle.std.proofs.Common.{rules, refl, ap, ◌∙◌}
use Rattle.field.specs.Modulus.{modulus, numbers}
use Rattle.sumcheck.specs.Gatewise.{sums_of}
use Rattle.summand.specs.Gates.{gates_in}
use Rattle.sums.specs.Wire.{side}
use Rattle.sums.proofs.Fronts.{lent, Fixed, shares_within, fixed_side, open_side}
use Rattle.sums.proofs.by_side.Goals as goal

pub returns-then-is_empty : goal.returns-then-is_empty
returns-then-is_empty c =
    let args = c.args in
    c.by_gates.ensures
    ∙ ap (λ r. sums_of (numbers args.layer.f) args.layer.weights.now (side args.left) r (gates_in args.layer.gates.now))
    (open_side (modulus args.layer.f) args.k _ args.next args.values.now args.v.now _ (search rules) c.at-cut.ensures c.min-n.ensures)

pub slice_bounds-shares-end : goal.slice_bounds-shares-end
slice_bounds-shares-end c =
    let args = c.args in
    let known : Fixed (modulus args.layer.f) c.min-n.result c.width.result args.values.now args.v.now c.weights.new.table c.folded.new.table =
    search (rules, c.weights.ensures.whole refl, c.folded.ensures.whole refl) in
    shares_within _ known

pub slice_bounds-right-end-2 : goal.slice_bounds-right-end-2
slice_bounds-right-end-2 c =
    let args = c.args in
    let known : Fixed (modulus args.layer.f) c.min-n.result c.width.result args.values.now args.v.now c.weights.new.table c.folded.new.table =
    search (rules, c.weights.ensures.whole refl, c.folded.ensures.whole refl) in
    lent _ _ (shares_within _ known)

pub returns : goal.returns
returns c =
    let args = c.args in
    let known : Fixed (modulus args.layer.f) c.min-n.result c.width.result args.values.now args.v.now c.weights.new.table c.folded.new.table =
    search (rules, c.weights.ensures.whole refl, c.folded.ensures.whole refl) in
    c.by_gates-2.ensures
    ∙ ap (λ r. sums_of (numbers args.layer.f) args.layer.weights.now (side args.left) r (gates_in args.layer.gates.now)) (fixed_side _ known _ _ _ c.at-cut.ensures)
