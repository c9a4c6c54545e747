-- `by_points` meets its contract: the parts of the arrays that are lent are the tables of the left side, and the cut is its own.
use Rattle.std.proofs.Common.{rules, refl, ap, ◌∙◌, length}
use lib.Dec.{leb}
use Rattle.field.specs.Modulus.{modulus, numbers}
use Rattle.sumcheck.specs.Gatewise.{sums_of}
use Rattle.summand.specs.Gates.{gates_in}
use Rattle.sums.specs.Round.{side_at}
use Rattle.sums.proofs.Fronts.{lent, Fixed, shares_within, fixed_side}
use Rattle.sums.proofs.by_points.Goals as goal

pub slice_bounds-shares-end : goal.slice_bounds-shares-end
slice_bounds-shares-end c =
    let args = c.args in
    let known : Fixed (modulus args.layer.f) c.min-n.result c.width.result args.values.now args.u.now c.weights.new.table c.folded.new.table =
    search (rules, c.weights.ensures.whole refl, c.folded.ensures.whole refl) in
    shares_within _ known

pub slice_bounds-left-end : goal.slice_bounds-left-end
slice_bounds-left-end c =
    let args = c.args in
    let known : Fixed (modulus args.layer.f) c.min-n.result c.width.result args.values.now args.u.now c.weights.new.table c.folded.new.table =
    search (rules, c.weights.ensures.whole refl, c.folded.ensures.whole refl) in
    lent _ _ (shares_within _ known)

pub returns : goal.returns
returns c =
    let args = c.args in
    let known : Fixed (modulus args.layer.f) c.min-n.result c.width.result args.values.now args.u.now c.weights.new.table c.folded.new.table =
    search (rules, c.weights.ensures.whole refl, c.folded.ensures.whole refl) in
    c.by_side.ensures
    ∙ ap (λ l. sums_of (numbers args.layer.f) args.layer.weights.now l
    (side_at (numbers args.layer.f) args.k args.values.now args.v.now (leb args.k (length args.u.now))) (gates_in args.layer.gates.now))
    (fixed_side _ known _ _ _ c.at.ensures)
