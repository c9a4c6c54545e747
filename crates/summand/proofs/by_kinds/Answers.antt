-- `by_kinds` meets its contract: the kinds' parts are all of the sum over the kinds.
use Rattle.std.proofs.Common.{ap₂, ◌∙◌}
use borrow.Kind.Array.{e_int, good_length}
use mir.Syntax.{w32}
use Rattle.algebra.specs.Numbers.{words}
use Rattle.circuit.specs.Gate.{max_kind}
use Rattle.field.specs.Modulus.{modulus}
use Rattle.summand.proofs.Sums.{each_added}
use Rattle.summand.proofs.by_kinds.Goals as goal

pub returns : goal.returns
returns c =
    let p = modulus c.args.f in
    let size = good_length (e_int w32) max_kind c.args.sums _ c.well_formed.1.0 in
    let others = c.add-others.ensures ∙ ap₂ (words p).add c.by_kind.ensures c.by_kind-2.ensures in
    c.add.ensures ∙ ap₂ (words p).add c.by_kind-3.ensures others ∙ each_added p c.args.x c.args.y c.args.sums size
