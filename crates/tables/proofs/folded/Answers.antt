-- `folded` meets its contract. The loop keeps `Fixed`: at the front stand the values with as many first variables fixed as turns were made.
use Rattle.std.proofs.Common.{arith, ℕ, ◌≡◌, length, take, length-take, ap, ◌∙◌}
use Rattle.lists.proofs.Front.{front_put, front_take}
use Rattle.lists.proofs.Parts.{take_most}
use Rattle.field.specs.Modulus.{numbers}
use Rattle.extension.specs.Limits.{row_length}
use Rattle.tables.specs.Limits.{table_width}
use Rattle.tables.proofs.Folding.{none_fixed, fix_next, all_fixed}
use Rattle.tables.proofs.folded.Goals as goal

pub loop-r-init : goal.loop-r-init
loop-r-init c =
    let values = c.args.values.now in
    let table = c.args.table.now in
    let size = c.if-table-ne-MAX_WIDTH.false in
    let count : c.put-n.result ≡ length (take table_width values) = omega (arith, length-take table_width values, c.put-n.ensures.count) in
    let front = front_put table_width values table _ size c.put-n.ensures.items in
    none_fixed _ _ _ _ c.put-n.result (omega (arith, c.put-n.ensures.count)) front.size (front_take front _ count)

pub loop-r-preserved : goal.loop-r-preserved
loop-r-preserved c = fix_next _ _ _ c.loop-r.table _ c.loop-r.n c.loop-r.r-index c.loop-r.invariant c.loop-r-test.true c.fold.ensures

pub returns : goal.returns
returns c =
    let vs = take table_width c.args.values.now in
    let N = numbers c.args.f in
    let all : take c.min.result c.args.point.now ≡ take row_length c.args.point.now =
    ap (λ (n : ℕ). take n c.args.point.now) c.min.ensures ∙ take_most row_length c.args.point.now in
    let holds = all_fixed N _ vs c.loop-r.table _ _ c.loop-r.invariant c.loop-r-test.false in
    record {
      whole = λ e. record { size = c.loop-r.invariant.size; holds = rw all at holds };
      other = λ e. absurd (e c.if-table-ne-MAX_WIDTH.false);
    }
