-- `weights` meets its contract. The loop keeps `Weighed`: at the front stand the weights at the coordinates passed, from the last on.
use Rattle.std.proofs.Common.{arith, Bor, ℕ, take, sym, ◌∙◌}
use lib.Seq.{take-suc-set, length-take-le}
use lib.ListN.{length-set}
use Rattle.std.proofs.lemmas.Iterator.Adapters.{YieldsList-from_rev_slice}
use Rattle.extension.proofs.Product.{one_passed}
use Rattle.tables.proofs.Spreading.{few_passed, none_weighed, room, weigh_next}
use Rattle.tables.proofs.weights.Goals as goal

pub loop-z-init : goal.loop-z-init
loop-z-init c =
    let table = c.args.table.now in
    let size = c.if-table-ne-MAX_WIDTH.false in
    none_weighed _ _ (length-set table 0 _ ∙ size) (take-suc-set table 0 _ (omega arith))

pub overflow_mul-n : goal.overflow_mul-n
overflow_mul-n c =
    let few =
    few_passed c.args.point.now c.min-count.result c.min-count.ensures (YieldsList-from_rev_slice (take c.min-count.result c.args.point.now) cc)
    c.loop-z.yielded _ c.loop-z.yielded_by _ _ _ c.in-Some.is c.next.ensures.steps in
    let fits = room _ c.loop-z.invariant few in
    omega arith

pub slice_bounds-spread-end : goal.slice_bounds-spread-end
slice_bounds-spread-end c =
    let few =
    few_passed c.args.point.now c.min-count.result c.min-count.ensures (YieldsList-from_rev_slice (take c.min-count.result c.args.point.now) cc)
    c.loop-z.yielded _ c.loop-z.yielded_by _ _ _ c.in-Some.is c.next.ensures.steps in
    let fits = room _ c.loop-z.invariant few in
    omega arith

pub slice_bounds-spread-end-in-loop-z : goal.slice_bounds-spread-end-in-loop-z
slice_bounds-spread-end-in-loop-z c =
    let few =
    few_passed c.args.point.now c.min-count.result c.min-count.ensures (YieldsList-from_rev_slice (take c.min-count.result c.args.point.now) cc)
    c.loop-z.yielded _ c.loop-z.yielded_by _ _ _ c.in-Some.is c.next.ensures.steps in
    let fits = room _ c.loop-z.invariant few in
    sym (length-take-le _ c.loop-z.table (omega arith))

pub loop-z-preserved : goal.loop-z-preserved
loop-z-preserved c =
    let few =
    few_passed c.args.point.now c.min-count.result c.min-count.ensures (YieldsList-from_rev_slice (take c.min-count.result c.args.point.now) cc)
    c.loop-z.yielded _ c.loop-z.yielded_by _ _ _ c.in-Some.is c.next.ensures.steps in
    rw (one_passed (λ (z : Bor ℕ). z.now) c.loop-z.yielded c.in-Some.field-0)
    (weigh_next _ c.loop-z.invariant few _ _ c.spread.ensures)
