-- `put` meets its contract: i items stand over the front.
use Rattle.std.proofs.Common.{arith, ◌∙◌, length-take}
use lib.Seq.{get_or-take}
use Rattle.lists.proofs.Storing.{next_held}
use Rattle.lists.proofs.put.Goals as goal

pub loop-i-preserved : goal.loop-i-preserved
loop-i-preserved g c =
    let items = c.args.items.now in
    let n = c.min-count.result in
    let x = c.item-item.result in
    let cut = length-take n items in
    next_held items c.args.buffer.now c.loop-i.invariant x x (omega (arith, c.min-count.ensures, c.loop-i-test.true))
    (c.item-item.is ∙ get_or-take n items c.loop-i.i x (omega (arith, c.loop-i-test.true)))
