-- `put_numbers` meets its contract: after i turns the first i numbers are written.
use Rattle.std.proofs.Common.{arith}
use Rattle.text.proofs.Writing.{wrote_as, wrote_more, numbers_none, numbers_next}
use Rattle.text.proofs.put_numbers.Goals as goal

pub loop-number-init : goal.loop-number-init
loop-number-init c = numbers_none c.args.buffer.now

pub loop-number-preserved : goal.loop-number-preserved
loop-number-preserved c =
    wrote_as _ _ _ _ (wrote_more _ _ _ _ c.loop-number.invariant _ _ _ c.put_number-at.ensures) _
    (numbers_next c.args.numbers.now c.loop-number.number-index (omega arith))
