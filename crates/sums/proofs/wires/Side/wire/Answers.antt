-- `Side::wire` meets its contract: quotient and remainder by the shift, and the remainder's first bit turned, past the table's end from its
-- start.
use Prim.Native.Nat.{ℕ, ◌+◌, ◌%◌}
use mathlib.Core.Path.{◌≡◌, ap, ap₂, ◌∙◌}
use lib.Dec.{ltb}
use lib.ListN.{get_or}
use Rattle.sums.proofs.Cutting.{low_is, high_is, turned_within, turned_past}
use Rattle.sums.proofs.wires.Side.wire.Goals as goal
use Rattle.sums.proofs.wires.Side.wire.Goals.{then-up-cut, else-up-cut}

pub returns : goal.returns
returns c =
    let args = c.args in
    let low = low_is args.self.cut args.number in
    let turned : c.if-up-cut.turned ≡ (args.number + args.self.cut.half) % args.self.cut.size =
    elim c.if-up-cut.branch [
      | then-up-cut w ↦ w.turned-is ∙ turned_within args.self.cut args.number _ low w.if-up-cut.true
      | else-up-cut w ↦ w.turned-is ∙ turned_past args.self.cut args.number _ low w.if-up-cut.false
    ] in
    record {
      share = c.word.ensures ∙ ap (λ (n : ℕ). get_or args.self.shares.now n 0) (high_is args.self.cut args.number);
      own = c.word-2.ensures ∙ ap (λ (n : ℕ). get_or args.self.table.now n 0) low;
      other = c.word-3.ensures ∙ ap (λ (n : ℕ). get_or args.self.table.now n 0) turned;
      one = ap₂ ltb turned low;
    }
