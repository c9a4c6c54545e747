-- `place_after` meets its contract: before each turn the coins are those before the layer and the rounds that are left.
use Rattle.std.proofs.Common.{arith}
use Rattle.standing.proofs.Loops.{first_layer as first-of-layers}
use Rattle.prover.proofs.Following.{first_there, before_first, first_layer, next_layer}
use Rattle.prover.proofs.place_after.Goals as goal

pub overflow_sub-round : goal.overflow_sub-round
overflow_sub-round c =
    let start = before_first _ c.requires.0 _ (c.coins_before.ensures (first-of-layers _ c.requires.0)) in
    let low = first_there c.args.circuit.now c.args.coins c.requires.1 in
    omega (arith, start, low)

pub loop-round-init : goal.loop-round-init
loop-round-init c = first_layer _ c.requires.0 _ _ c.requires.1 (c.coins_before.ensures (first-of-layers _ c.requires.0))

pub loop-round-preserved : goal.loop-round-preserved
loop-round-preserved c =
    let at = c.loop-round in
    next_layer _ c.requires.0 _ _ _ _ at.invariant.0 at.invariant.1 at.invariant.2 c.line_round-line.ensures c.requires.1 c.if-round-line.false
