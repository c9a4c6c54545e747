-- `followed` meets its contract: fewer coins than come before any message are followed by none.
use mathlib.Core.Path.{sym, ap, ◌∙◌}
use mathlib.Core.Bool.{Bool, ◌&&◌}
use native.Mathlib.Omega.{arith}
use lib.Dec.{ltb}
use borrow.Author.Tests.{lt-leb}
use Rattle.circuit.specs.Circuit.{output_exponent, coin_count}
use Rattle.standing.proofs.Loops.{first_layer as first-of-layers}
use Rattle.prover.proofs.Following.{before_first}
use Rattle.prover.proofs.followed.Goals as goal

pub returns-else-coins_before-coins : goal.returns-else-coins_before-coins
returns-else-coins_before-coins c legal =
    let l = c.args.circuit.now in
    let n = c.args.coins in
    let start = before_first l legal _ (c.coins_before.ensures (first-of-layers l legal)) in
    lt-leb _ n c.if-coins_before-coins.false
    ∙ sym (ap (λ (b : Bool). b && ltb n (coin_count l)) (lt-leb (output_exponent l) n (omega (arith, start, c.if-coins_before-coins.false))))
