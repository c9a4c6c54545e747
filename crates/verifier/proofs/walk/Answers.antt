-- `walk` meets its contract: what is left before a layer, or before a round, is the whole walk; the loops end where nothing is left or a
-- message is refused.
use Rattle.std.proofs.Common.{ℕ, ◌+◌, ◌-◌, ◌≤◌, take, drop, get_or, ap, ◌∙◌, subst, arith}
use Rattle.algebra.specs.Numbers.{words as words_of}
use Rattle.algebra.specs.Polynomial.{value_at}
use Rattle.refusal.proofs.Told.{refusal_told, none_told}
use Rattle.circuit.specs.Circuit.{depth as depth_of}
use Rattle.circuit.proofs.Layers.{prime_modulus}
use Rattle.protocol.proofs.Coins.{its_circuit}
use Rattle.standing.proofs.Loops.{first_layer, layer_starts, layer_ends}
use Rattle.verifier.proofs.Walking.{due, walk_starts, walk_ends, coin_there, words_there, round_place, round_passes, round_refuses}
use Rattle.verifier.proofs.walk.Goals as goal

pub walk-init : goal.walk-init
walk-init c =
    let legal = its_circuit c.args.job.counted in
    walk_starts _ c.args.job.counted c.requires _ (c.coins_before-n.ensures (first_layer _ legal))

pub loop-round-init : goal.loop-round-init
loop-round-init c =
    let legal = its_circuit c.args.job.counted in
    let low : c.walk.layer ≤ depth_of c.args.job.circuit.now = omega (arith, c.if-depth-layer.false, c.depth-depth.ensures.0) in
    (ap (λ (n : ℕ). n + 1) c.line_round-round-end.ensures, layer_starts _ legal c.walk.invariant low)

pub overflow_add-end : goal.overflow_add-end
overflow_add-end c =
    let d = due _ c.args.job.counted c.loop-round.invariant.1 c.loop-round.invariant.0 c.loop-round-test.true in
    let there = words_there _ d in
    omega (arith, c.message_length.ensures)

pub slice_bounds-message-end : goal.slice_bounds-message-end
slice_bounds-message-end c =
    let d = due _ c.args.job.counted c.loop-round.invariant.1 c.loop-round.invariant.0 c.loop-round-test.true in
    let there = words_there _ d in
    omega (arith, c.message_length.ensures)

pub bounds-job-n : goal.bounds-job-n
bounds-job-n c =
    let d = due _ c.args.job.counted c.loop-round.invariant.1 c.loop-round.invariant.0 c.loop-round-test.true in
    let there = coin_there _ d in
    omega arith

pub loop-round-preserved : goal.loop-round-preserved
loop-round-preserved c =
    let r = c.loop-round in
    let d = due _ c.args.job.counted r.invariant.1 r.invariant.0 c.loop-round-test.true in
    let wide = c.message_length in
    let legal = its_circuit c.args.job.counted in
    let m = take (r.at + wide.result - r.at) (drop r.at c.args.messages.now) in
    let f = prime_modulus _ legal _ c.field-f.ensures in
    let passed = none_told c.in_default.is (c.judge-judged.ensures (round_place _ d)) in (
      r.invariant.0,
      round_passes _ d wide.result wide.ensures c.value_at-claim.result passed
          (c.value_at-claim.ensures ∙ ap (λ (p : ℕ). value_at (words_of p) m (get_or c.args.job.coins.now r.n 0)) f),
    )

pub walk-preserved : goal.walk-preserved
walk-preserved c =
    let legal = its_circuit c.args.job.counted in
    layer_ends _ legal c.loop-round.invariant.1 (subst (λ (i : ℕ). i ≤ c.loop-round.round) c.loop-round.invariant.0 c.loop-round-test.false)

pub returns-then-depth-layer : goal.returns-then-depth-layer
returns-then-depth-layer c =
    c.finish.ensures ∙ walk_ends _ c.args.job.counted c.walk.invariant (omega (arith, c.if-depth-layer.true, c.depth-depth.ensures.0))

pub returns-in-Err : goal.returns-in-Err
returns-in-Err c =
    let d = due _ c.args.job.counted c.loop-round.invariant.1 c.loop-round.invariant.0 c.loop-round-test.true in
    let wide = c.message_length in
    round_refuses _ d wide.result wide.ensures c.in-Err.cause (refusal_told c.in-Err.is (c.judge-judged.ensures (round_place _ d)))
