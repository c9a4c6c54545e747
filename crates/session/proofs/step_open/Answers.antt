-- `step_open` meets its contract: the coins before the round and the judgement are those of the definition.
use Rattle.std.proofs.Common.{ℕ, ◌+◌, get_or, length-take-le, sym, ap, ◌∙◌, arith}
use Rattle.algebra.specs.Numbers.{words}
use Rattle.algebra.specs.Polynomial.{value_at}
use Rattle.refusal.proofs.Told.{refusal_told, none_told}
use Rattle.circuit.proofs.Layers.{prime_modulus}
use Rattle.protocol.proofs.Coins.{its_circuit}
use Rattle.session.proofs.Coming.{number_is, coins_few, coin_inside, at_round, refused_open, passed_open}
use Rattle.session.proofs.step_open.Goals as goal

pub overflow_add-n : goal.overflow_add-n
overflow_add-n c =
    let few = coins_few _ c.args.job.counted c.requires _ (number_is _ c.args.job.counted c.requires c.place-place.ensures c.coins_before.ensures) in
    omega arith

pub slice_bounds-round-end : goal.slice_bounds-round-end
slice_bounds-round-end c =
    let there = coin_inside _ c.args.job.counted c.requires _ (number_is _ c.args.job.counted c.requires c.place-place.ensures c.coins_before.ensures) in
    sym (length-take-le _ _ (omega arith))

pub returns-in-Err : goal.returns-in-Err
returns-in-Err c =
    let same = c.place-place.ensures in
    let counted = number_is _ c.args.job.counted c.requires same c.coins_before.ensures in
    let judged = c.judge-judged.ensures (at_round _ c.args.job.counted c.requires _ counted same) in
    refused_open _ c.args.job.counted c.requires _ counted c.args.message.now _ same (refusal_told c.in-Err.is judged) _ c.refusal.ensures.0
    (c.refusal.ensures.1 ∙ c.ended.ensures)

pub offset_bounds-job-n : goal.offset_bounds-job-n
offset_bounds-job-n c =
    let few = coins_few _ c.args.job.counted c.requires _ (number_is _ c.args.job.counted c.requires c.place-place.ensures c.coins_before.ensures) in
    omega arith

pub bounds-job-n : goal.bounds-job-n
bounds-job-n c =
    let there = coin_inside _ c.args.job.counted c.requires _ (number_is _ c.args.job.counted c.requires c.place-place.ensures c.coins_before.ensures) in
    omega arith

pub returns : goal.returns
returns c =
    let m = c.args.message.now in
    let here = c.place-place.ensures in
    let n : ℕ = c.coins_before.result + c.place-place.result.round in
    let number = number_is _ c.args.job.counted c.requires here c.coins_before.ensures in
    let f = prime_modulus _ (its_circuit c.args.job.counted) _ c.field.ensures in
    let y = c.value_at-claim.ensures ∙ ap (λ (p : ℕ). value_at (words p) m (get_or c.args.job.coins.now n 0)) f in
    let passed = none_told c.in_default.is (c.judge-judged.ensures (at_round _ c.args.job.counted c.requires n number here)) in
    passed_open _ c.args.job.counted c.requires n number m here passed _ (rw y at c.go_on.ensures)
