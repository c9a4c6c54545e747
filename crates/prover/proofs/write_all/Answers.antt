-- `write_all` meets its contract: the messages of the rounds before stand over the buffer's front, and the loops end where none is left. The
-- inner loop goes on with whatever buffer the outer one started from.
use Prim.Native.Nat.{ℕ, ◌+◌, ◌-◌, ◌≤◌}
use mathlib.Core.Path.{ap, ◌∙◌, subst}
use mathlib.Core.List.{List}
use native.Mathlib.Omega.{arith}
use lib.ListN.{length, take, drop}
use Rattle.lists.specs.Buffer.{over}
use Rattle.protocol.specs.Rounds.{place}
use Rattle.protocol.specs.Prove.{message_from}
use Rattle.protocol.proofs.Coins.{its_circuit}
use Rattle.standing.proofs.Loops.{first_layer}
use Rattle.prover.proofs.Values.{layer_values_lem, writable}
use Rattle.std.specs.Prelude.{Ok}
use Rattle.prover.proofs.Transcripts.{all_start, all_end, layer_starts, layer_ends}
use Rattle.prover.proofs.Transcripts.{is_due, round_place, enough, lent_room, next_round}
use borrow.Author.Rules.{rules}
use Rattle.prover.proofs.write_all.Goals as goal

pub loop-layer-init : goal.loop-layer-init
loop-layer-init c = (
  ap (λ (n : ℕ). n + 1) c.depth-layer-end.ensures.0,
  all_start _ _ _ _ c.args.job.counted c.requires _ (c.coins_before-n.ensures (first_layer _ (its_circuit c.args.job.counted))),
)

pub loop-round-init : goal.loop-round-init
loop-round-init c = (
  c.loop-layer.invariant.0,
  ap (λ (n : ℕ). n + 1) c.line_round-round-end.ensures,
  λ first h b. layer_starts _ _ _ first c.args.job.counted h b (omega (arith, c.loop-layer-test.true, c.loop-layer.invariant.0)),
)

pub overflow_add-at : goal.overflow_add-at
overflow_add-at c =
    let now = is_due _ _ _ _ c.args.job.counted c.requires (c.loop-round.invariant.2 _ c.requires c.loop-layer.invariant.1) c.loop-round.invariant.1 c.loop-round-test.true in
    let all : List ℕ = c.args.messages.now in
    let fits : c.loop-round.at + c.message_length-at.result ≤ length all = omega (arith, enough _ _ _ _ now, c.message_length-at.ensures) in
    search rules

pub loop-round-preserved : goal.loop-round-preserved
loop-round-preserved c =
    let a = c.args in
    let at = c.loop-round in
    let lists = c.args.job.counted.lists in
    let now = is_due _ _ _ _ c.args.job.counted c.requires (c.loop-round.invariant.2 _ c.requires c.loop-layer.invariant.1) c.loop-round.invariant.1 c.loop-round-test.true in
    let spot = round_place _ _ _ _ now in
    let part : List ℕ = take (length at.messages - at.at) (drop at.at at.messages) in
    let ready = writable _ _ lists _ c.fill_values-outputs.ensures.written _ _ _ part spot (lent_room _ _ _ _ now) in
    let same = layer_values_lem _ _ lists _ c.fill_values-outputs.ensures.written c.loop-layer.layer spot.last in
    let said : List ℕ → List ℕ = λ (vs : List ℕ). message_from a.job.circuit.now vs (place c.loop-layer.layer at.round) (take at.n a.job.coins.now) in (
      at.invariant.0,
      at.invariant.1,
      λ first h b. rw c.message_length-at.ensures
          (next_round _ _ _ first (is_due _ _ _ _ c.args.job.counted h (at.invariant.2 first h b) at.invariant.1 c.loop-round-test.true)
          (c.write_message.ensures ready ∙ ap (λ (vs : List ℕ). over (said vs) part) same)),
    )

pub loop-layer-preserved : goal.loop-layer-preserved
loop-layer-preserved c = (
  c.loop-round.invariant.0,
  layer_ends _ _ _ _ c.args.job.counted c.requires (c.loop-round.invariant.2 _ c.requires c.loop-layer.invariant.1)
      (subst (λ (i : ℕ). i ≤ c.loop-round.round) c.loop-round.invariant.1 c.loop-round-test.false),
)

pub returns : goal.returns
returns c =
    let done = all_end _ _ _ _ c.args.job.counted c.requires c.loop-layer.invariant.1 (omega (arith, c.loop-layer-test.false, c.loop-layer.invariant.0)) in
    record { words = ap Ok done.0; outputs = c.fill_values-outputs.ensures.answer; buffer = done.1 }
