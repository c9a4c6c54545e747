-- `write_messages` meets its contract: the lines written and those left are the whole; the loops end where none is left.
use Prim.Native.Nat.{ℕ, ◌+◌, ◌≤◌}
use mathlib.Core.Path.{ap, subst}
use native.Mathlib.Omega.{arith}
use Rattle.text.proofs.Writing.{wrote_within}
use Rattle.transcript_text.proofs.Messages.{lines_start, lines_end}
use Rattle.transcript_text.proofs.Messages.{is_due, layer_starts, layer_ends, words_there, round_done}
use lib.ListN.{length}
use borrow.Author.Rules.{rules}
use Rattle.transcript_text.proofs.write_messages.Goals as goal

pub loop-layer-init : goal.loop-layer-init
loop-layer-init c = (ap (λ (n : ℕ). n + 1) c.depth-layer-end.ensures.0, lines_start _ _ _ c.requires.0 c.requires.1)

pub loop-round-init : goal.loop-round-init
loop-round-init c = (
  ap (λ (n : ℕ). n + 1) c.line_round-round-end.ensures,
  λ before b. layer_starts _ _ before c.requires.0 b (omega (arith, c.loop-layer.invariant.0, c.loop-layer-test.true)),
)

pub overflow_add-end : goal.overflow_add-end
overflow_add-end c =
    let due = is_due _ _ _ c.requires.0 (c.loop-round.invariant.1 _ c.loop-layer.invariant.1) c.loop-round.invariant.0 c.loop-round-test.true in
    let room : c.loop-round.at + c.message_length.result ≤ length c.args.messages.now = omega (arith, words_there _ _ _ due, c.message_length.ensures) in
    search rules

pub offset_bounds-messages-at : goal.offset_bounds-messages-at
offset_bounds-messages-at c =
    let due = is_due _ _ _ c.requires.0 (c.loop-round.invariant.1 _ c.loop-layer.invariant.1) c.loop-round.invariant.0 c.loop-round-test.true in
    let room : c.loop-round.at + c.message_length.result ≤ length c.args.messages.now = omega (arith, words_there _ _ _ due, c.message_length.ensures) in
    search rules

pub slice_bounds-write_message-end : goal.slice_bounds-write_message-end
slice_bounds-write_message-end c =
    let due = is_due _ _ _ c.requires.0 (c.loop-round.invariant.1 _ c.loop-layer.invariant.1) c.loop-round.invariant.0 c.loop-round-test.true in
    let room : c.loop-round.at + c.message_length.result ≤ length c.args.messages.now = omega (arith, words_there _ _ _ due, c.message_length.ensures) in
    search rules

pub slice_bounds-write_message-count-in-loop-round : goal.slice_bounds-write_message-count-in-loop-round
slice_bounds-write_message-count-in-loop-round c =
    let within = wrote_within _ _ _ _ (c.loop-round.invariant.1 _ c.loop-layer.invariant.1).stands.left.wrote in
    search rules

pub slice_bounds-write_message-start-in-loop-round : goal.slice_bounds-write_message-start-in-loop-round
slice_bounds-write_message-start-in-loop-round c =
    let within = wrote_within _ _ _ _ (c.loop-round.invariant.1 _ c.loop-layer.invariant.1).stands.left.wrote in
    search rules

pub loop-round-preserved : goal.loop-round-preserved
loop-round-preserved c =
    let wide = c.message_length.ensures in (
      c.loop-round.invariant.0,
      λ before b. rw wide
          (round_done _ _ before (is_due _ _ before c.requires.0 (c.loop-round.invariant.1 before b) c.loop-round.invariant.0 c.loop-round-test.true)
          (rw wide at c.write_message-to.ensures)),
    )

pub loop-layer-preserved : goal.loop-layer-preserved
loop-layer-preserved c = (
  c.loop-layer.invariant.0,
  layer_ends _ _ _ c.requires.0 (c.loop-round.invariant.1 _ c.loop-layer.invariant.1)
      (subst (λ (i : ℕ). i ≤ c.loop-round.round) c.loop-round.invariant.0 c.loop-round-test.false),
)

pub returns : goal.returns
returns c = lines_end _ _ _ c.requires.0 c.loop-layer.invariant.1 (omega (arith, c.loop-layer.invariant.0, c.loop-layer-test.false))
