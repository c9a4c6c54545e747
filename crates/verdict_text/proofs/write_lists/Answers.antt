-- `write_lists` meets its contract: a transcript without an output is refused, and another is the outputs and the messages for Check.
use Rattle.std.proofs.Common.{ℕ, sym, ap, ap₂, ◌∙◌, List, arith}
use mathlib.Core.Bool.{true≢false}
use borrow.Author.Tests.{eq-eqb, eqb-true}
use Rattle.text.proofs.Writing.{wrote_as}
use Rattle.protocol.specs.Check.{check_answer}
use Rattle.printing.specs.Printed.{answer_text}
use Rattle.verdict_text.specs.Verdict.{accepted_text}
use Rattle.verdict_text.proofs.Lists.{printed_empty, printed_checked}
use Rattle.verdict_text.proofs.write_lists.Goals as goal

pub returns-then-is_empty : goal.returns-then-is_empty
returns-then-is_empty c = wrote_as _ _ _ _ c.write_refused.ensures _ (printed_empty _ _ _ _ (eqb-true _ 0 (sym c.if-is_empty.ensures)))

pub returns : goal.returns
returns c =
    let a = c.args in
    wrote_as _ _ _ _ c.write_outcome.ensures _
    (ap (λ (n : ℕ). answer_text n accepted_text) c.check-outcome.ensures
    ∙ ap₂ (λ (ys ms : List ℕ). answer_text (check_answer a.circuit.now a.input.now ys a.coins.now ms) accepted_text) c.split_at.ensures.front c.split_at.ensures.back
    ∙ printed_checked _ _ _ _ _ (λ e. true≢false (sym (eq-eqb _ 0 e) ∙ sym c.if-is_empty.ensures))
    (omega (arith, c.min-count.ensures, c.layer_width.ensures)))
