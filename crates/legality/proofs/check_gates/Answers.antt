-- `check_gates` meets its contract: what is left from a gate on decides as all the gates do.
use Rattle.std.proofs.Common.{sym, ◌∙◌}
use Rattle.refusal.proofs.Order.{refused_first, legal_first}
use Rattle.refusal.proofs.Told.{passed_on}
use Rattle.legality.proofs.Checking.{gates_turn, gates_done}
use Rattle.legality.proofs.check_gates.Goals as goal

pub returns-in_err-check_gate : goal.returns-in_err-check_gate
returns-in_err-check_gate c =
    let a = c.args in
    let r = c.in_err-check_gate in
    passed_on _ _ c.from_residual.ensures.1
    (sym (c.loop-words.invariant ∙ gates_turn a.next a.gates.now _ _ c.loop-words-test.true c.from.ensures ∙ refused_first r.field-0.0 _ _ r.ensures))

pub loop-words-preserved : goal.loop-words-preserved
loop-words-preserved c =
    let a = c.args in
    c.loop-words.invariant ∙ gates_turn a.next a.gates.now _ _ c.loop-words-test.true c.from.ensures ∙ legal_first _ _ (sym c.in_ok-check_gate.ensures)

pub returns : goal.returns
returns c = sym (c.loop-words.invariant ∙ gates_done c.args.next c.args.gates.now _ c.loop-words-test.false)
