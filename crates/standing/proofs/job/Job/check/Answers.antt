-- `check` meets its contract: refusal by refusal, and a job where there is none.
use Rattle.std.proofs.Common.{sym, ◌∙◌}
use Rattle.refusal.proofs.Told.{passed_on}
use Rattle.refusal.proofs.Order.{legal_first}
use Rattle.circuit.proofs.Loading.{legal_lists}
use Rattle.protocol.proofs.Coins.{coin_list}
use Rattle.standing.proofs.job.Job.check.Goals as goal

pub returns-in_err-check_coins-clause-answer : goal.returns-in_err-check_coins-clause-answer
returns-in_err-check_coins-clause-answer c =
    let none = sym c.in_ok-check_lists.ensures in
    passed_on _ _ c.from_residual-in_err-check_coins.ensures.1 (c.in_err-check_coins.ensures (legal_lists _ _ none).circuit) ∙ sym (legal_first _ _ none)

pub invariant_of-result : goal.invariant_of-result
invariant_of-result c =
    let none = sym c.in_ok-check_lists.ensures in
    let coins = sym (c.in_ok-check_coins.ensures (legal_lists _ _ none).circuit) in
    record { counted = record { lists = none; coins = (coin_list _ _ 0 coins).0 } }

pub returns-clause-answer : goal.returns-clause-answer
returns-clause-answer c =
    let none = sym c.in_ok-check_lists.ensures in
    c.in_ok-check_coins.ensures (legal_lists _ _ none).circuit ∙ sym (legal_first _ _ none)
