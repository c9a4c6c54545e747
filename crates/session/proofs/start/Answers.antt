-- `start` meets its contract: refusal by refusal, then the claim.
use Rattle.std.proofs.Common.{sym}
use Rattle.refusal.proofs.Told.{refused_is}
use Rattle.circuit.proofs.Loading.{legal_lists}
use Rattle.session.proofs.Opens.{start_lists, start_outputs, start_coins, starts_refused, start_none, start_claim}
use Rattle.session.proofs.start.Goals as goal

pub returns-in_err-check_lists : goal.returns-in_err-check_lists
returns-in_err-check_lists c =
    starts_refused _ _ _ _ _ _ (refused_is _ _ c.from_residual.ensures.1) (start_lists _ _ _ _ _ c.in_err-check_lists.ensures)

pub returns-in_err-check_outputs : goal.returns-in_err-check_outputs
returns-in_err-check_outputs c =
    let legal = sym c.in_ok-check_lists.ensures in
    starts_refused _ _ _ _ _ _ (refused_is _ _ c.from_residual-in_err-check_outputs.ensures.1)
    (start_outputs _ _ _ _ _ legal (c.in_err-check_outputs.ensures (legal_lists _ _ legal).circuit))

pub returns-in_err-check_coins : goal.returns-in_err-check_coins
returns-in_err-check_coins c =
    let legal = sym c.in_ok-check_lists.ensures in
    let circuit = (legal_lists _ _ legal).circuit in
    starts_refused _ _ _ _ _ _ (refused_is _ _ c.from_residual-in_err-check_coins.ensures.1)
    (start_coins _ _ _ _ _ legal (sym (c.in_ok-check_outputs.ensures circuit)) (c.in_err-check_coins.ensures circuit))

pub returns : goal.returns
returns c =
    let a = c.args in
    let legal = sym c.in_ok-check_lists.ensures in
    let circuit = (legal_lists _ _ legal).circuit in
    let none = start_none a.circuit.now a.input.now a.outputs.now a.coins.now legal (sym (c.in_ok-check_outputs.ensures circuit)) (sym (c.in_ok-check_coins.ensures circuit)) in
    record {
      cause = sym none;
      claim = start_claim a.circuit.now a.input.now a.outputs.now a.coins.now _ _ _ none c.field-f.ensures c.first_point-point.ensures c.extend.ensures;
    }
