-- `check_gate` meets its contract: each return is one case of `gate_cause`.
use Rattle.std.proofs.Common.{sym, ap, ◌∙◌}
use Rattle.refusal.specs.Number.{number_of}
use Rattle.refusal.proofs.Told.{passed_on}
use Rattle.circuit.proofs.Legal.{gate_kind, gate_known}
use Rattle.layout.proofs.KindNumbers.{known}
use Rattle.legality.proofs.check_gate.Goals as goal

pub returns-in_err-try_from : goal.returns-in_err-try_from
returns-in_err-try_from c =
    let r = c.in_err-try_from in
    passed_on _ _ c.from_residual.ensures.1 (ap number_of r.ensures.0 ∙ sym (gate_kind _ _ _ _ r.ensures.1))

pub returns-then-not-wires_good : goal.returns-then-not-wires_good
returns-then-not-wires_good c = sym (gate_known _ _ _ _ (known _ _ c.in_ok-try_from.ensures) c.if-not-wires_good.ensures)

pub returns : goal.returns
returns c = sym (gate_known _ _ _ _ (known _ _ c.in_ok-try_from.ensures) c.if-not-wires_good.ensures)
