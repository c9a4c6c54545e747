-- `check_lists` meets its contract: each return is one case of `lists_cause`.
use mathlib.Core.Path.{sym, ◌∙◌}
use Rattle.refusal.proofs.Told.{passed_on}
use Rattle.circuit.proofs.Legal.{below_told}
use Rattle.circuit.proofs.Loading.{legal_circuit, lists_load, lists_count, lists_word, lists_legal}
use Rattle.legality.proofs.check_lists.Goals as goal

pub returns-in_err-load : goal.returns-in_err-load
returns-in_err-load c =
    let r = c.in_err-load in
    passed_on _ _ c.from_residual.ensures.1 (sym (lists_load _ _ r.field-0.0 r.ensures))

pub input_count-requires : goal.input_count-requires
input_count-requires c = legal_circuit _ (sym c.in_ok-load.ensures)

pub returns-then-input-input_count : goal.returns-then-input-input_count
returns-then-input-input_count c =
    let a = c.args in
    sym (lists_count a.circuit.now a.input.now (sym c.in_ok-load.ensures) (λ e. c.if-input-input_count.true (e ∙ sym c.input_count.ensures)))

pub returns-then-not-all_below : goal.returns-then-not-all_below
returns-then-not-all_below c =
    let a = c.args in
    sym (lists_word a.circuit.now a.input.now (sym c.in_ok-load.ensures) (c.if-input-input_count.false ∙ c.input_count.ensures)
    (below_told a.input.now c.prime.ensures c.all_below.ensures ∙ c.if-not-all_below.true))

pub returns : goal.returns
returns c =
    let a = c.args in
    sym (lists_legal a.circuit.now a.input.now (sym c.in_ok-load.ensures) (c.if-input-input_count.false ∙ c.input_count.ensures)
    (below_told a.input.now c.prime.ensures c.all_below.ensures ∙ c.if-not-all_below.false))
