-- `fill_values` meets its contract: an evaluation of legal lists answers the outputs and leaves all values in the array.
use Rattle.prover.proofs.Values.{outputs_told, all_written}
use Rattle.prover.proofs.fill_values.Goals as goal

pub returns-clause-answer : goal.returns-clause-answer
returns-clause-answer c =
    let call = c.evaluate in
    outputs_told c.args.circuit.now c.args.input.now c.requires.0 c.args.values.now _ call.result c.requires.1 call.ensures

pub returns-clause-written : goal.returns-clause-written
returns-clause-written c =
    let call = c.evaluate in
    all_written c.args.circuit.now c.args.input.now c.requires.0 c.args.values.now _ call.result c.requires.1 call.ensures
