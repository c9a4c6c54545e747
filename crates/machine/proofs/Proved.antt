-- Demand 3 of the machine.
-- Assumes nothing.
use Rattle.machine.specs.Theorems.{Demand3OfTheMachine}
use Rattle.machine.proofs.Contracts.{contracts_say}
use Rattle.machine.proofs.OfCode.{code_holds}
use Rattle.machine.proofs.OfLibrary.{library_holds}

pub proved : Demand3OfTheMachine
proved = record {
  contracts = contracts_say;
  code = code_holds;
  exported = library_holds;
}
