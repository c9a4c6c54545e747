-- The hypotheses of demand 3 are the contracts' own text: what a caller of each function learns, as it is read off the `ensures` in the code, is what
-- `KeepsContracts` and `KeepsExports` say of it; and what is asked of a caller, by a `requires`, is nothing. A weaker `ensures` does not fit, and
-- no `requires` does. `Dens` are the arguments, `AtExit` what is lent, when the call is over.
-- Assumes nothing.
use Rattle.std.specs.Prelude.{ℕ, ⊤, Result}
use contract.Lifetimes.{Lfts}
use borrow.Fn.Kinds.{Dens, ended_of}
use denote.Triple.Clauses.{AtExit}
use Rattle.refusal.specs.declared.Cause.{Cause}
use Rattle.session.specs.Answers.{Opens, Steps}
use Rattle.session.specs.declared.Opening.{Opening}
use Rattle.session.specs.declared.Stepped.{Stepped}
use Rattle.session.proofs.«open».Kinds as opening
use Rattle.session.proofs.«open».Reads as opens
use Rattle.session.proofs.step.Kinds as stepping
use Rattle.session.proofs.step.Reads as steps
use Rattle.verifier.proofs.check.Kinds as checking
use Rattle.verifier.proofs.check.Reads as checks
use Rattle.prover.specs.Answers.{Proves, ProvesOne}
use Rattle.prover.specs.declared.Proof as whole
use Rattle.prover.proofs.prove.Kinds as proving
use Rattle.prover.proofs.prove.Reads as proves
use Rattle.prover.proofs.prove_one.Kinds as proving-one
use Rattle.prover.proofs.prove_one.Reads as proves_one
use Rattle.kidlothe.specs.Answers.{ExportsProve, ExportsProveOne, ExportsOpen, ExportsStep}
use Rattle.kidlothe.specs.declared.Proof.{Proof}
use Rattle.kidlothe.specs.declared.Written.{Written}
use Rattle.kidlothe.specs.declared.Opening.{Opening as Opened}
use Rattle.kidlothe.specs.declared.Step.{Step}
use Rattle.kidlothe.proofs.kidlothe_check.Kinds as checking-export
use Rattle.kidlothe.proofs.kidlothe_check.Reads as exports-check
use Rattle.kidlothe.proofs.kidlothe_open.Kinds as opening-export
use Rattle.kidlothe.proofs.kidlothe_open.Reads as exports-open
use Rattle.kidlothe.proofs.kidlothe_step.Kinds as stepping-export
use Rattle.kidlothe.proofs.kidlothe_step.Reads as exports-step
use Rattle.kidlothe.proofs.kidlothe_prove.Kinds as proving-export
use Rattle.kidlothe.proofs.kidlothe_prove.Reads as exports-prove
use Rattle.kidlothe.proofs.kidlothe_prove_one.Kinds as proving-one-export
use Rattle.kidlothe.proofs.kidlothe_prove_one.Reads as exports-prove-one
use Rattle.machine.specs.Code.{Checks}
use Rattle.machine.specs.Exported.{ExportsCheck}

pub record ContractsSay : Type 0 where
  -- THE OPERATIONS
  pub check : (κs : Lfts 5) (a : Dens κs checking.ps) (x : Result ⊤ Cause) (e : AtExit (ended_of 5 checking.ps checking.r) κs) → checks.Learnt κs a x e
      → Checks a.0.now a.1.0.now a.1.1.0.now a.1.1.1.0.now a.1.1.1.1.0.now x
  pub check_asks : (κs : Lfts 5) (a : Dens κs checking.ps) → checks.Asked κs a
  pub begin : (κs : Lfts 4) (a : Dens κs opening.ps) (x : Opening) (e : AtExit (ended_of 4 opening.ps opening.r) κs) → opens.Learnt κs a x e
      → Opens a.0.now a.1.0.now a.1.1.0.now a.1.1.1.0.now x
  pub begin_asks : (κs : Lfts 4) (a : Dens κs opening.ps) → opens.Asked κs a
  pub step : (κs : Lfts 4) (a : Dens κs stepping.ps) (x : Stepped) (e : AtExit (ended_of 4 stepping.ps stepping.r) κs) → steps.Learnt κs a x e
      → Steps a.0.now a.1.0.now a.1.1.0.now a.1.1.1.0 a.1.1.1.1.0.now x
  pub step_asks : (κs : Lfts 4) (a : Dens κs stepping.ps) → steps.Asked κs a
  pub prove : (κs : Lfts 4) (a : Dens κs proving.ps) (x : whole.Proof) (e : AtExit (ended_of 4 proving.ps proving.r) κs) → proves.Learnt κs a x e
      → Proves a.0.now a.1.0.now a.1.1.0.now a.1.1.1.0.now x e.1.1.1.0.now
  pub prove_asks : (κs : Lfts 4) (a : Dens κs proving.ps) → proves.Asked κs a
  pub prove_one : (κs : Lfts 4) (a : Dens κs proving-one.ps) (x : Result ℕ Cause) (e : AtExit (ended_of 4 proving-one.ps proving-one.r) κs)
      → proves_one.Learnt κs a x e
      → ProvesOne a.0.now a.1.0.now a.1.1.0.now a.1.1.1.0.now x e.1.1.1.0.now
  pub prove_one_asks : (κs : Lfts 4) (a : Dens κs proving-one.ps) → proves_one.Asked κs a
  -- THE EXPORTED FUNCTIONS
  pub exported_check : (κs : Lfts 5) (a : Dens κs checking-export.ps) (x : ℕ) (e : AtExit (ended_of 5 checking-export.ps checking-export.r) κs)
      → exports-check.Learnt κs a x e
      → ExportsCheck a.0.now a.1.0.now a.1.1.0.now a.1.1.1.0.now a.1.1.1.1.0.now x
  pub exported_check_asks : (κs : Lfts 5) (a : Dens κs checking-export.ps) → exports-check.Asked κs a
  pub exported_begin : (κs : Lfts 5) (a : Dens κs opening-export.ps) (x : Opened) (e : AtExit (ended_of 5 opening-export.ps opening-export.r) κs)
      → exports-open.Learnt κs a x e
      → ExportsOpen a.0.now a.1.0.now a.1.1.0.now a.1.1.1.0.now a.1.1.1.1.0.now x e.1.1.1.1.0.now
  pub exported_begin_asks : (κs : Lfts 5) (a : Dens κs opening-export.ps) → exports-open.Asked κs a
  pub exported_step : (κs : Lfts 5) (a : Dens κs stepping-export.ps) (x : Step) (e : AtExit (ended_of 5 stepping-export.ps stepping-export.r) κs)
      → exports-step.Learnt κs a x e
      → ExportsStep a.0.now a.1.0.now a.1.1.0.now a.1.1.1.0.now a.1.1.1.1.0.now x e.1.1.1.0.now
  pub exported_step_asks : (κs : Lfts 5) (a : Dens κs stepping-export.ps) → exports-step.Asked κs a
  pub exported_prove : (κs : Lfts 4) (a : Dens κs proving-export.ps) (x : Proof) (e : AtExit (ended_of 4 proving-export.ps proving-export.r) κs)
      → exports-prove.Learnt κs a x e
      → ExportsProve a.0.now a.1.0.now a.1.1.0.now a.1.1.1.0.now x e.1.1.1.0.now
  pub exported_prove_asks : (κs : Lfts 4) (a : Dens κs proving-export.ps) → exports-prove.Asked κs a
  pub exported_prove_one : (κs : Lfts 4) (a : Dens κs proving-one-export.ps) (x : Written) (e : AtExit (ended_of 4 proving-one-export.ps proving-one-export.r) κs)
      → exports-prove-one.Learnt κs a x e
      → ExportsProveOne a.0.now a.1.0.now a.1.1.0.now a.1.1.1.0.now x e.1.1.1.0.now
  pub exported_prove_one_asks : (κs : Lfts 4) (a : Dens κs proving-one-export.ps) → exports-prove-one.Asked κs a
