-- Functions of the code's own types, what it means that they keep the contracts of check, open, step, prove and prove_one, and the machine that
-- they are.
-- Assumes nothing.
use Rattle.std.specs.Prelude.{ℕ, ◌≡◌, ⊤, List, Result, Ok, Err}
use Rattle.refusal.specs.Number.{number_of, cause_of}
use Rattle.refusal.specs.declared.Cause.{Cause}
use Rattle.walk.specs.Session.{Answer, accepted, refused}
use Rattle.protocol.specs.Check.{check_answer}
use Rattle.short_list.specs.Short.{list_of}
use Rattle.session.specs.Answers.{Opens, verdict_of, Steps}
use Rattle.session.specs.declared.Opening.{Opening}
use Rattle.session.specs.declared.Session.{Session}
use Rattle.session.specs.declared.Stepped.{Stepped}
use Rattle.prover.specs.Answers.{proved_of, Proves, message_of, ProvesOne}
use Rattle.prover.specs.declared.Proof.{Proof}
use Rattle.machine.specs.Words.{Word, Words, WordLists}
use Rattle.machine.specs.Machine.{Begun, begun, declined, Machine}

pub record Code : Type 0 where
  pub check : List ℕ → List ℕ → List ℕ → List ℕ → List ℕ → Result ⊤ Cause
  pub begin : List ℕ → List ℕ → List ℕ → List ℕ → Opening
  pub step : List ℕ → List ℕ → List ℕ → Session → List ℕ → Stepped
  pub prove : List ℕ → List ℕ → List ℕ → List ℕ → Proof × List ℕ
  pub prove_one : List ℕ → List ℕ → List ℕ → List ℕ → Result ℕ Cause × List ℕ

-- THE CONTRACTS, as they stand in the code after `ensures`
abbrev pub Checks : List ℕ → List ℕ → List ℕ → List ℕ → List ℕ → Result ⊤ Cause → Type 0
Checks c input ys cs ms r = cause_of r ≡ check_answer c input ys cs ms

-- a value of the code's type `Session` has words as its figures
pub record WordSession (s : Session) : Type 0 where
  pub layer : Word s.layer
  pub round : Word s.round
  pub claim : Word s.claim

-- on all lists of words and all sessions of words
pub record KeepsContracts (F : Code) : Type 0 where
  pub checks : (c input ys cs ms : List ℕ) → WordLists c input cs → Words ys → Words ms → Checks c input ys cs ms (F.check c input ys cs ms)
  pub opens : (c input ys cs : List ℕ) → WordLists c input cs → Words ys → Opens c input ys cs (F.begin c input ys cs)
  pub steps : (c input cs : List ℕ) (s : Session) (m : List ℕ) → WordLists c input cs → WordSession s → Words m
      → Steps c input cs s m (F.step c input cs s m)
  pub proves : (c input cs buffer : List ℕ) → WordLists c input cs → Words buffer
      → Proves c input cs buffer (F.prove c input cs buffer).0 (F.prove c input cs buffer).1
  pub proves_one : (c input prefix buffer : List ℕ) → WordLists c input prefix → Words buffer
      → ProvesOne c input prefix buffer (F.prove_one c input prefix buffer).0 (F.prove_one c input prefix buffer).1

-- THE MACHINE: answers by their case, and a session is kept in the code's own record
abbrev pub outcome_answer : Result ⊤ Cause → Answer
outcome_answer (Ok _) = accepted
outcome_answer (Err cause) = refused (number_of cause)

abbrev pub opening_begun : Result Session Cause → List ℕ → Begun Session
opening_begun (Ok s) us = begun us s
opening_begun (Err cause) us = declined (number_of cause)

unfoldable pub of_code : Code → Machine Session
of_code F = record {
  check = λ c input ys cs ms. outcome_answer (F.check c input ys cs ms);
  begin = λ c input ys cs.
      let r = F.begin c input ys cs in
      opening_begun r.session (list_of r.coins);
  step = λ c input cs s m. (verdict_of (F.step c input cs s m).verdict, (F.step c input cs s m).session);
  prove = λ c input cs buffer. (proved_of (F.prove c input cs buffer).0, (F.prove c input cs buffer).1);
  prove_one = λ c input prefix buffer. (message_of (F.prove_one c input prefix buffer).0, (F.prove_one c input prefix buffer).1);
}
