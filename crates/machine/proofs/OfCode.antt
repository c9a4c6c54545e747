-- Functions of the code's own types that keep the contracts simulate the definitions: each answer is told by its case, as the contract has it.
-- Assumes nothing.
use Prim.Native.Nat.{ℕ}
use mathlib.Core.Path.{◌≡◌, refl, sym, ap, ◌∙◌, subst}
use mathlib.Core.List.{List}
use Rattle.std.specs.Prelude.{⊤, Result, Ok, Err}
use Rattle.refusal.specs.Number.{cause_of}
use Rattle.refusal.specs.declared.Cause.{Cause}
use Rattle.refusal.proofs.Order.{refused_by}
use Rattle.walk.specs.Session.{refused, Record}
use Rattle.protocol.specs.Rounds.{Place}
use Rattle.short_list.specs.Short.{list_of}
use Rattle.session.specs.Answers.{record_of, opening_from}
use Rattle.session.specs.declared.Session.{Session}
use Rattle.machine.specs.Code.{Code, WordSession, KeepsContracts, outcome_answer, opening_begun, of_code}
use Rattle.machine.specs.Exported.{number_answer}
use Rattle.machine.specs.Theorems.{Demand3}
use Rattle.machine.proofs.Figures.{Figures, step_figures}
use Rattle.machine.proofs.Simulation.{begun_by, both, Simulates}
use Rattle.machine.proofs.Holds.{holds}

-- a cause has no number 0, so that accepted is told from refused by the number too
outcome_number : (x : Result ⊤ Cause) (n : ℕ) → cause_of x ≡ n → outcome_answer x ≡ number_answer n
outcome_number (Ok x) n e = ap number_answer e
outcome_number (Err cause) n e = refused_by number_answer refused (λ k. refl) cause n (sym e)

-- a record, as the code holds it
written : Record Place → Session
written s = record { layer = s.round.layer; round = s.round.round; claim = s.claim; «open» = s.opened }

opening_begun_lem : (x : Result Session Cause) (us : List ℕ) → opening_begun x us ≡ begun_by written (opening_from x us)
unfolding written
opening_begun_lem (Ok s) us = refl
opening_begun_lem (Err cause) us = refl

-- a session's figures are those of the record that it stands for
session_words_lem : (s : Session) (r : Record Place) → record_of s ≡ r → Figures r → WordSession s
session_words_lem s r e f =
    let own = subst Figures (sym e) f in
    record { layer = own.layer; round = own.round; claim = own.claim }

session_figures : (s : Session) → WordSession s → Figures (record_of s)
session_figures s w = record { layer = w.layer; round = w.round; claim = w.claim }

module _ (F : Code) (keeps : KeepsContracts F) where
  simulates : Simulates (of_code F) WordSession record_of
  unfolding of_code written
  simulates = record {
    check = λ c input ys cs ms w wy wm. outcome_number (F.check c input ys cs ms) _ (keeps.checks c input ys cs ms w wy wm);
    write = written;
    read_back = λ s. refl;
    stored = λ s f. session_words_lem (written s) s refl f;
    begin = λ c input ys cs w wy.
        let r = F.begin c input ys cs in
        opening_begun_lem r.session (list_of r.coins) ∙ ap (begun_by written) (keeps.opens c input ys cs w wy).answer;
    step = λ c input cs s m w ws wm. (keeps.steps c input cs s m w ws wm).answer;
    step_record = λ c input cs s m w ws wm. (keeps.steps c input cs s m w ws wm).after;
    step_stored = λ c input cs s m w ws wm.
        session_words_lem (F.step c input cs s m).session _ (keeps.steps c input cs s m w ws wm).after
        (step_figures c input w.circuit (record_of s) (session_figures s ws) m cs);
    prove = λ c input cs buffer w wb. both (keeps.proves c input cs buffer w wb).answer (keeps.proves c input cs buffer w wb).buffer;
    prove_one = λ c input prefix buffer w wb.
        both (keeps.proves_one c input prefix buffer w wb).answer (keeps.proves_one c input prefix buffer w wb).buffer;
  }

  pub code_holds : Demand3 (of_code F)
  code_holds = holds (of_code F) WordSession record_of simulates
