-- The operations' answers in plain numbers: the refusal's, 0 where nothing is refused, and what is answered, 0 where it is refused.
-- Assumes nothing.
use Rattle.std.specs.Prelude.{ℕ, ◌≡◌, List, []}
use Rattle.short_list.specs.Short.{short}
use Rattle.refusal.specs.Number.{cause_of}
use Rattle.evaluation.specs.declared.Evaluated.{Evaluated}
use Rattle.xdr.specs.Read as read
use Rattle.evaluation.specs.Evaluate as evaluate
use Rattle.walk.specs.Session.{Answer, accepted, going_on, refused}
use Rattle.protocol.specs.Prove as prove
use Rattle.prover.specs.Answers.{message_of}
use Rattle.prover.specs.declared.Proof as prover
use Rattle.protocol.specs.Session.{OpenAnswer, opens, refuses, open_answer, step_answer}
use Rattle.kidlothe.specs.Record.{session_of, open_words, words_of_step}
use Rattle.kidlothe.specs.declared.Evaluation.{Evaluation}
use Rattle.kidlothe.specs.declared.Counts.{Counts}
use Rattle.kidlothe.specs.declared.Proof.{Proof}
use Rattle.kidlothe.specs.declared.Written.{Written}
use Rattle.kidlothe.specs.declared.Opening.{Opening}
use Rattle.kidlothe.specs.declared.Step.{Step}

abbrev pub plain_evaluation : evaluate.Evaluation → Evaluation
plain_evaluation (evaluate.evaluated ys) = record { refusal = 0; outputs = short ys }
plain_evaluation (evaluate.refused cause) = record { refusal = cause; outputs = short [] }

-- of the code's answer
abbrev pub plain_evaluated : Evaluated → Evaluation
plain_evaluated e = record { refusal = cause_of e.outcome; outputs = e.outputs }

pub record ExportsEvaluate (c input before : List ℕ) (r : Evaluation) (after : List ℕ) : Type 0 where
  pub answer : r ≡ plain_evaluation (evaluate.evaluate_answer c input before)
  pub buffer : after ≡ evaluate.evaluate_buffer c input before

abbrev pub plain_counts : read.Answer → Counts
plain_counts (read.counts a b c d) = record { refusal = 0; first = a; second = b; third = c; fourth = d }
plain_counts (read.refused cause) = record { refusal = cause; first = 0; second = 0; third = 0; fourth = 0 }

pub record ExportsRead (number : ℕ) (bytes before : List ℕ) (r : Counts) (after : List ℕ) : Type 0 where
  pub answer : r ≡ plain_counts (read.read_answer number bytes before)
  pub buffer : after ≡ read.read_buffer number bytes before

abbrev pub plain_proof : prove.Proof → Proof
plain_proof (prove.proved ys n) = record { refusal = 0; outputs = short ys; words = n }
plain_proof (prove.Proof.refused cause) = record { refusal = cause; outputs = short []; words = 0 }

pub record ExportsProve (c input cs before : List ℕ) (r : Proof) (after : List ℕ) : Type 0 where
  pub answer : r ≡ plain_proof (prove.prove_answer c input cs before)
  pub buffer : after ≡ prove.prove_buffer c input cs before

abbrev pub plain_written : prove.OneMessage → Written
plain_written (prove.wrote n) = record { refusal = 0; words = n }
plain_written (prove.OneMessage.refused cause) = record { refusal = cause; words = 0 }

-- of the code's whole proof: the number of words or the refusal, and the outputs
abbrev pub plain_proved : prover.Proof → Proof
plain_proved p =
    record { refusal = (plain_written (message_of p.words)).refusal; outputs = p.outputs; words = (plain_written (message_of p.words)).words }

pub record ExportsProveOne (c input prefix before : List ℕ) (r : Written) (after : List ℕ) : Type 0 where
  pub answer : r ≡ plain_written (prove.prove_one_answer c input prefix before)
  pub buffer : after ≡ prove.prove_one_buffer c input prefix before

abbrev pub plain_opening : OpenAnswer → Opening
plain_opening (opens us s) = record { refusal = 0; coins = short us }
plain_opening (refuses cause) = record { refusal = cause; coins = short [] }

pub record ExportsOpen (c input ys cs before : List ℕ) (r : Opening) (after : List ℕ) : Type 0 where
  pub answer : r ≡ plain_opening (open_answer c input ys cs)
  pub words : after ≡ open_words c input ys cs before

abbrev pub plain_step : Answer → Step
plain_step accepted = record { refusal = 0; accepted = 1; coin = 0 }
plain_step (going_on c) = record { refusal = 0; accepted = 0; coin = c }
plain_step (refused cause) = record { refusal = cause; accepted = 0; coin = 0 }

pub record ExportsStep (c input cs before m : List ℕ) (r : Step) (after : List ℕ) : Type 0 where
  pub answer : r ≡ plain_step (step_answer c input cs (session_of before) m).0
  pub words : after ≡ words_of_step before (step_answer c input cs (session_of before) m).1
