-- Functions that keep the contracts of the exported ones simulate the definitions: numbers are read back to the answers that they were written for,
-- and four words to the record that they stand for.
-- Assumes nothing.
use Prim.Native.Nat.{ℕ, zero, suc, ◌<◌}
use mathlib.Core.Path.{◌≡◌, refl, sym, ap, ap₂, ◌∙◌, subst}
use mathlib.Core.Bool.{Bool, true, false, cond}
use mathlib.Core.List.{List}
use native.Mathlib.Omega.{arith}
use lib.Dec.{eqb, ltb}
use lib.ListN.{length, get_or, get_or-eq_default}
use borrow.Author.Tests.{ltb-true, ltb-false}
use Rattle.lists.proofs.Each.{all_at}
use Rattle.walk.specs.Session.{Answer, accepted, going_on, refused, Record}
use Rattle.protocol.specs.Rounds.{Place}
use Rattle.protocol.specs.Session.{opened_by, open_cause, opened_at, open_answer, step_answer}
use Rattle.protocol.specs.Prove.{Proof, proved, proof_of, one_of, prove_cause, prove_answer, prove_one_cause, prove_one_answer}
use Rattle.protocol.proofs.Refusing.{refused_step, closed_stays}
use Rattle.kidlothe.specs.Record.{session_of, session_words, open_words, words_of_step}
use Rattle.kidlothe.specs.Answers.{plain_proof, plain_written, plain_opening, plain_step}
use Rattle.kidlothe.specs.declared.Proof as plain
use Rattle.kidlothe.specs.declared.Written.{Written}
use Rattle.kidlothe.specs.declared.Opening.{Opening}
use Rattle.kidlothe.specs.declared.Step.{Step}
use Rattle.short_list.specs.Short.{list_of}
use Rattle.short_list.proofs.Short.{held}
use Rattle.protocol.specs.Start.{first_point}
use Rattle.machine.specs.Machine.{Begun, begun}
use Rattle.machine.specs.Words.{Word, Words}
use Rattle.machine.specs.Exported.{FourWords, Library, KeepsExports, number_answer, number_begun, step_answer_by, of_library}
use Rattle.machine.specs.Theorems.{Demand3}
use Rattle.machine.proofs.Figures.{Figures, step_figures}
use Rattle.machine.proofs.Simulation.{begun_by, both, Simulates}
use Rattle.machine.proofs.Holds.{holds}

-- A SESSION'S WORDS stand for the record that they were written for
round_trip : (s : Record Place) → session_of (session_words s) ≡ s
round_trip s = go s.opened
  where
    go : (b : Bool) → session_of (session_words (record { round = s.round; claim = s.claim; opened = b })) ≡ record { round = s.round; claim = s.claim; opened = b }
    go true = refl
    go false = refl

step_words : (c input cs ws m : List ℕ) → session_of (words_of_step ws (step_answer c input cs (session_of ws) m).1) ≡ (step_answer c input cs (session_of ws) m).1
step_words c input cs ws m = go (session_of ws).opened refl
  where
    after : Record Place
    after = (step_answer c input cs (session_of ws) m).1

    go : (b : Bool) → (session_of ws).opened ≡ b → session_of (cond b (session_words after) ws) ≡ after
    go true e = round_trip after
    go false e = sym (closed_stays c input cs (session_of ws) m e)

-- an opening in plain numbers, with the words that it leaves
abbrev told_as : Opening → List ℕ → Begun (List ℕ)
told_as r ws = number_begun r.refusal (list_of r.coins) ws

open_words_lem : (c input ys cs ws : List ℕ)
    → told_as (plain_opening (open_answer c input ys cs)) (open_words c input ys cs ws) ≡ begun_by session_words (open_answer c input ys cs)
unfolding open_answer
open_words_lem c input ys cs ws = go (open_cause c input ys cs)
  where
    us : List ℕ
    us = first_point c cs

    s : Record Place
    s = opened_at c ys cs

    go : (n : ℕ) → told_as (plain_opening (opened_by n us s)) (cond (eqb n 0) (session_words s) ws) ≡ begun_by session_words (opened_by n us s)
    go zero = ap (λ (l : List ℕ). begun l (session_words s)) (held us)
    go (suc n) = refl

-- NUMBERS: a refusal's is above 0, so that it is told from the rest
step_numbers : (a : Answer) → ((cause : ℕ) → a ≡ refused cause → 0 < cause)
    → step_answer_by (plain_step a).refusal (plain_step a).accepted (plain_step a).coin ≡ a
step_numbers accepted h = refl
step_numbers (going_on t) h = refl
step_numbers (refused zero) h = absurd (omega (arith, h 0 refl))
step_numbers (refused (suc n)) h = refl

abbrev proof_told : plain.Proof → Proof
proof_told r = proof_of r.refusal (list_of r.outputs) r.words

proof_numbers : (cause : ℕ) (ys : List ℕ) (n : ℕ) → proof_told (plain_proof (proof_of cause ys n)) ≡ proof_of cause ys n
proof_numbers zero ys n = ap (λ (l : List ℕ). proved l n) (held ys)
proof_numbers (suc cause) ys n = refl

message_numbers : (cause n : ℕ) → one_of (plain_written (one_of cause n)).refusal (plain_written (one_of cause n)).words ≡ one_of cause n
message_numbers zero n = refl
message_numbers (suc cause) n = refl

-- FOUR WORDS for a record whose figures are words
four_words : (s : Record Place) → Figures s → FourWords (session_words s)
four_words s f = record { four = refl; words = (f.layer, (f.round, (f.claim, (flag s.opened, tt)))) }
  where
    flag : (b : Bool) → Word (cond b 1 0)
    flag true = omega arith
    flag false = omega arith

its_figures : (ws : List ℕ) → FourWords ws → Figures (session_of ws)
its_figures ws f = record { layer = word 0; round = word 1; claim = word 2 }
  where
    word : (i : ℕ) → Word (get_or ws i 0)
    word i = go (ltb i (length ws)) refl
      where
        go : (b : Bool) → ltb i (length ws) ≡ b → Word (get_or ws i 0)
        go true e = all_at Word ws i 0 (ltb-true i (length ws) e) f.words
        go false e = subst Word (sym (get_or-eq_default ws 0 (ltb-false i (length ws) e))) (omega arith)

step_stored : (c input cs ws m : List ℕ) → Words c → FourWords ws → FourWords (words_of_step ws (step_answer c input cs (session_of ws) m).1)
step_stored c input cs ws m w f = go (session_of ws).opened
  where
    go : (b : Bool) → FourWords (cond b (session_words (step_answer c input cs (session_of ws) m).1) ws)
    go true = four_words _ (step_figures c input w (session_of ws) (its_figures ws f) m cs)
    go false = f

module _ (L : Library) (keeps : KeepsExports L) (lent : List ℕ) (four : FourWords lent) where
  simulates : Simulates (of_library L lent) FourWords session_of
  unfolding of_library prove_answer prove_one_answer
  simulates = record {
    check = λ c input ys cs ms w wy wm. ap number_answer (keeps.checks c input ys cs ms w wy wm);
    write = session_words;
    read_back = round_trip;
    stored = four_words;
    begin = λ c input ys cs w wy.
        let told = keeps.opens c input ys cs lent w wy four in
        ap₂ told_as told.answer told.words ∙ open_words_lem c input ys cs lent;
    step = λ c input cs ws m w f wm.
        ap (λ (r : Step). step_answer_by r.refusal r.accepted r.coin) (keeps.steps c input cs ws m w f wm).answer
        ∙ step_numbers (step_answer c input cs (session_of ws) m).0 (λ cause e. (refused_step c input (session_of ws) m cs cause e).numbered);
    step_record = λ c input cs ws m w f wm. ap session_of (keeps.steps c input cs ws m w f wm).words ∙ step_words c input cs ws m;
    step_stored = λ c input cs ws m w f wm. subst FourWords (sym (keeps.steps c input cs ws m w f wm).words) (step_stored c input cs ws m w.circuit f);
    prove = λ c input cs buffer w wb.
        let told = keeps.proves c input cs buffer w wb in
        both (ap proof_told told.answer ∙ proof_numbers (prove_cause c input cs buffer) _ _) told.buffer;
    prove_one = λ c input prefix buffer w wb.
        let told = keeps.proves_one c input prefix buffer w wb in
        both (ap (λ (r : Written). one_of r.refusal r.words) told.answer ∙ message_numbers (prove_one_cause c input prefix buffer) _) told.buffer;
  }

  pub library_holds : Demand3 (of_library L lent)
  library_holds = holds (of_library L lent) FourWords session_of simulates
