-- The same for the functions that the library exports: plain numbers, and four words for a session.
-- Assumes nothing.
use Rattle.std.specs.Prelude.{ℕ, zero, suc, ◌≡◌, List, length}
use Rattle.walk.specs.Session.{Answer, accepted, going_on, refused}
use Rattle.protocol.specs.Check.{check_answer}
use Rattle.protocol.specs.Prove.{proof_of, one_of}
use Rattle.kidlothe.specs.Answers.{ExportsProve, ExportsProveOne, ExportsOpen, ExportsStep}
use Rattle.kidlothe.specs.declared.Proof.{Proof}
use Rattle.kidlothe.specs.declared.Written.{Written}
use Rattle.kidlothe.specs.declared.Opening.{Opening}
use Rattle.kidlothe.specs.declared.Step.{Step}
use Rattle.short_list.specs.Short.{list_of}
use Rattle.machine.specs.Words.{Words, WordLists}
use Rattle.machine.specs.Machine.{Begun, begun, declined, Machine}

-- the words of a session
pub record FourWords (ws : List ℕ) : Type 0 where
  pub four : length ws ≡ 4
  pub words : Words ws

pub record Library : Type 0 where
  pub check : List ℕ → List ℕ → List ℕ → List ℕ → List ℕ → ℕ
  pub begin : List ℕ → List ℕ → List ℕ → List ℕ → List ℕ → Opening × List ℕ
  pub step : List ℕ → List ℕ → List ℕ → List ℕ → List ℕ → Step × List ℕ
  pub prove : List ℕ → List ℕ → List ℕ → List ℕ → Proof × List ℕ
  pub prove_one : List ℕ → List ℕ → List ℕ → List ℕ → Written × List ℕ

-- THE CONTRACTS, as they stand in the code after `ensures`
abbrev pub ExportsCheck : List ℕ → List ℕ → List ℕ → List ℕ → List ℕ → ℕ → Type 0
ExportsCheck c input ys cs ms r = r ≡ check_answer c input ys cs ms

pub record KeepsExports (L : Library) : Type 0 where
  pub checks : (c input ys cs ms : List ℕ) → WordLists c input cs → Words ys → Words ms → ExportsCheck c input ys cs ms (L.check c input ys cs ms)
  pub opens : (c input ys cs ws : List ℕ) → WordLists c input cs → Words ys → FourWords ws
      → ExportsOpen c input ys cs ws (L.begin c input ys cs ws).0 (L.begin c input ys cs ws).1
  pub steps : (c input cs ws m : List ℕ) → WordLists c input cs → FourWords ws → Words m
      → ExportsStep c input cs ws m (L.step c input cs ws m).0 (L.step c input cs ws m).1
  pub proves : (c input cs buffer : List ℕ) → WordLists c input cs → Words buffer
      → ExportsProve c input cs buffer (L.prove c input cs buffer).0 (L.prove c input cs buffer).1
  pub proves_one : (c input prefix buffer : List ℕ) → WordLists c input prefix → Words buffer
      → ExportsProveOne c input prefix buffer (L.prove_one c input prefix buffer).0 (L.prove_one c input prefix buffer).1

-- THE MACHINE: answers as a caller reads them. A refusal's number that is not 0 refuses; of a step, if none does, a nonzero `accepted` accepts, and
-- otherwise the session goes on with `coin`.
abbrev pub number_answer : ℕ → Answer
number_answer zero = accepted
number_answer (suc n) = refused (suc n)

abbrev pub number_begun : ℕ → List ℕ → List ℕ → Begun (List ℕ)
number_begun zero us ws = begun us ws
number_begun (suc n) us ws = declined (suc n)

abbrev pub step_answer_by : ℕ → ℕ → ℕ → Answer
step_answer_by (suc n) told coin = refused (suc n)
step_answer_by zero (suc n) coin = accepted
step_answer_by zero zero coin = going_on coin

-- an opening is lent four words, whatever they are, and a session is kept in the four that the last call left
unfoldable pub of_library : Library → List ℕ → Machine (List ℕ)
of_library L lent = record {
  check = λ c input ys cs ms. number_answer (L.check c input ys cs ms);
  begin = λ c input ys cs.
      let r = L.begin c input ys cs lent in
      number_begun r.0.refusal (list_of r.0.coins) r.1;
  step = λ c input cs ws m.
      let r = L.step c input cs ws m in
      (step_answer_by r.0.refusal r.0.accepted r.0.coin, r.1);
  prove = λ c input cs buffer.
      let r = L.prove c input cs buffer in
      (proof_of r.0.refusal (list_of r.0.outputs) r.0.words, r.1);
  prove_one = λ c input prefix buffer.
      let r = L.prove_one c input prefix buffer in
      (one_of r.0.refusal r.0.words, r.1);
}
