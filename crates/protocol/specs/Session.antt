-- Open and Step.
-- Assumes nothing.
use Rattle.std.specs.Prelude.{ℕ, zero, suc, ◌*◌, Bool, ◌&&◌, cond, List, [], ◌∷◌, ltb, leb, length}
use Rattle.refusal.specs.Order.{need, first}
use Rattle.circuit.specs.Circuit.{prime_of, exponents, exponent_at}
use Rattle.circuit.specs.Legal.{lists_cause}
use Rattle.walk.specs.Session.{Answer, refused, Record, at, ended, step}
use Rattle.protocol.specs.Start.{first_point, first_claim}
use Rattle.protocol.specs.Rounds.{Place, place}
use Rattle.protocol.specs.Judge.{descent, input_agrees}
use Rattle.protocol.specs.Check.{need_outputs, need_coins}

-- Open session: "It refuses by 1 to 9, 21, 13, 11, 12." "The record has layer 1, round 0, the first standing claim, and is open".
unfoldable pub open_cause : List ℕ → List ℕ → List ℕ → List ℕ → ℕ
open_cause c input ys cs = first (lists_cause c input) (need_outputs c ys (need_coins c cs 0))

abbrev pub opened_at : List ℕ → List ℕ → List ℕ → Record Place
opened_at c ys cs = at (place 1 0) (first_claim c ys cs)

-- "Opening hands out the coins of the first point", and gives the record
pub data OpenAnswer : Type 0 where
  opens : List ℕ → Record Place → OpenAnswer
  refuses : ℕ → OpenAnswer

abbrev pub opened_by : ℕ → List ℕ → Record Place → OpenAnswer
opened_by zero us s = opens us s
opened_by (suc cause) us s = refuses (suc cause)

unfoldable pub open_answer : List ℕ → List ℕ → List ℕ → List ℕ → OpenAnswer
open_answer c input ys cs = opened_by (open_cause c input ys cs) (first_point c cs) (opened_at c ys cs)

-- 19 "the record is ended, its layer or round is outside this circuit, or its claim is not below p"
unfoldable pub record_fits : List ℕ → Record Place → Bool
record_fits c s =
    s.opened
    && (leb 1 s.round.layer
    && (leb s.round.layer (length (exponents c))
    && (leb s.round.round (2 * exponent_at c s.round.layer) && ltb s.claim (prime_of c))))

-- Step, before the judgement: "It refuses by 1 to 9, 11, 12, 19"
unfoldable pub step_cause : List ℕ → List ℕ → List ℕ → Record Place → ℕ
step_cause c input cs s = first (lists_cause c input) (need_coins c cs (need (record_fits c s) 19 0))

-- "Numbers 14 to 18 .. end the record; layer, round and claim keep their last figures": what a refusal leaves of it
abbrev pub ends : ℕ → Bool
ends cause = leb 14 cause && leb cause 18

abbrev pub record_left : ℕ → Record Place → Record Place
record_left cause s = cond (ends cause) (ended s) s

-- a refusal before the message is looked at leaves the record
abbrev pub step_after : ℕ → List ℕ → List ℕ → List ℕ → Record Place → List ℕ → Answer × Record Place
step_after zero c input cs s m = step (descent c) (input_agrees c input) cs s m
step_after (suc cause) c input cs s m = (refused (suc cause), s)

unfoldable pub step_answer : List ℕ → List ℕ → List ℕ → Record Place → List ℕ → Answer × Record Place
step_answer c input cs s m = step_after (step_cause c input cs s) c input cs s m

-- the answers to steps with these messages, each with the same lists and the record that the last call left
unfoldable pub steps : List ℕ → List ℕ → List ℕ → Record Place → List (List ℕ) → List Answer
steps c input cs s [] = []
steps c input cs s (m ∷ ms) = (step_answer c input cs s m).0 ∷ steps c input cs (step_answer c input cs s m).1 ms

-- a session's answers after its opening: steps from the record that is in the opening's answer, none where it refuses
abbrev pub steps_from : List ℕ → List ℕ → List ℕ → OpenAnswer → List (List ℕ) → List Answer
steps_from c input cs (opens us s) ms = steps c input cs s ms
steps_from c input cs (refuses cause) ms = []

abbrev pub session_on : List ℕ → List ℕ → List ℕ → List ℕ → List (List ℕ) → List Answer
session_on c input ys cs ms = steps_from c input cs (open_answer c input ys cs) ms
