-- The answers of opening and step, by the case of the code's enums.
-- Assumes nothing.
use Rattle.std.specs.Prelude.{ℕ, ◌≡◌, Bool, true, false, List, [], Result, Ok, Err, IfOk}
use Rattle.refusal.specs.Number.{number_of, cause_of}
use Rattle.refusal.specs.declared.Cause.{Cause}
use Rattle.walk.specs.Session.{Answer, accepted, going_on, refused, Record, at, step_final, step}
use Rattle.protocol.specs.Start.{first_claim}
use Rattle.protocol.specs.Rounds.{Place, place, place_after, is_last}
use Rattle.protocol.specs.Judge.{input_agrees, descent}
use Rattle.protocol.specs.Session.{OpenAnswer, opens, refuses, open_cause, open_answer, step_answer}
use Rattle.session.specs.declared.Verdict.{Verdict}
use Rattle.session.specs.declared.Verdict.TheVariants as verdict
use Rattle.short_list.specs.Short.{short, list_of}
use Rattle.session.specs.declared.Session.{Session}
use Rattle.session.specs.declared.Opening.{Opening}
use Rattle.session.specs.declared.Stepped.{Stepped}

-- a session's record, as the definitions have it
abbrev pub record_of : Session → Record Place
record_of s = record { round = place s.layer s.round; claim = s.claim; opened = s.open }

-- WHERE a session and the whole check start: the first claim, or the first refusal
pub record Starts (c input ys cs : List ℕ) (r : Result ℕ Cause) : Type 0 where
  pub cause : cause_of r ≡ open_cause c input ys cs
  pub claim : IfOk r (λ claim. claim ≡ first_claim c ys cs)

-- OPEN: the coins and the record, or a refusal's number
abbrev pub opening_from : Result Session Cause → List ℕ → OpenAnswer
opening_from (Ok s) us = opens us (record_of s)
opening_from (Err cause) us = refuses (number_of cause)

abbrev pub opening_of : Opening → OpenAnswer
opening_of r = opening_from r.session (list_of r.coins)

-- the coins of an answer, none of a refusal
abbrev pub coins_in : OpenAnswer → List ℕ
coins_in (opens us s) = us
coins_in (refuses cause) = []

-- the words past the coins are 0
pub record Opens (c input ys cs : List ℕ) (r : Opening) : Type 0 where
  pub answer : opening_of r ≡ open_answer c input ys cs
  pub row : r.coins ≡ short (coins_in (open_answer c input ys cs))

-- STEP: the answer, and the record after it
abbrev pub verdict_of : Verdict → Answer
verdict_of verdict.Accepted = accepted
verdict_of (verdict.GoOn coin) = going_on coin
verdict_of (verdict.Refused cause) = refused (number_of cause)

-- what follows a message that passed, from its coin and the new claim; the last comparison is of all coins
abbrev pub goes_on : List ℕ → List ℕ → List ℕ → Session → ℕ → ℕ → Bool → Answer × Record Place
goes_on c input cs s coin y true = step_final (input_agrees c input cs y) (record_of s)
goes_on c input cs s coin y false = (going_on coin, at (place_after c (place s.layer s.round)) y)

pub record GoesOn (c input cs : List ℕ) (s : Session) (coin y : ℕ) (r : Stepped) : Type 0 where
  pub answer : verdict_of r.verdict ≡ (goes_on c input cs s coin y (is_last c (place s.layer s.round))).0
  pub after : record_of r.session ≡ (goes_on c input cs s coin y (is_last c (place s.layer s.round))).1

pub record StepsOpen (c input cs : List ℕ) (s : Session) (m : List ℕ) (r : Stepped) : Type 0 where
  pub answer : verdict_of r.verdict ≡ (step (descent c) (input_agrees c input) cs (record_of s) m).0
  pub after : record_of r.session ≡ (step (descent c) (input_agrees c input) cs (record_of s) m).1

pub record Steps (c input cs : List ℕ) (s : Session) (m : List ℕ) (r : Stepped) : Type 0 where
  pub answer : verdict_of r.verdict ≡ (step_answer c input cs (record_of s) m).0
  pub after : record_of r.session ≡ (step_answer c input cs (record_of s) m).1
