-- What is said of a message at its round, and of the last claim, where the circuit is legal and the coins are those before the place.
-- Assumes nothing.
use Rattle.std.specs.Prelude.{ℕ, ◌≡◌, ⊤, Bool, true, List, Result, length}
use Rattle.refusal.specs.Number.{cause_of}
use Rattle.refusal.specs.declared.Cause.{Cause}
use Rattle.protocol.specs.Rounds.{Place, is_line, AtRound}
use Rattle.protocol.specs.Judge.{fixed, point_at, line_claim, compared, judge, input_agrees}
use Rattle.protocol.specs.Check.{Counted}

-- a number is what the summand gives at the two points of a layer's line
abbrev pub ClaimsLine : List ℕ → Place → List ℕ → ℕ → ℕ → ℕ → Type 0
ClaimsLine c r past x y v =
    AtRound c r (length past) → is_line c r ≡ true → v ≡ line_claim c r.layer (point_at c r.layer past) (fixed c r.layer past) x y

-- a number is what a message gives that must equal the claim
abbrev pub Compares : List ℕ → Place → List ℕ → List ℕ → ℕ → Type 0
Compares c r past m v = AtRound c r (length past) → v ≡ compared c (is_line c r) r past m

-- an answer is the judgement of a message
abbrev pub Judges : List ℕ → Place → List ℕ → ℕ → List ℕ → Result ⊤ Cause → Type 0
Judges c r past claim m answer = AtRound c r (length past) → cause_of answer ≡ judge c r past claim m

-- an answer is the last comparison
abbrev pub ComparesLast : List ℕ → List ℕ → List ℕ → ℕ → Bool → Type 0
ComparesLast c input coins claim answer = Counted c input coins → answer ≡ input_agrees c input coins claim
