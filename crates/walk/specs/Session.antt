-- A session: the same judge, one call at a time.
-- Assumes nothing.
use Rattle.std.specs.Prelude.{ℕ, zero, suc, ◌≡◌, Bool, true, false, ◌||◌, List, [], ◌∷◌, ◌++◌, take, drop, get_or}
use Rattle.walk.specs.Game.{Game, Comparison}

-- "An answer is accepted, go on with a coin, or refused with its cause."
pub data Answer : Type 0 where
  accepted : Answer
  going_on : ℕ → Answer
  refused : ℕ → Answer

pub record Record (R : Type 0) : Type 0 where
  pub round : R
  pub claim : ℕ
  pub opened : Bool

-- an open record
abbrev pub at : {R : Type 0} → R → ℕ → Record R
at r claim = record { round = r; claim = claim; opened = true }

-- the end: "layer, round and claim keep their last figures"
abbrev pub ended : {R : Type 0} → Record R → Record R
ended s = record { round = s.round; claim = s.claim; opened = false }

abbrev pub is_accepted : Answer → Bool
is_accepted accepted = true
is_accepted (going_on c) = false
is_accepted (refused cause) = false

-- "The session accepts if one of its calls answers accepted"
unfoldable pub any_accepted : List Answer → Bool
any_accepted [] = false
any_accepted (a ∷ rest) = is_accepted a || any_accepted rest

-- how the session ends: the first answer that is not go on, as a number, 0 for accepted
unfoldable pub end_of : List Answer → ℕ
end_of [] = 19
end_of (accepted ∷ rest) = 0
end_of (going_on c ∷ rest) = end_of rest
end_of (refused cause ∷ rest) = cause

-- an answer that goes on goes on with this coin
abbrev pub giving : ℕ → Answer → Answer
giving c accepted = accepted
giving c (going_on d) = going_on c
giving c (refused cause) = refused cause

-- the answers 0 to j, with c for the coin that answer j gives
unfoldable pub up_to : ℕ → ℕ → List Answer → List Answer
up_to j c [] = []
up_to zero c (a ∷ rest) = giving c a ∷ []
up_to (suc j) c (a ∷ rest) = a ∷ up_to j c rest

-- ONE STEP, from the coins before the round and the round's own coin. The last comparison ends the session.
abbrev pub step_final : {R : Type 0} → Bool → Record R → Answer × Record R
step_final true s = (accepted, ended s)
step_final false s = (refused 18, ended s)

module _ {R : Type 0} (g : Game R) (final : Comparison) where
  -- "Go on sets the next round .. and the new claim." "The last coin is not handed out."
  abbrev pub step_last : Bool → List ℕ → ℕ → Record R → List ℕ → Answer × Record R
  step_last false past c s m = (going_on c, at (g.after s.round) (g.next m c))
  step_last true past c s m = step_final (final (past ++ (c ∷ [])) (g.next m c)) s

  -- the comparison comes before the coin
  abbrev pub step_judge : ℕ → List ℕ → ℕ → Record R → List ℕ → Answer × Record R
  step_judge zero past c s m = step_last (g.last s.round) past c s m
  step_judge (suc cause) past c s m = (refused (suc cause), ended s)

  abbrev pub step_open : Bool → List ℕ → ℕ → Record R → List ℕ → Answer × Record R
  step_open true past c s m = step_judge (g.judge s.round past s.claim m) past c s m
  step_open false past c s m = (refused 19, s)

  unfoldable pub step : List ℕ → Record R → List ℕ → Answer × Record R
  step cs s m = step_open s.opened (take (g.before s.round) cs) (get_or cs (g.before s.round) 0) s m

  -- "then come as many steps as there are messages, each with the same lists, the rule's next message and the record that the last call left";
  -- "A refused step stands in this list like any other"
  unfoldable pub calls : List ℕ → Record R → List (List ℕ) → List Answer
  calls cs s [] = []
  calls cs s (m ∷ ms) = (step cs s m).0 ∷ calls cs (step cs s m).1 ms

module _ {R : Type 0} (g : Game R) where
  -- the claim before message j, from the first one on: each message gives the next at its coin
  unfoldable pub claim_before : ℕ → List (List ℕ) → List ℕ → ℕ → ℕ
  claim_before claim ms cs zero = claim
  claim_before claim [] cs (suc j) = claim
  claim_before claim (m ∷ ms) [] (suc j) = claim
  claim_before claim (m ∷ ms) (c ∷ cs) (suc j) = claim_before (g.next m c) ms cs j

  -- message j passes at its round, after its coins and at its claim
  abbrev pub PassesAt : R → List R → List ℕ → ℕ → List (List ℕ) → List ℕ → ℕ → Type 0
  PassesAt d rs past claim ms cs j = g.judge (get_or rs j d) (past ++ take j cs) (claim_before claim ms cs j) (get_or ms j []) ≡ 0

  -- rounds that follow one another, the first with j coins before it
  abbrev pub Follows : R → List R → Type 0
  Follows r [] = g.last r ≡ true
  Follows r (r' ∷ rs) = (g.last r ≡ false) × (g.after r ≡ r')

  unfoldable pub Chain : List R → ℕ → Type 0
  Chain [] j = Unit {0}
  Chain (r ∷ rs) j = (g.before r ≡ j) × Follows r rs × Chain rs (suc j)

  -- a transcript of the exact length, cut into messages
  unfoldable pub cut : List R → List ℕ → List (List ℕ)
  cut [] ms = []
  cut (r ∷ rs) ms = take (g.len r) ms ∷ cut rs (drop (g.len r) ms)
