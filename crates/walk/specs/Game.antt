-- A game is a walk over rounds, each with a message and then a coin. What it says of a round is all that the whole check and a session need of
-- the messages. The comparison after the last coin is no part of it: the walk takes it beside the game.
-- Assumes nothing.
use Rattle.std.specs.Prelude.{ℕ, zero, suc, Bool, true, false, cond, List, [], ◌∷◌, ◌++◌, take, drop}
use Rattle.refusal.specs.Order.{first}

pub record Game (R : Type 0) : Type 0 where
  -- how many words the round's message has
  pub len : R → ℕ
  -- what is wrong with a message after these coins, at this claim: 0, or the cause's number
  pub judge : R → List ℕ → ℕ → List ℕ → ℕ
  -- the claim after a message and its coin
  pub next : List ℕ → ℕ → ℕ
  -- for a session: how many coins come before the round, the round after it, whether it is the last
  pub before : R → ℕ
  pub after : R → R
  pub last : R → Bool

-- no cause: accepted
abbrev pub passes : ℕ → Bool
passes zero = true
passes (suc cause) = false

-- the comparison after the last coin: of all coins with the last claim
abbrev pub Comparison : Type 0
Comparison = List ℕ → ℕ → Bool

-- the last comparison's cause
abbrev pub final_cause : Bool → ℕ
final_cause equal = cond equal 0 18

module _ {R : Type 0} (g : Game R) (final : Comparison) where
  -- THE WHOLE CHECK, from the rounds left, the coins so far, the standing claim, the message words left and the coins left: 0 accepted,
  -- else the first cause. "the walk stops at the first message that earns one of 15, 16 and 17"
  unfoldable pub walk : List R → List ℕ → ℕ → List ℕ → List ℕ → ℕ
  walk [] past claim ms cs = final_cause (final past claim)
  walk (r ∷ rs) past claim ms [] = 11
  walk (r ∷ rs) past claim ms (c ∷ cs) =
      first (g.judge r past claim (take (g.len r) ms))
      (walk rs (past ++ (c ∷ [])) (g.next (take (g.len r) ms) c) (drop (g.len r) ms) cs)
