-- Rules, and the messages that they say.
-- Assumes nothing.
use Rattle.std.specs.Prelude.{ℕ, ◌≡◌, List, [], ◌∷◌, ◌++◌, length}
use Rattle.refusal.specs.Order.{first}
use Rattle.walk.specs.Game.{Game, Comparison, final_cause}

-- "A rule is any function from .. the coins handed out before a message to this message": it sees the round, and these coins are "those that come
-- before it in the walk"
abbrev pub Rule : Type 0 → Type 0
Rule R = R → List ℕ → List ℕ

-- a rule that may look at the standing claim too
abbrev pub Strategy : Type 0 → Type 0
Strategy R = R → List ℕ → ℕ → List ℕ

-- the rule's messages for a coin list, "in the walk's order"
unfoldable pub said : {R : Type 0} → Rule R → List R → List ℕ → List ℕ → List (List ℕ)
said rule [] past cs = []
said rule (r ∷ rs) past [] = []
said rule (r ∷ rs) past (c ∷ cs) = rule r past ∷ said rule rs (past ++ (c ∷ [])) cs

module _ {R : Type 0} (g : Game R) where
  -- the messages have the lengths that the rounds call for
  unfoldable pub Fits : Rule R → List R → List ℕ → List ℕ → Type 0
  Fits rule [] past cs = Unit {0}
  Fits rule (r ∷ rs) past [] = Unit {0}
  Fits rule (r ∷ rs) past (c ∷ cs) = (length (rule r past) ≡ g.len r) × Fits rule rs (past ++ (c ∷ [])) cs

  -- the walk on the messages of a strategy
  unfoldable pub play : Comparison → Strategy R → List R → List ℕ → ℕ → List ℕ → ℕ
  play final σ [] past claim cs = final_cause (final past claim)
  play final σ (r ∷ rs) past claim [] = 11
  play final σ (r ∷ rs) past claim (c ∷ cs) =
      first (g.judge r past claim (σ r past claim)) (play final σ rs (past ++ (c ∷ [])) (g.next (σ r past claim) c) cs)

abbrev pub by_rule : {R : Type 0} → Rule R → Strategy R
by_rule rule r past claim = rule r past
