-- What makes few coins save a bad claim, and what keeps a true one true: all that the theorems about walks ask of a game.
-- Assumes nothing.
use Rattle.std.specs.Prelude.{ℕ, ◌≤◌, ◌<◌, ◌≡◌, Bool, true, false, List, [], ◌∷◌, ◌++◌}
use Rattle.lists.specs.Count.{count, range}
use Rattle.walk.specs.Game.{Game, Comparison}
use Rattle.walk.specs.Rule.{Strategy}

-- a game in which a bad claim stays bad: a message that passes has few lucky coins
pub record Sound {R : Type 0} (g : Game R) (final : Comparison) (p : ℕ) (loss : R → ℕ) (Bad : List R → List ℕ → ℕ → Type 0) : Type 0 where
  pub lucky : List R → List ℕ → List ℕ → ℕ → Bool
  pub few : (r : R) (rs : List R) (past : List ℕ) (claim : ℕ) (m : List ℕ) → Bad (r ∷ rs) past claim → g.judge r past claim m ≡ 0
      → count (lucky (r ∷ rs) past m) (range p) ≤ loss r
  pub stays : (r : R) (rs : List R) (past : List ℕ) (claim : ℕ) (m : List ℕ) → Bad (r ∷ rs) past claim → g.judge r past claim m ≡ 0
      → (c : ℕ) → c < p → lucky (r ∷ rs) past m c ≡ false → Bad rs (past ++ (c ∷ [])) (g.next m c)
  pub ends : (past : List ℕ) (claim : ℕ) → Bad [] past claim → final past claim ≡ false

-- a strategy whose messages pass from a true claim, and leave a true claim whatever the coin
pub record Honest {R : Type 0} (g : Game R) (final : Comparison) (p : ℕ) (σ : Strategy R) (True : List R → List ℕ → ℕ → Type 0) : Type 0 where
  pub goes : (r : R) (rs : List R) (past : List ℕ) (claim : ℕ) → True (r ∷ rs) past claim → g.judge r past claim (σ r past claim) ≡ 0
  pub keeps : (r : R) (rs : List R) (past : List ℕ) (claim : ℕ) → True (r ∷ rs) past claim
      → (c : ℕ) → c < p → True rs (past ++ (c ∷ [])) (g.next (σ r past claim) c)
  pub closes : (past : List ℕ) (claim : ℕ) → True [] past claim → final past claim ≡ true
