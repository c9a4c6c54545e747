-- Coin lists, all of them written out, and how many pass a test.
-- Assumes nothing.
use Rattle.std.specs.Prelude.{ℕ, zero, suc, ◌<◌, ◌≡◌, Bool, true, false, ◌&&◌, eqb, length}
use mathlib.Core.List.{List, [], ◌∷◌, map, flat_map}
use Rattle.lists.specs.Each.{All}
use Rattle.lists.specs.Count.{count, range}

-- "A coin list is n residues."
abbrev pub CoinList : ℕ → ℕ → List ℕ → Type 0
CoinList p n cs = (length cs ≡ n) × All (λ c. c < p) cs

-- all of them: each first coin 0 .. p - 1 before each list of the other coins
unfoldable pub coin_lists : ℕ → ℕ → List (List ℕ)
coin_lists p zero = [] ∷ []
coin_lists p (suc n) = flat_map (λ c. map (λ cs. c ∷ cs) (coin_lists p n)) (range p)

-- how many of them pass a test
abbrev pub passing : ℕ → ℕ → (List ℕ → Bool) → ℕ
passing p n test = count test (coin_lists p n)

-- whether two lists are the same
unfoldable pub same : List ℕ → List ℕ → Bool
same [] [] = true
same [] (d ∷ ds) = false
same (c ∷ cs) [] = false
same (c ∷ cs) (d ∷ ds) = eqb c d && same cs ds
