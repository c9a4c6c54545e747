-- Tests that are passed by luck alone. A test on the coins to come is doomed with the losses d_1, .., d_n if for all but at most d_1 values of
-- the first coin what is left of it is doomed with the losses d_2, .., d_n. What holds after the last loss is a parameter, so that stages
-- follow one another; at the very end the test fails.
-- Assumes nothing.
use Rattle.std.specs.Prelude.{ℕ, ◌-◌, ◌*◌, ◌≤◌, ◌<◌, ◌≡◌, Bool, false, List, [], ◌∷◌}
use Rattle.lists.specs.Count.{count, range}

unfoldable pub Doomed : ℕ → List ℕ → ((List ℕ → Bool) → Type 0) → (List ℕ → Bool) → Type 0
Doomed p [] After test = After test
Doomed p (d ∷ losses) After test =
    (lucky : ℕ → Bool)
    × (count lucky (range p) ≤ d)
    × ((c : ℕ) → c < p → lucky c ≡ false → Doomed p losses After (λ cs. test (c ∷ cs)))

-- no coin is left, and the test is not passed
abbrev pub Fails : (List ℕ → Bool) → Type 0
Fails test = test [] ≡ false

-- the coin lists without a lucky value: (p - d_1) × .. × (p - d_n)
unfoldable pub luckless : ℕ → List ℕ → ℕ
luckless p [] = 1
luckless p (d ∷ losses) = (p - d) * luckless p losses
