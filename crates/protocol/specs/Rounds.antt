-- The rounds of a circuit's walk, as a session's record names them: "Rounds count from 0; round 2k_i is the line."
-- Assumes nothing.
use Rattle.std.specs.Prelude.{ℕ, zero, suc, ◌+◌, ◌*◌, ◌≤◌, ◌≡◌, Bool, ◌&&◌, cond, List, [], ◌∷◌, ◌++◌, map, eqb, length, take}
use Rattle.lists.specs.Count.{sum}
use Rattle.circuit.specs.Circuit.{depth, output_exponent, exponents, exponent_at}
use Rattle.circuit.specs.Sized.{LegalCircuit}

-- a place of the walk: the layer from 1 on, the round from 0 on
pub record Place : Type 0 where
  pub layer : ℕ
  pub round : ℕ

abbrev pub place : ℕ → ℕ → Place
place i j = record { layer = i; round = j }

-- the rounds of layer i from round j on: n sum rounds, then the line
unfoldable pub rounds_of : ℕ → ℕ → ℕ → List Place
rounds_of i j zero = place i j ∷ []
rounds_of i j (suc n) = place i j ∷ rounds_of i (suc j) n

-- "Layer i has 2k sum rounds", "One line message f follows": the layers from i on, of these exponents
unfoldable pub rounds_from : ℕ → List ℕ → List Place
rounds_from i [] = []
rounds_from i (k ∷ ks) = rounds_of i 0 (2 * k) ++ rounds_from (suc i) ks

abbrev pub rounds : List ℕ → List Place
rounds c = rounds_from 1 (exponents c)

-- "Each message has one coin": the coins of layers of these exponents
abbrev pub coins_of : List ℕ → ℕ
coins_of ks = sum (map (λ k. 2 * k + 1) ks)

-- the coins before layer i
abbrev pub layer_start : List ℕ → ℕ → ℕ
layer_start c zero = 0
layer_start c (suc l) = output_exponent c + coins_of (take l (exponents c))

abbrev pub is_line : List ℕ → Place → Bool
is_line c r = eqb r.round (2 * exponent_at c r.layer)

-- the coins before a round; "the next round, or round 0 of the next layer"; whether it is the last
abbrev pub coins_before : List ℕ → Place → ℕ
coins_before c r = layer_start c r.layer + r.round

abbrev pub place_after : List ℕ → Place → Place
place_after c r = cond (is_line c r) (place (suc r.layer) 0) (place r.layer (suc r.round))

abbrev pub is_last : List ℕ → Place → Bool
is_last c r = is_line c r && eqb r.layer (length (exponents c))

-- a round of a legal circuit, after n coins: those before it
pub record AtRound (c : List ℕ) (r : Place) (n : ℕ) : Type 0 where
  pub legal : LegalCircuit c
  pub first : 1 ≤ r.layer
  pub last : r.layer ≤ depth c
  pub reached : r.round ≤ 2 * exponent_at c r.layer
  pub counted : n ≡ coins_before c r
