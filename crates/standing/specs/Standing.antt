-- Where a walk stands: conditions on a place and the coins before it, and what stands there.
-- Assumes nothing.
use Rattle.std.specs.Prelude.{ℕ, ◌+◌, ◌*◌, ◌≤◌, ◌≡◌, ⊤, List, Result, [], map, length, take, drop, get_or}
use Rattle.lists.specs.Count.{sum}
use Rattle.lists.specs.Front.{Front}
use Rattle.extension.specs.Limits.{row_length}
use Rattle.refusal.specs.Number.{cause_of}
use Rattle.refusal.specs.declared.Cause.{Cause}
use Rattle.circuit.specs.Circuit.{depth, exponent_at, coin_count, message_words}
use Rattle.circuit.specs.Sized.{LegalCircuit}
use Rattle.protocol.specs.Rounds as walk
use Rattle.protocol.specs.Rounds.{place, layer_start, AtRound}
use Rattle.protocol.specs.Judge.{fixed, point_at}
use Rattle.protocol.specs.Check.{need_outputs, need_coins}
use Rattle.standing.specs.declared.Place.{Place}
use Rattle.standing.specs.declared.Stand.{Stand}

-- a place of the walk, as the definitions have it
abbrev pub as_place : Place → walk.Place
as_place r = place r.layer r.round

-- a layer that a claim can stand at; D + 1 is behind the last
pub record LayerSoFar (c : List ℕ) (layer : ℕ) : Type 0 where
  pub legal : LegalCircuit c
  pub first : 1 ≤ layer
  pub last : layer ≤ 1 + depth c

-- such a layer after n coins, those before it
pub record AtLayer (c : List ℕ) (layer n : ℕ) : Type 0 where
  pub there : LayerSoFar c layer
  pub counted : n ≡ layer_start c layer

-- a row with a point's coordinates in front
abbrev pub Row : List ℕ → List ℕ → Type 0
Row point row = Front row_length point row

-- a point is the one that stands at a layer, after the coins before it
abbrev pub PointStands : List ℕ → ℕ → List ℕ → List ℕ → Type 0
PointStands c layer past point = AtLayer c layer (length past) → point ≡ point_at c layer past

-- the sum of a × k + 1 over exponents: of coins with 2 for a, of message words with 7
abbrev pub layer_sum : ℕ → List ℕ → ℕ
layer_sum a ks = sum (map (λ k. a * k + 1) ks)

-- the coins before a layer; the coins of a circuit, and its message words
abbrev pub CoinsBefore : List ℕ → ℕ → ℕ → Type 0
CoinsBefore c layer n = LayerSoFar c layer → n ≡ layer_start c layer

abbrev pub CoinsOf : List ℕ → ℕ → Type 0
CoinsOf c n = LegalCircuit c → n ≡ coin_count c

abbrev pub WordsOf : List ℕ → ℕ → Type 0
WordsOf c n = LegalCircuit c → n ≡ message_words c

-- the refusals 21 and 13, of a legal circuit
abbrev pub ChecksOutputs : List ℕ → List ℕ → Result ⊤ Cause → Type 0
ChecksOutputs c outputs r = LegalCircuit c → cause_of r ≡ need_outputs c outputs 0

-- and 11 and 12
abbrev pub ChecksCoins : List ℕ → List ℕ → Result ⊤ Cause → Type 0
ChecksCoins c coins r = LegalCircuit c → cause_of r ≡ need_coins c coins 0

-- what stands at a round
pub record Stands (c : List ℕ) (layer : ℕ) (past : List ℕ) (s : Stand) : Type 0 where
  pub own : s.own ≡ exponent_at c layer
  pub point : s.point ≡ point_at c layer past
  pub first : Row (take (exponent_at c layer) (fixed c layer past)) (get_or s.points 0 [])
  pub second : Row (drop (exponent_at c layer) (fixed c layer past)) (get_or s.points 1 [])

-- what `Round::stand` says of any list and place, and of a round
pub record StandsAt (c : List ℕ) (r : walk.Place) (past : List ℕ) (s : Stand) : Type 0 where
  pub within : s.own ≤ row_length
  pub stands : AtRound c r (length past) → Stands c r.layer past s
