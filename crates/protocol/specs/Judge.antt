-- What a round compares, and the one judgement of a message that the whole check and a step share.
-- Assumes nothing.
use Rattle.std.specs.Prelude.{ℕ, zero, suc, ◌+◌, ◌*◌, Bool, true, false, cond, List, [], eqb, length, take, drop, get_or}
use Rattle.algebra.specs.Numbers.{words}
use Rattle.algebra.specs.Polynomial.{value_at}
use Rattle.multilinear.specs.Extension.{extension}
use Rattle.refusal.specs.Order.{need}
use Rattle.circuit.specs.Gate.{Gate}
use Rattle.circuit.specs.Circuit.{prime_of, exponents, exponent_at, gates_at}
use Rattle.circuit.specs.Legal.{all_below}
use Rattle.sumcheck.specs.Summand.{combined, line_point}
use Rattle.walk.specs.Game.{Game}
use Rattle.protocol.specs.Start.{first_point}
use Rattle.protocol.specs.Rounds.{Place, layer_start, is_line, coins_before, place_after, is_last}

-- THE POINTS, read off the coins handed out: layer i's coins so far are its coordinates that are fixed so far, those of u first
abbrev pub fixed : List ℕ → ℕ → List ℕ → List ℕ
fixed c i past = drop (layer_start c i) past

-- "the point becomes the line's point at t", from a layer's 2k + 1 coins
abbrev pub line_end : List ℕ → ℕ → List ℕ → List ℕ
line_end c k cs = line_point (words (prime_of c)) (take k cs) (take k (drop k cs)) (get_or cs (2 * k) 0)

-- the standing point at layer i: the first point at layer 1, then the line's of the layer before
abbrev pub point_at : List ℕ → ℕ → List ℕ → List ℕ
point_at c zero past = []
point_at c (suc zero) past = first_point c past
point_at c (suc (suc l)) past =
    line_end c (exponent_at c (suc l)) (take (2 * exponent_at c (suc l) + 1) (drop (layer_start c (suc l)) past))

-- the gates of layer i - 1
abbrev pub gates_above : List ℕ → ℕ → List Gate
gates_above c zero = gates_at c 0
gates_above c (suc l) = gates_at c l

-- the summand at the fixed coordinates, with x for V(u) and y for V(v)
unfoldable pub line_claim : List ℕ → ℕ → List ℕ → List ℕ → ℕ → ℕ → ℕ
line_claim c i point xs x y =
    combined (words (prime_of c)) (gates_above c i) point (take (exponent_at c i) xs) (drop (exponent_at c i) xs) x y

-- a message's value at a point, "the value at r"
abbrev pub message_at : List ℕ → List ℕ → ℕ → ℕ
message_at c m x = value_at (words (prime_of c)) m x

-- THE JUDGEMENT
-- "three words for a sum round, k_i + 1 for a line"
unfoldable pub message_length : List ℕ → Place → ℕ
message_length c r = cond (is_line c r) (exponent_at c r.layer + 1) 3

-- what must equal the standing claim: "With f(0) for V(u) and f(1) for V(v), the summand"; or "The value at 0 plus the value at 1"
unfoldable pub compared : List ℕ → Bool → Place → List ℕ → List ℕ → ℕ
compared c true r past m = line_claim c r.layer (point_at c r.layer past) (fixed c r.layer past) (message_at c m 0) (message_at c m 1)
compared c false r past m = (words (prime_of c)).add (message_at c m 0) (message_at c m 1)

-- "It tries in this order: 14 the message's length is not three words for a sum round, k_i + 1 for a line; 15 a word is not below p; 16 in a sum
-- round, or 17 at a line, the comparison fails."
unfoldable pub judge : List ℕ → Place → List ℕ → ℕ → List ℕ → ℕ
judge c r past claim m =
    need (eqb (length m) (message_length c r)) 14
    (need (all_below (prime_of c) m) 15
    (need (eqb (compared c (is_line c r) r past m) claim) (cond (is_line c r) 17 16) 0))

-- the walk down a circuit, as a game: what judges a message knows no input
unfoldable pub descent : List ℕ → Game Place
descent c = record {
  len = message_length c;
  judge = judge c;
  next = message_at c;
  before = coins_before c;
  after = place_after c;
  last = is_last c;
}

-- THE LAST COMPARISON, the one that takes the input: "After layer D the input's extension at the point must equal the claim."
unfoldable pub input_agrees : List ℕ → List ℕ → List ℕ → ℕ → Bool
input_agrees c input past claim = eqb (extension (words (prime_of c)) input (point_at c (suc (length (exponents c))) past)) claim
