-- Check, whole: "It refuses by 1 to 9, 21, 13, 11, 12, then 14 where the message words are not the exact total." Then comes the walk.
-- Assumes nothing.
use Rattle.std.specs.Prelude.{ℕ, ◌^◌, ◌≡◌, List, eqb, length}
use Rattle.refusal.specs.Order.{need, first}
use Rattle.circuit.specs.Circuit.{prime_of, output_exponent, coin_count, message_words}
use Rattle.circuit.specs.Legal.{all_below, lists_cause}
use Rattle.walk.specs.Game.{walk}
use Rattle.protocol.specs.Start.{first_point, later_coins, first_claim}
use Rattle.protocol.specs.Rounds.{rounds}
use Rattle.protocol.specs.Judge.{descent, input_agrees}

-- 21 "the output list has not 2^k_0 words", 13 "an output word is not below p", then the rest
abbrev pub need_outputs : List ℕ → List ℕ → ℕ → ℕ
need_outputs c ys rest = need (eqb (length ys) (2 ^ output_exponent c)) 21 (need (all_below (prime_of c) ys) 13 rest)

-- 11 "the coin count is not n", 12 "a coin is not below p", then the rest
abbrev pub need_coins : List ℕ → List ℕ → ℕ → ℕ
need_coins c cs rest = need (eqb (length cs) (coin_count c)) 11 (need (all_below (prime_of c) cs) 12 rest)

-- circuit and input are legal and the coins are n: the walk can be made to its end
pub record Counted (c input cs : List ℕ) : Type 0 where
  pub lists : lists_cause c input ≡ 0
  pub coins : length cs ≡ coin_count c

-- the walk from a first claim on, with these messages and coins: 0, or the first cause
abbrev pub walk_from : List ℕ → List ℕ → ℕ → List ℕ → List ℕ → ℕ
walk_from c input claim cs ms = walk (descent c) (input_agrees c input) (rounds c) (first_point c cs) claim ms (later_coins c cs)

-- 0 where it accepts, else the refusal's number
unfoldable pub check_answer : List ℕ → List ℕ → List ℕ → List ℕ → List ℕ → ℕ
check_answer c input ys cs ms =
    first (lists_cause c input)
    (need_outputs c ys
    (need_coins c cs
    (need (eqb (length ms) (message_words c)) 14
    (walk_from c input (first_claim c ys cs) cs ms))))
