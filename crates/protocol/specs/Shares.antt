-- Shares of a circuit's coin lists, as the theorems name them.
-- Assumes nothing.
use Rattle.std.specs.Prelude.{ℕ, ◌+◌, ◌-◌, ◌*◌, ◌^◌, ◌≤◌, ◌≡◌, Bool, true, List, ◌++◌, map, replicate}
use Rattle.counting.specs.Coins.{CoinList, passing}
use Rattle.counting.specs.Doomed.{luckless}
use Rattle.circuit.specs.Circuit.{prime_of, output_exponent, coin_count, exponent_sum}
use Rattle.protocol.specs.Rounds.{rounds}
use Rattle.protocol.specs.Judge.{message_length}

-- a test that passes all of them; one that passes at most (k_0 + 5 × K) × p^(n-1) of the p^n
abbrev pub PassesAll : List ℕ → (List ℕ → Bool) → Type 0
PassesAll c test = (cs : List ℕ) → CoinList (prime_of c) (coin_count c) cs → test cs ≡ true

abbrev pub PassesFew : List ℕ → (List ℕ → Bool) → Type 0
PassesFew c test =
    passing (prime_of c) (coin_count c) test ≤ (output_exponent c + 5 * exponent_sum c) * prime_of c ^ (coin_count c - 1)

-- what a coin list loses, coin by coin: 1 for each coin before any message, and d for the coin of a message of d + 1 words
abbrev pub message_losses : List ℕ → List ℕ
message_losses c = map (λ r. message_length c r - 1) (rounds c)

abbrev pub coin_losses : List ℕ → List ℕ
coin_losses c = replicate (output_exponent c) 1 ++ message_losses c

-- and the sharp share: of the p^n coin lists those do not pass on which no coin is lucky, a coin being lucky at no more values than it loses
abbrev pub PassesByLuck : List ℕ → (List ℕ → Bool) → Type 0
PassesByLuck c test =
    passing (prime_of c) (coin_count c) test + luckless (prime_of c) (coin_losses c) ≤ prime_of c ^ coin_count c
