-- Messages that are fixed, and the count of the coin lists on which the whole check accepts them: C7's, and one of two outputs.
-- Assumes nothing.
use Rattle.std.specs.Prelude.{ℕ, ◌+◌, ◌-◌, ◌*◌, ◌^◌, ◌≤◌, ◌≡◌, Bool}
use mathlib.Core.List.{List, [], ◌∷◌, flatten}
use Rattle.counting.specs.Coins.{passing}
use Rattle.counting.specs.Doomed.{luckless}
use Rattle.circuit.specs.Circuit.{prime_of, output_exponent, coin_count, exponent_sum}
use Rattle.walk.specs.Game.{passes}
use Rattle.protocol.specs.Check.{check_answer}
use Rattle.protocol.specs.Shares.{coin_losses}
use Rattle.table.specs.Rows.{Row, several, one, two, c7}

-- whether a row's outputs and messages are accepted with these coins
unfoldable pub passes_with : Row → List ℕ → Bool
passes_with r cs = passes (check_answer r.circuit r.input r.outputs cs (flatten r.messages))

-- the count over all coin lists of its circuit
unfoldable pub lucky_coins : Row → ℕ
lucky_coins r = passing (prime_of r.circuit) (coin_count r.circuit) (passes_with r)

-- (k_0 + 5 × K) × p^(n - 1), which demand 3 allows a false list
unfoldable pub allowed : Row → ℕ
allowed r = (output_exponent r.circuit + 5 * exponent_sum r.circuit) * prime_of r.circuit ^ (coin_count r.circuit - 1)

-- of C7, 16 of the 13³ = 2,197
abbrev pub LuckyCoins : Type 0
LuckyCoins = (lucky_coins c7 ≡ 16) × (allowed c7 ≡ 845) × (lucky_coins c7 ≤ allowed c7)

-- Two outputs of the one input 7, its square 10 and its double 1, with false outputs 10 2 and the honest message: accepted where the first coin is
-- 0, on 13 of the 13² = 169. That is all that demand 3 allows, and what is left of 13² when (13 - 1) × (13 - 0) is taken away: the sharp bound.
abbrev pub first_coin_lucky : Row
first_coin_lucky = several (13 ∷ 1 ∷ 1 ∷ 0 ∷ 2 ∷ 0 ∷ 0 ∷ 1 ∷ 0 ∷ 0 ∷ []) (one 7) (two 10 2) (two 0 5) (one 7 ∷ []) 0

abbrev pub LuckyFirst : Type 0
LuckyFirst =
    (lucky_coins first_coin_lucky ≡ 13) × (allowed first_coin_lucky ≡ 13)
    × (lucky_coins first_coin_lucky + luckless 13 (coin_losses first_coin_lucky.circuit) ≡ 13 ^ 2)
