-- A circuit with one output, k_0 = 0: no coin comes before a message, the output is the first claim, and the shares are those of a single output.
-- Assumes nothing.
use Rattle.std.specs.Prelude.{ℕ, ◌+◌, ◌-◌, ◌*◌, ◌^◌, ◌≤◌, ◌<◌, ◌≡◌, List, [], ◌∷◌, eqb, ltb, length, take}
use Rattle.counting.specs.Coins.{passing}
use Rattle.counting.specs.Doomed.{luckless}
use Rattle.refusal.specs.Order.{need, first}
use Rattle.circuit.specs.Circuit.{prime_of, output_exponent, exponents, coin_count, message_words, exponent_sum}
use Rattle.circuit.specs.Legal.{lists_cause}
use Rattle.circuit.specs.Values.{value}
use Rattle.walk.specs.Game.{walk}
use Rattle.walk.specs.Rule.{Rule}
use Rattle.walk.specs.Session.{at}
use Rattle.protocol.specs.Start.{first_point, later_coins, coins_to, first_claim}
use Rattle.protocol.specs.Rounds.{Place, place, rounds, coins_of}
use Rattle.protocol.specs.Judge.{descent, input_agrees}
use Rattle.protocol.specs.Check.{need_coins, check_answer}
use Rattle.protocol.specs.Session.{opened_by, open_answer}
use Rattle.protocol.specs.Prove.{honest}
use Rattle.protocol.specs.Shares.{PassesAll, message_losses}
use Rattle.protocol.specs.Accept.{Acceptance, FitsCircuit, whole_accepts, session_accepts}

-- WHERE IT STARTS: "The standing claim starts as the output, the standing point as the empty point."
pub record StartsAtOutput (c cs : List ℕ) (y : ℕ) : Type 0 where
  pub point : first_point c cs ≡ []
  pub later : later_coins c cs ≡ cs
  pub before : (j : ℕ) → coins_to c j cs ≡ take j cs
  pub count : coin_count c ≡ coins_of (exponents c)
  pub claim : y < prime_of c → first_claim c (y ∷ []) cs ≡ y

abbrev pub OneStart : Type 0
OneStart = (c cs : List ℕ) (y : ℕ) → output_exponent c ≡ 0 → StartsAtOutput c cs y

-- CHECK: "Check refuses by 1 to 9, 13, 11, 12, then 14 where the message words are not the exact total"
abbrev pub OneCheck : Type 0
OneCheck =
    (c input cs ms : List ℕ) (y : ℕ) → output_exponent c ≡ 0
    → check_answer c input (y ∷ []) cs ms
    ≡ first (lists_cause c input)
    (need (ltb y (prime_of c)) 13
    (need_coins c cs
    (need (eqb (length ms) (message_words c)) 14
    (walk (descent c) (input_agrees c input) (rounds c) [] y ms cs))))

-- OPEN: "Open by 1 to 9, 13, 11, 12". "with k_0 = 0 that is the output as claim, and no coin"
abbrev pub OneOpen : Type 0
OneOpen =
    (c input cs : List ℕ) (y : ℕ) → output_exponent c ≡ 0
    → open_answer c input (y ∷ []) cs
    ≡ opened_by (first (lists_cause c input) (need (ltb y (prime_of c)) 13 (need_coins c cs 0))) [] (at (place 1 0) y)

-- THE SHARES: all of the coin lists for the true output; for a false one "at most 5 × K × p^(n-1) of the p^n", and the sharp bound
abbrev pub OneComplete : Acceptance → Type 0
OneComplete accepts =
    (c input : List ℕ) → lists_cause c input ≡ 0 → output_exponent c ≡ 0 → PassesAll c (accepts c input (value c input ∷ []) (honest c input))

abbrev pub OneSound : Acceptance → Type 0
OneSound accepts =
    (c input : List ℕ) → lists_cause c input ≡ 0 → output_exponent c ≡ 0 → (y : ℕ) → ¬ (y ≡ value c input) → (rule : Rule Place) → FitsCircuit c rule
    → passing (prime_of c) (coin_count c) (accepts c input (y ∷ []) rule) ≤ 5 * exponent_sum c * prime_of c ^ (coin_count c - 1)

abbrev pub OneSharp : Acceptance → Type 0
OneSharp accepts =
    (c input : List ℕ) → lists_cause c input ≡ 0 → output_exponent c ≡ 0 → (y : ℕ) → ¬ (y ≡ value c input) → (rule : Rule Place) → FitsCircuit c rule
    → passing (prime_of c) (coin_count c) (accepts c input (y ∷ []) rule) + luckless (prime_of c) (message_losses c) ≤ prime_of c ^ coin_count c

pub record WithOneOutput : Type 0 where
  pub start : OneStart
  pub check : OneCheck
  pub opening : OneOpen
  pub whole_complete : OneComplete whole_accepts
  pub session_complete : OneComplete session_accepts
  pub whole_sound : OneSound whole_accepts
  pub session_sound : OneSound session_accepts
  pub whole_sharp : OneSharp whole_accepts
  pub session_sharp : OneSharp session_accepts
