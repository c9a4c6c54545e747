-- "The whole check accepts a coin list if Check, given it and the rule's messages for it in the walk's order, answers accepted". "The session
-- accepts if one of its calls answers accepted".
-- Assumes nothing.
use Rattle.std.specs.Prelude.{ℕ, Bool, List}
use Rattle.counting.specs.Coins.{CoinList}
use Rattle.circuit.specs.Circuit.{prime_of, coin_count}
use Rattle.walk.specs.Game.{passes}
use Rattle.walk.specs.Rule.{Rule, Fits}
use Rattle.walk.specs.Session.{any_accepted}
use Rattle.protocol.specs.Start.{first_point, later_coins}
use Rattle.protocol.specs.Rounds.{Place, rounds}
use Rattle.protocol.specs.Judge.{descent}
use Rattle.protocol.specs.Check.{check_answer}
use Rattle.protocol.specs.Session.{session_on}
use Rattle.protocol.specs.Prove.{messages_on, transcript}

-- a rule for this circuit: its messages have the lengths that the walk calls for, "three words for a sum round, k_i + 1 for a line, below p or not"
abbrev pub FitsCircuit : List ℕ → Rule Place → Type 0
FitsCircuit c rule = (cs : List ℕ) → CoinList (prime_of c) (coin_count c) cs → Fits (descent c) rule (rounds c) (first_point c cs) (later_coins c cs)

-- acceptance of a coin list, for a circuit, an input, outputs and a rule
abbrev pub Acceptance : Type 0
Acceptance = List ℕ → List ℕ → List ℕ → Rule Place → List ℕ → Bool

abbrev pub whole_accepts : Acceptance
whole_accepts c input ys rule cs = passes (check_answer c input ys cs (transcript c rule cs))

-- an opening, then a step for each message from the record that it gave, refused ones among them
abbrev pub session_accepts : Acceptance
session_accepts c input ys rule cs = any_accepted (session_on c input ys cs (messages_on c rule cs))
