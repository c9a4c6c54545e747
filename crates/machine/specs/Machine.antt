-- A machine: what can be asked for a check, an opening, a step and both forms of a proof. Its answers are told by their case, and S is whatever it
-- keeps a session in. Then what lists of calls to it give.
-- Assumes nothing.
use Rattle.std.specs.Prelude.{ℕ, Bool, true, false, ◌&&◌, List, [], ◌∷◌, take}
use Rattle.counting.specs.Coins.{same}
use Rattle.circuit.specs.Values.{outputs}
use Rattle.walk.specs.Rule.{Rule}
use Rattle.walk.specs.Session.{Answer, is_accepted, any_accepted}
use Rattle.protocol.specs.Rounds.{Place}
use Rattle.protocol.specs.Prove.{Proof, proved, refused, OneMessage, messages_on, transcript, message_in}
use Rattle.protocol.specs.Accept.{Acceptance}

-- an opening hands out coins and gives a session, or refuses
pub data Begun (S : Type 0) : Type 0 where
  begun : List ℕ → S → Begun S
  declined : ℕ → Begun S

abbrev pub is_begun : {S : Type 0} → Begun S → Bool
is_begun (begun us s) = true
is_begun (declined cause) = false

abbrev pub handed_out : {S : Type 0} → Begun S → List ℕ
handed_out (begun us s) = us
handed_out (declined cause) = []

-- the arguments are a circuit, an input, then what the operation takes, in its order; the operations that write are given a buffer and give the
-- buffer that they leave
pub record Machine (S : Type 0) : Type 0 where
  pub check : List ℕ → List ℕ → List ℕ → List ℕ → List ℕ → Answer
  pub begin : List ℕ → List ℕ → List ℕ → List ℕ → Begun S
  pub step : List ℕ → List ℕ → List ℕ → S → List ℕ → Answer × S
  pub prove : List ℕ → List ℕ → List ℕ → List ℕ → Proof × List ℕ
  pub prove_one : List ℕ → List ℕ → List ℕ → List ℕ → OneMessage × List ℕ

module _ {S : Type 0} (M : Machine S) where
  -- A SESSION'S CALLS: "then come as many steps as there are messages, each with the same lists, .. and the record that the last call left"
  unfoldable pub stepping : List ℕ → List ℕ → List ℕ → S → List (List ℕ) → List Answer
  stepping c input cs s [] = []
  stepping c input cs s (m ∷ ms) = (M.step c input cs s m).0 ∷ stepping c input cs (M.step c input cs s m).1 ms

  abbrev pub continued : List ℕ → List ℕ → List ℕ → Begun S → List (List ℕ) → List Answer
  continued c input cs (begun us s) ms = stepping c input cs s ms
  continued c input cs (declined cause) ms = []

  abbrev pub answers : List ℕ → List ℕ → List ℕ → List ℕ → List (List ℕ) → List Answer
  answers c input ys cs ms = continued c input cs (M.begin c input ys cs) ms

  -- ACCEPTANCE: "Check, given it and the rule's messages for it in the walk's order, answers accepted"; "one of its calls answers accepted"
  abbrev pub whole_accepts : Acceptance
  whole_accepts c input ys rule cs = is_accepted (M.check c input ys cs (transcript c rule cs))

  abbrev pub session_accepts : Acceptance
  session_accepts c input ys rule cs = any_accepted (answers c input ys cs (messages_on c rule cs))

  -- PROVE AGAINST CHECK: the outputs that it answers are the circuit's, and with the words that it wrote they are accepted
  abbrev pub taken : List ℕ → List ℕ → List ℕ → Proof × List ℕ → Bool
  taken c input cs (proved ys n, after) = same ys (outputs c input) && is_accepted (M.check c input ys cs (take n after))
  taken c input cs (refused cause, after) = false

  abbrev pub proves_and_accepts : List ℕ → List ℕ → List ℕ → List ℕ → Bool
  proves_and_accepts c input buffer cs = taken c input cs (M.prove c input cs buffer)

  -- the rule that asks it for each message in turn
  abbrev pub asking : List ℕ → List ℕ → (List ℕ → List ℕ) → Rule Place
  asking c input buffer r past = message_in (M.prove_one c input past (buffer past)).0 (M.prove_one c input past (buffer past)).1
