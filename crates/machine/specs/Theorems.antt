-- DEMAND 3 OF THE MACHINE: what holds of any functions that keep the contracts. `proved` in `proofs/Proved` is the proof.
-- Assumes nothing.
use Rattle.std.specs.Prelude.{ℕ, suc, ◌≤◌, ◌<◌, ◌≡◌, true, List, [], ◌∷◌, ◌++◌, length, take, get_or}
use Rattle.lists.specs.Each.{All}
use Rattle.counting.specs.Coins.{CoinList}
use Rattle.circuit.specs.Circuit.{prime_of, output_exponent, coin_count, message_words}
use Rattle.circuit.specs.Legal.{lists_cause}
use Rattle.circuit.specs.Values.{outputs}
use Rattle.walk.specs.Rule.{Rule}
use Rattle.walk.specs.Session.{accepted, going_on, end_of, up_to, cut}
use Rattle.protocol.specs.Start.{later_coins}
use Rattle.protocol.specs.Rounds.{Place, rounds}
use Rattle.protocol.specs.Judge.{descent}
use Rattle.protocol.specs.Prove.{honest, Roomy}
use Rattle.protocol.specs.Accept.{Acceptance, FitsCircuit}
use Rattle.protocol.specs.Shares.{PassesAll, PassesFew, PassesByLuck}
use Rattle.protocol.specs.Theorems.{MessagePasses}
use Rattle.machine.specs.Words.{Words, WordRule, WordLists}
use Rattle.machine.specs.Machine.{Machine, is_begun, handed_out, answers, whole_accepts, session_accepts, proves_and_accepts, asking}
use Rattle.machine.specs.Code.{Code, KeepsContracts, of_code}
use Rattle.machine.specs.Exported.{FourWords, Library, KeepsExports, of_library}
use Rattle.machine.specs.Said.{ContractsSay}

-- a legal circuit with its input, as lists of words
pub record Job (c input : List ℕ) : Type 0 where
  pub circuit : Words c
  pub values : Words input
  pub legal : lists_cause c input ≡ 0

-- any rule whose messages are lists of words, of the lengths that the walk calls for
pub record AnyRule (c : List ℕ) (rule : Rule Place) : Type 0 where
  pub fits : FitsCircuit c rule
  pub words : WordRule rule

-- a list that is not the circuit's outputs: "a list is false if one word is, or if it has another length"
pub record FalseOutputs (c input ys : List ℕ) : Type 0 where
  pub words : Words ys
  pub differs : ¬ (ys ≡ outputs c input)

-- COMPLETENESS: "the honest prover's messages for the true outputs are accepted on all of them"
abbrev pub Complete : Acceptance → Type 0
Complete accepts = (c input : List ℕ) → Job c input → PassesAll c (accepts c input (outputs c input) (honest c input))

-- SOUNDNESS: "Whatever rule a false prover follows, a false list of outputs is accepted on at most (k_0 + 5 × K) × p^(n-1) of the p^n coin lists";
-- and the sharp bound
abbrev pub Sound : Acceptance → Type 0
Sound accepts =
    (c input : List ℕ) → Job c input → (ys : List ℕ) → FalseOutputs c input ys → (rule : Rule Place) → AnyRule c rule → PassesFew c (accepts c input ys rule)

abbrev pub Sharp : Acceptance → Type 0
Sharp accepts =
    (c input : List ℕ) → Job c input → (ys : List ℕ) → FalseOutputs c input ys → (rule : Rule Place) → AnyRule c rule → PassesByLuck c (accepts c input ys rule)

-- "the session accepts a coin list exactly when the whole check accepts it"
abbrev pub SameAcceptance : Acceptance → Acceptance → Type 0
SameAcceptance session whole =
    (c input : List ℕ) → Job c input → (ys : List ℕ) → Words ys → (rule : Rule Place) → AnyRule c rule
    → (cs : List ℕ) → CoinList (prime_of c) (coin_count c) cs → session c input ys rule cs ≡ whole c input ys rule cs

module _ {S : Type 0} (M : Machine S) where
  -- a session that was opened on these words
  pub record OpenedOn (c input ys cs : List ℕ) : Type 0 where
    pub lists : WordLists c input cs
    pub outputs : Words ys
    pub opened : is_begun (M.begin c input ys cs) ≡ true

  -- "steps on the messages of a transcript of exact length end as the whole check does"
  abbrev pub SameEnd : Type 0
  SameEnd =
      (c input ys cs : List ℕ) → OpenedOn c input ys cs → (ms : List ℕ) → Words ms → length ms ≡ message_words c
      → end_of (answers M c input ys cs (cut (descent c) (rounds c) ms)) ≡ end_of (M.check c input ys cs ms ∷ [])

  -- an opening hands out the coins before any message, and its answer rests on no other coin
  pub record OpenedAlike (c input ys before rest rest' : List ℕ) : Type 0 where
    pub hands : handed_out (M.begin c input ys (before ++ rest)) ≡ before
    pub alike : M.begin c input ys (before ++ rest) ≡ M.begin c input ys (before ++ rest')

  abbrev pub OpeningOnFirst : Type 0
  OpeningOnFirst =
      (c input ys before rest rest' : List ℕ) → length before ≡ output_exponent c → OpenedOn c input ys (before ++ rest) → OpenedOn c input ys (before ++ rest')
      → OpenedAlike c input ys before rest rest'

  -- "no answer before the last depends on a coin not yet handed out, except the coin it gives": of two coin lists that agree before coin j, the
  -- answers 0 to j are the same, but that answer j, where it goes on, goes on with the list's own coin
  abbrev pub NoEarlyCoin : Type 0
  NoEarlyCoin =
      (c input ys before common : List ℕ) (coin coin' : ℕ) (rest rest' : List ℕ)
      → length before ≡ output_exponent c → 0 < length rest
      → OpenedOn c input ys (before ++ (common ++ coin ∷ rest)) → OpenedOn c input ys (before ++ (common ++ coin' ∷ rest'))
      → (ms : List (List ℕ)) → All Words ms
      → up_to (length common) coin' (answers M c input ys (before ++ (common ++ coin ∷ rest)) ms)
      ≡ take (suc (length common)) (answers M c input ys (before ++ (common ++ coin' ∷ rest')) ms)

  -- a coin is handed out only where its message passed, and it is that message's own
  abbrev pub ComparedFirst : Type 0
  ComparedFirst =
      (c input ys cs : List ℕ) → OpenedOn c input ys cs → (ms : List (List ℕ)) → All Words ms → (j t : ℕ)
      → get_or (answers M c input ys cs ms) j accepted ≡ going_on t → MessagePasses c ys cs ms j × (t ≡ get_or (later_coins c cs) j 0)

  -- CODE ON BOTH SIDES: with a buffer that is long enough, Prove answers the outputs and writes words with which Check accepts them, on every coin
  -- list; and the messages that Prove is asked for one by one are accepted by the session, on every coin list
  abbrev pub ProvedAccepted : Type 0
  ProvedAccepted =
      (c input : List ℕ) → Job c input → (buffer : List ℕ) → Words buffer → message_words c ≤ length buffer
      → PassesAll c (proves_and_accepts M c input buffer)

  abbrev pub AskedAccepted : Type 0
  AskedAccepted =
      (c input : List ℕ) → Job c input → (buffer : List ℕ → List ℕ) → ((past : List ℕ) → Words (buffer past)) → Roomy c buffer
      → PassesAll c (session_accepts M c input (outputs c input) (asking M c input buffer))

  -- ALL OF IT, of one machine
  pub record Demand3 : Type 0 where
    pub whole_complete : Complete (whole_accepts M)
    pub whole_sound : Sound (whole_accepts M)
    pub whole_sharp : Sharp (whole_accepts M)
    pub session_complete : Complete (session_accepts M)
    pub session_sound : Sound (session_accepts M)
    pub session_sharp : Sharp (session_accepts M)
    pub same_acceptance : SameAcceptance (session_accepts M) (whole_accepts M)
    pub same_end : SameEnd
    pub opening_on_first : OpeningOnFirst
    pub no_early_coin : NoEarlyCoin
    pub compared_first : ComparedFirst
    pub proved_accepted : ProvedAccepted
    pub asked_accepted : AskedAccepted

-- THE THEOREM, of the operations as the code has them and of the functions that are exported: whatever keeps their contracts, whose own text the
-- hypotheses are, has demand 3
pub record Demand3OfTheMachine : Type 0 where
  pub contracts : ContractsSay
  pub code : (F : Code) → KeepsContracts F → Demand3 (of_code F)
  pub exported : (L : Library) → KeepsExports L → (lent : List ℕ) → FourWords lent → Demand3 (of_library L lent)
