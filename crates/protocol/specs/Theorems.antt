-- What is proved of the check, the session and the honest messages: `proved` in `proofs/Proved` is the proof of each.
-- Assumes nothing.
use Rattle.std.specs.Prelude.{ℕ, suc, ◌+◌, ◌<◌, ◌≡◌, List, [], ◌∷◌, ◌++◌, length, take, get_or}
use Rattle.lists.specs.Buffer.{over}
use Rattle.counting.specs.Coins.{CoinList}
use Rattle.circuit.specs.Circuit.{prime_of, output_exponent, coin_count, message_words}
use Rattle.circuit.specs.Legal.{lists_cause}
use Rattle.circuit.specs.Values.{outputs}
use Rattle.walk.specs.Rule.{Rule}
use Rattle.walk.specs.Session.{accepted, going_on, Record, at, refused, end_of, up_to, PassesAt, cut}
use Rattle.protocol.specs.Start.{first_point, later_coins, coins_to, claim_at, first_claim}
use Rattle.protocol.specs.Rounds.{Place, place, rounds}
use Rattle.protocol.specs.Judge.{descent}
use Rattle.protocol.specs.Check.{check_answer}
use Rattle.protocol.specs.Session.{opens, open_cause, open_answer, record_left, step_answer, session_on}
use Rattle.protocol.specs.Prove.{honest, messages_on, place_of, proved, wrote, prove_answer, prove_buffer, prove_one_answer, prove_one_buffer, asking, Roomy}
use Rattle.protocol.specs.Shares.{PassesAll, PassesFew, PassesByLuck}
use Rattle.protocol.specs.Accept.{Acceptance, FitsCircuit, whole_accepts, session_accepts}
use Rattle.protocol.specs.One.{WithOneOutput}

-- COMPLETENESS: "the honest prover's messages for the true outputs are accepted on all of them"
abbrev pub Complete : Acceptance → Type 0
Complete accepts =
    (c input : List ℕ) → lists_cause c input ≡ 0 → PassesAll c (accepts c input (outputs c input) (honest c input))

-- SOUNDNESS: "Whatever rule a false prover follows, a false list of outputs is accepted on at most (k_0 + 5 × K) × p^(n-1) of the p^n coin lists". "a
-- list is false if one word is, or if it has another length". The rule is taken after circuit, input and outputs, so that it may depend on them.
abbrev pub Sound : Acceptance → Type 0
Sound accepts =
    (c input : List ℕ) → lists_cause c input ≡ 0 → (ys : List ℕ) → ¬ (ys ≡ outputs c input) → (rule : Rule Place) → FitsCircuit c rule
    → PassesFew c (accepts c input ys rule)

-- beyond it, the sharp bound
abbrev pub Sharp : Acceptance → Type 0
Sharp accepts =
    (c input : List ℕ) → lists_cause c input ≡ 0 → (ys : List ℕ) → ¬ (ys ≡ outputs c input) → (rule : Rule Place) → FitsCircuit c rule
    → PassesByLuck c (accepts c input ys rule)

-- CODE ON BOTH SIDES: "Both forms of Prove write the honest messages where the buffer is long enough." The outputs that Prove answers are accepted
-- with the words that it wrote, whatever the coins.
abbrev pub ProvedAccepted : Type 0
ProvedAccepted =
    (c input cs buffer ys : List ℕ) (n : ℕ) → prove_answer c input cs buffer ≡ proved ys n
    → check_answer c input ys cs (take n (prove_buffer c input cs buffer)) ≡ 0

-- a message at a buffer's front, and the number of its words
pub record Writes (m before : List ℕ) (n : ℕ) (after : List ℕ) : Type 0 where
  pub count : n ≡ length m
  pub buffer : after ≡ over m before

-- What Prove writes for a prefix of the coins is the message that the session waits for there, and it answers the number of its words;
abbrev pub ProvedInTurn : Type 0
ProvedInTurn =
    (c input cs buffer : List ℕ) (j n : ℕ) → length cs ≡ coin_count c → prove_one_answer c input (coins_to c j cs) buffer ≡ wrote n
    → Writes (get_or (messages_on c (honest c input) cs) j []) buffer n (prove_one_buffer c input (coins_to c j cs) buffer)

-- and the session on messages that Prove was asked for one by one accepts the true outputs, whatever the coins.
abbrev pub AskedAccepted : Type 0
AskedAccepted =
    (c input : List ℕ) → lists_cause c input ≡ 0 → (buffer : List ℕ → List ℕ) → Roomy c buffer
    → PassesAll c (session_accepts c input (outputs c input) (asking c input buffer))

-- DEMAND 3, "alike for the whole check and for a session". The definitions are those that the contracts of Prove, Check, Open and Step cite.
pub record Demand3 : Type 0 where
  pub whole_complete : Complete whole_accepts
  pub whole_sound : Sound whole_accepts
  pub session_complete : Complete session_accepts
  pub session_sound : Sound session_accepts
  pub proved_accepted : ProvedAccepted
  pub proved_in_turn : ProvedInTurn
  pub asked_accepted : AskedAccepted

-- SESSION AND CHECK: "steps on the messages of a transcript of exact length end as the whole check does"
abbrev pub SameEnd : Type 0
SameEnd =
    (c input ys cs ms : List ℕ) → open_cause c input ys cs ≡ 0 → length ms ≡ message_words c
    → end_of (session_on c input ys cs (cut (descent c) (rounds c) ms)) ≡ check_answer c input ys cs ms

-- "the session accepts a coin list exactly when the whole check accepts it"
abbrev pub SameAcceptance : Type 0
SameAcceptance =
    (c input : List ℕ) → lists_cause c input ≡ 0 → (ys : List ℕ) (rule : Rule Place) → FitsCircuit c rule
    → (cs : List ℕ) → CoinList (prime_of c) (coin_count c) cs → session_accepts c input ys rule cs ≡ whole_accepts c input ys rule cs

-- THE OPENING hands out the coins before any message, and its answer rests on no other coin
abbrev pub OpeningOnFirst : Type 0
OpeningOnFirst =
    (c input ys before rest : List ℕ) → length before ≡ output_exponent c → open_cause c input ys (before ++ rest) ≡ 0
    → open_answer c input ys (before ++ rest) ≡ opens before (at (place 1 0) (claim_at c ys before))

-- NO EARLY COIN: "no answer before the last depends on a coin not yet handed out, except the coin it gives". Answer j gives the coin of message
-- j. Let two coin lists agree before that coin: then the answers 0 to j are the same, but that answer j, where it goes on, goes on with the
-- list's own coin.
abbrev pub NoEarlyCoin : Type 0
NoEarlyCoin =
    (c input ys : List ℕ) (ms : List (List ℕ)) (before common : List ℕ) (coin coin' : ℕ) (rest rest' : List ℕ)
    → length before ≡ output_exponent c → 0 < length rest
    → open_cause c input ys (before ++ (common ++ coin ∷ rest)) ≡ 0 → open_cause c input ys (before ++ (common ++ coin' ∷ rest')) ≡ 0
    → up_to (length common) coin' (session_on c input ys (before ++ (common ++ coin ∷ rest)) ms)
    ≡ take (suc (length common)) (session_on c input ys (before ++ (common ++ coin' ∷ rest')) ms)

-- THE COMPARISON COMES FIRST: where answer j goes on, message j has passed at its round, after its coins and at its claim, and the coin is its own
abbrev pub MessagePasses : List ℕ → List ℕ → List ℕ → List (List ℕ) → ℕ → Type 0
MessagePasses c ys cs ms j = PassesAt (descent c) (place 0 0) (rounds c) (first_point c cs) (first_claim c ys cs) ms (later_coins c cs) j

abbrev pub ComparedFirst : Type 0
ComparedFirst =
    (c input ys cs : List ℕ) (ms : List (List ℕ)) (j t : ℕ) → open_cause c input ys cs ≡ 0
    → get_or (session_on c input ys cs ms) j accepted ≡ going_on t → MessagePasses c ys cs ms j × (t ≡ get_or (later_coins c cs) j 0)

-- WHAT A REFUSED STEP LEAVES: the record, but for its end where the number is one of 14 to 18
abbrev pub RefusalKeeps : Type 0
RefusalKeeps =
    (c input cs : List ℕ) (s : Record Place) (m : List ℕ) (cause : ℕ) → (step_answer c input cs s m).0 ≡ refused cause
    → (step_answer c input cs s m).1 ≡ record_left cause s

-- "The honest message number j, from 0, reads k_0 + j coins; it depends on these alone": message j of the honest transcript is the one that follows
-- the coins before it
abbrev pub HonestByPrefix : Type 0
HonestByPrefix =
    (c input cs : List ℕ) (j : ℕ) → length cs ≡ coin_count c → output_exponent c + j < coin_count c
    → get_or (messages_on c (honest c input) cs) j [] ≡ honest c input (place_of c (coins_to c j cs)) (coins_to c j cs)

-- "The honest messages are a rule too"
abbrev pub HonestFits : Type 0
HonestFits = (c input : List ℕ) → lists_cause c input ≡ 0 → FitsCircuit c (honest c input)

-- all that this crate states
pub record Theorems : Type 0 where
  pub demand_3 : Demand3
  pub whole_sharp : Sharp whole_accepts
  pub session_sharp : Sharp session_accepts
  pub same_end : SameEnd
  pub same_acceptance : SameAcceptance
  pub opening_on_first : OpeningOnFirst
  pub no_early_coin : NoEarlyCoin
  pub compared_first : ComparedFirst
  pub refusal_keeps : RefusalKeeps
  pub honest_by_prefix : HonestByPrefix
  pub honest_fits : HonestFits
  pub with_one_output : WithOneOutput
