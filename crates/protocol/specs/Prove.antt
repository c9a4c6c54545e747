-- The honest messages, and both forms of Prove.
-- Assumes nothing.
use Rattle.std.specs.Prelude.{ℕ, zero, suc, ◌-◌, ◌≤◌, ◌≡◌, Bool, true, ◌&&◌, cond, eqb, ltb, leb, length, take, drop, get_or}
use mathlib.Core.List.{List, [], flatten}
use Rattle.lists.specs.Buffer.{over}
use Rattle.algebra.specs.Numbers.{words}
use Rattle.refusal.specs.Order.{need, first}
use Rattle.circuit.specs.Circuit.{prime_of, output_exponent, exponent_at, coin_count, message_words}
use Rattle.circuit.specs.Legal.{all_below, lists_cause}
use Rattle.circuit.specs.Values.{values_at, outputs}
use Rattle.sumcheck.specs.Message.{sum_message, line_message}
use Rattle.walk.specs.Rule.{Rule, said}
use Rattle.protocol.specs.Start.{first_point, later_coins}
use Rattle.protocol.specs.Rounds.{Place, place, rounds, is_line}
use Rattle.protocol.specs.Judge.{fixed, point_at, gates_above, message_length}
use Rattle.protocol.specs.Check.{need_coins}

-- the walk's message of a round, "with V the extension of layer i's values" vs
abbrev pub message_from : List ℕ → List ℕ → Rule Place
message_from c vs r past =
    cond (is_line c r)
    (line_message (words (prime_of c)) vs
    (take (exponent_at c r.layer) (fixed c r.layer past)) (drop (exponent_at c r.layer) (fixed c r.layer past)))
    (sum_message (words (prime_of c)) (exponent_at c r.layer) (gates_above c r.layer) (point_at c r.layer past)
    vs (fixed c r.layer past))

-- "The honest messages are a rule too."
unfoldable pub honest : List ℕ → List ℕ → Rule Place
honest c input r past = message_from c (values_at c input r.layer) r past

-- a rule's messages for a coin list, "in the walk's order", and one directly after another
abbrev pub messages_on : List ℕ → Rule Place → List ℕ → List (List ℕ)
messages_on c rule cs = said rule (rounds c) (first_point c cs) (later_coins c cs)

unfoldable pub transcript : List ℕ → Rule Place → List ℕ → List ℕ
transcript c rule cs = flatten (messages_on c rule cs)

-- Prove, whole: "It refuses by 1 to 9, 11, 12, then 10 where the buffer is shorter than all message words. Otherwise it answers the outputs and
-- the number of words written; each honest message is written directly after the one before it, the rest unchanged."
pub data Proof : Type 0 where
  proved : List ℕ → ℕ → Proof
  refused : ℕ → Proof

unfoldable pub prove_cause : List ℕ → List ℕ → List ℕ → List ℕ → ℕ
prove_cause c input cs buffer = first (lists_cause c input) (need_coins c cs (need (leb (message_words c) (length buffer)) 10 0))

abbrev pub proof_of : ℕ → List ℕ → ℕ → Proof
proof_of zero ys n = proved ys n
proof_of (suc cause) ys n = refused (suc cause)

unfoldable pub prove_answer : List ℕ → List ℕ → List ℕ → List ℕ → Proof
prove_answer c input cs buffer = proof_of (prove_cause c input cs buffer) (outputs c input) (message_words c)

unfoldable pub prove_buffer : List ℕ → List ℕ → List ℕ → List ℕ → List ℕ
prove_buffer c input cs buffer =
    cond (eqb (prove_cause c input cs buffer) 0) (over (transcript c (honest c input) cs) buffer) buffer

-- Prove, one message: "It refuses by 1 to 9, by 11 where the prefix has n coins or more, or fewer than k_0, by 12, then by 10 where the buffer is shorter than this
-- message. Otherwise it writes the honest message that follows the prefix at the buffer's start, leaves the rest and answers its word count."
abbrev pub place_of : List ℕ → List ℕ → Place
place_of c prefix = get_or (rounds c) (length prefix - output_exponent c) (place 0 0)

-- whether a message follows so many coins: those before any message are among them, and not all n
abbrev pub followed : List ℕ → ℕ → Bool
followed c coins = leb (output_exponent c) coins && ltb coins (coin_count c)

unfoldable pub prove_one_cause : List ℕ → List ℕ → List ℕ → List ℕ → ℕ
prove_one_cause c input prefix buffer =
    first (lists_cause c input)
    (need (followed c (length prefix)) 11
    (need (all_below (prime_of c) prefix) 12
    (need (leb (message_length c (place_of c prefix)) (length buffer)) 10 0)))

pub data OneMessage : Type 0 where
  wrote : ℕ → OneMessage
  refused : ℕ → OneMessage

abbrev pub one_of : ℕ → ℕ → OneMessage
one_of zero n = wrote n
one_of (suc cause) n = refused (suc cause)

unfoldable pub prove_one_answer : List ℕ → List ℕ → List ℕ → List ℕ → OneMessage
prove_one_answer c input prefix buffer = one_of (prove_one_cause c input prefix buffer) (message_length c (place_of c prefix))

unfoldable pub prove_one_buffer : List ℕ → List ℕ → List ℕ → List ℕ → List ℕ
prove_one_buffer c input prefix buffer =
    cond (eqb (prove_one_cause c input prefix buffer) 0) (over (honest c input (place_of c prefix) prefix) buffer) buffer

-- the message that is read off a buffer by the word count that was answered
abbrev pub message_in : OneMessage → List ℕ → List ℕ
message_in (wrote n) after = take n after
message_in (refused cause) after = []

-- the rule that asks Prove for each message in turn, with a buffer that may be another one each time
abbrev pub asking : List ℕ → List ℕ → (List ℕ → List ℕ) → Rule Place
asking c input buffer r past = message_in (prove_one_answer c input past (buffer past)) (prove_one_buffer c input past (buffer past))

-- each of these buffers, one for each list of coins that a message follows, holds that message
abbrev pub Roomy : List ℕ → (List ℕ → List ℕ) → Type 0
Roomy c buffer = (past : List ℕ) → followed c (length past) ≡ true → message_length c (place_of c past) ≤ length (buffer past)
