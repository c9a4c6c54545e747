-- What the program `transcript` prints: "`claim` and the outputs, then for each message `sum` or `line` and its words".
-- Assumes nothing.
use Rattle.std.specs.Prelude.{ℕ, cond, List, [], ◌∷◌, ◌++◌, take, drop}
use Rattle.refusal.specs.Order.{first}
use Rattle.circuit.specs.Legal.{lists_cause}
use Rattle.circuit.specs.Values.{outputs}
use Rattle.protocol.specs.Rounds.{Place, rounds, is_line}
use Rattle.protocol.specs.Judge.{message_length}
use Rattle.protocol.specs.Check.{need_coins}
use Rattle.protocol.specs.Prove.{honest, transcript}
use Rattle.text.specs.Lines.{ascii, line_text}
use Rattle.printing.specs.Printed.{answer_text}

abbrev pub word_of : List ℕ → Place → List ℕ
word_of c r = cond (is_line c r) (ascii "line") (ascii "sum")

-- a line for each of these rounds, from the words of their messages, one message directly after another
unfoldable pub messages_text : List ℕ → List Place → List ℕ → List ℕ
messages_text c [] ms = []
messages_text c (r ∷ rs) ms = line_text (word_of c r) (take (message_length c r) ms) ++ messages_text c rs (drop (message_length c r) ms)

-- "The transcript's first line holds all outputs", and then come all messages
abbrev pub proof_text : List ℕ → List ℕ → List ℕ → List ℕ
proof_text c ys ms = line_text (ascii "claim") ys ++ messages_text c (rounds c) ms

-- "1 to 9, 11, 12": Prove's refusals, but for a buffer of its caller
abbrev pub lists_refusal : List ℕ → List ℕ → List ℕ → ℕ
lists_refusal c input cs = first (lists_cause c input) (need_coins c cs 0)

unfoldable pub lists_text : List ℕ → List ℕ → List ℕ → List ℕ
lists_text c input cs = answer_text (lists_refusal c input cs) (proof_text c (outputs c input) (transcript c (honest c input) cs))
