-- The limits of what the program `transcript` prints.
-- Assumes nothing.
use Rattle.std.specs.Prelude.{ℕ, ◌+◌, ◌*◌}
use Rattle.circuit.specs.Limits.{max_outputs, max_coins, max_message_words}

-- The longest text: for the outputs' line a word of five letters and a line's end, for each round, no more of them than coins, a word of at most
-- four letters and a line's end, and for each output and message word a space and ten digits.
abbrev pub max_text : ℕ
max_text = 6 + 11 * max_outputs + 5 * max_coins + 11 * max_message_words
