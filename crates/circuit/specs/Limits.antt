-- The limits of a circuit, and what follows from them for the sizes of the largest.
-- Assumes nothing.
use Rattle.std.specs.Prelude.{ℕ, ◌+◌, ◌-◌, ◌*◌, ◌^◌}

-- "D from 1 to 12"
abbrev pub max_depth : ℕ
max_depth = 12

-- "its width exponent k_i: k_0, from 0 to 4, and the others from 0 to 8"
abbrev pub max_exponent : ℕ
max_exponent = 8

abbrev pub max_output_exponent : ℕ
max_output_exponent = 4

-- the words before k_1: p, D and k_0
abbrev pub header_words : ℕ
header_words = 3

-- the gates of a layer
abbrev pub max_width : ℕ
max_width = 2 ^ max_exponent

-- the outputs of a circuit
abbrev pub max_outputs : ℕ
max_outputs = 2 ^ max_output_exponent

-- its gates: those of layer 0 are its outputs
abbrev pub max_gates : ℕ
max_gates = max_outputs + (max_depth - 1) * max_width

-- "gate and input values" of the largest circuit
abbrev pub max_values : ℕ
max_values = max_gates + max_width

-- the words of its list
abbrev pub max_words : ℕ
max_words = header_words + max_depth + 3 * max_gates

-- its coins, and the words of its messages
abbrev pub max_coins : ℕ
max_coins = max_output_exponent + max_depth * (2 * max_exponent + 1)

abbrev pub max_message_words : ℕ
max_message_words = max_depth * (7 * max_exponent + 1)
