-- The limit of an array's length.
-- Assumes nothing.
use Rattle.std.specs.Prelude.{ℕ}
use Rattle.circuit.specs.Limits.{max_words}

-- the largest count of an array: "the words of the longest circuit list"
abbrev pub max_count : ℕ
max_count = max_words
