-- The limits of the programs.
-- Assumes nothing.
use Rattle.std.specs.Prelude.{ℕ, ◌/◌}

-- "input above 65,536 bytes is 20"
abbrev pub max_bytes : ℕ
max_bytes = 65536

-- a word has four of them
abbrev pub max_words : ℕ
max_words = max_bytes / 4

-- the longest line of a number after a word of at most seven letters: with them a space, ten digits and the line's end
abbrev pub max_line : ℕ
max_line = 19
