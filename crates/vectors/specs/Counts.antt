-- How often messages can be accepted in a count.
-- Assumes nothing.
use Rattle.std.specs.Prelude.{ℕ, ◌^◌}

-- all lists of four coins below 13
abbrev pub all_lists : ℕ
all_lists = 13 ^ 4
