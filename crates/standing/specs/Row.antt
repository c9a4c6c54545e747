-- A point's coordinates in a row.
-- Assumes nothing.
use Rattle.std.specs.Prelude.{ℕ, List, replicate}
use Rattle.lists.specs.Buffer.{over}
use Rattle.extension.specs.Limits.{row_length}

-- the row with the coordinates in front, and 0 in the words past them
abbrev pub padded : List ℕ → List ℕ
padded coordinates = over coordinates (replicate row_length 0)
