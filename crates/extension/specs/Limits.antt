-- The length of a row.
-- Assumes nothing.
use Rattle.std.specs.Prelude.{ℕ}

-- "two points of up to eight coordinates each": a row holds a point's coordinates at its front
abbrev pub row_length : ℕ
row_length = 8
