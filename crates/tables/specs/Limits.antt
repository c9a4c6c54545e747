-- The width of a table.
-- Assumes nothing.
use Rattle.std.specs.Prelude.{ℕ}

-- a table holds a word for each gate of a layer: their weights at a point, or values
abbrev pub table_width : ℕ
table_width = 256
