-- A line's coefficients in a row of words.
-- Assumes nothing.
use Rattle.std.specs.Prelude.{ℕ, ◌+◌, List, replicate}
use Rattle.lists.specs.Buffer.{over}
use Rattle.extension.specs.Limits.{row_length}

-- "k+1 coefficients", for points that fill their rows
abbrev pub max_coefficients : ℕ
max_coefficients = row_length + 1

-- the coefficients at the front, and 0 behind them
abbrev pub padded : List ℕ → List ℕ
padded f = over f (replicate max_coefficients 0)
