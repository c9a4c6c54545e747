-- Refusals in order, as numbers: 0 where there is none.
-- Assumes nothing.
use Rattle.std.specs.Prelude.{ℕ, zero, suc, Bool, true, false}

-- a condition, the number of the refusal where it fails, and what is tried after it
abbrev pub need : Bool → ℕ → ℕ → ℕ
need true cause rest = rest
need false cause rest = cause

-- the first refusal of two checks
abbrev pub first : ℕ → ℕ → ℕ
first zero rest = rest
first (suc cause) rest = suc cause
