-- A line is not long: a number takes at most eleven bytes, its space among them.
-- Assumes nothing.
use Prim.Native.Nat.{ℕ, ◌+◌, ◌*◌, ◌≤◌}
use mathlib.Core.List.{List, [], ◌∷◌, ◌++◌}
use native.Mathlib.Omega.{arith}
use lib.ListN.{length, length-append}
use Rattle.text.specs.Lines.{line_end, numbers_text, line_text}
use Rattle.text.proofs.Decimal.{digits_few}

numbers_short : (xs : List ℕ) → length (numbers_text xs) ≤ 11 * length xs
unfolding numbers_text
numbers_short [] = omega arith
numbers_short (x ∷ xs) = rw length-append (omega (arith, digits_few 9 x, numbers_short xs))

pub line_short : (word xs : List ℕ) → length (line_text word xs) ≤ length word + 11 * length xs + 1
unfolding line_text
line_short word xs = rw (length-append (word ++ numbers_text xs) (line_end ∷ []), length-append word (numbers_text xs)) (omega (arith, numbers_short xs))
