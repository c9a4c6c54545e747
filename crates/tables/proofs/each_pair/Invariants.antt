-- `each_pair` meets its contract. The loop keeps `Paired`: i pairs of entries are replaced, and the others are as they were.
use Rattle.std.proofs.Common.{ℕ, ◌≡◌, ◌≤◌, length}
use Rattle.tables.proofs.Pairing.{Paired}
use Rattle.tables.proofs.each_pair.Given as goal

abbrev pub invariant-loop-i : goal.invariant-loop-i
invariant-loop-i g l =
    (a b : ℕ → ℕ → ℕ) → ((x y : ℕ) (r : ℕ × ℕ) → goal.F-post g l.step x y r → r ≡ (a x y, b x y))
    → (room : length l.initial.lower ≤ length l.initial.upper) → Paired a b l.initial.lower l.initial.upper room l.lower l.upper l.i
