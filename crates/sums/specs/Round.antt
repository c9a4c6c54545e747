-- The rounds of a layer: the coordinates that are fixed, from the rows that hold the two points, and the message that the code gives.
-- Assumes nothing.
use Rattle.std.specs.Prelude.{ℕ, ◌-◌, ◌*◌, ◌^◌, ◌≤◌, ◌<◌, min, ◌≡◌, Bool, List, [], ◌++◌, length, take, get_or}
use Rattle.lists.specs.Each.{All}
use Rattle.primes.specs.Prime.{Prime}
use Rattle.algebra.specs.Numbers.{Numbers, words}
use Rattle.extension.specs.Limits.{row_length}
use Rattle.tables.specs.Limits.{table_width}
use Rattle.circuit.specs.Limits.{max_exponent}
use Rattle.circuit.specs.Gate.{Gate}
use Rattle.sumcheck.specs.Message.{sum_message}
use Rattle.sumcheck.specs.Gatewise.{Side, side_of, sum_by_gates}

-- of 2k coordinates the first n are fixed: first those of u, then those of v
abbrev pub fixed_first : ℕ → ℕ → List (List ℕ) → List ℕ
fixed_first k n rows = take n (take k (get_or rows 0 []))

abbrev pub fixed_second : ℕ → ℕ → List (List ℕ) → List ℕ
fixed_second k n rows = take (n - k) (take k (get_or rows 1 []))

module _ (N : Numbers ℕ) where
  -- the side of a point with the coordinates xs fixed; of the values those count that fit in a table
  abbrev pub side_at : ℕ → List ℕ → List ℕ → Bool → Side ℕ
  side_at k values xs next = side_of N k (take table_width values) xs next

  -- the message of the round with n coordinates fixed
  abbrev pub round_message : ℕ → List Gate → List ℕ → List ℕ → List (List ℕ) → ℕ → List ℕ
  round_message k gs point values rows n = sum_by_gates N k gs point (take table_width values) (fixed_first k n rows) (fixed_second k n rows)

-- with a coordinate left, what `sum_message` gives is the honest message
abbrev pub HonestRound : Type 0
HonestRound =
    (p : ℕ) → Prime p → 3 ≤ p → (k n : ℕ) (gs : List Gate) (point values : List ℕ) (rows : List (List ℕ)) → k ≤ max_exponent → n < 2 * k
    → length (get_or rows 0 []) ≡ row_length → length (get_or rows 1 []) ≡ row_length → length values ≡ 2 ^ k
    → All (λ g. (g.left < 2 ^ k) × (g.right < 2 ^ k)) gs → length gs ≤ 2 ^ length point
    → round_message (words p) (min k row_length) gs point values rows n
    ≡ sum_message (words p) k gs point values (take n (take k (get_or rows 0 []) ++ take k (get_or rows 1 [])))

-- all that this crate states besides its contracts; `proved` in `proofs/Proved` inhabits it
pub record Theorems : Type 0 where
  pub honest_round : HonestRound
