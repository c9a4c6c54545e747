-- What this crate proves, on words.
-- Assumes nothing.
use Rattle.std.specs.Prelude.{ℕ, suc, ◌*◌, ◌^◌, ◌≤◌, ◌<◌, ◌≡◌, List, [], ◌∷◌, ◌++◌, map, length}
use Rattle.lists.specs.Each.{All}
use Rattle.primes.specs.Prime.{Prime}
use Rattle.algebra.specs.Numbers.{Numbers, words}
use Rattle.algebra.specs.Ring.{Ring}
use Rattle.algebra.specs.Polynomial.{value_at}
use Rattle.multilinear.specs.Extension.{extension}
use Rattle.circuit.specs.Gate.{Gate, gate_value}
use Rattle.sumcheck.specs.Summand.{Formula, partial_sum, line_point}
use Rattle.sumcheck.specs.Message.{sum_message, line_message}
use Rattle.sumcheck.specs.Line.{line_halving}
use Rattle.sumcheck.specs.Gatewise.{SumByGates}

-- the specification's formula for the summand
abbrev pub FormulaOnWords : Type 0
FormulaOnWords = (p : ℕ) → 0 < p → Formula (words p)

-- the extension of the values above is the sum of the summand over {0, 1}, at any point
abbrev pub LayerIdentity : Type 0
LayerIdentity =
    (p : ℕ) → 0 < p → (k : ℕ) (gs : List Gate) (point vs : List ℕ) → length vs ≡ 2 ^ k
    → All (λ g. (g.left < 2 ^ k) × (g.right < 2 ^ k)) gs
    → partial_sum (words p) k gs point vs [] ≡ extension (words p) (map (gate_value (words p) vs) gs) point

-- a partial sum with a coordinate left is the sum of those with 0 and with 1 for it
abbrev pub SumOfTwo : Type 0
SumOfTwo =
    (p k : ℕ) (gs : List Gate) (point vs xs : List ℕ) → length xs < 2 * k
    → partial_sum (words p) k gs point vs xs
    ≡ (words p).add (partial_sum (words p) k gs point vs (xs ++ (0 ∷ []))) (partial_sum (words p) k gs point vs (xs ++ (1 ∷ [])))

-- the honest sum message evaluates to the partial sum with the coin appended
abbrev pub SumMessageValue : Type 0
SumMessageValue =
    (p : ℕ) → 0 < p → (k : ℕ) (gs : List Gate) (point vs xs : List ℕ) (r : ℕ)
    → value_at (words p) (sum_message (words p) k gs point vs xs) r ≡ partial_sum (words p) k gs point vs (xs ++ (r ∷ []))

-- the honest line message evaluates to V at the line's point
abbrev pub LineMessageValue : Type 0
LineMessageValue =
    (p : ℕ) → 0 < p → (vs u v : List ℕ) (t : ℕ)
    → value_at (words p) (line_message (words p) vs u v) t ≡ extension (words p) vs (line_point (words p) u v t)

-- the line's ends
abbrev pub LineEnds : Type 0
LineEnds =
    (p : ℕ) → 0 < p → (vs u v : List ℕ) → length u ≡ length v
    → (extension (words p) vs (line_point (words p) u v 0) ≡ extension (words p) vs u)
    × (extension (words p) vs (line_point (words p) u v 1) ≡ extension (words p) vs v)

-- exact lengths, and residues as words
abbrev pub SumMessageWords : Type 0
SumMessageWords =
    (p : ℕ) → 0 < p → (k : ℕ) (gs : List Gate) (point vs xs : List ℕ)
    → (length (sum_message (words p) k gs point vs xs) ≡ 3) × All (λ c. c < p) (sum_message (words p) k gs point vs xs)

abbrev pub LineMessageWords : Type 0
LineMessageWords =
    (p : ℕ) → 0 < p → (vs u v : List ℕ)
    → (length (line_message (words p) vs u v) ≡ suc (length u)) × All (λ c. c < p) (line_message (words p) vs u v)

abbrev pub PartialSumBelow : Type 0
PartialSumBelow = (p : ℕ) → 0 < p → (k : ℕ) (gs : List Gate) (point vs xs : List ℕ) → partial_sum (words p) k gs point vs xs < p

abbrev pub LinePointLength : Type 0
LinePointLength = (p : ℕ) (u v : List ℕ) (t : ℕ) → length u ≡ length v → length (line_point (words p) u v t) ≡ length u

-- the coefficients from halves are the honest line message: both have V's values along the line, at no fewer points than coefficients
abbrev pub LineByHalves : Type 0
LineByHalves =
    (p : ℕ) → Prime p → (vs u v : List ℕ) → length u ≡ length v → suc (length u) ≤ p → length vs ≡ 2 ^ length u → All (λ w. w < p) vs
    → line_halving (words p) vs u v ≡ line_message (words p) vs u v

-- all that this crate states; `proved` in `proofs/Proved` inhabits it
pub record Theorems : Type 1 where
  pub formula : {C : Type 0} (N : Numbers C) → Ring N → Formula N
  pub formula_on_words : FormulaOnWords
  pub layer_identity : LayerIdentity
  pub sum_of_two : SumOfTwo
  pub sum_message_value : SumMessageValue
  pub line_message_value : LineMessageValue
  pub line_ends : LineEnds
  pub sum_message_words : SumMessageWords
  pub line_message_words : LineMessageWords
  pub partial_sum_below : PartialSumBelow
  pub line_point_length : LinePointLength
  pub line_by_halves : LineByHalves
  pub sum_by_gates_lem : SumByGates
