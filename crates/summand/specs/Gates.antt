-- The gates of a list of words, and the summand from the sums over the gates of each kind.
-- Assumes nothing.
use Rattle.std.specs.Prelude.{ℕ, suc, ◌/◌, ◌<◌, ◌≡◌, ◌≢◌, Option, MatchOption, List, map, length}
use Rattle.algebra.specs.Numbers.{Numbers}
use Rattle.multilinear.specs.Extension.{sum_from}
use Rattle.circuit.specs.Gate.{Gate, kinds, max_kind, operate}
use Rattle.circuit.specs.Circuit.{gates_of}
use Rattle.sumcheck.specs.Summand.{wiring}

-- the gates of a list of words, three words each
abbrev pub gates_in : List ℕ → List Gate
gates_in ws = gates_of (length ws / 3) ws

-- where the sum over the gates of a kind stands in a list of them, kind 1 first; a kind that does nothing has none
abbrev pub PlaceOf : ℕ → Option ℕ → Type 0
PlaceOf kind r = MatchOption r ((i : ℕ) → i < max_kind → kind ≢ suc i) (λ i. (kind ≡ suc i) × (i < max_kind))

module _ {C : Type 0} (N : Numbers C) where
  -- all of them
  abbrev pub wirings : List Gate → List C → List C → List C → List C
  wirings gs point u v = map (λ kind. wiring N kind gs point u v) kinds

  -- each times what its kind does with x and y
  abbrev pub by_kinds : List C → C → C → C
  by_kinds sums x y = sum_from N (λ i sum. N.mul sum (operate N (suc i) x y)) 0 sums
