-- What this crate proves of arithmetic modulo a prime.
-- Assumes nothing.
use Rattle.std.specs.Prelude.{ℕ, ◌+◌, ◌*◌, ◌%◌, ◌≤◌, ◌<◌, ◌≡◌, ◌⊎◌, ◌≢◌, List, eqb, length}
use Rattle.lists.specs.Each.{All, Distinct}
use Rattle.lists.specs.Count.{count, range}
use Rattle.primes.specs.Prime.{Prime}
use Rattle.algebra.specs.Numbers.{words}
use Rattle.algebra.specs.Polynomial.{value_at}

-- a product that a prime divides has a factor that it divides
abbrev pub NoZeroDivisors : Type 0
NoZeroDivisors = (p : ℕ) → Prime p → (a b : ℕ) → (a * b) % p ≡ 0 → (a % p ≡ 0) ⊎ (b % p ≡ 0)

-- the points of 0 .. p - 1 at which two polynomials agree
abbrev pub agreements : ℕ → List ℕ → List ℕ → ℕ
agreements p f g = count (λ x. eqb (value_at (words p) f x) (value_at (words p) g x)) (range p)

abbrev pub Residues : ℕ → List ℕ → Type 0
Residues p f = All (λ c. c < p) f

-- two lists of m + 1 residues that differ agree at no more than m of the p points
abbrev pub RootBound : Type 0
RootBound =
    (p : ℕ) → Prime p → (m : ℕ) (f g : List ℕ) → length f ≡ m + 1 → length g ≡ m + 1 → Residues p f → Residues p g → f ≢ g
    → agreements p f g ≤ m

-- two lists of one length that agree at as many distinct points as they have coefficients are equal
abbrev pub EqualByValues : Type 0
EqualByValues =
    (p : ℕ) → Prime p → (f g points : List ℕ) → length f ≡ length g → Residues p f → Residues p g
    → Residues p points → Distinct points → length f ≤ length points
    → All (λ x. value_at (words p) f x ≡ value_at (words p) g x) points → f ≡ g

-- all that this crate states; `proved` in `proofs/Proved` inhabits it
pub record Theorems : Type 0 where
  pub no_zero_divisors : NoZeroDivisors
  pub root_bound : RootBound
  pub equal_by_values : EqualByValues
