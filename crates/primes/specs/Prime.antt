-- Primes, and the four moduli of the product.
-- Assumes nothing.
use Rattle.std.specs.Prelude.{ℕ, ◌*◌, ◌≤◌, ◌≡◌, ◌⊎◌, Bool, true, false, ◌||◌, List, [], ◌∷◌, eqb}

-- at least 2, with no divisor but 1 and itself
pub record Prime (p : ℕ) : Type 0 where
  pub two_le : 2 ≤ p
  pub only : (d e : ℕ) → d * e ≡ p → (d ≡ 1) ⊎ (d ≡ p)

-- "p is 13, 65537, 2147483647 or 4294967291"
abbrev pub listed : List ℕ
listed = 13 ∷ 65537 ∷ 2147483647 ∷ 4294967291 ∷ []

-- whether p is one of a list
unfoldable pub is_one_of : List ℕ → ℕ → Bool
is_one_of [] p = false
is_one_of (q ∷ l) p = eqb p q || is_one_of l p

abbrev pub is_listed : ℕ → Bool
is_listed p = is_one_of listed p

-- "each proved prime"
abbrev pub ListedArePrime : Type 0
ListedArePrime = (p : ℕ) → is_listed p ≡ true → Prime p

-- all that this crate states; `proved` in `proofs/Proved` inhabits it
pub record Theorems : Type 0 where
  pub listed_are_prime : ListedArePrime
