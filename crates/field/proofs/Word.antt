-- Remainders of words by a number from 1 to 2^32.
-- Assumes nothing.
use mathlib.Core.Path.{◌≡◌, sym, ap, ◌∙◌}
use Prim.Native.Nat.{ℕ, ◌+◌, ◌-◌, ◌*◌, ◌/◌, ◌%◌, ◌<◌, ◌≤◌}
use native.Mathlib.Nat.{mod-lt, mod-eq_of_lt, mod-eq-sub-mod, div-add-mod, add-mul-mod_self_left, add-mul-mod_self_right}
use native.Mathlib.Nat.{sub-add_cancel}
use native.Mathlib.Omega.{arith}
use Rattle.algebra.proofs.Euclid.{mod_mul_left}

pub below : {n p : ℕ} → n < p → n ≡ n % p
below h = sym (mod-eq_of_lt h)

pub once : {n p : ℕ} → p ≤ n → n - p < p → n - p ≡ n % p
once l h = sym (mod-eq-sub-mod l ∙ mod-eq_of_lt h)

-- multiples of p taken off
pub less_multiple : (n q p : ℕ) → q * p ≤ n → (n - q * p) % p ≡ n % p
less_multiple n q p h = sym (add-mul-mod_self_right (n - q * p) q p) ∙ ap (λ (k : ℕ). k % p) (sub-add_cancel h)

-- a product by a multiplier is one by the word that it was made of
pub by_residue : (p z by x : ℕ) → by ≡ z % p → (by * x) % p ≡ (z * x) % p
by_residue p z by x e = ap (λ (n : ℕ). (n * x) % p) e ∙ mod_mul_left z x p

-- a difference, with the modulus added first
pub difference : (p a b : ℕ) → 0 < p → b ≤ a + p → (a + p - b) % p ≡ (a + (p - b % p)) % p
difference p a b pos h =
    let low : b % p < p = mod-lt b pos in
    let split : p * (b / p) + b % p ≡ b = div-add-mod b p in
    sym (add-mul-mod_self_left (a + p - b) p (b / p)) ∙ ap (λ (k : ℕ). k % p) (omega arith)
