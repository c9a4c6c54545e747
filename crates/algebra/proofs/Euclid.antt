-- A prime that divides a product divides a factor (Euclid): with a below p, p = q a + r, and p divides r b, where r is smaller than a.
-- Assumes nothing.
use Prim.Native.Nat.{ℕ, zero, suc, ◌+◌, ◌*◌, ◌%◌, ◌/◌, ◌≤◌, ◌<◌, ◌∣◌}
use mathlib.Core.Path.{◌≡◌, refl, sym, ◌∙◌, ap, subst}
use mathlib.Core.Logic.{◌⊎◌, inl, inr}
use native.Mathlib.Omega.{arith}
use native.Mathlib.Nat.{mod-lt, div-add-mod, add-mul-mod_self_left, dvd-mul_right, dvd-mul_left_of_dvd, dvd-add_iff_right, dvd_of_mod-eq-zero, mod-eq-zero_of_dvd, mul_comm, one-mul}
use Rattle.primes.specs.Prime.{Prime}
use Rattle.algebra.specs.Theorems.{NoZeroDivisors}

pub mod_mul_left : (a b p : ℕ) → (a % p * b) % p ≡ (a * b) % p
mod_mul_left a b p = sym (ap (λ (n : ℕ). n % p) split ∙ add-mul-mod_self_left (a % p * b) p (a / p * b))
  where
    split : a * b ≡ a % p * b + p * (a / p * b)
    split = omega (arith, ap (λ (n : ℕ). n * b) (div-add-mod a p))

pub mod_mul_right : (a b p : ℕ) → (a * (b % p)) % p ≡ (a * b) % p
mod_mul_right a b p =
    ap (λ (n : ℕ). n % p) (mul_comm a (b % p)) ∙ mod_mul_left b a p ∙ ap (λ (n : ℕ). n % p) (mul_comm b a)

module _ (p : ℕ) (prime : Prime p) where
  -- a smaller number from 2 up leaves a remainder
  remainder_pos : (c : ℕ) → suc (suc c) < p → 0 < p % suc (suc c)
  remainder_pos c hi = go (p % suc (suc c)) refl
    where
      contra : (suc (suc c) ≡ 1) ⊎ (suc (suc c) ≡ p) → ⊥
      contra (inl q) = omega arith
      contra (inr q) = omega arith

      go : (r : ℕ) → p % suc (suc c) ≡ r → 0 < p % suc (suc c)
      go zero e = absurd (contra (prime.only (suc (suc c)) (p / suc (suc c)) (omega (arith, div-add-mod p (suc (suc c)), e))))
      go (suc r) e = omega arith

  smaller_factor : (a b : ℕ) → p ∣ a * b → p ∣ p % a * b
  smaller_factor a b h =
      (dvd-add_iff_right p (dvd-mul_left_of_dvd p h (p / a))).1 (subst (λ (n : ℕ). p ∣ n) whole (dvd-mul_right p b))
    where
      whole : p * b ≡ p / a * (a * b) + p % a * b
      whole = omega (arith, ap (λ (n : ℕ). n * b) (div-add-mod p a))

  euclid_below : (fuel a b : ℕ) → a ≤ fuel → 0 < a → a < p → p ∣ a * b → p ∣ b
  euclid_below zero a b f lo hi h = absurd (omega arith)
  euclid_below (suc fuel) zero b f lo hi h = absurd (omega arith)
  euclid_below (suc fuel) (suc zero) b f lo hi h = subst (λ (n : ℕ). p ∣ n) (one-mul b) h
  euclid_below (suc fuel) (suc (suc c)) b f lo hi h =
      let less : p % suc (suc c) < suc (suc c) = mod-lt p (omega arith) in
      euclid_below fuel (p % suc (suc c)) b (omega arith) (remainder_pos c hi) (omega arith) (smaller_factor (suc (suc c)) b h)

pub no_zero_divisors : NoZeroDivisors
no_zero_divisors p prime a b h = go (a % p) refl
  where
    go : (r : ℕ) → a % p ≡ r → (a % p ≡ 0) ⊎ (b % p ≡ 0)
    go zero e = inl e
    go (suc r) e =
        inr (mod-eq-zero_of_dvd p (euclid_below p prime (a % p) (a % p) b (omega arith) (omega arith)
        (mod-lt a (omega (arith, prime.two_le))) (dvd_of_mod-eq-zero p (mod_mul_left a b p ∙ h))))
