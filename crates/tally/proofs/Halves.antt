-- A sum in two halves: a half may be exchanged for another of the same residue, and a number's high and low words, each added to its half,
-- add the number.
-- Assumes nothing.
use Prim.Native.Nat.{ℕ, ◌+◌, ◌*◌, ◌/◌, ◌%◌}
use mathlib.Core.Path.{◌≡◌, refl, sym, ap, ap₂, ◌∙◌}
use native.Mathlib.Nat.{mod-mod, mod-add-mod, add-mod-mod}
use native.Mathlib.Omega.{arith}
use Rattle.algebra.proofs.Euclid.{mod_mul_left}

abbrev word : ℕ
word = 4294967296

parted : (high low n : ℕ) → (high + n / word) * word + (low + n % word) ≡ n + (high * word + low)
parted high low n = omega arith

carried : (high low : ℕ) → (high + low / word) * word + low % word ≡ high * word + low
carried high low = omega arith

module _ (p : ℕ) where
  added : (a b : ℕ) → (a + b) % p ≡ (a % p + b % p) % p
  added a b = sym (add-mod-mod (a % p) b p ∙ mod-add-mod a p b)

  scaled : (h h' : ℕ) → h' % p ≡ h % p → (h' * word) % p ≡ (h * word) % p
  scaled h h' e = sym (mod_mul_left h' word p) ∙ ap (λ (n : ℕ). (n * word) % p) e ∙ mod_mul_left h word p

  exchanged : (h l h' l' : ℕ) → h' % p ≡ h % p → l' % p ≡ l % p → (h' * word + l') % p ≡ (h * word + l) % p
  exchanged h l h' l' eh el =
      added (h' * word) l' ∙ ap₂ (λ (a b : ℕ). (a + b) % p) (scaled h h' eh) el ∙ sym (added (h * word) l)

  pub one_more : (n h l h' l' : ℕ) → h' % p ≡ h % p → l' % p ≡ l % p
      → ((h' + n / word) * word + (l' + n % word)) % p ≡ (n % p + (h * word + l) % p) % p
  one_more n h l h' l' eh el =
      ap (λ (m : ℕ). m % p) (parted h' l' n) ∙ added n (h' * word + l') ∙ ap (λ (m : ℕ). (n % p + m) % p) (exchanged h l h' l' eh el)

  pub all_of : (h l h' r : ℕ) → h' % p ≡ h % p → r ≡ (h' + l / word) % p → (r * word + l % word) % p ≡ (h * word + l) % p
  all_of h l h' r eh er =
      exchanged (h' + l / word) (l % word) r (l % word) (ap (λ (n : ℕ). n % p) er ∙ mod-mod (h' + l / word) p) refl
      ∙ ap (λ (m : ℕ). m % p) (carried h' l) ∙ exchanged h l h' l eh refl
