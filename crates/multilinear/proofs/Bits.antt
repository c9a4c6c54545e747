-- An index's bits: how many, and those of an index below or above the half.
-- Assumes nothing.
use mathlib.Core.Path.{◌≡◌, refl, sym, ap, ap₂, ◌∙◌}
use mathlib.Core.Bool.{Bool, true, false}
use mathlib.Core.List.{List, ◌∷◌}
use Prim.Native.Nat.{ℕ, zero, suc, ◌+◌, ◌*◌, ◌/◌, ◌%◌, ◌^◌, ◌<◌}
use native.Mathlib.Nat.{two-pow-succ, mul-add-div, div-eq_of_lt, add-div_left, mul-one}
use native.Mathlib.Omega.{arith}
use lib.Dec.{eqb}
use lib.ListN.{length}
use lib.Pow.{pow_pos}
use Rattle.multilinear.specs.Extension.{odd, bits}

pub bits_suc : (k b : ℕ) → bits (suc k) b ≡ odd (b / 2 ^ k) ∷ bits k b
unfolding bits
bits_suc k b = refl

pub length_bits : (k b : ℕ) → length (bits k b) ≡ k
unfolding bits
length_bits zero b = refl
length_bits (suc k) b = ap suc (length_bits k b)

odd_even : (c n : ℕ) → odd (2 * c + n) ≡ odd n
odd_even c n = let e : (2 * c + n) % 2 ≡ n % 2 = omega arith in ap (λ (r : ℕ). eqb r 1) e

-- a multiple of 2^k does not show in k bits
pub bits_multiple : (k c b : ℕ) → bits k (2 ^ k * c + b) ≡ bits k b
unfolding bits
bits_multiple zero c b = refl
bits_multiple (suc k) c b =
    let e : 2 ^ suc k * c + b ≡ 2 ^ k * (2 * c) + b = omega (arith, ap (λ (x : ℕ). x * c) (two-pow-succ k)) in
    rw e
    (ap₂ (λ (t : Bool) (bs : List Bool). t ∷ bs) (ap odd (mul-add-div (pow_pos k) (2 * c) b) ∙ odd_even c (b / 2 ^ k)) (bits_multiple k (2 * c) b))

pub bits_low : (k b : ℕ) → b < 2 ^ k → bits (suc k) b ≡ false ∷ bits k b
bits_low k b h = bits_suc k b ∙ ap (λ (n : ℕ). odd n ∷ bits k b) (div-eq_of_lt h)

pub bits_high : (k b : ℕ) → b < 2 ^ k → bits (suc k) (2 ^ k + b) ≡ true ∷ bits k b
bits_high k b h =
    bits_suc k (2 ^ k + b)
    ∙ ap₂ (λ (n : ℕ) (bs : List Bool). odd n ∷ bs) (add-div_left b (pow_pos k) ∙ ap (λ (n : ℕ). n + 1) (div-eq_of_lt h))
    (ap (λ (n : ℕ). bits k (n + b)) (sym (mul-one (2 ^ k))) ∙ bits_multiple k 1 b)
