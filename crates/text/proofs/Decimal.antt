-- The decimal digits of a word: the fewest that hold it are those up to ten.
-- Assumes nothing.
use Prim.Native.Nat.{ℕ, zero, suc, ◌-◌, ◌*◌, ◌/◌, ◌%◌, ◌^◌, ◌≤◌, ◌<◌}
use mathlib.Core.Path.{◌≡◌, refl, sym, ap, ap₂, ◌∙◌, subst}
use mathlib.Core.Bool.{Bool, true, false}
use mathlib.Core.List.{List, [], ◌∷◌, ◌++◌}
use native.Mathlib.Nat.{pow-zero, pow-succ', one-le-pow}
use native.Mathlib.Omega.{arith}
use lib.ListN.{length, length-append}
use lib.Dec.{ltb}
use borrow.Author.Tests.{lt-ltb, ltb-true, ltb-false}
use Rattle.io.specs.Digits.{hex_digit_ascii, last_digits, IsDigitCount}
use Rattle.text.specs.Lines.{digit, digits_up_to}

glyph_digit : (x : ℕ) → hex_digit_ascii (x % 10) ≡ digit (x % 10)
glyph_digit x = rw (lt-ltb (x % 10) 10 (omega arith)) refl

-- a number of more than one digit is large
many : (x k : ℕ) → IsDigitCount 10 1 x (suc (suc k)) → 10 * 10 ^ k ≤ x
many x k f =
    let less : suc (suc k) - 1 ≡ suc k = omega arith in
    subst (λ (y : ℕ). y ≤ x) (ap (λ (i : ℕ). 10 ^ i) less ∙ pow-succ' 10 k) (f.2 (omega arith))

-- a number below ten has one digit
one_place : (x k : ℕ) → x < 10 → IsDigitCount 10 1 x k → k ≡ 1
one_place x zero h f = absurd (omega (arith, f.0))
one_place x (suc zero) h f = refl
one_place x (suc (suc k)) h f =
    absurd (omega (arith, many x k f, one-le-pow k 10 (omega arith)))

-- and a larger one has one more than what is left when it is divided by ten
more_places : (x k : ℕ) → 10 ≤ x → IsDigitCount 10 1 x (suc k) → IsDigitCount 10 1 (x / 10) k
more_places x zero h f = absurd (omega (arith, f.1, pow-succ' 10 0, pow-zero 10))
more_places x (suc k) h f =
    let below : x < 10 * 10 ^ suc k = subst (λ (y : ℕ). x < y) (pow-succ' 10 (suc k)) f.1 in
    let less : suc k - 1 ≡ k = omega arith in
    (omega arith, omega (arith, below), λ more. subst (λ (i : ℕ). 10 ^ i ≤ x / 10) (sym less) (omega (arith, many x k f)))

one_digit : (x k : ℕ) → x < 10 → IsDigitCount 10 1 x k → last_digits 10 k x ≡ digit (x % 10) ∷ []
one_digit x k h f = ap (λ (i : ℕ). last_digits 10 i x) (one_place x k h f) ∙ ap (λ (d : ℕ). d ∷ []) (glyph_digit x)

-- of at most n + 1 digits the fewest are those without a zero in front
pub fewest_digits : (n x k : ℕ) → x < 10 ^ suc n → IsDigitCount 10 1 x k → last_digits 10 k x ≡ digits_up_to n x
unfolding digits_up_to
fewest_digits zero x k h f = one_digit x k h f
fewest_digits (suc n) x k h f = go (ltb x 10) refl k f (fewest_digits n (x / 10))
  where
    go : (b : Bool) → ltb x 10 ≡ b → (k : ℕ) → IsDigitCount 10 1 x k
        → ((k : ℕ) → x / 10 < 10 ^ suc n → IsDigitCount 10 1 (x / 10) k → last_digits 10 k (x / 10) ≡ digits_up_to n (x / 10))
        → last_digits 10 k x ≡ digits_up_to (suc n) x
    go true e k f ih = rw e (one_digit x k (ltb-true x 10 e) f)
    go false e zero f ih = absurd (omega (arith, f.0))
    go false e (suc k) f ih =
        let below : x / 10 < 10 ^ suc n = omega (arith, subst (λ (y : ℕ). x < y) (pow-succ' 10 (suc n)) h) in
        rw e (ap₂ (λ (l : List ℕ) (d : ℕ). l ++ (d ∷ [])) (ih k below (more_places x k (ltb-false x 10 e) f)) (glyph_digit x))

-- there are no more
pub digits_few : (n x : ℕ) → length (digits_up_to n x) ≤ suc n
unfolding digits_up_to
digits_few zero x = omega arith
digits_few (suc n) x = go (ltb x 10) refl (digits_few n (x / 10))
  where
    go : (b : Bool) → ltb x 10 ≡ b → length (digits_up_to n (x / 10)) ≤ suc n → length (digits_up_to (suc n) x) ≤ suc (suc n)
    go true e few = rw e (omega arith)
    go false e few = rw (e, length-append) (omega arith)
