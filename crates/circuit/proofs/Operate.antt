-- What a kind does with two values. Each law has a line for each kind, and holds of any kind after that: nothing above looks at kinds.
-- Assumes nothing.
use mathlib.Core.Path.{◌≡◌, refl}
use mathlib.Core.Bool.{Bool, true, false, cond}
use mathlib.Core.List.{List}
use Prim.Native.Nat.{ℕ, zero, suc, ◌+◌, ◌-◌, ◌*◌, ◌%◌, ◌≤◌, ◌<◌, zero-le}
use native.Mathlib.Nat.{mod-lt, suc_inj}
use native.Mathlib.Omega.{arith}
use lib.ListN.{length, get_or}
use Rattle.lists.specs.Count.{range}
use Rattle.lists.specs.Each.{Distinct}
use Rattle.lists.proofs.Count.{all_range, distinct_range}
use Rattle.lists.proofs.Each.{distinct_map}
use Rattle.primes.specs.Prime.{is_one_of}
use Rattle.algebra.specs.Numbers.{Numbers, words}
use Rattle.algebra.specs.Ring.{Ring}
use Rattle.algebra.specs.Hom.{Hom}
use Rattle.algebra.specs.Polynomial.{polynomials}
use Rattle.algebra.proofs.Ring.{ring}
use Rattle.algebra.proofs.Polynomial.{length_plus, length_minus, length_times}
use Rattle.circuit.specs.Gate.{kinds, max_kind, operate}

-- THE KINDS are numbered from 1 on, so no number is twice among them
pub kind_at : (i : ℕ) → i < max_kind → get_or kinds i 0 ≡ suc i
kind_at zero h = refl
kind_at (suc zero) h = refl
kind_at (suc (suc zero)) h = refl
kind_at (suc (suc (suc i))) h = absurd (omega arith)

pub kinds_distinct : Distinct kinds
unfolding range
kinds_distinct = distinct_map (λ i. i < max_kind) suc (λ i j h k e. suc_inj e) (range max_kind) (all_range max_kind) (distinct_range max_kind)

-- a kind that is not among them does nothing
module _ {C : Type 0} (N : Numbers C) where
  same : (b : Bool) {c : C} → cond b c c ≡ c
  same true = refl
  same false = refl

  pub operate_listed : (kind : ℕ) (x y : C) → cond (is_one_of kinds kind) (operate N kind x y) N.𝟘 ≡ operate N kind x y
  unfolding is_one_of
  operate_listed zero x y = refl
  operate_listed (suc zero) x y = refl
  operate_listed (suc (suc zero)) x y = refl
  operate_listed (suc (suc (suc zero))) x y = refl
  operate_listed (suc (suc (suc (suc kind)))) x y = same (is_one_of kinds (suc (suc (suc (suc kind)))))

-- on words it gives a residue
pub operate_below : (p : ℕ) → 0 < p → (kind x y : ℕ) → operate (words p) kind x y < p
operate_below p pos zero x y = pos
operate_below p pos (suc zero) x y = mod-lt (x + y) pos
operate_below p pos (suc (suc zero)) x y = mod-lt (x * y) pos
operate_below p pos (suc (suc (suc zero))) x y = mod-lt (x + (p - y % p)) pos
operate_below p pos (suc (suc (suc (suc kind)))) x y = pos

-- a map that keeps the operations keeps it
pub hom_operate : {C D : Type 0} {N : Numbers C} {M : Numbers D} {h : C → D} (H : Hom N M h) (kind : ℕ) (x y : C)
    → h (operate N kind x y) ≡ operate M kind (h x) (h y)
hom_operate H zero x y = H.keeps_𝟘
hom_operate H (suc zero) x y = H.keeps_add x y
hom_operate H (suc (suc zero)) x y = H.keeps_mul x y
hom_operate H (suc (suc (suc zero))) x y = H.keeps_sub x y
hom_operate H (suc (suc (suc (suc kind)))) x y = H.keeps_𝟘

-- IT IS LINEAR in each value, the other one being fixed
module _ {C : Type 0} {N : Numbers C} (R : Ring N) where
  open N use {𝟘, 𝟙, add as ◌⊕◌, sub as ◌⊖◌, mul as ◌⊗◌}

  infixl 60 ◌⊕◌ ◌⊖◌
  infixl 70 ◌⊗◌
  pub linear_left : (kind : ℕ) (x y : C) → operate N kind x y ≡ x ⊗ (operate N kind 𝟙 y ⊖ operate N kind 𝟘 y) ⊕ operate N kind 𝟘 y
  linear_left zero x y = simp ring
  linear_left (suc zero) x y = simp ring
  linear_left (suc (suc zero)) x y = simp ring
  linear_left (suc (suc (suc zero))) x y = simp ring
  linear_left (suc (suc (suc (suc kind)))) x y = simp ring

  pub linear_right : (kind : ℕ) (x y : C) → operate N kind x y ≡ y ⊗ (operate N kind x 𝟙 ⊖ operate N kind x 𝟘) ⊕ operate N kind x 𝟘
  linear_right zero x y = simp ring
  linear_right (suc zero) x y = simp ring
  linear_right (suc (suc zero)) x y = simp ring
  linear_right (suc (suc (suc zero))) x y = simp ring
  linear_right (suc (suc (suc (suc kind)))) x y = simp ring

-- so of polynomials it has at most the sum of their degrees
pub length_operate : {C : Type 0} (N : Numbers C) (kind d e : ℕ) (x y : List C) → length x ≤ suc d → length y ≤ suc e
    → length (operate (polynomials N) kind x y) ≤ suc (d + e)
length_operate N zero d e x y hx hy = zero-le
length_operate N (suc zero) d e x y hx hy = length_plus N (suc (d + e)) x y (omega arith) (omega arith)
length_operate N (suc (suc zero)) d e x y hx hy = length_times N d e x y hx hy
length_operate N (suc (suc (suc zero))) d e x y hx hy = length_minus N (suc (d + e)) x y (omega arith) (omega arith)
length_operate N (suc (suc (suc (suc kind)))) d e x y hx hy = zero-le
