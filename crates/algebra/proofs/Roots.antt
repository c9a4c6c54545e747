-- The root bound. A root r of f splits off: f(x) = f(r) + (x - r) q(x), and where there are no zero divisors every other root of f is one
-- of q, which is shorter; so as many distinct roots as coefficients leave only the zero polynomial. Two lists are compared by their difference.
-- Assumes nothing.
use Prim.Native.Nat.{ℕ, suc, ◌≤◌, ◌<◌, Fin}
use mathlib.Core.Path.{◌≡◌, refl, sym, ◌∙◌, ap, ap₂, subst}
use mathlib.Core.Logic.{◌⊎◌, inl, inr, ◌≢◌}
use mathlib.Core.Bool.{true}
use mathlib.Core.List.{List, [], ◌∷◌, map}
use lib.Dec.{T, eqb, eqb→eq}
use lib.ListN.{length, length-map}
use native.Mathlib.Nat.{suc_inj}
use native.Mathlib.Omega.{arith}
use native.Mathlib.Decide.{dec_le}
use Rattle.lists.specs.Each.{All, Distinct}
use Rattle.lists.specs.Count.{range}
use Rattle.lists.proofs.Each.{all_weaken, all_map, all_both, distinct_map}
use Rattle.lists.proofs.Count.{passed, length_passed, all_passed, distinct_passed, all_range, distinct_range}
use Rattle.algebra.specs.Numbers.{Numbers, words}
use Rattle.algebra.specs.Ring.{Ring}
use Rattle.algebra.specs.Polynomial.{value_at, minus}
use Rattle.algebra.specs.Residue.{residue, residues}
use Rattle.algebra.specs.Theorems.{agreements, RootBound, EqualByValues}
use Rattle.algebra.proofs.Ring.{ring, zero_add, mul_zero, add_zero, sub_zero, sub_self}
use Rattle.algebra.proofs.Solve.{var, ◌:+◌, ◌:*◌, ◌:-◌, solve, equal}
use Rattle.algebra.proofs.Polynomial.{value_hom, hom_value}
use Rattle.algebra.proofs.Residue.{residues_ring, residue_hom, residue_injective, residues_injective, no_divisors}

module _ {C : Type 0} {N : Numbers C} (R : Ring N) where
  open N use {𝟘, 𝟙, add as ◌⊕◌, sub as ◌⊖◌, mul as ◌⊗◌}

  infixl 60 ◌⊕◌ ◌⊖◌
  infixl 70 ◌⊗◌
  -- q above, for f with a constant before the list
  quotient : C → List C → List C
  quotient r [] = []
  quotient r (d ∷ f) = value_at N (d ∷ f) r ∷ quotient r f

  length_quotient : (r : C) (f : List C) → length (quotient r f) ≡ length f
  unfolding quotient
  length_quotient r [] = refl
  length_quotient r (d ∷ f) = ap suc (length_quotient r f)

  split_off : (r c : C) (f : List C) (x : C) → value_at N (c ∷ f) x ≡ value_at N (c ∷ f) r ⊕ (x ⊖ r) ⊗ value_at N (quotient r f) x
  unfolding value_at quotient equal
  split_off r c [] x = base c x r
    where
      base : (c x r : C) → c ⊕ x ⊗ 𝟘 ≡ c ⊕ r ⊗ 𝟘 ⊕ (x ⊖ r) ⊗ 𝟘
      base c x r = simp ring
  split_off r c (d ∷ f) x = ap (λ (y : C). c ⊕ x ⊗ y) (split_off r d f x) ∙ step c x r (value_at N (d ∷ f) r) (value_at N (quotient r f) x)
    where
      step : (c x r u q : C) → c ⊕ x ⊗ (u ⊕ (x ⊖ r) ⊗ q) ≡ c ⊕ r ⊗ u ⊕ (x ⊖ r) ⊗ (u ⊕ x ⊗ q)
      step c x r u q =
          solve R (c ∷ x ∷ r ∷ u ∷ q ∷ [])
          (var 0 :+ var 1 :* (var 3 :+ (var 1 :- var 2) :* var 4))
          (var 0 :+ var 2 :* var 3 :+ (var 1 :- var 2) :* (var 3 :+ var 1 :* var 4))
          tt

  value_all_zero : (r : C) (f : List C) → All (λ c. c ≡ 𝟘) f → value_at N f r ≡ 𝟘
  unfolding value_at
  value_all_zero r [] t = refl
  value_all_zero r (c ∷ f) t =
      ap₂ (λ (x y : C). x ⊕ r ⊗ y) t.0 (value_all_zero r f t.1) ∙ zero_add R (r ⊗ 𝟘) ∙ mul_zero R r

  -- a zero quotient comes from a list that is zero but for its constant, which is the value
  quotient_zero : (r : C) (f : List C) → All (λ c. c ≡ 𝟘) (quotient r f) → All (λ c. c ≡ 𝟘) f
  unfolding quotient value_at
  quotient_zero r [] t = tt
  quotient_zero r (d ∷ f) t = (first (quotient_zero r f t.1), quotient_zero r f t.1)
    where
      first : All (λ c. c ≡ 𝟘) f → d ≡ 𝟘
      first z =
          sym (add_zero R d) ∙ ap (λ (x : C). d ⊕ x) (sym (mul_zero R r))
          ∙ ap (λ (x : C). d ⊕ r ⊗ x) (sym (value_all_zero r f z)) ∙ t.0

  -- a difference that is zero everywhere is one of equal lists
  minus_zero : (f g : List C) → length f ≡ length g → All (λ c. c ≡ 𝟘) (minus N f g) → f ≡ g
  unfolding minus
  minus_zero [] [] e t = refl
  minus_zero [] (d ∷ g) e t = absurd (omega arith)
  minus_zero (c ∷ f) [] e t = absurd (omega arith)
  minus_zero (c ∷ f) (d ∷ g) e t =
      ap₂ (λ (x : C) (l : List C). x ∷ l) (sub_zero R c d t.0) (minus_zero f g (suc_inj e) t.1)

  length_minus_same : (f g : List C) → length f ≡ length g → length (minus N f g) ≡ length f
  unfolding minus
  length_minus_same [] [] e = refl
  length_minus_same [] (d ∷ g) e = absurd (omega arith)
  length_minus_same (c ∷ f) [] e = refl
  length_minus_same (c ∷ f) (d ∷ g) e = ap suc (length_minus_same f g (suc_inj e))

  -- where a product is zero only by a factor
  module _ (integral : (a b : C) → a ⊗ b ≡ 𝟘 → (a ≡ 𝟘) ⊎ (b ≡ 𝟘)) where
    other_root : (r c : C) (f : List C) → value_at N (c ∷ f) r ≡ 𝟘 → (x : C) → (x ≢ r) × (value_at N (c ∷ f) x ≡ 𝟘) → value_at N (quotient r f) x ≡ 𝟘
    other_root r c f at-r x h = go (integral (x ⊖ r) (value_at N (quotient r f) x) product)
      where
        product : (x ⊖ r) ⊗ value_at N (quotient r f) x ≡ 𝟘
        product =
            sym (zero_add R ((x ⊖ r) ⊗ value_at N (quotient r f) x))
            ∙ ap (λ (y : C). y ⊕ (x ⊖ r) ⊗ value_at N (quotient r f) x) (sym at-r) ∙ sym (split_off r c f x) ∙ h.1

        go : (x ⊖ r ≡ 𝟘) ⊎ (value_at N (quotient r f) x ≡ 𝟘) → value_at N (quotient r f) x ≡ 𝟘
        go (inl e) = absurd (h.0 (sub_zero R x r e))
        go (inr e) = e

    roots_zero : (xs f : List C) → Distinct xs → All (λ x. value_at N f x ≡ 𝟘) xs → length f ≤ length xs → All (λ c. c ≡ 𝟘) f
    unfolding quotient
    roots_zero [] [] d h len = tt
    roots_zero [] (c ∷ f) d h len = absurd (omega arith)
    roots_zero (r ∷ xs) [] d h len = tt
    roots_zero (r ∷ xs) (c ∷ f) d h len =
        quotient_zero r (c ∷ f) (
          h.0,
          roots_zero xs (quotient r f) d.1
              (all_weaken xs (other_root r c f h.0) (all_both (λ x. x ≢ r) (λ x. value_at N (c ∷ f) x ≡ 𝟘) xs d.0 h.1))
              (omega (arith, length_quotient r f, len)),
        )

    pub equal_by_values : (f g xs : List C) → length f ≡ length g → Distinct xs → All (λ x. value_at N f x ≡ value_at N g x) xs
        → length f ≤ length xs → f ≡ g
    equal_by_values f g xs e d h len =
        minus_zero f g e (roots_zero xs (minus N f g) d (all_weaken xs zero_there h) (omega (arith, length_minus_same f g e, len)))
      where
        zero_there : (x : C) → value_at N f x ≡ value_at N g x → value_at N (minus N f g) x ≡ 𝟘
        zero_there x q = (value_hom R x).keeps_sub f g ∙ sub_self R (value_at N f x) (value_at N g x) q

-- on words, by their residues
pub equal_words : EqualByValues
equal_words p prime f g xs e lf lg lx d len h =
    residues_injective p pos f g lf lg
    (equal_by_values (residues_ring p pos) (no_divisors p pos prime) (map ι f) (map ι g) (map ι xs)
    (length-map f ι ∙ e ∙ sym (length-map g ι))
    (distinct_map (λ x. x < p) ι (residue_injective p pos) xs lx d)
    (all_map (λ y. value_at (residues p pos) (map ι f) y ≡ value_at (residues p pos) (map ι g) y) ι xs (all_weaken xs agree h))
    (omega (arith, length-map f ι, length-map xs ι, len)))
  where
    pos : 0 < p
    pos = omega (arith, prime.two_le)

    ι : ℕ → Fin p
    ι = residue p pos

    agree : (x : ℕ) → value_at (words p) f x ≡ value_at (words p) g x
        → value_at (residues p pos) (map ι f) (ι x) ≡ value_at (residues p pos) (map ι g) (ι x)
    agree x q = sym (hom_value (residue_hom p pos) f x) ∙ ap ι q ∙ hom_value (residue_hom p pos) g x

-- more agreements than m would be as many as there are coefficients
pub root_bound : RootBound
root_bound p prime m f g ef eg lf lg ne = go (dec_le (agreements p f g) m)
  where
    points : List ℕ
    points = passed (λ x. eqb (value_at (words p) f x) (value_at (words p) g x)) (range p)

    good : All (λ x. (x < p) × (eqb (value_at (words p) f x) (value_at (words p) g x) ≡ true)) points
    good = all_passed (λ x. x < p) (λ x. eqb (value_at (words p) f x) (value_at (words p) g x)) (range p) (all_range p)

    size : length points ≡ agreements p f g
    size = length_passed (λ x. eqb (value_at (words p) f x) (value_at (words p) g x)) (range p)

    go : Dec (agreements p f g ≤ m) → agreements p f g ≤ m
    go (yes h) = h
    go (no h) = absurd (ne (equal_words p prime f g points (ef ∙ sym eg) lf lg
        (all_weaken points (λ x q. q.0) good)
        (distinct_passed (λ x. eqb (value_at (words p) f x) (value_at (words p) g x)) (range p) (distinct_range p))
        (omega (arith, ef, size, h))
        (all_weaken points (λ x q. eqb→eq (value_at (words p) f x) (value_at (words p) g x) (subst T (sym q.1) tt)) good)))
