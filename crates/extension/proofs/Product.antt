-- The product of a weight's last factors, built from the last coordinate: the product is the weight of the index's low bits at the coordinates
-- passed, and `rest` is the index without those bits.
-- Assumes nothing.
use mathlib.Core.Path.{◌≡◌, refl, sym, ap, ap₂, ◌∙◌}
use mathlib.Core.Bool.{Bool}
use mathlib.Core.List.{List, [], ◌∷◌, ◌++◌, map, reverse}
use Prim.Native.Nat.{ℕ, ◌/◌, ◌%◌, ◌^◌}
use native.Mathlib.Nat.{div-one}
use native.Mathlib.Numerals.{add-one}
use borrow.Author.Tests.{eq-eqb, ne_eqb}
use lib.ListN.{length}
use lib.Pow.{shr-shr}
use Rattle.std.proofs.lemmas.List.{map-append, reverse-append}
use Rattle.algebra.specs.Numbers.{Numbers}
use Rattle.multilinear.specs.Extension.{odd, bits, factor, weight_of_bits, weight}

module _ {C : Type 0} (N : Numbers C) where
  pub record Product (index : ℕ) (passed : List C) (product : C) (rest : ℕ) : Type 0 where
    pub bits_left : rest ≡ index / 2 ^ length passed
    pub weighs : product ≡ weight N index passed

  pub start : (index : ℕ) → Product index [] N.𝟙 index
  unfolding bits weight_of_bits
  start index = record { bits_left = sym (div-one index); weighs = refl }

  -- the factor by the lowest bit
  pub factor_one : (n : ℕ) (x z : C) → n % 2 ≡ 1 → x ≡ z → x ≡ factor N (odd n) z
  factor_one n x z one e = e ∙ ap (λ (t : Bool). factor N t z) (sym (eq-eqb (n % 2) 1 one))

  pub factor_zero : (n : ℕ) (x z : C) → (n % 2 ≡ 1 → ⊥) → x ≡ N.sub N.𝟙 z → x ≡ factor N (odd n) z
  factor_zero n x z other e = e ∙ ap (λ (t : Bool). factor N t z) (sym (ne_eqb (n % 2) 1 other))

  pub step : (index : ℕ) (passed : List C) (x product z : C) (rest : ℕ) → Product index passed product rest
      → x ≡ factor N (odd rest) z → Product index (z ∷ passed) (N.mul x product) (rest / 2)
  unfolding bits weight_of_bits
  step index passed x product z rest h f =
      let k : ℕ = length passed in
      record {
        bits_left = ap (λ (n : ℕ). n / 2) h.bits_left ∙ shr-shr index k 1 ∙ ap (λ (n : ℕ). index / 2 ^ n) (add-one k);
        weighs = ap₂ N.mul (f ∙ ap (λ (r : ℕ). factor N (odd r) z) h.bits_left) h.weighs;
      }

-- the items passed, last first, with one more
pub one_passed : {A B : Type 0} (v : A → B) (items : List A) (x : A) → reverse (map v (items ++ (x ∷ []))) ≡ v x ∷ reverse (map v items)
one_passed v items x = ap reverse (map-append v items (x ∷ [])) ∙ reverse-append (map v items) (v x ∷ [])
