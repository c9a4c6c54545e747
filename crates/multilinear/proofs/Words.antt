-- On words: every result is below p, and two words below p with one residue are equal, so what holds of residues holds of them.
-- Assumes nothing.
use mathlib.Core.Path.{◌≡◌, sym, ap, ◌∙◌}
use mathlib.Core.List.{List, [], ◌∷◌, map}
use Prim.Native.Nat.{ℕ, zero, suc, ◌+◌, ◌*◌, ◌%◌, ◌^◌, ◌<◌}
use native.Mathlib.Nat.{mod-lt, mod-eq_of_lt, mul-one, add-zero}
use lib.ListN.{length, get_or, length-map}
use Rattle.lists.specs.Each.{All}
use Rattle.algebra.specs.Numbers.{words}
use Rattle.algebra.specs.Polynomial.{plus, times, polynomials}
use Rattle.algebra.specs.Residue.{residue, residues}
use Rattle.algebra.proofs.Residue.{residues_ring, residue_hom, residue_injective}
use Rattle.multilinear.specs.Extension.{bits, weight_of_bits, weight, sum_from, extension, halving, corner}
use Rattle.multilinear.specs.Theorems.{HalvingOnWords, AtCornerOnWords, Below, OneValue, CoefficientsBelow}
use Rattle.multilinear.proofs.Extension.{halving_is_extension, at_corner}
use Rattle.multilinear.proofs.Hom.{hom_get_d, hom_extension, hom_halving, hom_corner}

module _ (p : ℕ) (pos : 0 < p) where
  pub sum_from_below : {A : Type 0} (f : ℕ → A → ℕ) (a : ℕ) (l : List A) → sum_from (words p) f a l < p
  unfolding sum_from
  sum_from_below f a [] = pos
  sum_from_below f a (x ∷ l) = mod-lt _ pos

  pub halving_below : (vs z : List ℕ) → All (λ v. v < p) vs → halving (words p) vs z < p
  unfolding halving
  halving_below [] [] h = pos
  halving_below (v ∷ vs) [] h = h.0
  halving_below vs (x ∷ z) h = mod-lt _ pos

pub below : Below
unfolding extension
below p pos vs z = sum_from_below p pos (λ b v. (words p).mul v (weight (words p) b z)) 0 vs

pub one_word : OneValue
unfolding extension sum_from weight_of_bits bits
one_word p v h =
    let once : (v * 1) % p ≡ v = ap (λ (n : ℕ). n % p) (mul-one v) ∙ mod-eq_of_lt h in
    ap (λ (n : ℕ). (n + 0) % p) once ∙ ap (λ (n : ℕ). n % p) (add-zero v) ∙ mod-eq_of_lt h

-- WHAT HOLDS OF RESIDUES
module _ (p : ℕ) (pos : 0 < p) where
  pub by_residues : (vs z ws y : List ℕ)
      → extension (residues p pos) (map (residue p pos) vs) (map (residue p pos) z)
      ≡ extension (residues p pos) (map (residue p pos) ws) (map (residue p pos) y)
      → extension (words p) vs z ≡ extension (words p) ws y
  by_residues vs z ws y e =
      residue_injective p pos (extension (words p) vs z) (extension (words p) ws y) (below p pos vs z) (below p pos ws y)
      (hom_extension (residue_hom p pos) vs z ∙ e ∙ sym (hom_extension (residue_hom p pos) ws y))

  sized : (n : ℕ → ℕ) (vs z : List ℕ) → length vs ≡ n (length z) → length (map (residue p pos) vs) ≡ n (length (map (residue p pos) z))
  sized n vs z e = length-map vs (residue p pos) ∙ e ∙ ap n (sym (length-map z (residue p pos)))

  get_d_below : (vs : List ℕ) (b : ℕ) → All (λ v. v < p) vs → get_or vs b 0 < p
  get_d_below [] b h = pos
  get_d_below (v ∷ vs) zero h = h.0
  get_d_below (v ∷ vs) (suc b) h = get_d_below vs b h.1

pub halving_on_words : HalvingOnWords
halving_on_words p pos vs z e h =
    residue_injective p pos (halving (words p) vs z) (extension (words p) vs z) (halving_below p pos vs z h) (below p pos vs z)
    (hom_halving (residue_hom p pos) vs z
    ∙ halving_is_extension (residues_ring p pos) (map (residue p pos) vs) (map (residue p pos) z) (sized p pos (λ k. 2 ^ k) vs z e)
    ∙ sym (hom_extension (residue_hom p pos) vs z))

pub at_corner_on_words : AtCornerOnWords
at_corner_on_words p pos vs k b e l h =
    residue_injective p pos (extension (words p) vs (corner (words p) (bits k b))) (get_or vs b 0)
    (below p pos vs (corner (words p) (bits k b))) (get_d_below p pos vs b h)
    (hom_extension (residue_hom p pos) vs (corner (words p) (bits k b))
    ∙ ap (extension (residues p pos) (map (residue p pos) vs)) (hom_corner (residue_hom p pos) (bits k b))
    ∙ at_corner (residues_ring p pos) (map (residue p pos) vs) k b (length-map vs (residue p pos) ∙ e) l
    ∙ sym (hom_get_d (residue_hom p pos) vs b))

-- ALONG POLYNOMIALS: products of words are reduced, and sums of what is reduced
module _ (p : ℕ) (pos : 0 < p) where
  pub plus_below : (f g : List ℕ) → All (λ c. c < p) f → All (λ c. c < p) g → All (λ c. c < p) (plus (words p) f g)
  unfolding plus
  plus_below [] g h k = k
  plus_below (c ∷ f) [] h k = h
  plus_below (c ∷ f) (d ∷ g) h k = (mod-lt (c + d) pos, plus_below f g h.1 k.1)

  pub scaled_below : (c : ℕ) (g : List ℕ) → All (λ c. c < p) (map (λ d. (words p).mul c d) g)
  scaled_below c [] = tt
  scaled_below c (d ∷ g) = (mod-lt (c * d) pos, scaled_below c g)

  pub times_below : (f g : List ℕ) → All (λ c. c < p) (times (words p) f g)
  unfolding times
  times_below [] g = tt
  times_below (c ∷ f) g = plus_below (map (λ d. (words p).mul c d) g) (0 ∷ times (words p) f g) (scaled_below c g) (pos, times_below f g)

  pub sum_from_coefficients : {A : Type 0} (f : ℕ → A → List ℕ) (a : ℕ) (l : List A) → ((i : ℕ) (x : A) → All (λ c. c < p) (f i x))
      → All (λ c. c < p) (sum_from (polynomials (words p)) f a l)
  unfolding sum_from
  sum_from_coefficients f a [] h = tt
  sum_from_coefficients f a (x ∷ l) h = plus_below (f a x) (sum_from (polynomials (words p)) f (suc a) l) (h a x) (sum_from_coefficients f (suc a) l h)

pub coefficients_below : CoefficientsBelow
unfolding extension
coefficients_below p pos vs z =
    sum_from_coefficients p pos (λ b v. times (words p) v (weight (polynomials (words p)) b z)) 0 vs
    (λ b v. times_below p pos v (weight (polynomials (words p)) b z))
