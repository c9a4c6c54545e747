-- A map that keeps the operations keeps sums, weights, extension and halving.
-- Assumes nothing.
use mathlib.Core.Path.{◌≡◌, refl, sym, ap, ap₂, ◌∙◌}
use mathlib.Core.Bool.{Bool, true, false}
use mathlib.Core.List.{List, [], ◌∷◌, map}
use Prim.Native.Nat.{ℕ, suc, ◌/◌}
use lib.ListN.{length, take, drop, get_or, length-map, get_or-map}
use Rattle.lists.proofs.Map.{map_take, map_drop, map_map, map_id}
use Rattle.algebra.specs.Numbers.{Numbers}
use Rattle.algebra.specs.Ring.{Ring}
use Rattle.algebra.specs.Hom.{Hom}
use Rattle.algebra.specs.Polynomial.{value_at, constant}
use Rattle.algebra.proofs.Hom.{hom_add, hom_sub, hom_mul}
use Rattle.algebra.proofs.Polynomial.{value_hom, value_constant}
use Rattle.multilinear.specs.Extension.{bits, factor, weight_of_bits, weight, sum_from, extension, between, halving, corner, blend, fold}
use Rattle.multilinear.specs.Theorems.{Kept, ValueAlong}
use Rattle.multilinear.proofs.Sum.{sum_from_map}

module _ {C D : Type 0} {N : Numbers C} {M : Numbers D} {h : C → D} (H : Hom N M h) where
  pub hom_sum_from : {A : Type 0} (f : ℕ → A → C) (g : ℕ → A → D) → ((i : ℕ) (x : A) → h (f i x) ≡ g i x) → (a : ℕ) (l : List A)
      → h (sum_from N f a l) ≡ sum_from M g a l
  unfolding sum_from
  hom_sum_from f g e a [] = H.keeps_𝟘
  hom_sum_from f g e a (x ∷ l) = hom_add H (e a x) (hom_sum_from f g e (suc a) l)

  hom_factor : (b : Bool) (z : C) → h (factor N b z) ≡ factor M b (h z)
  hom_factor true z = refl
  hom_factor false z = hom_sub H H.keeps_𝟙 refl

  pub hom_weight_of_bits : (bs : List Bool) (z : List C) → h (weight_of_bits N bs z) ≡ weight_of_bits M bs (map h z)
  unfolding weight_of_bits
  hom_weight_of_bits [] z = H.keeps_𝟙
  hom_weight_of_bits (b ∷ bs) [] = H.keeps_𝟙
  hom_weight_of_bits (b ∷ bs) (x ∷ z) = hom_mul H (hom_factor b x) (hom_weight_of_bits bs z)

  pub hom_weight : (b : ℕ) (z : List C) → h (weight N b z) ≡ weight M b (map h z)
  hom_weight b z =
      hom_weight_of_bits (bits (length z) b) z ∙ ap (λ (k : ℕ). weight_of_bits M (bits k b) (map h z)) (sym (length-map z h))

  pub hom_get_d : (l : List C) (i : ℕ) → h (get_or l i N.𝟘) ≡ get_or (map h l) i M.𝟘
  hom_get_d l i = sym (get_or-map h l i N.𝟘) ∙ ap (get_or (map h l) i) H.keeps_𝟘

  pub hom_between : {r low high : C} {r' low' high' : D} → h r ≡ r' → h low ≡ low' → h high ≡ high'
      → h (between N r low high) ≡ between M r' low' high'
  hom_between e l u = hom_add H (hom_mul H (hom_sub H H.keeps_𝟙 e) l) (hom_mul H e u)

  pub hom_halving : (vs z : List C) → h (halving N vs z) ≡ halving M (map h vs) (map h z)
  unfolding halving
  hom_halving vs [] = hom_get_d vs 0
  hom_halving vs (x ∷ z) =
      let n : length (map h vs) ≡ length vs = length-map vs h in
      rw n
      (hom_between refl
      (hom_halving (take (length vs / 2) vs) z ∙ ap (λ (l : List D). halving M l (map h z)) (map_take h (length vs / 2) vs))
      (hom_halving (drop (length vs / 2) vs) z ∙ ap (λ (l : List D). halving M l (map h z)) (map_drop h (length vs / 2) vs)))

  hom_blend : (r : C) (low high : List C) → map h (blend N r low high) ≡ blend M (h r) (map h low) (map h high)
  unfolding blend
  hom_blend r [] high = refl
  hom_blend r (a ∷ low) [] = refl
  hom_blend r (a ∷ low) (b ∷ high) = ap₂ (λ (c : D) (l : List D). c ∷ l) (hom_between refl refl refl) (hom_blend r low high)

  pub hom_fold : (r : C) (vs : List C) → map h (fold N r vs) ≡ fold M (h r) (map h vs)
  unfolding fold
  hom_fold r vs =
      let n : length (map h vs) ≡ length vs = length-map vs h in
      rw n (hom_blend r (take (length vs / 2) vs) (drop (length vs / 2) vs) ∙ ap₂ (blend M (h r)) (map_take h (length vs / 2) vs) (map_drop h (length vs / 2) vs))

  pub hom_corner : (bs : List Bool) → map h (corner N bs) ≡ corner M bs
  hom_corner [] = refl
  hom_corner (true ∷ bs) = ap₂ (λ (c : D) (l : List D). c ∷ l) H.keeps_𝟙 (hom_corner bs)
  hom_corner (false ∷ bs) = ap₂ (λ (c : D) (l : List D). c ∷ l) H.keeps_𝟘 (hom_corner bs)

module _ {C D : Type 0} {N : Numbers C} {M : Numbers D} {h : C → D} where
  pub hom_extension : Kept N M h
  unfolding extension
  hom_extension H vs z =
      hom_sum_from H (λ b v. N.mul v (weight N b z)) (λ b v. M.mul (h v) (weight M b (map h z))) (λ b v. hom_mul H refl (hom_weight H b z)) 0 vs
      ∙ sym (sum_from_map M h (λ b v. M.mul v (weight M b (map h z))) 0 vs)

module _ {C : Type 0} {N : Numbers C} where
  -- constants have themselves as values
  pub value_constants : Ring N → (vs : List C) (x : C) → map (λ f. value_at N f x) (map (constant N) vs) ≡ vs
  value_constants R vs x = map_map (constant N) (λ f. value_at N f x) vs ∙ map_id (λ c. value_at N (constant N c) x) vs (λ c. value_constant R c x)

  pub value_along : ValueAlong N
  value_along R vs z x =
      hom_extension (value_hom R x) (map (constant N) vs) z
      ∙ ap (λ (l : List C). extension N l (map (λ f. value_at N f x) z)) (value_constants R vs x)
