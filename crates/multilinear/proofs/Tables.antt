-- Laws of the weight list and of tables with variables fixed: by induction on the point, the weights below and above the half are those of
-- the rest times 1 - z and z, and a fold has the extension with its coordinate in front.
-- Assumes nothing.
use mathlib.Core.Path.{◌≡◌, refl, sym, ap, ap₂, ◌∙◌}
use mathlib.Core.List.{List, [], ◌∷◌, ◌++◌, map}
use Prim.Native.Nat.{ℕ, zero, suc, ◌+◌, ◌-◌, ◌/◌, ◌^◌, ◌≤◌, ◌<◌}
use native.Mathlib.Nat.{zero-add, suc-add, two-pow-succ, le_of_suc-le-suc}
use native.Mathlib.Omega.{arith}
use native.Mathlib.Decide.{dec_le}
use lib.ListN.{length, take, drop, get_or, length-append, length-map, length-drop, get_or-append}
use lib.Seq.{length-take-le, get_or-append-add}
use Rattle.lists.proofs.Map.{map_append, get_d_map_lt}
use Rattle.algebra.specs.Numbers.{Numbers}
use Rattle.algebra.specs.Hom.{Hom}
use Rattle.algebra.proofs.Hom.{hom_sub, hom_mul}
use Rattle.multilinear.specs.Extension.{bits, weight_of_bits, weight, corner, blend, fold}
use Rattle.multilinear.specs.Tables.{weights, folded, Listed, WeightsLength, FoldedEntry, WeightsKept, FoldedKept}
use Rattle.multilinear.proofs.Weight.{weight_low, weight_high}
use Rattle.multilinear.proofs.Extension.{half, length_corner, at_corner}
use Rattle.multilinear.proofs.Linear.{first_fixed}
use Rattle.multilinear.proofs.Hom.{hom_fold}

-- THE WEIGHT LIST
module _ {C : Type 0} (N : Numbers C) where
  open N use {𝟘, 𝟙, sub as ◌⊖◌, mul as ◌⊗◌}

  infixl 60 ◌⊖◌
  infixl 70 ◌⊗◌
  pub length_weights : WeightsLength N
  unfolding weights
  length_weights [] = refl
  length_weights (z ∷ zs) =
      let ih = length_weights zs in
      let s = two-pow-succ (length zs) in
      length-append (map (λ w. (𝟙 ⊖ z) ⊗ w) (weights N zs)) (map (λ w. z ⊗ w) (weights N zs)) ∙ simp length-map (omega arith)

  pub listed : Listed N
  unfolding weights bits weight_of_bits
  listed [] zero h = refl
  listed [] (suc b) h = absurd (omega arith)
  listed (z ∷ zs) b h = go (λ c l. listed zs c l) (dec_le (2 ^ length zs) b)
    where
      low : List C
      low = map (λ w. (𝟙 ⊖ z) ⊗ w) (weights N zs)

      high : List C
      high = map (λ w. z ⊗ w) (weights N zs)

      go : ((c : ℕ) → c < 2 ^ length zs → get_or (weights N zs) c 𝟘 ≡ weight N c zs) → Dec (2 ^ length zs ≤ b)
          → get_or (low ++ high) b 𝟘 ≡ weight N b (z ∷ zs)
      go rest (no n) =
          let l : b < 2 ^ length zs = omega arith in
          let size : length low ≡ 2 ^ length zs = length-map (weights N zs) (λ w. (𝟙 ⊖ z) ⊗ w) ∙ length_weights zs in
          get_or-append low high 𝟘 b (omega arith)
          ∙ get_d_map_lt (λ w. (𝟙 ⊖ z) ⊗ w) (weights N zs) b 𝟘 𝟘 (omega (arith, length_weights zs))
          ∙ ap (λ (w : C). (𝟙 ⊖ z) ⊗ w) (rest b l) ∙ sym (weight_low N b z zs l)
      go rest (yes n) =
          let c : ℕ = b - 2 ^ length zs in
          let l : c < 2 ^ length zs = omega (arith, two-pow-succ (length zs)) in
          let size : length low ≡ 2 ^ length zs = length-map (weights N zs) (λ w. (𝟙 ⊖ z) ⊗ w) ∙ length_weights zs in
          let there : b ≡ length low + c = omega arith in
          let whole : 2 ^ length zs + c ≡ b = omega arith in
          ap (λ (i : ℕ). get_or (low ++ high) i 𝟘) there ∙ get_or-append-add low high c 𝟘
          ∙ get_d_map_lt (λ w. z ⊗ w) (weights N zs) c 𝟘 𝟘 (omega (arith, length_weights zs))
          ∙ ap (λ (w : C). z ⊗ w) (rest c l) ∙ sym (weight_high N c z zs l)
          ∙ ap (λ (i : ℕ). weight N i (z ∷ zs)) whole

-- A TABLE WITH ITS FIRST VARIABLE FIXED has half the length; an odd list's last value doesn't count
module _ {C : Type 0} (N : Numbers C) where
  length_blend : (r : C) (low high : List C) → length low ≤ length high → length (blend N r low high) ≡ length low
  unfolding blend
  length_blend r [] high h = refl
  length_blend r (a ∷ low) [] h = absurd (omega arith)
  length_blend r (a ∷ low) (b ∷ high) h = ap suc (length_blend r low high (le_of_suc-le-suc h))

  pub length_fold : (r : C) (vs : List C) → length (fold N r vs) ≡ length vs / 2
  unfolding fold
  length_fold r vs =
      let low : length (take (length vs / 2) vs) ≡ length vs / 2 = length-take-le (length vs / 2) vs (omega arith) in
      let high : length (drop (length vs / 2) vs) ≡ length vs - length vs / 2 = length-drop (length vs / 2) vs in
      length_blend r (take (length vs / 2) vs) (drop (length vs / 2) vs) (omega arith) ∙ low

  -- one variable after another
  pub folded_none : (vs : List C) → folded N [] vs ≡ vs
  unfolding folded
  folded_none vs = refl

  pub folded_append : (xs ys vs : List C) → folded N (xs ++ ys) vs ≡ folded N ys (folded N xs vs)
  unfolding folded
  folded_append [] ys vs = refl
  folded_append (r ∷ xs) ys vs = folded_append xs ys (fold N r vs)

  pub folded_one : (r : C) (vs : List C) → folded N (r ∷ []) vs ≡ fold N r vs
  unfolding folded
  folded_one r vs = refl

module _ {C : Type 0} {N : Numbers C} where
  pub folded_entry : FoldedEntry N
  unfolding folded
  folded_entry R [] vs m b e h = sym (at_corner R vs m b (e ∙ ap (λ (n : ℕ). 2 ^ n) (zero-add m)) h)
  folded_entry R (r ∷ xs) vs m b e h =
      let rest = corner N (bits m b) in
      let size : length (xs ++ rest) ≡ length xs + m = length-append xs rest ∙ ap (λ (n : ℕ). length xs + n) (length_corner N m b) in
      folded_entry R xs (fold N r vs) m b (length_fold N r vs ∙ half (length xs + m) (length vs) (e ∙ ap (λ (n : ℕ). 2 ^ n) (suc-add (length xs) m))) h
      ∙ sym (first_fixed R vs r (xs ++ rest) (e ∙ ap (λ (n : ℕ). 2 ^ n) (suc-add (length xs) m ∙ ap suc (sym size))))

-- MAPS THAT KEEP THE OPERATIONS
module _ {C D : Type 0} {N : Numbers C} {M : Numbers D} {h : C → D} where
  hom_scaled : Hom N M h → {c : C} {c' : D} → h c ≡ c' → (ws : List C) → map h (map (λ w. N.mul c w) ws) ≡ map (λ w. M.mul c' w) (map h ws)
  hom_scaled H e [] = refl
  hom_scaled H e (w ∷ ws) = ap₂ (λ (x : D) (l : List D). x ∷ l) (hom_mul H e refl) (hom_scaled H e ws)

  pub weights_kept : WeightsKept N M h
  unfolding weights
  weights_kept H [] = ap (λ (w : D). w ∷ []) H.keeps_𝟙
  weights_kept H (z ∷ zs) =
      let low : C → C = λ w. N.mul (N.sub N.𝟙 z) w in
      let high : C → C = λ w. N.mul z w in
      map_append h (map low (weights N zs)) (map high (weights N zs))
      ∙ ap₂ (λ (l m : List D). l ++ m) (hom_scaled H (hom_sub H H.keeps_𝟙 refl) (weights N zs)) (hom_scaled H refl (weights N zs))
      ∙ ap (λ (ws : List D). map (λ w. M.mul (M.sub M.𝟙 (h z)) w) ws ++ map (λ w. M.mul (h z) w) ws) (weights_kept H zs)

  pub folded_kept : FoldedKept N M h
  unfolding folded
  folded_kept H [] vs = refl
  folded_kept H (r ∷ xs) vs = folded_kept H xs (fold N r vs) ∙ ap (folded M (map h xs)) (hom_fold H r vs)
