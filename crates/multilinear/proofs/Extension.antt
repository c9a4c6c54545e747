-- The extension over a ring. Of an appended list, the first half's indices have the weights of the rest times 1 - z, and the second half's
-- times z; everything else follows by induction on the point.
-- Assumes nothing.
use mathlib.Core.Path.{◌≡◌, sym, ap, ap₂, ◌∙◌}
use mathlib.Core.Bool.{Bool}
use mathlib.Core.List.{List, [], ◌∷◌}
use Prim.Native.Nat.{ℕ, zero, suc, ◌+◌, ◌-◌, ◌/◌, ◌^◌, ◌≤◌, ◌<◌}
use native.Mathlib.Nat.{two-pow-succ}
use native.Mathlib.Omega.{arith}
use native.Mathlib.Decide.{dec_le}
use lib.ListN.{length, take, drop, get_or, take-append-drop, length-drop, length-map}
use lib.Seq.{length-take-le, get_or-take, get_or-drop}
use Rattle.algebra.specs.Numbers.{Numbers}
use Rattle.algebra.specs.Ring.{Ring}
use Rattle.algebra.proofs.Ring.{ring}
use Rattle.multilinear.specs.Extension.{bits, weight, weight_of_bits, sum_from, extension, between, halving, bit, corner}
use Rattle.multilinear.specs.Theorems.{FromHalves, HalvingIsExtension, AtCorner}
use Rattle.multilinear.proofs.Bits.{length_bits, bits_low, bits_high}
use Rattle.multilinear.proofs.Sum.{sum_from_append, sum_from_same_below, sum_from_shift, sum_from_scale}
use Rattle.multilinear.proofs.Weight.{weight_low, weight_high}

-- the half of a power of two
pub half : (k n : ℕ) → n ≡ 2 ^ suc k → n / 2 ≡ 2 ^ k
half k n e = omega (arith, two-pow-succ k)

pub length_corner : {C : Type 0} (N : Numbers C) (k b : ℕ) → length (corner N (bits k b)) ≡ k
length_corner N k b = length-map (bits k b) (bit N) ∙ length_bits k b

module _ {C : Type 0} {N : Numbers C} where
  open N use {𝟘, 𝟙, add as ◌⊕◌, sub as ◌⊖◌, mul as ◌⊗◌}

  infixl 60 ◌⊕◌ ◌⊖◌
  infixl 70 ◌⊗◌
  pub from_halves : FromHalves N
  unfolding extension
  from_halves R low high z zs e h =
      let n : ℕ = 2 ^ length zs in
      let here : 0 + length low ≡ n + 0 = omega arith in
      sum_from_append R term 0 low high
      ∙ ap₂ ◌⊕◌
      (sum_from_same_below N n term (λ b v. (𝟙 ⊖ z) ⊗ part b v) (λ b v l. ap (λ (w : C). v ⊗ w) (weight_low N b z zs l) ∙ turn v (𝟙 ⊖ z) (weight N b zs)) 0 low (omega arith)
      ∙ sum_from_scale R (𝟙 ⊖ z) part 0 low)
      (ap (λ (i : ℕ). sum_from N term i high) here ∙ sum_from_shift N n term 0 high
      ∙ sum_from_same_below N n (λ b v. term (n + b) v) (λ b v. z ⊗ part b v) (λ b v l. ap (λ (w : C). v ⊗ w) (weight_high N b z zs l) ∙ turn v z (weight N b zs)) 0 high (omega arith)
      ∙ sum_from_scale R z part 0 high)
    where
      term : ℕ → C → C
      term b v = v ⊗ weight N b (z ∷ zs)

      part : ℕ → C → C
      part b v = v ⊗ weight N b zs

      turn : (v c w : C) → v ⊗ (c ⊗ w) ≡ c ⊗ (v ⊗ w)
      turn v c w = simp ring

  pub from_halved : Ring N → (vs : List C) (z : C) (zs : List C) → length vs ≡ 2 ^ suc (length zs)
      → extension N vs (z ∷ zs) ≡ between N z (extension N (take (length vs / 2) vs) zs) (extension N (drop (length vs / 2) vs) zs)
  from_halved R vs z zs e =
      let m = half (length zs) (length vs) e in
      let s = two-pow-succ (length zs) in
      let low : length (take (length vs / 2) vs) ≡ 2 ^ length zs = length-take-le (length vs / 2) vs (omega arith) ∙ m in
      let high : length (drop (length vs / 2) vs) ≤ 2 ^ length zs = simp length-drop (omega arith) in
      ap (λ (l : List C). extension N l (z ∷ zs)) (sym (take-append-drop (length vs / 2) vs))
      ∙ from_halves R (take (length vs / 2) vs) (drop (length vs / 2) vs) z zs low high

  -- the empty point
  pub one_value : Ring N → (v : C) → extension N (v ∷ []) [] ≡ v
  unfolding extension sum_from weight_of_bits bits
  one_value R v = plain v
    where
      plain : (v : C) → v ⊗ 𝟙 ⊕ 𝟘 ≡ v
      plain v = simp ring

  pub halving_is_extension : HalvingIsExtension N
  unfolding halving
  halving_is_extension R [] [] e = absurd (omega arith)
  halving_is_extension R (v ∷ []) [] e = sym (one_value R v)
  halving_is_extension R (v ∷ w ∷ vs) [] e = absurd (omega arith)
  halving_is_extension R vs (x ∷ z) e =
      let m = half (length z) (length vs) e in
      let s = two-pow-succ (length z) in
      ap₂ (between N x)
      (halving_is_extension R (take (length vs / 2) vs) z (length-take-le (length vs / 2) vs (omega arith) ∙ m))
      (halving_is_extension R (drop (length vs / 2) vs) z (length-drop (length vs / 2) vs ∙ omega arith))
      ∙ sym (from_halved R vs x z e)

  pub at_corner : AtCorner N
  unfolding bits
  at_corner R [] zero b e h = absurd (omega arith)
  at_corner R (v ∷ []) zero zero e h = one_value R v
  at_corner R (v ∷ []) zero (suc b) e h = absurd (omega arith)
  at_corner R (v ∷ w ∷ vs) zero b e h = absurd (omega arith)
  at_corner R vs (suc k) b e h =
      let m = half k (length vs) e in
      let s = two-pow-succ k in
      go (λ l. at_corner R (take (length vs / 2) vs) k b (length-take-le (length vs / 2) vs (omega arith) ∙ m) l)
      (λ l. at_corner R (drop (length vs / 2) vs) k (b - 2 ^ k) (length-drop (length vs / 2) vs ∙ omega arith) l)
      (dec_le (2 ^ k) b)
    where
      split : (z : C) (c : ℕ) → length vs ≡ 2 ^ suc k
          → extension N vs (z ∷ corner N (bits k c))
          ≡ between N z (extension N (take (length vs / 2) vs) (corner N (bits k c))) (extension N (drop (length vs / 2) vs) (corner N (bits k c)))
      split z c e = from_halved R vs z (corner N (bits k c)) (e ∙ ap (λ (n : ℕ). 2 ^ suc n) (sym (length_corner N k c)))

      low_only : (x y : C) → between N 𝟘 x y ≡ x
      low_only x y = simp ring

      high_only : (x y : C) → between N 𝟙 x y ≡ y
      high_only x y = simp ring

      go : (b < 2 ^ k → extension N (take (length vs / 2) vs) (corner N (bits k b)) ≡ get_or (take (length vs / 2) vs) b 𝟘)
          → (b - 2 ^ k < 2 ^ k → extension N (drop (length vs / 2) vs) (corner N (bits k (b - 2 ^ k))) ≡ get_or (drop (length vs / 2) vs) (b - 2 ^ k) 𝟘)
          → Dec (2 ^ k ≤ b) → extension N vs (corner N (bits (suc k) b)) ≡ get_or vs b 𝟘
      go low high (no n) =
          let l : b < 2 ^ k = omega arith in
          let m = half k (length vs) e in
          ap (λ (bs : List Bool). extension N vs (corner N bs)) (bits_low k b l)
          ∙ split 𝟘 b e
          ∙ low_only (extension N (take (length vs / 2) vs) (corner N (bits k b))) (extension N (drop (length vs / 2) vs) (corner N (bits k b)))
          ∙ low l ∙ get_or-take (length vs / 2) vs b 𝟘 (omega arith)
      go low high (yes l) =
          let c : ℕ = b - 2 ^ k in
          let m = half k (length vs) e in
          let below : c < 2 ^ k = omega (arith, two-pow-succ k) in
          let whole : b ≡ 2 ^ k + c = omega arith in
          let there : length vs / 2 + c ≡ b = omega arith in
          ap (λ (bs : List Bool). extension N vs (corner N bs)) (ap (bits (suc k)) whole ∙ bits_high k c below)
          ∙ split 𝟙 c e
          ∙ high_only (extension N (take (length vs / 2) vs) (corner N (bits k c))) (extension N (drop (length vs / 2) vs) (corner N (bits k c)))
          ∙ high below ∙ get_or-drop (length vs / 2) vs c 𝟘 ∙ ap (λ (i : ℕ). get_or vs i 𝟘) there
