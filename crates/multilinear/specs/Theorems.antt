-- What this crate proves of the extension: over any commutative ring, on words, and of its formal polynomials.
-- Assumes nothing.
use Rattle.std.specs.Prelude.{ℕ, suc, ◌+◌, ◌-◌, ◌^◌, ◌≤◌, ◌<◌, ◌≡◌, List, [], ◌∷◌, ◌++◌, map, length, get_or}
use Rattle.lists.specs.Each.{All}
use Rattle.algebra.specs.Numbers.{Numbers, words}
use Rattle.algebra.specs.Ring.{Ring}
use Rattle.algebra.specs.Hom.{Hom}
use Rattle.algebra.specs.Polynomial.{value_at, constant, polynomials}
use Rattle.multilinear.specs.Extension.{bits, extension, between, halving, corner, fold}
use Rattle.multilinear.specs.Tables.{Listed, WeightsLength, FoldedEntry, WeightsKept, FoldedKept}
use Rattle.multilinear.specs.Apart.{StayApart, ApartAtNone, FirstFixedOnWords}

-- OVER ANY COMMUTATIVE RING
module _ {C : Type 0} (N : Numbers C) where
  open N use {𝟘, 𝟙}

  -- "The extension of a halved list is built from those of its halves."
  abbrev pub FromHalves : Type 0
  FromHalves =
      Ring N → (low high : List C) (z : C) (zs : List C) → length low ≡ 2 ^ length zs → length high ≤ 2 ^ length zs
      → extension N (low ++ high) (z ∷ zs) ≡ between N z (extension N low zs) (extension N high zs)

  abbrev pub HalvingIsExtension : Type 0
  HalvingIsExtension = Ring N → (vs z : List C) → length vs ≡ 2 ^ length z → halving N vs z ≡ extension N vs z

  -- it extends the list: at the point of an index's bits it is the value there
  abbrev pub AtCorner : Type 0
  AtCorner =
      Ring N → (vs : List C) (k b : ℕ) → length vs ≡ 2 ^ k → b < 2 ^ k → extension N vs (corner N (bits k b)) ≡ get_or vs b 𝟘

  -- it is linear in each coordinate
  abbrev pub Linear : Type 0
  Linear =
      Ring N → (vs xs : List C) (r : C) (zs : List C)
      → extension N vs (xs ++ r ∷ zs) ≡ between N r (extension N vs (xs ++ 𝟘 ∷ zs)) (extension N vs (xs ++ 𝟙 ∷ zs))

  -- a table with its first variable fixed
  abbrev pub FirstFixed : Type 0
  FirstFixed =
      Ring N → (vs : List C) (r : C) (zs : List C) → length vs ≡ 2 ^ suc (length zs)
      → extension N vs (r ∷ zs) ≡ extension N (fold N r vs) zs

-- ON WORDS
abbrev pub HalvingOnWords : Type 0
HalvingOnWords =
    (p : ℕ) → 0 < p → (vs z : List ℕ) → length vs ≡ 2 ^ length z → All (λ v. v < p) vs → halving (words p) vs z ≡ extension (words p) vs z

abbrev pub AtCornerOnWords : Type 0
AtCornerOnWords =
    (p : ℕ) → 0 < p → (vs : List ℕ) (k b : ℕ) → length vs ≡ 2 ^ k → b < 2 ^ k → All (λ v. v < p) vs
    → extension (words p) vs (corner (words p) (bits k b)) ≡ get_or vs b 0

abbrev pub Below : Type 0
Below = (p : ℕ) → 0 < p → (vs z : List ℕ) → extension (words p) vs z < p

-- "with k = 0 it is the one value"
abbrev pub OneValue : Type 0
OneValue = (p v : ℕ) → v < p → extension (words p) (v ∷ []) [] ≡ v

-- MAPS THAT KEEP THE OPERATIONS keep the extension
abbrev pub Kept : {C D : Type 0} → Numbers C → Numbers D → (C → D) → Type 0
Kept {C} N M h = Hom N M h → (vs z : List C) → h (extension N vs z) ≡ extension M (map h vs) (map h z)

-- ALONG POLYNOMIALS: the degree that a length allows, and those of a point's coordinates together
module _ {C : Type 0} where
  abbrev pub degree : List C → ℕ
  degree f = length f - 1

  abbrev pub degrees : List (List C) → ℕ
  degrees [] = 0
  degrees (f ∷ fs) = degree f + degrees fs

module _ {C : Type 0} (N : Numbers C) where
  abbrev pub DegreeBound : Type 0
  DegreeBound = (vs : List C) (z : List (List C)) → length (extension (polynomials N) (map (constant N) vs) z) ≤ suc (degrees z)

  -- its value is the extension at the point of the coordinates' values
  abbrev pub ValueAlong : Type 0
  ValueAlong =
      Ring N → (vs : List C) (z : List (List C)) (x : C)
      → value_at N (extension (polynomials N) (map (constant N) vs) z) x ≡ extension N vs (map (λ f. value_at N f x) z)

-- on words its coefficients are words below p
abbrev pub CoefficientsBelow : Type 0
CoefficientsBelow = (p : ℕ) → 0 < p → (vs z : List (List ℕ)) → All (λ c. c < p) (extension (polynomials (words p)) vs z)

-- all that this crate states; `proved` in `proofs/Proved` inhabits it
pub record Theorems : Type 1 where
  pub from_halves : {C : Type 0} (N : Numbers C) → FromHalves N
  pub halving_is_extension : {C : Type 0} (N : Numbers C) → HalvingIsExtension N
  pub at_corner : {C : Type 0} (N : Numbers C) → AtCorner N
  pub linear : {C : Type 0} (N : Numbers C) → Linear N
  pub first_fixed : {C : Type 0} (N : Numbers C) → FirstFixed N
  pub halving_on_words : HalvingOnWords
  pub at_corner_on_words : AtCornerOnWords
  pub below : Below
  pub one_value : OneValue
  pub kept : {C D : Type 0} (N : Numbers C) (M : Numbers D) (h : C → D) → Kept N M h
  pub degree_bound : {C : Type 0} (N : Numbers C) → DegreeBound N
  pub value_along : {C : Type 0} (N : Numbers C) → ValueAlong N
  pub coefficients_below : CoefficientsBelow
  pub listed : {C : Type 0} (N : Numbers C) → Listed N
  pub weights_length : {C : Type 0} (N : Numbers C) → WeightsLength N
  pub folded_entry : {C : Type 0} (N : Numbers C) → FoldedEntry N
  pub weights_kept : {C D : Type 0} (N : Numbers C) (M : Numbers D) (h : C → D) → WeightsKept N M h
  pub folded_kept : {C D : Type 0} (N : Numbers C) (M : Numbers D) (h : C → D) → FoldedKept N M h
  pub stay_apart : StayApart
  pub apart_at_none : ApartAtNone
  pub first_fixed_on_words : FirstFixedOnWords
