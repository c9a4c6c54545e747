-- The multilinear extension of a list of values, over any numbers. The exponent k is the number of coordinates of the point.
-- Assumes nothing.
use Rattle.std.specs.Prelude.{ℕ, zero, suc, ◌/◌, ◌%◌, ◌^◌, ◌≡◌, refl, Bool, true, false, List, [], ◌∷◌, map, eqb, length, take, drop, get_or}
use Rattle.std.specs.Simd.Lanes.{zip2}
use Rattle.algebra.specs.Numbers.{Numbers, words}

-- the lowest bit
abbrev pub odd : ℕ → Bool
odd n = eqb (n % 2) 1

-- "The index of a value in a list of 2^k values is written in k bits, the highest bit belonging to the first variable."
unfoldable pub bits : ℕ → ℕ → List Bool
bits zero b = []
bits (suc k) b = odd (b / 2 ^ k) ∷ bits k b

module _ {C : Type 0} (N : Numbers C) where
  open N use {𝟘, 𝟙, add as ◌⊕◌, sub as ◌⊖◌, mul as ◌⊗◌}

  infixl 60 ◌⊕◌ ◌⊖◌
  infixl 70 ◌⊗◌
  -- z where the bit is 1 and 1 - z where it is 0
  abbrev pub factor : Bool → C → C
  factor true z = z
  factor false z = 𝟙 ⊖ z

  -- the product over bits and coordinates
  unfoldable pub weight_of_bits : List Bool → List C → C
  weight_of_bits [] zs = 𝟙
  weight_of_bits (b ∷ bs) [] = 𝟙
  weight_of_bits (b ∷ bs) (z ∷ zs) = factor b z ⊗ weight_of_bits bs zs

  -- the weight of index b at a point, written in as many bits as the point has coordinates
  abbrev pub weight : ℕ → List C → C
  weight b z = weight_of_bits (bits (length z) b) z

  -- the sum of f over a list whose first element has index a
  unfoldable pub sum_from : {A : Type 0} → (ℕ → A → C) → ℕ → List A → C
  sum_from f a [] = 𝟘
  sum_from f a (x ∷ l) = f a x ⊕ sum_from f (suc a) l

  -- "The extension of a list at z is the sum of value × weight."
  unfoldable pub extension : List C → List C → C
  extension vs z = sum_from (λ b v. v ⊗ weight b z) 0 vs

  -- (1 - r) × low + r × high
  abbrev pub between : C → C → C → C
  between r low high = (𝟙 ⊖ r) ⊗ low ⊕ r ⊗ high

  -- "The extension of a halved list is built from those of its halves: (1 - z_1) × low + z_1 × high." This is what the code computes;
  -- where there are 2^k values it is the extension (`HalvingIsExtension`).
  unfoldable pub halving : List C → List C → C
  halving vs [] = get_or vs 0 𝟘
  halving vs (z ∷ zs) = between z (halving (take (length vs / 2) vs) zs) (halving (drop (length vs / 2) vs) zs)

  -- a bit as a coordinate, and the point of an index's bits
  abbrev pub bit : Bool → C
  bit true = 𝟙
  bit false = 𝟘

  abbrev pub corner : List Bool → List C
  corner bs = map bit bs

  -- two tables into one, entry by entry
  unfoldable pub blend : C → List C → List C → List C
  blend r low high = zip2 (between r) low high

  -- a table with its first variable fixed at r
  unfoldable pub fold : C → List C → List C
  fold r vs = blend r (take (length vs / 2) vs) (drop (length vs / 2) vs)

-- index 2 of four is 1 0: its value stands at z_1 = 1, z_2 = 0
corner_example : extension (words 13) (7 ∷ 8 ∷ 9 ∷ 10 ∷ []) (1 ∷ 0 ∷ []) ≡ 9
unfolding bits weight_of_bits sum_from extension
corner_example = refl

-- 3 + 2 z at 4, modulo 13
line_example : extension (words 13) (3 ∷ 5 ∷ []) (4 ∷ []) ≡ 11
unfolding bits weight_of_bits sum_from extension
line_example = refl
