-- The honest sum message in one pass over the gates, from tables: what the code computes. With r for the next coordinate, a gate counts
-- its weight × (r or 1 - r, by its wire's bit) × its operation, which is linear in r. So three sums over the gates give the coefficients.
-- Assumes nothing.
use Rattle.std.specs.Prelude.{ℕ, ◌+◌, ◌-◌, ◌/◌, ◌%◌, ◌^◌, ◌≤◌, ◌<◌, ◌≡◌, ◌⊎◌, Bool, cond, not, ◌||◌, List, [], ◌∷◌, ◌++◌, ltb, length, get_or}
use Rattle.lists.specs.Each.{All}
use Rattle.primes.specs.Prime.{Prime}
use Rattle.algebra.specs.Numbers.{Numbers, words}
use Rattle.multilinear.specs.Extension.{sum_from}
use Rattle.multilinear.specs.Tables.{weights, folded}
use Rattle.circuit.specs.Gate.{Gate, operate}
use Rattle.sumcheck.specs.Message.{sum_message}

-- what is known of one of the two points, its first coordinates being fixed
pub record Side (C : Type 0) : Type 0 where
  -- the weights of a wire's first bits at these coordinates
  pub shares : List C
  -- the layer's values with these coordinates fixed
  pub table : List C
  -- how many they are, and half of it where the next coordinate is this point's, 0 where it is the other's
  pub size : ℕ
  pub half : ℕ

module _ {C : Type 0} (N : Numbers C) where
  open N use {𝟘, sub as ◌⊖◌, mul as ◌⊗◌}

  infixl 60 ◌⊖◌
  infixl 70 ◌⊗◌
  -- the side of the point that has the coordinates xs; `next` says whether the next coordinate is its own
  abbrev pub side_of : ℕ → List C → List C → Bool → Side C
  side_of k vs xs next = record {
    shares = weights N xs;
    table = folded N xs vs;
    size = 2 ^ (k - length xs);
    half = cond next (2 ^ (k - length xs) / 2) 0;
  }

  -- the weight of a wire's first bits
  abbrev pub share : Side C → ℕ → C
  share s i = get_or s.shares (i / s.size) 𝟘

  -- the value at the wire's other bits, and with the first of these turned
  abbrev pub own : Side C → ℕ → C
  own s i = get_or s.table (i % s.size) 𝟘

  abbrev pub other : Side C → ℕ → C
  other s i = get_or s.table ((i + s.half) % s.size) 𝟘

  -- whether that bit is 1: turned, it makes the number smaller
  abbrev pub is_one : Side C → ℕ → Bool
  is_one s i = ltb ((i + s.half) % s.size) (i % s.size)

  -- the sum over the gates whose bit is 0, that over those whose bit is 1, and that of the squares
  abbrev pub coefficients : C → C → C → List C
  coefficients zeros ones squares = zeros ∷ (ones ⊖ zeros ⊖ squares) ∷ squares ∷ []

  -- weight w, bit b, and the operation's value at the gate's own bit, o, and at the other one, o'
  unfoldable pub three_sums : (ℕ → Gate → C) → (Gate → Bool) → (Gate → C) → (Gate → C) → List Gate → List C
  three_sums w b o o' gs =
      coefficients (sum_from N (λ a g. cond (b g) 𝟘 (w a g ⊗ o g)) 0 gs) (sum_from N (λ a g. cond (b g) (w a g ⊗ o g) 𝟘) 0 gs)
      (sum_from N (λ a g. w a g ⊗ (o g ⊖ o' g)) 0 gs)

  -- these of a gate, from the weights of the gates and the two sides
  abbrev pub gate_share : List C → Side C → Side C → ℕ → Gate → C
  gate_share ps l r a g = get_or ps a 𝟘 ⊗ (share l g.left ⊗ share r g.right)

  abbrev pub gate_is_one : Side C → Side C → Gate → Bool
  gate_is_one l r g = is_one l g.left || is_one r g.right

  abbrev pub gate_own : Side C → Side C → Gate → C
  gate_own l r g = operate N g.kind (own l g.left) (own r g.right)

  abbrev pub gate_other : Side C → Side C → Gate → C
  gate_other l r g = operate N g.kind (other l g.left) (other r g.right)

  abbrev pub sums_of : List C → Side C → Side C → List Gate → List C
  sums_of ps l r gs = three_sums (gate_share ps l r) (gate_is_one l r) (gate_own l r) (gate_other l r) gs

  -- u and v are the coordinates that are fixed of the two points
  unfoldable pub sum_by_gates : ℕ → List Gate → List C → List C → List C → List C → List C
  sum_by_gates k gs point vs u v =
      sums_of (weights N point) (side_of k vs u (ltb (length u) k)) (side_of k vs v (not (ltb (length u) k))) gs

-- the coordinates are fixed in order, and one is left: v has none while u has fewer than k
abbrev pub InOrder : {C : Type 0} → ℕ → List C → List C → Type 0
InOrder k u v = ((length u < k) × (length v ≡ 0)) ⊎ ((length u ≡ k) × (length v < k))

-- on words the pass gives the honest message
abbrev pub SumByGates : Type 0
SumByGates =
    (p : ℕ) → Prime p → 3 ≤ p → (k : ℕ) (gs : List Gate) (point vs u v : List ℕ) → length vs ≡ 2 ^ k
    → All (λ g. (g.left < 2 ^ k) × (g.right < 2 ^ k)) gs → length gs ≤ 2 ^ length point → InOrder k u v
    → sum_by_gates (words p) k gs point vs u v ≡ sum_message (words p) k gs point vs (u ++ v)
