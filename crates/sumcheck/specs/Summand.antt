-- The summand of a layer and its sums over {0, 1}, over any numbers.
-- Assumes nothing.
use Rattle.std.specs.Prelude.{ℕ, zero, suc, ◌-◌, ◌*◌, ◌≡◌, cond, List, [], ◌∷◌, ◌++◌, eqb, length, take, drop}
use Rattle.algebra.specs.Numbers.{Numbers}
use Rattle.multilinear.specs.Extension.{weight, sum_from, extension}
use Rattle.circuit.specs.Gate.{Gate, kinds, operate}

module _ {C : Type 0} (N : Numbers C) where
  open N use {𝟘, 𝟙, add as ◌⊕◌, sub as ◌⊖◌, mul as ◌⊗◌}

  infixl 60 ◌⊕◌ ◌⊖◌
  infixl 70 ◌⊗◌
  -- "weight(a, point) × weight(b, u) × weight(c, v)" of gate a with wires b and c
  abbrev pub gate_weight : List C → List C → List C → ℕ → ℕ → ℕ → C
  gate_weight point u v a b c = weight N a point ⊗ weight N b u ⊗ weight N c v

  -- "A is the sum of weight(a, point) × weight(b, u) × weight(c, v) over the add gates", "M is the same sum over the multiply gates", "S over the
  -- subtract gates": the sum over the gates of a kind
  unfoldable pub wiring : ℕ → List Gate → List C → List C → List C → C
  wiring kind gs point u v = sum_from N (λ a g. cond (eqb g.kind kind) (gate_weight point u v a g.left g.right) 𝟘) 0 gs

  -- the sum over the kinds of their sums, each times what the kind does with x for V(u) and y for V(v)
  unfoldable pub combined : List Gate → List C → List C → List C → C → C → C
  combined gs point u v x y = sum_from N (λ i kind. wiring kind gs point u v ⊗ operate N kind x y) 0 kinds

  -- "A × (V(u) + V(v)) + M × V(u) × V(v) + S × (V(u) - V(v))": so it is over a ring, and on words
  abbrev pub Formula : Type 0
  Formula =
      (gs : List Gate) (point u v : List C) (x y : C)
      → combined gs point u v x y ≡ wiring 1 gs point u v ⊗ (x ⊕ y) ⊕ wiring 2 gs point u v ⊗ x ⊗ y ⊕ wiring 3 gs point u v ⊗ (x ⊖ y)

  -- "The summand at (u, v)": V extends the layer's values vs
  unfoldable pub summand : List Gate → List C → List C → List C → List C → C
  summand gs point vs u v = combined gs point u v (extension N vs u) (extension N vs v)

  -- the same with the coordinates in one list, the k of u first
  abbrev pub summand_at : ℕ → List Gate → List C → List C → List C → C
  summand_at k gs point vs ws = summand gs point vs (take k ws) (drop k ws)

  -- the sum over {0, 1} of n coordinates
  unfoldable pub cube : ℕ → (List C → C) → C
  cube zero f = f []
  cube (suc n) f = cube n (λ bs. f (𝟘 ∷ bs)) ⊕ cube n (λ bs. f (𝟙 ∷ bs))

  -- "the sum over {0, 1} of the coordinates not yet fixed", those in xs being fixed
  unfoldable pub partial_sum : ℕ → List Gate → List C → List C → List C → C
  partial_sum k gs point vs xs = cube (2 * k - length xs) (λ bs. summand_at k gs point vs (xs ++ bs))

  -- "u + t × (v - u)"
  unfoldable pub line_point : List C → List C → C → List C
  line_point [] v t = []
  line_point (x ∷ u) [] t = []
  line_point (x ∷ u) (y ∷ v) t = (x ⊕ t ⊗ (y ⊖ x)) ∷ line_point u v t
