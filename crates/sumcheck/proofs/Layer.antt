-- A partial sum, gate by gate: over {0, 1} the weights of a gate's wires pick the one corner that its wires name, where V has the wires'
-- values. With no coordinate fixed, what is left is the extension of the gates' values.
-- Assumes nothing.
use mathlib.Core.Path.{◌≡◌, refl, sym, ap, ap₂, ◌∙◌}
use mathlib.Core.Logic.{◌≢◌}
use mathlib.Core.Bool.{Bool, true, false, cond, ◌||◌}
use mathlib.Core.List.{List, [], ◌∷◌, ◌++◌, map}
use Prim.Native.Nat.{ℕ, suc, ◌+◌, ◌-◌, ◌*◌, ◌^◌, ◌≤◌, ◌<◌, zero-le}
use native.Mathlib.Omega.{arith}
use lib.Dec.{eqb}
use lib.ListN.{length, take, drop, length-append, length-drop, take-append-drop}
use lib.Seq.{length-take-le, take_at, drop_at}
use borrow.Author.Tests.{ne_eqb, eqb-true}
use Rattle.lists.specs.Each.{All, Distinct}
use Rattle.lists.proofs.Map.{map_append}
use Rattle.primes.specs.Prime.{is_one_of}
use Rattle.algebra.specs.Numbers.{Numbers}
use Rattle.algebra.specs.Ring.{Ring}
use Rattle.algebra.proofs.Ring.{ring, mul_zero}
use Rattle.multilinear.specs.Extension.{bits, weight_of_bits, weight, sum_from, extension, bit, corner}
use Rattle.multilinear.proofs.Bits.{length_bits}
use Rattle.multilinear.proofs.Sum.{sum_from_same, sum_from_same_all, sum_from_scale, sum_from_map, sum_from_swap}
use Rattle.multilinear.proofs.Weight.{weight_none, weight_append}
use Rattle.multilinear.proofs.Extension.{at_corner, length_corner}
use Rattle.circuit.specs.Gate.{Gate, kinds, operate, gate_value}
use Rattle.circuit.proofs.Operate.{kinds_distinct, operate_listed}
use Rattle.sumcheck.specs.Summand.{gate_weight, wiring, combined, Formula, summand, summand_at, cube, partial_sum}
use Rattle.sumcheck.proofs.Cube.{cube_same, cube_scale, cube_sum_from, cube_picks}

-- the bits of both wires of a gate
abbrev pub wires : ℕ → Gate → List Bool
wires k g = bits k g.left ++ bits k g.right

pub length_wires : (k : ℕ) (g : Gate) → length (wires k g) ≡ 2 * k
length_wires k g =
    length-append (bits k g.left) (bits k g.right) ∙ ap₂ ◌+◌ (length_bits k g.left) (length_bits k g.right) ∙ omega arith

module _ {C : Type 0} (N : Numbers C) where
  -- a gate's operation on V(u) and V(v), the coordinates in one list
  unfoldable pub operate_at : ℕ → List C → Gate → List C → C
  operate_at k vs g ws = operate N g.kind (extension N vs (take k ws)) (extension N vs (drop k ws))

  -- the coordinates that are fixed, and the bits of the gate's wires for the others
  abbrev pub reached : ℕ → List C → Gate → List C
  reached k xs g = xs ++ corner N (drop (length xs) (wires k g))

none_of : (ks : List ℕ) (kind : ℕ) → All (λ κ. κ ≢ kind) ks → is_one_of ks kind ≡ false
unfolding is_one_of
none_of [] kind h = refl
none_of (κ ∷ ks) kind h = ap₂ ◌||◌ (ne_eqb kind κ (λ e. h.0 (sym e))) (none_of ks kind h.1)

module _ {C : Type 0} {N : Numbers C} (R : Ring N) where
  open N use {𝟘, 𝟙, add as ◌⊕◌, sub as ◌⊖◌, mul as ◌⊗◌}

  infixl 60 ◌⊕◌ ◌⊖◌
  infixl 70 ◌⊗◌
  -- THE SUMMAND, gate by gate: a gate has one kind, so of a sum over different kinds its own is what is left
  one_kind : (f : ℕ → C) (kind : ℕ) (w : C) (a : ℕ) (ks : List ℕ) → Distinct ks
      → sum_from N (λ i κ. f κ ⊗ cond (eqb kind κ) w 𝟘) a ks ≡ w ⊗ cond (is_one_of ks kind) (f kind) 𝟘
  unfolding sum_from is_one_of
  one_kind f kind w a [] d = sym (mul_zero R w)
  one_kind f kind w a (κ ∷ ks) d = go (eqb kind κ) refl (one_kind f kind w (suc a) ks d.1)
    where
      rest : C
      rest = sum_from N (λ i κ. f κ ⊗ cond (eqb kind κ) w 𝟘) (suc a) ks

      own : (x w : C) → x ⊗ w ⊕ w ⊗ 𝟘 ≡ w ⊗ x
      own x w = simp ring

      other : (x r : C) → x ⊗ 𝟘 ⊕ r ≡ r
      other x r = simp ring

      go : (b : Bool) → eqb kind κ ≡ b → rest ≡ w ⊗ cond (is_one_of ks kind) (f kind) 𝟘
          → f κ ⊗ cond b w 𝟘 ⊕ rest ≡ w ⊗ cond (b || is_one_of ks kind) (f kind) 𝟘
      go true e ih =
          let same : kind ≡ κ = eqb-true kind κ e in
          ap₂ (λ (k : ℕ) (y : C). f k ⊗ w ⊕ y) (sym same) (ih ∙ ap (λ (b : Bool). w ⊗ cond b (f kind) 𝟘) (none_of ks kind (rw same d.0)))
          ∙ own (f kind) w
      go false e ih = other (f κ) rest ∙ ih

  pub combined_gates : (gs : List Gate) (point u v : List C) (x y : C)
      → combined N gs point u v x y ≡ sum_from N (λ a g. gate_weight N point u v a g.left g.right ⊗ operate N g.kind x y) 0 gs
  unfolding combined wiring
  combined_gates gs point u v x y =
      sum_from_same N _ (λ i κ. sum_from N (λ a g. operate N κ x y ⊗ part κ a g) 0 gs)
      (λ i κ. R.mul_comm (sum_from N (part κ) 0 gs) (operate N κ x y) ∙ sym (sum_from_scale R (operate N κ x y) (part κ) 0 gs)) 0 kinds
      ∙ sum_from_swap R (λ a g i κ. operate N κ x y ⊗ part κ a g) 0 0 gs kinds
      ∙ sum_from_same N _ (λ a g. three a g ⊗ operate N g.kind x y)
      (λ a g. one_kind (λ κ. operate N κ x y) g.kind (three a g) 0 kinds kinds_distinct
      ∙ ap (λ (o : C). three a g ⊗ o) (operate_listed N g.kind x y)) 0 gs
    where
      three : ℕ → Gate → C
      three a g = gate_weight N point u v a g.left g.right

      part : ℕ → ℕ → Gate → C
      part κ a g = cond (eqb g.kind κ) (three a g) 𝟘

  pub formula : Formula N
  unfolding combined sum_from
  formula gs point u v x y = plain (wiring N 1 gs point u v) (wiring N 2 gs point u v) (wiring N 3 gs point u v) x y
    where
      plain : (A M S x y : C) → A ⊗ (x ⊕ y) ⊕ (M ⊗ (x ⊗ y) ⊕ (S ⊗ (x ⊖ y) ⊕ 𝟘)) ≡ A ⊗ (x ⊕ y) ⊕ M ⊗ x ⊗ y ⊕ S ⊗ (x ⊖ y)
      plain A M S x y = simp ring

  -- the weights of a gate's wires, split where the fixed coordinates end instead of where u ends
  split_wires : (k : ℕ) (g : Gate) (xs bs : List C) (c o : C) → length xs + length bs ≡ 2 * k
      → c ⊗ weight N g.left (take k (xs ++ bs)) ⊗ weight N g.right (drop k (xs ++ bs)) ⊗ o
      ≡ c ⊗ weight_of_bits N (take (length xs) (wires k g)) xs ⊗ (weight_of_bits N (drop (length xs) (wires k g)) bs ⊗ o)
  split_wires k g xs bs c o e =
      let j : ℕ = length xs in
      let ws : List C = xs ++ bs in
      let n : length ws ≡ 2 * k = length-append xs bs ∙ e in
      let lu : length (take k ws) ≡ k = length-take-le k ws (omega arith) in
      let lv : length (drop k ws) ≡ k = length-drop k ws ∙ omega arith in
      let one : weight_of_bits N (wires k g) ws ≡ weight_of_bits N (bits k g.left) (take k ws) ⊗ weight_of_bits N (bits k g.right) (drop k ws) =
      ap (weight_of_bits N (wires k g)) (sym (take-append-drop k ws))
      ∙ weight_append R (bits k g.left) (bits k g.right) (take k ws) (drop k ws) (length_bits k g.left ∙ sym lu) in
      let two : weight_of_bits N (wires k g) ws ≡ weight_of_bits N (take j (wires k g)) xs ⊗ weight_of_bits N (drop j (wires k g)) bs =
      ap (λ (l : List Bool). weight_of_bits N l ws) (sym (take-append-drop j (wires k g)))
      ∙ weight_append R (take j (wires k g)) (drop j (wires k g)) xs bs (length-take-le j (wires k g) (omega (arith, length_wires k g))) in
      ap₂ (λ (m n : ℕ). c ⊗ weight_of_bits N (bits m g.left) (take k ws) ⊗ weight_of_bits N (bits n g.right) (drop k ws) ⊗ o) lu lv
      ∙ ap (λ (w : C). w ⊗ o) (R.mul_assoc c (weight_of_bits N (bits k g.left) (take k ws)) (weight_of_bits N (bits k g.right) (drop k ws)))
      ∙ ap (λ (w : C). c ⊗ w ⊗ o) (sym one ∙ two)
      ∙ shift c (weight_of_bits N (take j (wires k g)) xs) (weight_of_bits N (drop j (wires k g)) bs) o
    where
      shift : (c a b o : C) → c ⊗ (a ⊗ b) ⊗ o ≡ c ⊗ a ⊗ (b ⊗ o)
      shift c a b o = simp ring

  -- THE PARTIAL SUM, gate by gate
  pub partial_gates : (k : ℕ) (gs : List Gate) (point vs xs : List C) → length xs ≤ 2 * k
      → partial_sum N k gs point vs xs
      ≡ sum_from N (λ a g. weight N a point ⊗ weight_of_bits N (take (length xs) (wires k g)) xs ⊗ operate_at N k vs g (reached N k xs g)) 0 gs
  unfolding partial_sum summand operate_at
  partial_gates k gs point vs xs h =
      cube_same N n (λ bs. summand_at N k gs point vs (xs ++ bs)) (λ bs. sum_from N (term bs) 0 gs)
      (λ bs l. combined_gates gs point (take k (xs ++ bs)) (drop k (xs ++ bs)) (extension N vs (take k (xs ++ bs))) (extension N vs (drop k (xs ++ bs))))
      ∙ cube_sum_from R n term 0 gs
      ∙ sum_from_same N (λ a g. cube N n (λ bs. term bs a g)) (λ a g. share a g ⊗ value g (corner N (open_wires g))) each 0 gs
    where
      n : ℕ
      n = 2 * k - length xs

      open_wires : Gate → List Bool
      open_wires g = drop (length xs) (wires k g)

      value : Gate → List C → C
      value g bs = operate N g.kind (extension N vs (take k (xs ++ bs))) (extension N vs (drop k (xs ++ bs)))

      term : List C → ℕ → Gate → C
      term bs a g = weight N a point ⊗ weight N g.left (take k (xs ++ bs)) ⊗ weight N g.right (drop k (xs ++ bs)) ⊗ value g bs

      share : ℕ → Gate → C
      share a g = weight N a point ⊗ weight_of_bits N (take (length xs) (wires k g)) xs

      each : (a : ℕ) (g : Gate) → cube N n (λ bs. term bs a g) ≡ share a g ⊗ value g (corner N (open_wires g))
      each a g =
          cube_same N n (λ bs. term bs a g) (λ bs. share a g ⊗ (weight_of_bits N (open_wires g) bs ⊗ value g bs))
          (λ bs l. split_wires k g xs bs (weight N a point) (value g bs) (omega arith))
          ∙ cube_scale R n (share a g) (λ bs. weight_of_bits N (open_wires g) bs ⊗ value g bs)
          ∙ ap (λ (x : C). share a g ⊗ x)
          (cube_picks R (open_wires g) n (length-drop (length xs) (wires k g) ∙ ap (λ (m : ℕ). m - length xs) (length_wires k g)) (value g))

  -- at the corner of its wires a gate has its value
  at_wires : (k : ℕ) (vs : List C) (g : Gate) → length vs ≡ 2 ^ k → g.left < 2 ^ k → g.right < 2 ^ k
      → operate_at N k vs g (corner N (wires k g)) ≡ gate_value N vs g
  unfolding operate_at gate_value
  at_wires k vs g e l r =
      let left : List C = corner N (bits k g.left) in
      let right : List C = corner N (bits k g.right) in
      let both : corner N (wires k g) ≡ left ++ right = map_append (bit N) (bits k g.left) (bits k g.right) in
      ap₂ (operate N g.kind)
      (ap (extension N vs) (ap (take k) both ∙ take_at left right k (length_corner N k g.left)) ∙ at_corner R vs k g.left e l)
      (ap (extension N vs) (ap (drop k) both ∙ drop_at left right k (length_corner N k g.left)) ∙ at_corner R vs k g.right e r)

  -- THE LAYER IDENTITY
  pub ring_identity : (k : ℕ) (gs : List Gate) (point vs : List C) → length vs ≡ 2 ^ k → All (λ g. (g.left < 2 ^ k) × (g.right < 2 ^ k)) gs
      → partial_sum N k gs point vs [] ≡ extension N (map (gate_value N vs) gs) point
  unfolding extension
  ring_identity k gs point vs e h =
      partial_gates k gs point vs [] zero-le
      ∙ sum_from_same_all N (λ g. (g.left < 2 ^ k) × (g.right < 2 ^ k))
      (λ a g. weight N a point ⊗ weight_of_bits N [] [] ⊗ operate_at N k vs g (corner N (wires k g)))
      (λ a g. gate_value N vs g ⊗ weight N a point)
      (λ a g b. ap₂ (λ (x y : C). weight N a point ⊗ x ⊗ y) (weight_none N []) (at_wires k vs g e b.0 b.1) ∙ turn (weight N a point) (gate_value N vs g))
      0 gs h
      ∙ sym (sum_from_map N (gate_value N vs) (λ b v. v ⊗ weight N b point) 0 gs)
    where
      turn : (w o : C) → w ⊗ 𝟙 ⊗ o ≡ o ⊗ w
      turn w o = simp ring
