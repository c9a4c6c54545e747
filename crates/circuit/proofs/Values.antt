-- Where a layer's values stand among those of all layers.
-- Assumes nothing.
use Prim.Native.Nat.{ℕ, zero, suc, ◌+◌, ◌^◌, ◌≤◌, ◌<◌, zero-le}
use mathlib.Core.Path.{◌≡◌, sym, ap, ap₂, ◌∙◌}
use mathlib.Core.List.{List, [], map, flatten}
use native.Mathlib.Omega.{arith}
use lib.Pow.{pow_pos}
use lib.ListN.{length, length-take, length-drop, take, drop}
use lib.Seq.{take_all}
use Rattle.lists.specs.Count.{sum}
use Rattle.lists.proofs.Count.{sum_nil, sum_take}
use Rattle.lists.proofs.Parts.{flatten_part, length_flatten}
use Rattle.circuit.specs.Circuit.{depth, output_exponent, exponent_at, gates_before, value_count}
use Rattle.circuit.specs.Legal.{lists_cause}
use Rattle.circuit.specs.Sized.{LegalCircuit}
use Rattle.circuit.specs.Values.{layers, values_at, outputs}
use Rattle.circuit.proofs.Sized.{last_exponent}
use Rattle.circuit.proofs.Gates.{count_none, count_all, before_next}
use Rattle.circuit.proofs.Loading.{legal_lists}
use Rattle.circuit.proofs.Layers.{layer_sizes, length_all_layers}

-- the input's values are the last
pub values_split : (c : List ℕ) → LegalCircuit c → value_count c ≡ gates_before c (depth c) + 2 ^ exponent_at c (depth c)
unfolding value_count
values_split c h = ap₂ (λ (a k : ℕ). a + 2 ^ k) (sym (count_all c h.sized.headed)) (sym (last_exponent c h))

module _ (c input : List ℕ) (e : lists_cause c input ≡ 0) where
  legal : LegalCircuit c
  legal = (legal_lists c input e).circuit

  -- the words before a layer
  before_layer : (l : ℕ) → l ≤ depth c → sum (map length (take l (layers c input))) ≡ gates_before c l
  unfolding values_at
  before_layer zero h = sum_nil ∙ count_none c
  before_layer (suc l) h =
      sum_take length (layers c input) [] l (omega (arith, length_all_layers c input legal))
      ∙ ap₂ (λ (a b : ℕ). a + b) (before_layer l (omega arith)) (layer_sizes c input e l (omega arith))
      ∙ sym (before_next c legal.sized.headed l h)

  pub layer_part : (l : ℕ) → l ≤ depth c → take (2 ^ exponent_at c l) (drop (gates_before c l) (flatten (layers c input))) ≡ values_at c input l
  unfolding values_at
  layer_part l h =
      ap₂ (λ (n m : ℕ). take n (drop m (flatten (layers c input)))) (sym (layer_sizes c input e l h)) (sym (before_layer l h))
      ∙ flatten_part (layers c input) l (omega (arith, length_all_layers c input legal))

  -- the outputs are the first of all values
  pub output_part : take (2 ^ output_exponent c) (flatten (layers c input)) ≡ outputs c input
  output_part = ap (λ (m : ℕ). take (2 ^ output_exponent c) (drop m (flatten (layers c input)))) (count_none c) ∙ layer_part 0 zero-le

  pub layer_room : (l : ℕ) → l ≤ depth c → gates_before c l + 2 ^ exponent_at c l ≤ length (flatten (layers c input))
  layer_room l h =
      let n : ℕ = 2 ^ exponent_at c l in
      let m : ℕ = gates_before c l in
      let some : 0 < n = pow_pos (exponent_at c l) in
      let size : length (take n (drop m (flatten (layers c input)))) ≡ n = ap length (layer_part l h) ∙ layer_sizes c input e l h in
      omega (arith, size, some, length-take n (drop m (flatten (layers c input))), length-drop m (flatten (layers c input)))

  pub all_size : length (flatten (layers c input)) ≡ value_count c
  unfolding values_at
  all_size =
      let d : ℕ = depth c in
      let n = length_all_layers c input legal in
      length_flatten (layers c input)
      ∙ ap (λ (ls : List (List ℕ)). sum (map length ls)) (sym (take_all (suc d) (layers c input) (omega (arith, n))))
      ∙ sum_take length (layers c input) [] d (omega (arith, n))
      ∙ ap₂ (λ (a b : ℕ). a + b) (before_layer d (omega arith)) (layer_sizes c input e d (omega arith)) ∙ sym (values_split c legal)
