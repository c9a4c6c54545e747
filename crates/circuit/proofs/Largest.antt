-- The sizes of a legal circuit are within the limits, and those of the largest are the limits: they follow from depth and exponents alone.
-- Assumes nothing.
use Prim.Native.Nat.{ℕ, ◌+◌, ◌*◌, ◌^◌, ◌≤◌, ◌<◌}
use mathlib.Core.Path.{◌≡◌, subst, ap, ap₂}
use mathlib.Core.List.{List, ◌∷◌, map}
use native.Mathlib.Nat.{mul-le-mul_left, mul-le-mul_right, le_trans}
use native.Mathlib.Omega.{arith}
use lib.ListN.{length, get_or}
use Rattle.lists.specs.Count.{sum}
use Rattle.lists.proofs.Count.{sum_le, sum_const}
use Rattle.circuit.specs.Limits.{max_depth, max_exponent, max_width, max_gates}
use Rattle.circuit.specs.Circuit.{
  exponents,
  output_exponent,
  gate_count,
  word_count,
  value_count,
  coin_count,
  message_words,
  input_exponent,
  input_count,
}
use Rattle.circuit.specs.Sized.{LegalCircuit}
use Rattle.circuit.specs.Theorems.{InLimits, LegalSizes, LargestSizes}
use Rattle.circuit.proofs.Sized.{width_le, outputs_few, count_few, deep, last_small}
use Rattle.circuit.proofs.Loading.{legal_circuit}
use Rattle.circuit.proofs.Layers.{all_below_lem}

module _ (c : List ℕ) (h : LegalCircuit c) where
  -- a sum over the exponents
  sum_few : (a : ℕ) → sum (map (λ k. a * k + 1) (exponents c)) ≤ max_depth * (a * max_exponent + 1)
  sum_few a =
      let most : sum (map (λ k. a * k + 1) (exponents c)) ≤ length (exponents c) * (a * max_exponent + 1) =
      subst (λ (n : ℕ). sum (map (λ k. a * k + 1) (exponents c)) ≤ n) (sum_const (a * max_exponent + 1) (exponents c))
      (sum_le (λ k. k < max_exponent + 1) (λ k. a * k + 1) (λ k. a * max_exponent + 1)
      (λ k below. let times : a * k ≤ a * max_exponent = mul-le-mul_left a (omega arith) in omega arith)
      (exponents c) (all_below_lem (max_exponent + 1) (exponents c) h.sized.headed.small)) in
      let few : length (exponents c) ≤ max_depth = let flat = h.sized.headed.shallow in omega (arith, deep c h) in
      le_trans most (mul-le-mul_right (a * max_exponent + 1) few)

  pub in_limits : InLimits c
  unfolding word_count value_count coin_count message_words
  in_limits =
      let flat = h.sized.headed.shallow in
      let few = count_few c h.sized.headed in
      record {
        outputs = outputs_few (output_exponent c) h.sized.headed.few;
        words = omega arith;
        values = let wide = width_le (input_exponent c) (last_small c h) in omega arith;
        coins = let outs = h.sized.headed.few in omega (arith, sum_few 2);
        messages = sum_few 7;
      }

pub legal_sizes : LegalSizes
legal_sizes c e = in_limits c (legal_circuit c e)

pub largest_sizes : LargestSizes
unfolding gate_count word_count value_count input_exponent coin_count message_words sum
largest_sizes c d o e =
    let gates : gate_count (output_exponent c) (exponents c) ≡ max_gates = ap₂ gate_count o e in
    let inputs : input_count c ≡ max_width = ap₂ (λ (k : ℕ) (ks : List ℕ). 2 ^ get_or (k ∷ ks) (length ks) 0) o e in
    record {
      most_outputs = ap (λ (k : ℕ). 2 ^ k) o;
      most_words = omega (arith, d, gates);
      most_values = omega (arith, gates, inputs);
      most_coins = ap₂ (λ (k : ℕ) (ks : List ℕ). k + sum (map (λ k. 2 * k + 1) ks)) o e;
      most_messages = ap (λ (ks : List ℕ). sum (map (λ k. 7 * k + 1) ks)) e;
    }
