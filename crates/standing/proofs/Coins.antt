-- Sums over the layers before one.
-- Assumes nothing.
use Prim.Native.Nat.{ℕ, zero, suc, ◌+◌, ◌-◌, ◌*◌, ◌^◌, ◌≤◌, ◌<◌}
use mathlib.Core.Path.{◌≡◌, sym, ap, ◌∙◌}
use mathlib.Core.List.{List, [], ◌∷◌, map}
use native.Mathlib.Nat.{zero-add, mul-le-mul_right}
use native.Mathlib.Omega.{arith}
use lib.ListN.{length, take, get_or}
use lib.Seq.{take_all}
use Rattle.std.specs.Prelude.{fold, sum_by}
use Rattle.lists.specs.Count.{sum}
use Rattle.lists.proofs.Count.{sum_nil, sum_cons}
use Rattle.circuit.specs.Circuit.{depth, output_exponent, exponents, coin_count, message_words}
use Rattle.circuit.specs.Sized.{LegalCircuit}
use Rattle.circuit.proofs.Sized.{deep}
use Rattle.protocol.specs.Rounds.{layer_start}
use Rattle.standing.specs.Standing.{LayerSoFar, layer_sum}

-- the sum as an iterator makes it
summed_on : (f : ℕ → ℕ) (n : ℕ) (ks : List ℕ) → fold (λ a k. a + f k) n ks ≡ n + sum (map f ks)
summed_on f n [] = omega (arith, sum_nil)
summed_on f n (k ∷ ks) = summed_on f (n + f k) ks ∙ omega (arith, sum_cons (f k) (map f ks))

pub layer_sum_by : (a : ℕ) (ks : List ℕ) → sum_by (λ k. a * k + 1) ks ≡ layer_sum a ks
layer_sum_by a ks = summed_on (λ k. a * k + 1) 0 ks ∙ zero-add (layer_sum a ks)

-- a few terms, of a word each
pub layer_sum_few : (a n : ℕ) (ks : List ℕ) → a ≤ 7 → length ks ≤ n → ((i : ℕ) → get_or ks i 0 < 2 ^ 32) → layer_sum a ks ≤ n * (7 * 2 ^ 32)
layer_sum_few a n [] low few words = omega (arith, sum_nil)
layer_sum_few a zero (k ∷ ks) low few words = absurd (omega arith)
layer_sum_few a (suc n) (k ∷ ks) low few words =
    let own : k < 2 ^ 32 = words 0 in
    let times : a * k ≤ 7 * k = mul-le-mul_right k low in
    let rest = layer_sum_few a n ks low (omega arith) (λ i. words (suc i)) in
    omega (arith, sum_cons (a * k + 1) (map (λ k. a * k + 1) ks), rest)

module _ (c : List ℕ) where
  -- the layers before the one behind the last are all
  module _ (legal : LegalCircuit c) where
    pub so_far : LayerSoFar c (depth c + 1)
    so_far = record { legal = legal; first = omega arith; last = omega arith }

    pub all_before : take (depth c + 1 - 1) (exponents c) ≡ exponents c
    all_before = take_all (depth c + 1 - 1) (exponents c) (omega (arith, deep c legal))

  pub sum_start : (layer : ℕ) → LayerSoFar c layer → output_exponent c + layer_sum 2 (take (layer - 1) (exponents c)) ≡ layer_start c layer
  sum_start zero h = absurd (let low : 1 ≤ 0 = h.first in omega arith)
  sum_start (suc l) h = let e : suc l - 1 ≡ l = omega arith in ap (λ (m : ℕ). output_exponent c + layer_sum 2 (take m (exponents c))) e

  pub all_coins : LegalCircuit c → layer_start c (depth c + 1) ≡ coin_count c
  unfolding coin_count
  all_coins legal =
      sym (sum_start (depth c + 1) (so_far legal)) ∙ ap (λ (ks : List ℕ). output_exponent c + layer_sum 2 ks) (all_before legal)

  pub all_words : LegalCircuit c → layer_sum 7 (take (depth c + 1 - 1) (exponents c)) ≡ message_words c
  unfolding message_words
  all_words legal = ap (layer_sum 7) (all_before legal)
