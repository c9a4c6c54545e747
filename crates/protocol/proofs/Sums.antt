-- Sums over the rounds of a circuit, layer by layer: the words of all messages, and the losses.
-- Assumes nothing.
use Prim.Native.Nat.{ℕ, zero, suc, ◌+◌, ◌-◌, ◌*◌}
use mathlib.Core.Path.{◌≡◌, refl, sym, ap, ap₂, ◌∙◌, subst}
use mathlib.Core.Bool.{Bool, true, false, cond}
use mathlib.Core.List.{List, [], ◌∷◌, ◌++◌, map, append_assoc}
use native.Mathlib.Nat.{add-zero}
use native.Mathlib.Numerals.{add-one}
use native.Mathlib.Omega.{arith}
use lib.ListN.{length, length-append, length-map, length-replicate, replicate, get_or}
use lib.Seq.{get_or-append_seam}
use borrow.Author.Tests.{eq-eqb, ne_eqb}
use Rattle.lists.specs.Count.{sum}
use Rattle.lists.proofs.Count.{sum_nil, sum_cons, sum_append, sum_scale}
use Rattle.lists.proofs.Map.{map_append, map_same, map_id}
use Rattle.circuit.specs.Circuit.{output_exponent, exponents, exponent_at, coin_count, message_words, exponent_sum}
use Rattle.protocol.specs.Rounds.{Place, place, rounds_of, rounds_from, rounds, is_line}
use Rattle.protocol.specs.Judge.{message_length}
use Rattle.protocol.specs.Shares.{message_losses, coin_losses}
use Rattle.protocol.proofs.Rounds.{as_many}

module _ (c : List ℕ) (a : ℕ) (g : ℕ → ℕ) where
  -- a for a sum round, g of the exponent for a line
  abbrev weight_of : Place → ℕ
  weight_of r = cond (is_line c r) (g (exponent_at c r.layer)) a

  sum_layer : (i j n : ℕ) → j + n ≡ 2 * exponent_at c i → sum (map weight_of (rounds_of i j n)) ≡ n * a + g (exponent_at c i)
  unfolding rounds_of
  sum_layer i j zero e =
      let il : is_line c (place i j) ≡ true = eq-eqb j (2 * exponent_at c i) (sym (add-zero j) ∙ e) in
      rw (il, sum_cons, sum_nil) (omega arith)
  sum_layer i j (suc n) e =
      let ne : ¬ (j ≡ 2 * exponent_at c i) = λ (q : j ≡ 2 * exponent_at c i). omega arith in
      let nl : is_line c (place i j) ≡ false = ne_eqb j (2 * exponent_at c i) ne in
      sum_cons (weight_of (place i j)) (map weight_of (rounds_of i (suc j) n))
      ∙ rw nl (omega (arith, sum_layer i (suc j) n (omega arith)))

  sum_from_lem : (front back : List ℕ) → front ++ back ≡ exponents c
      → sum (map weight_of (rounds_from (suc (length front)) back)) ≡ sum (map (λ k. 2 * k * a + g k) back)
  unfolding rounds_from
  sum_from_lem front [] e = refl
  sum_from_lem front (k ∷ back) e =
      let i : ℕ = suc (length front) in
      let ek : exponent_at c i ≡ k = subst (λ (l : List ℕ). get_or l (length front) 0 ≡ k) e (get_or-append_seam front k back 0) in
      let front' : List ℕ = front ++ (k ∷ []) in
      let en : length front' ≡ suc (length front) = length-append front (k ∷ []) ∙ add-one (length front) in
      let ih : sum (map weight_of (rounds_from (suc i) back)) ≡ sum (map (λ k. 2 * k * a + g k) back) =
      subst (λ (x : ℕ). sum (map weight_of (rounds_from (suc x) back)) ≡ sum (map (λ k. 2 * k * a + g k) back)) en
      (sum_from_lem front' back (append_assoc front (k ∷ []) back ∙ e)) in
      let own : sum (map weight_of (rounds_of i 0 (2 * k))) ≡ 2 * k * a + g k =
      sum_layer i 0 (2 * k) (omega arith) ∙ ap (λ (x : ℕ). 2 * k * a + g x) ek in
      ap sum (map_append weight_of (rounds_of i 0 (2 * k)) (rounds_from (suc i) back))
      ∙ sum_append (map weight_of (rounds_of i 0 (2 * k))) (map weight_of (rounds_from (suc i) back))
      ∙ omega (arith, own, ih, sum_cons (2 * k * a + g k) (map (λ k. 2 * k * a + g k) back))

-- "The messages have 7k_i + 1 words a layer."
pub message_words_lem : (c : List ℕ) → sum (map (message_length c) (rounds c)) ≡ message_words c
unfolding message_length message_words
message_words_lem c =
    sum_from_lem c 3 (λ k. k + 1) [] (exponents c) refl
    ∙ ap sum (map_same (λ k. 2 * k * 3 + (k + 1)) (λ k. 7 * k + 1) (exponents c) (λ k. omega arith))

-- a message of d + 1 words has d lucky coins at most: two for a sum round, k for a line
abbrev pub loss_of : List ℕ → Place → ℕ
loss_of c r = message_length c r - 1

less_one : (b : Bool) (x y : ℕ) → cond {A = ℕ} b (x + 1) (suc y) - 1 ≡ cond b x y
less_one true x y = omega arith
less_one false x y = omega arith

pub loss_more : (c : List ℕ) (r : Place) → message_length c r ≡ loss_of c r + 1
unfolding message_length
loss_more c r = go (is_line c r) (exponent_at c r.layer)
  where
    go : (b : Bool) (k : ℕ) → cond {A = ℕ} b (k + 1) 3 ≡ cond {A = ℕ} b (k + 1) 3 - 1 + 1
    go true k = omega arith
    go false k = omega arith

-- 5 k_i a layer
all_losses : (c : List ℕ) → sum (map (loss_of c) (rounds c)) ≡ 5 * exponent_sum c
unfolding message_length exponent_sum
all_losses c =
    let ks : List ℕ = exponents c in
    ap sum (map_same (loss_of c) (λ r. cond (is_line c r) (exponent_at c r.layer) 2) (rounds c) (λ r. less_one (is_line c r) (exponent_at c r.layer) 2))
    ∙ sum_from_lem c 2 (λ k. k) [] ks refl
    ∙ ap sum (map_same (λ k. 2 * k * 2 + k) (λ k. k * 5) ks (λ k. omega arith))
    ∙ sum_scale 5 (λ k. k) ks ∙ ap (λ (l : List ℕ). sum l * 5) (map_id (λ k. k) ks (λ k. refl)) ∙ omega arith

-- k_0 coins before any message, one each
sum_ones : (k : ℕ) → sum (replicate k 1) ≡ k
sum_ones zero = sum_nil
sum_ones (suc k) = sum_cons 1 (replicate k 1) ∙ omega (arith, sum_ones k)

module _ (c : List ℕ) where
  pub coin_losses_sum : sum (coin_losses c) ≡ output_exponent c + 5 * exponent_sum c
  coin_losses_sum = sum_append (replicate (output_exponent c) 1) (message_losses c) ∙ ap₂ ◌+◌ (sum_ones (output_exponent c)) (all_losses c)

  pub length_losses : length (coin_losses c) ≡ coin_count c
  length_losses =
      length-append (replicate (output_exponent c) 1) (message_losses c)
      ∙ ap₂ ◌+◌ (length-replicate (output_exponent c) 1) (length-map (rounds c) (loss_of c)) ∙ as_many c
