-- Loops over the layers and their rounds: what holds of the rounds left and the coins before them, carried from layer to round and on to the
-- next layer.
-- Assumes nothing.
use Prim.Native.Nat.{ℕ, zero, suc, ◌+◌, ◌*◌, ◌≤◌, ◌<◌}
use mathlib.Core.Path.{◌≡◌, sym, ap, ◌∙◌, subst}
use mathlib.Core.List.{List, [], ◌∷◌}
use native.Mathlib.Nat.{add-zero}
use native.Mathlib.Omega.{arith}
use lib.ListN.{length, take}
use lib.Seq.{length-take-le}
use Rattle.lists.proofs.Count.{sum_nil}
use Rattle.circuit.specs.Circuit.{depth, output_exponent, exponent_at}
use Rattle.circuit.specs.Sized.{LegalCircuit}
use Rattle.circuit.proofs.Sized.{deep}
use Rattle.protocol.specs.Rounds.{Place, place, rounds, layer_start, AtRound}
use Rattle.standing.specs.Standing.{LayerSoFar}
use Rattle.protocol.proofs.Points.{start_next}
use Rattle.protocol.proofs.Places.{before_layer, before_round, layer_opens, round_opens, layer_closes, none_left}

module _ (c : List ℕ) where
  -- before a layer, or behind the last, with n coins before it: P holds of the rounds left
  pub record BeforeLayer (P : List Place → ℕ → Type 0) (layer n : ℕ) : Type 0 where
    pub first : 1 ≤ layer
    pub last : layer ≤ 1 + depth c
    pub counted : n ≡ layer_start c layer
    pub left : P (before_layer c layer) n

  -- before a round of a layer, or behind its line
  pub record BeforeRound (P : List Place → ℕ → Type 0) (layer round n : ℕ) : Type 0 where
    pub first : 1 ≤ layer
    pub last : layer ≤ depth c
    pub reached : round ≤ 2 * exponent_at c layer + 1
    pub counted : n ≡ layer_start c layer + round
    pub left : P (before_round c layer round) n

  -- the layer that a walk starts at
  pub first_layer : LegalCircuit c → LayerSoFar c 1
  first_layer legal = record { legal = legal; first = omega arith; last = omega arith }

  module _ (legal : LegalCircuit c) {P : List Place → ℕ → Type 0} where
    pub loops_start : (n : ℕ) → n ≡ layer_start c 1 → P (rounds c) (output_exponent c) → BeforeLayer P 1 n
    loops_start n e p = record {
      first = omega arith;
      last = omega arith;
      counted = e;
      left = subst (P (rounds c)) (omega (arith, e, sum_nil)) p;
    }

    pub loops_end : {layer n : ℕ} → BeforeLayer P layer n → depth c < layer → P [] n
    loops_end {layer = zero} b out = absurd (omega arith)
    loops_end {layer = suc l} {n} b out =
        let low = b.last in
        subst (λ (ps : List Place). P ps n) (none_left c l (omega (arith, deep c legal))) b.left

    pub layer_starts : {layer n : ℕ} → BeforeLayer P layer n → layer ≤ depth c → BeforeRound P layer 0 n
    layer_starts {layer = zero} b inside = absurd (let low : 1 ≤ 0 = b.first in omega arith)
    layer_starts {layer = suc l} {n} b inside = record {
      first = b.first;
      last = inside;
      reached = omega arith;
      counted = b.counted ∙ sym (add-zero (layer_start c (suc l)));
      left = subst (λ (ps : List Place). P ps n) (layer_opens c l (omega (arith, deep c legal))) b.left;
    }

    pub layer_ends : {layer round n : ℕ} → BeforeRound P layer round n → 2 * exponent_at c layer + 1 ≤ round → BeforeLayer P (layer + 1) n
    layer_ends {layer = zero} b done = absurd (let low : 1 ≤ 0 = b.first in omega arith)
    layer_ends {layer = suc l} {round} {n} b done =
        let reached = b.reached in
        let inside = b.last in
        let all : 2 * exponent_at c (suc l) + 1 ≡ round = omega arith in
        let up : suc (suc l) ≡ suc l + 1 = omega arith in
        let next : layer_start c (suc (suc l)) ≡ layer_start c (suc l) + 2 * exponent_at c (suc l) + 1 = start_next c l (omega (arith, deep c legal)) in
        let counted : n ≡ layer_start c (suc (suc l)) = omega (arith, b.counted, next, all) in
        record {
          first = omega arith;
          last = omega arith;
          counted = counted ∙ ap (layer_start c) up;
          left = subst (λ (i : ℕ). P (before_layer c i) n) up (subst (λ (ps : List Place). P ps n) (layer_closes c (suc l) round all) b.left);
        }

    module _ {layer round n : ℕ} (b : BeforeRound P layer round n) (more : round < 2 * exponent_at c layer + 1) where
      pub round_opened : P (place layer round ∷ before_round c layer (round + 1)) n
      round_opened = subst (λ (ps : List Place). P ps n) (round_opens c layer round more) b.left

      pub round_next : {Q : List Place → ℕ → Type 0} → Q (before_round c layer (round + 1)) (n + 1) → BeforeRound Q layer (round + 1) (n + 1)
      round_next q = record { first = b.first; last = b.last; reached = omega arith; counted = omega (arith, b.counted); left = q }

      pub round_place : (cs : List ℕ) → n ≤ length cs → AtRound c (place layer round) (length (take n cs))
      round_place cs there = record {
        legal = legal;
        first = b.first;
        last = b.last;
        reached = omega arith;
        counted = length-take-le n cs there ∙ b.counted;
      }
