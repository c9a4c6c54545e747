-- What stands at a round: the last coins, as many as the round says, are the layer's own, and those before them give the standing point.
-- Assumes nothing.
use Prim.Native.Nat.{ℕ, zero, suc, ◌-◌, ◌*◌, ◌/◌, ◌^◌, ◌≤◌, min}
use mathlib.Core.Path.{◌≡◌, refl, sym, ap, ◌∙◌}
use mathlib.Core.List.{List, []}
use native.Mathlib.Omega.{arith}
use lib.ListN.{length, length-drop, length-take, take, drop, get_or, take-append-drop}
use lib.Seq.{length-take-le}
use Rattle.extension.specs.Limits.{row_length}
use Rattle.circuit.specs.Limits.{max_exponent}
use Rattle.circuit.specs.Circuit.{depth, exponents, exponent_at, gates_of, gates_at}
use Rattle.circuit.specs.Sized.{LayerOf}
use Rattle.circuit.proofs.Sized.{deep, exponent_small}
use Rattle.layout.specs.Gates.{GatesAbove}
use Rattle.summand.specs.Gates.{gates_in}
use Rattle.protocol.specs.Rounds.{place, layer_start, AtRound}
use Rattle.protocol.specs.Judge.{fixed, point_at, gates_above}
use Rattle.protocol.proofs.Points.{point_more}
use Rattle.standing.specs.Standing.{AtLayer, Row, Stands, PointStands}
use Rattle.standing.specs.declared.Stand.{Stand}
use Rattle.lists.proofs.Parts.{least_front, least_rest}
use Rattle.standing.proofs.Points.{row_whole, point_length}

-- the coins before the layer's own
abbrev pub own_start : ℕ → List ℕ → ℕ
own_start round past = length past - round

-- a stand as the code makes it, its numbers cut to a row's length: of the layer's own coins the first n are u's, the others v's
pub record Cut (c : List ℕ) (layer round : ℕ) (past : List ℕ) (n : ℕ) (s : Stand) : Type 0 where
  pub own : s.own ≡ min (exponent_at c layer) row_length
  pub fewer : n ≡ min round s.own
  pub first : Row (take row_length (take n (drop (own_start round past) past))) (get_or s.points 0 [])
  pub second : Row (take row_length (drop n (drop (own_start round past) past))) (get_or s.points 1 [])
  pub point : PointStands c layer (take (own_start round past) past) s.point

module _ (c : List ℕ) (layer round : ℕ) (past : List ℕ) (h : AtRound c (place layer round) (length past)) where
  pub own_layer : LayerOf c layer
  own_layer = record { headed = h.legal.sized.headed; inside = h.last }

  pub own_small : exponent_at c layer ≤ max_exponent
  own_small = exponent_small c layer own_layer

  -- the layer's own coins
  pub own_coins : length (fixed c layer past) ≡ round
  own_coins = length-drop (layer_start c layer) past ∙ omega (arith, h.counted)

  -- the point from the coins before the layer is the point from all so far
  same_point : point_at c layer (take (layer_start c layer) past) ≡ point_at c layer past
  same_point =
      let s : ℕ = layer_start c layer in
      let inside : layer ≤ length (exponents c) = omega (arith, h.last, deep c h.legal) in
      let size : length (take s past) ≡ s = length-take-le s past (omega (arith, h.counted)) in
      sym (point_more c layer (take s past) (drop s past) inside (omega (arith, size))) ∙ ap (point_at c layer) (take-append-drop s past)

  pub at_layer : (start : ℕ) → start ≡ layer_start c layer → AtLayer c layer (length (take start past))
  at_layer start e =
      let low : layer ≤ depth c = h.last in
      record {
        there = record { legal = h.legal; first = h.first; last = omega arith };
        counted = length-take-le start past (omega (arith, e, h.counted)) ∙ e;
      }

  pub point_size : length (point_at c layer past) ≡ exponent_at c (layer - 1)
  point_size = ap length (sym same_point) ∙ point_length c (take (layer_start c layer) past) layer (at_layer (layer_start c layer) refl)

  -- the gates that the list's readers give for the layer above
  pub gates_above_lem : (ws : List ℕ) → GatesAbove c layer ws → gates_in ws ≡ gates_above c layer
  gates_above_lem ws above =
      let there = above h.legal.sized h.first h.last in
      let third : length ws / 3 ≡ 2 ^ exponent_at c (layer - 1) = let size = there.size in omega arith in
      ap (λ (n : ℕ). gates_of n ws) third ∙ there.gates ∙ go layer h.first
    where
      go : (i : ℕ) → 1 ≤ i → gates_at c (i - 1) ≡ gates_above c i
      go zero low = absurd (omega arith)
      go (suc i) low = let same : suc i - 1 ≡ i = omega arith in ap (gates_at c) same

  module _ (s : Stand) (first : ℕ) (read : Cut c layer round past first s) where
    pub stands : Stands c layer past s
    stands =
        let low : layer ≤ depth c = h.last in
        let some : 1 ≤ layer = h.first in
        let start : ℕ = own_start round past in
        let at : start ≡ layer_start c layer = omega (arith, h.counted) in
        let xs : List ℕ = fixed c layer past in
        let k : ℕ = exponent_at c layer in
        let small : k ≤ row_length = let few = own_small in omega arith in
        let ek : s.own ≡ k = omega (arith, read.own) in
        let reached : round ≤ 2 * k = h.reached in
        let size : length xs ≡ round = own_coins in
        let fewer = read.fewer ∙ ap (λ (n : ℕ). min n s.own) (sym size) in
        let eu : take first (drop start past) ≡ take k xs =
        ap (λ (i : ℕ). take first (drop i past)) at ∙ least_front s.own xs first fewer ∙ ap (λ (n : ℕ). take n xs) ek in
        let ev : drop first (drop start past) ≡ drop k xs =
        ap (λ (i : ℕ). drop first (drop i past)) at ∙ least_rest s.own xs first fewer ∙ ap (λ (n : ℕ). drop n xs) ek in
        record {
          own = ek;
          point = read.point (at_layer start at) ∙ ap (λ (i : ℕ). point_at c layer (take i past)) at ∙ same_point;
          first = row_whole eu (omega (arith, length-take k xs)) read.first;
          second = row_whole ev (omega (arith, length-drop k xs)) read.second;
        }
