-- The points and the coordinates as the coins come in: a coin of a layer adds a coordinate and leaves the layer's point, the line's coin gives
-- the point of the next layer.
-- Assumes nothing.
use Prim.Native.Nat.{ℕ, zero, suc, ◌+◌, ◌*◌, ◌≤◌, ◌<◌}
use mathlib.Core.Path.{◌≡◌, refl, ap, ◌∙◌}
use mathlib.Core.List.{List, [], ◌∷◌, ◌++◌}
use native.Mathlib.Omega.{arith}
use lib.ListN.{length, length-append, length-drop, take, drop, get_or, drop_of_length-le}
use lib.Seq.{take_all, take-append-le, drop-append-le, take_at, get_or_at}
use Rattle.lists.proofs.Count.{sum_take}
use Rattle.algebra.specs.Numbers.{words}
use Rattle.circuit.specs.Circuit.{prime_of, output_exponent, exponents, exponent_at}
use Rattle.sumcheck.specs.Summand.{line_point}
use Rattle.protocol.specs.Rounds.{layer_start}
use Rattle.protocol.specs.Judge.{fixed, line_end, point_at}

module _ (c : List ℕ) where
  pub start_next : (l : ℕ) → l < length (exponents c) → layer_start c (suc (suc l)) ≡ layer_start c (suc l) + 2 * exponent_at c (suc l) + 1
  start_next l h =
      let next = sum_take (λ k. 2 * k + 1) (exponents c) 0 l h in
      omega arith

  pub fixed_more : (i : ℕ) (past : List ℕ) (t : ℕ) → layer_start c i ≤ length past → fixed c i (past ++ (t ∷ [])) ≡ fixed c i past ++ (t ∷ [])
  fixed_more i past t h = drop-append-le (layer_start c i) past (t ∷ []) h

  pub fixed_none : (l : ℕ) (past : List ℕ) (t : ℕ) → l < length (exponents c) → layer_start c (suc l) + 2 * exponent_at c (suc l) ≡ length past
      → fixed c (suc (suc l)) (past ++ (t ∷ [])) ≡ []
  fixed_none l past t n h =
      let sn : layer_start c (suc (suc l)) ≡ layer_start c (suc l) + 2 * exponent_at c (suc l) + 1 = start_next l n in
      drop_of_length-le (past ++ (t ∷ [])) {i = layer_start c (suc (suc l))} (rw length-append (omega arith))

  pub point_more : (i : ℕ) (past more : List ℕ) → i ≤ length (exponents c) → layer_start c i ≤ length past
      → point_at c i (past ++ more) ≡ point_at c i past
  point_more zero past more n h = refl
  point_more (suc zero) past more n h = take-append-le (output_exponent c) past more (omega arith)
  point_more (suc (suc l)) past more n h =
      let k : ℕ = exponent_at c (suc l) in
      let s : ℕ = layer_start c (suc l) in
      let sn : layer_start c (suc (suc l)) ≡ s + 2 * k + 1 = start_next l (omega arith) in
      let b : s ≤ length past = omega arith in
      let e : take (2 * k + 1) (drop s (past ++ more)) ≡ take (2 * k + 1) (drop s past) =
      ap (take (2 * k + 1)) (drop-append-le s past more b)
      ∙ take-append-le (2 * k + 1) (drop s past) more (rw length-drop (omega arith)) in
      ap (line_end c k) e

  -- the coin of the line ends the layer
  pub point_line : (l : ℕ) (past : List ℕ) (t : ℕ) → layer_start c (suc l) + 2 * exponent_at c (suc l) ≡ length past
      → point_at c (suc (suc l)) (past ++ (t ∷ []))
      ≡ line_point (words (prime_of c)) (take (exponent_at c (suc l)) (fixed c (suc l) past)) (drop (exponent_at c (suc l)) (fixed c (suc l) past)) t
  point_line l past t h =
      let k : ℕ = exponent_at c (suc l) in
      let s : ℕ = layer_start c (suc l) in
      let xs : List ℕ = drop s past in
      let lx : length xs ≡ 2 * k = rw length-drop (omega arith) in
      let e : take (2 * k + 1) (drop s (past ++ (t ∷ []))) ≡ xs ++ (t ∷ []) =
      ap (take (2 * k + 1)) (drop-append-le s past (t ∷ []) (omega arith))
      ∙ take_all (2 * k + 1) (xs ++ (t ∷ [])) (rw length-append (omega arith)) in
      let eu : take k (xs ++ (t ∷ [])) ≡ take k xs = take-append-le k xs (t ∷ []) (omega arith) in
      let ev : take k (drop k (xs ++ (t ∷ []))) ≡ drop k xs =
      ap (take k) (drop-append-le k xs (t ∷ []) (omega arith)) ∙ take_at (drop k xs) (t ∷ []) k (rw length-drop (omega arith)) in
      let et : get_or (xs ++ (t ∷ [])) (2 * k) 0 ≡ t = get_or_at xs t [] 0 (2 * k) lx in
      rw (e, eu, ev, et)
