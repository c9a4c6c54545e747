-- A line's coefficients over a row, from those of the halves and from the parts of slices that the code lends on.
-- Assumes nothing.
use mathlib.Core.Path.{◌≡◌, refl, sym, ap, ap₂, ◌∙◌}
use mathlib.Core.List.{List, [], ◌∷◌}
use Prim.Native.Nat.{ℕ, suc, ◌-◌, ◌/◌, ◌<◌}
use native.Mathlib.Omega.{arith}
use lib.ListN.{length, take, drop, get_or, set, length-drop}
use Rattle.lists.specs.Buffer.{over}
use Rattle.lists.proofs.Buffer.{take_over, over_set, over_over, rest_lent}
use Rattle.algebra.specs.Numbers.{Numbers}
use Rattle.sumcheck.specs.Line.{along, line_halving}
use Rattle.sumcheck.proofs.Line.{line_none, line_step, length_line_halving}

-- as many words of a row as stand over it
pub take_front : {A : Type 0} (f l row : List A) (n : ℕ) → row ≡ over f l → length f ≡ n → take n row ≡ f
take_front f l row n e size = ap₂ take (sym size) e ∙ take_over f l

module _ {C : Type 0} (N : Numbers C) (vs u v : List C) where
  -- with no coordinate one word is written
  pub from_first : (row : List C) → 0 < length row → length u ≡ 0 → set row 0 (get_or vs 0 N.𝟘) ≡ over (line_halving N vs u v) row
  from_first row h e = over_set [] row 0 (get_or vs 0 N.𝟘) refl h ∙ ap (λ (f : List C). over f row) (sym (line_none N vs u v e))

-- with the rest of the points as they are lent
module _ {C : Type 0} (N : Numbers C) (vs u v : List C) (same : length u ≡ length v) (some : 0 < length u) where
  abbrev half : ℕ
  half = length vs / 2

  abbrev line : List C → List C
  line ws = line_halving N ws (take (length u - 1) (drop 1 u)) (take (length v - 1) (drop 1 v))

  abbrev joined : List C → List C → List C
  joined low high = along N (get_or u 0 N.𝟘) (N.sub (get_or v 0 N.𝟘) (get_or u 0 N.𝟘)) N.𝟘 low high

  pub length_half : (ws : List C) → length (line ws) ≡ length u
  length_half ws =
      let rest-u = rest_lent u 1 (length u) refl in
      let rest-v = rest_lent v 1 (length v) refl in
      let sizes : length (drop 1 u) ≡ length (drop 1 v) = simp length-drop (omega arith) in
      rw (rest-u, rest-v) (length_line_halving N ws (drop 1 u) (drop 1 v) sizes ∙ simp length-drop (omega arith))

  pub from_halves : (row low high : List C) → low ≡ over (line (take half vs)) row → high ≡ line (drop half vs)
      → over (joined (take (length high) low) high) low ≡ over (line_halving N vs u v) row
  from_halves row low high l h =
      let rest-u = rest_lent u 1 (length u) refl in
      let rest-v = rest_lent v 1 (length v) refl in
      let front : take (length high) low ≡ line (take half vs) =
      take_front (line (take half vs)) row low (length high) l (length_half (take half vs) ∙ sym (ap length h ∙ length_half (drop half vs))) in
      let whole : joined (line (take half vs)) (line (drop half vs)) ≡ line_halving N vs u v =
      rw (rest-u, rest-v) (sym (line_step N vs u v N.𝟘 some (omega arith))) in
      let size : length (line (take half vs)) ≡ length u = length_half (take half vs) in
      let long : length (line_halving N vs u v) ≡ suc (length u) = length_line_halving N vs u v same in
      ap₂ (λ (f g : List C). over (joined f g) low) front h ∙ ap₂ over whole l
      ∙ over_over (line (take half vs)) (line_halving N vs u v) row (omega arith)

  -- with one coordinate the halves' lines are single values
  pub from_values : length u ≡ 1 → (row high : List C) → 0 < length row → high ≡ get_or (drop half vs) 0 N.𝟘 ∷ []
      → over (joined (take (length high) (set row 0 (get_or (take half vs) 0 N.𝟘))) high) (set row 0 (get_or (take half vs) 0 N.𝟘))
      ≡ over (line_halving N vs u v) row
  from_values one row high more h =
      from_halves row (set row 0 (get_or (take half vs) 0 N.𝟘)) high
      (from_first N (take half vs) (take (length u - 1) (drop 1 u)) (take (length v - 1) (drop 1 v)) row more none)
      (h ∙ sym (line_none N (drop half vs) (take (length u - 1) (drop 1 u)) (take (length v - 1) (drop 1 v)) none))
    where
      none : length (take (length u - 1) (drop 1 u)) ≡ 0
      none = let rest-u = rest_lent u 1 (length u) refl in rw rest-u (simp length-drop (omega arith))
