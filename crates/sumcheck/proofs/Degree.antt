-- How many coefficients the messages have before `fit`. The variable is one coordinate of the point: it stands once in each weight and once
-- in V(u) or V(v), so the summand has degree two in it; along a line each coordinate has degree one, and each weight has each once.
-- Assumes nothing.
use mathlib.Core.Path.{◌≡◌, refl, ap}
use mathlib.Core.Bool.{Bool, true, false, cond}
use mathlib.Core.List.{List, [], ◌∷◌, ◌++◌, map}
use Prim.Native.Nat.{ℕ, zero, suc, ◌+◌, ◌-◌, ◌*◌, ◌≤◌, zero-le}
use native.Mathlib.Nat.{le_refl, le_trans}
use native.Mathlib.Omega.{arith}
use lib.Dec.{eqb}
use lib.ListN.{length, take, drop}
use Rattle.lists.specs.Each.{All}
use Rattle.algebra.specs.Numbers.{Numbers}
use Rattle.algebra.specs.Polynomial.{plus, minus, times, constant, X, polynomials}
use Rattle.algebra.proofs.Polynomial.{length_plus, length_minus, length_times}
use Rattle.multilinear.specs.Extension.{extension}
use Rattle.multilinear.specs.Theorems.{degrees}
use Rattle.multilinear.proofs.Degree.{degrees_append, degrees_halves, degrees_none, constants_short, length_sum_from, length_weight, degree_bound}
use Rattle.circuit.specs.Gate.{Gate, kinds}
use Rattle.circuit.proofs.Operate.{length_operate}
use Rattle.sumcheck.specs.Summand.{wiring, combined, summand, summand_at, cube, partial_sum, line_point}
use Rattle.sumcheck.specs.Message.{fit}

module _ {C : Type 0} (N : Numbers C) where
  abbrev P : Numbers (List C)
  P = polynomials N

  length_cond : (m : ℕ) (b : Bool) (f : List C) → length f ≤ m → length (cond b f []) ≤ m
  length_cond m true f h = h
  length_cond m false f h = zero-le

  length_wiring : (kind : ℕ) (gs : List Gate) (point u v : List (List C))
      → length (wiring P kind gs point u v) ≤ suc (degrees point + degrees u + degrees v)
  unfolding wiring
  length_wiring kind gs point u v =
      let d : ℕ = degrees point + degrees u + degrees v in
      length_sum_from N (suc d) _ 0 gs (λ a g. length_cond (suc d) (eqb g.kind kind) _
      (length_times N (degrees point + degrees u) (degrees v) _ _
      (length_times N (degrees point) (degrees u) _ _ (length_weight N _ point) (length_weight N _ u)) (length_weight N _ v)))

  length_combined : (gs : List Gate) (point u v : List (List C)) (d e : ℕ) (x y : List C) → length x ≤ suc d → length y ≤ suc e
      → length (combined P gs point u v x y) ≤ suc (degrees point + degrees u + degrees v + (d + e))
  unfolding combined
  length_combined gs point u v d e x y hx hy =
      let w : ℕ = degrees point + degrees u + degrees v in
      length_sum_from N (suc (w + (d + e))) _ 0 kinds (λ i kind.
      length_times N w (d + e) _ _ (length_wiring kind gs point u v) (length_operate N kind d e x y hx hy))

  pub length_summand : (k : ℕ) (gs : List Gate) (point : List (List C)) (vs : List C) (ws : List (List C))
      → length (summand_at P k gs point (map (constant N) vs) ws) ≤ suc (degrees point + (degrees ws + degrees ws))
  unfolding summand
  length_summand k gs point vs ws =
      let h = degrees_halves k ws in
      let u : List (List C) = take k ws in
      let v : List (List C) = drop k ws in
      le_trans
      (length_combined gs point u v (degrees u) (degrees v) (extension P (map (constant N) vs) u) (extension P (map (constant N) vs) v)
      (degree_bound N vs u) (degree_bound N vs v)) (omega arith)

  pub length_cube : (m n : ℕ) (f : List (List C) → List C) → ((bs : List (List C)) → All (λ b. length b ≤ 1) bs → length (f bs) ≤ m)
      → length (cube P n f) ≤ m
  unfolding cube
  length_cube m zero f h = h [] tt
  length_cube m (suc n) f h =
      length_plus N m (cube P n (λ bs. f ([] ∷ bs))) (cube P n (λ bs. f (constant N N.𝟙 ∷ bs)))
      (length_cube m n (λ bs. f ([] ∷ bs)) (λ bs c. h ([] ∷ bs) (zero-le, c)))
      (length_cube m n (λ bs. f (constant N N.𝟙 ∷ bs)) (λ bs c. h (constant N N.𝟙 ∷ bs) (le_refl 1, c)))

  -- a sum round's polynomial
  pub three_coefficients : (k : ℕ) (gs : List Gate) (point vs xs : List C)
      → length (partial_sum P k gs (map (constant N) point) (map (constant N) vs) (map (constant N) xs ++ (X N ∷ []))) ≤ 3
  unfolding partial_sum
  three_coefficients k gs point vs xs =
      let fixed : List (List C) = map (constant N) xs ++ (X N ∷ []) in
      length_cube 3 (2 * k - length fixed) (λ bs. summand_at P k gs (map (constant N) point) (map (constant N) vs) (fixed ++ bs)) (λ bs c.
      let all = degrees_append fixed bs in
      let front = degrees_append (map (constant N) xs) (X N ∷ []) in
      let dx = degrees_none (map (constant N) xs) (constants_short N xs) in
      let db = degrees_none bs c in
      let dz = degrees_none (map (constant N) point) (constants_short N point) in
      le_trans (length_summand k gs (map (constant N) point) vs (fixed ++ bs)) (omega arith))

  length_step : (a b c : C) → length (plus N (constant N a) (times N (X N) (minus N (constant N b) (constant N c)))) ≤ 2
  length_step a b c =
      let d : List C = minus N (constant N b) (constant N c) in
      let s : length d ≤ 1 = length_minus N 1 (constant N b) (constant N c) (le_refl 1) (le_refl 1) in
      let m : length (times N (X N) d) ≤ suc (1 + 0) = length_times N 1 0 (X N) d (le_refl 2) s in
      length_plus N 2 (constant N a) (times N (X N) d) (omega arith) (omega arith)

  line_steps : (u v : List C) → All (λ f. length f ≤ 2) (line_point P (map (constant N) u) (map (constant N) v) (X N))
  unfolding line_point
  line_steps [] v = tt
  line_steps (x ∷ u) [] = tt
  line_steps (x ∷ u) (y ∷ v) = (length_step _ _ _, line_steps u v)

  line_length : (u v : List C) → length (line_point P (map (constant N) u) (map (constant N) v) (X N)) ≤ length u
  unfolding line_point
  line_length [] v = zero-le
  line_length (x ∷ u) [] = zero-le
  line_length (x ∷ u) (y ∷ v) = let ih = line_length u v in omega arith

  degrees_steps : (l : List (List C)) → All (λ f. length f ≤ 2) l → degrees l ≤ length l
  degrees_steps [] h = zero-le
  degrees_steps (f ∷ l) h = let ih = degrees_steps l h.1 in let one = h.0 in omega arith

  -- the line's polynomial
  pub line_coefficients : (vs u v : List C)
      → length (extension P (map (constant N) vs) (line_point P (map (constant N) u) (map (constant N) v) (X N))) ≤ suc (length u)
  line_coefficients vs u v =
      let line : List (List C) = line_point P (map (constant N) u) (map (constant N) v) (X N) in
      let d = degrees_steps line (line_steps u v) in
      le_trans (degree_bound N vs line) (omega (arith, line_length u v))

  pub length_fit : (n : ℕ) (f : List C) → length (fit N n f) ≡ n
  unfolding fit
  length_fit zero f = refl
  length_fit (suc n) [] = ap suc (length_fit n [])
  length_fit (suc n) (c ∷ f) = ap suc (length_fit n f)
