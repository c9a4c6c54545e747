-- A map that keeps the operations keeps gates' values, the summand, its sums over {0, 1} and the points of a line.
-- Assumes nothing.
use mathlib.Core.Path.{◌≡◌, refl, sym, ap, ap₂, ◌∙◌}
use mathlib.Core.Bool.{Bool, true, false, cond}
use mathlib.Core.List.{List, [], ◌∷◌, ◌++◌, map}
use Prim.Native.Nat.{ℕ, zero, suc, ◌-◌, ◌*◌}
use lib.Dec.{eqb}
use lib.ListN.{length, take, drop, get_or, length-map}
use Rattle.lists.proofs.Map.{map_append, map_take, map_drop, map_map, map_same}
use Rattle.algebra.specs.Numbers.{Numbers}
use Rattle.algebra.specs.Hom.{Hom}
use Rattle.algebra.specs.Polynomial.{constant, X, polynomials}
use Rattle.algebra.proofs.Hom.{hom_add, hom_sub, hom_mul}
use Rattle.algebra.proofs.Polynomial.{map_hom}
use Rattle.multilinear.specs.Extension.{extension}
use Rattle.multilinear.proofs.Hom.{hom_sum_from, hom_weight, hom_get_d, hom_extension}
use Rattle.circuit.specs.Gate.{Gate, kinds, operate, gate_value}
use Rattle.circuit.proofs.Operate.{hom_operate}
use Rattle.sumcheck.specs.Summand.{gate_weight, wiring, combined, summand, summand_at, cube, partial_sum, line_point}
use Rattle.sumcheck.specs.Message.{fit, sum_message, line_message}

module _ {C D : Type 0} {N : Numbers C} {M : Numbers D} {h : C → D} (H : Hom N M h) where
  pub hom_gate_value : (next : List C) (g : Gate) → h (gate_value N next g) ≡ gate_value M (map h next) g
  unfolding gate_value
  hom_gate_value next g =
      hom_operate H g.kind (get_or next g.left N.𝟘) (get_or next g.right N.𝟘)
      ∙ ap₂ (operate M g.kind) (hom_get_d H next g.left) (hom_get_d H next g.right)

  pub hom_layer : (next : List C) (gs : List Gate) → map h (map (gate_value N next) gs) ≡ map (gate_value M (map h next)) gs
  hom_layer next gs =
      map_map (gate_value N next) h gs ∙ map_same (λ g. h (gate_value N next g)) (gate_value M (map h next)) gs (hom_gate_value next)

  pub hom_cond : (b : Bool) {c c' : C} {d d' : D} → h c ≡ d → h c' ≡ d' → h (cond b c c') ≡ cond b d d'
  hom_cond true e e' = e
  hom_cond false e e' = e'

  hom_gate_weight : (point u v : List C) (a b c : ℕ)
      → h (gate_weight N point u v a b c) ≡ gate_weight M (map h point) (map h u) (map h v) a b c
  hom_gate_weight point u v a b c = hom_mul H (hom_mul H (hom_weight H _ point) (hom_weight H _ u)) (hom_weight H _ v)

  pub hom_wiring : (kind : ℕ) (gs : List Gate) (point u v : List C)
      → h (wiring N kind gs point u v) ≡ wiring M kind gs (map h point) (map h u) (map h v)
  unfolding wiring
  hom_wiring kind gs point u v =
      hom_sum_from H _ _ (λ a g. hom_cond (eqb g.kind kind) (hom_gate_weight point u v a g.left g.right) H.keeps_𝟘) 0 gs

  pub hom_combined : (gs : List Gate) (point u v : List C) {x y : C} {x' y' : D} → h x ≡ x' → h y ≡ y'
      → h (combined N gs point u v x y) ≡ combined M gs (map h point) (map h u) (map h v) x' y'
  unfolding combined
  hom_combined gs point u v e f =
      hom_sum_from H _ _ (λ i kind. hom_mul H (hom_wiring kind gs point u v) (hom_operate H kind _ _ ∙ ap₂ (operate M kind) e f)) 0 kinds

  pub hom_summand : (gs : List Gate) (point vs u v : List C)
      → h (summand N gs point vs u v) ≡ summand M gs (map h point) (map h vs) (map h u) (map h v)
  unfolding summand
  hom_summand gs point vs u v = hom_combined gs point u v (hom_extension H vs u) (hom_extension H vs v)

  pub hom_summand_at : (k : ℕ) (gs : List Gate) (point vs ws : List C)
      → h (summand_at N k gs point vs ws) ≡ summand_at M k gs (map h point) (map h vs) (map h ws)
  hom_summand_at k gs point vs ws =
      hom_summand gs point vs (take k ws) (drop k ws)
      ∙ ap₂ (summand M gs (map h point) (map h vs)) (map_take h k ws) (map_drop h k ws)

  pub hom_cube : (n : ℕ) (f : List C → C) (g : List D → D) → ((bs : List C) → h (f bs) ≡ g (map h bs)) → h (cube N n f) ≡ cube M n g
  unfolding cube
  hom_cube zero f g e = e []
  hom_cube (suc n) f g e =
      hom_add H
      (hom_cube n (λ bs. f (N.𝟘 ∷ bs)) (λ bs. g (M.𝟘 ∷ bs)) (λ bs. e (N.𝟘 ∷ bs) ∙ ap (λ (x : D). g (x ∷ map h bs)) H.keeps_𝟘))
      (hom_cube n (λ bs. f (N.𝟙 ∷ bs)) (λ bs. g (M.𝟙 ∷ bs)) (λ bs. e (N.𝟙 ∷ bs) ∙ ap (λ (x : D). g (x ∷ map h bs)) H.keeps_𝟙))

  pub hom_partial_sum : (k : ℕ) (gs : List Gate) (point vs xs : List C)
      → h (partial_sum N k gs point vs xs) ≡ partial_sum M k gs (map h point) (map h vs) (map h xs)
  unfolding partial_sum
  hom_partial_sum k gs point vs xs =
      hom_cube (2 * k - length xs) (λ bs. summand_at N k gs point vs (xs ++ bs)) (λ bs. summand_at M k gs (map h point) (map h vs) (map h xs ++ bs))
      (λ bs. hom_summand_at k gs point vs (xs ++ bs) ∙ ap (λ (ws : List D). summand_at M k gs (map h point) (map h vs) ws) (map_append h xs bs))
      ∙ ap (λ (n : ℕ). cube M (2 * k - n) (λ bs. summand_at M k gs (map h point) (map h vs) (map h xs ++ bs))) (sym (length-map xs h))

  pub hom_line_point : (u v : List C) (t : C) → map h (line_point N u v t) ≡ line_point M (map h u) (map h v) (h t)
  unfolding line_point
  hom_line_point [] v t = refl
  hom_line_point (x ∷ u) [] t = refl
  hom_line_point (x ∷ u) (y ∷ v) t =
      ap₂ (λ (a : D) (l : List D). a ∷ l) (hom_add H refl (hom_mul H refl (hom_sub H refl refl))) (hom_line_point u v t)

  hom_fit : (n : ℕ) (f : List C) → map h (fit N n f) ≡ fit M n (map h f)
  unfolding fit
  hom_fit zero f = refl
  hom_fit (suc n) [] = ap₂ (λ (c : D) (l : List D). c ∷ l) H.keeps_𝟘 (hom_fit n [])
  hom_fit (suc n) (c ∷ f) = ap (λ (l : List D). h c ∷ l) (hom_fit n f)

  hom_constants : (l : List C) → map (map h) (map (constant N) l) ≡ map (constant M) (map h l)
  hom_constants l = map_map (constant N) (map h) l ∙ sym (map_map h (constant M) l)

  hom_X : map h (X N) ≡ X M
  hom_X = ap₂ (λ (a b : D). a ∷ b ∷ []) H.keeps_𝟘 H.keeps_𝟙

-- the messages, coefficient by coefficient
module _ {C D : Type 0} {N : Numbers C} {M : Numbers D} {h : C → D} (H : Hom N M h) where
  pub hom_sum_message : (k : ℕ) (gs : List Gate) (point vs xs : List C)
      → map h (sum_message N k gs point vs xs) ≡ sum_message M k gs (map h point) (map h vs) (map h xs)
  unfolding sum_message
  hom_sum_message k gs point vs xs =
      let fixed : List (List C) = map (constant N) xs ++ (X N ∷ []) in
      hom_fit H _ (partial_sum (polynomials N) k gs (map (constant N) point) (map (constant N) vs) fixed)
      ∙ ap (fit M _)
      (hom_partial_sum (map_hom H) k gs (map (constant N) point) (map (constant N) vs) fixed
      ∙ ap₂ (λ (a b : List (List D)). partial_sum (polynomials M) k gs a b (map (map h) fixed)) (hom_constants H point) (hom_constants H vs)
      ∙ ap (partial_sum (polynomials M) k gs (map (constant M) (map h point)) (map (constant M) (map h vs)))
      (map_append (map h) (map (constant N) xs) (X N ∷ []) ∙ ap₂ (λ (a : List (List D)) (b : List D). a ++ (b ∷ [])) (hom_constants H xs) (hom_X H)))

  pub hom_line_message : (vs u v : List C) → map h (line_message N vs u v) ≡ line_message M (map h vs) (map h u) (map h v)
  unfolding line_message
  hom_line_message vs u v =
      let line : List (List C) = line_point (polynomials N) (map (constant N) u) (map (constant N) v) (X N) in
      rw (length-map u h)
      (hom_fit H _ (extension (polynomials N) (map (constant N) vs) line)
      ∙ ap (fit M _)
      (hom_extension (map_hom H) (map (constant N) vs) line
      ∙ ap₂ (extension (polynomials M)) (hom_constants H vs)
      (hom_line_point (map_hom H) (map (constant N) u) (map (constant N) v) (X N)
      ∙ ap₂ (λ (a b : List (List D)). line_point (polynomials M) a b (map h (X N))) (hom_constants H u) (hom_constants H v)
      ∙ ap (line_point (polynomials M) (map (constant M) (map h u)) (map (constant M) (map h v))) (hom_X H))))
