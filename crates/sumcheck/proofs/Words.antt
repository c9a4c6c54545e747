-- On words: every result is below p, and two words below p with one residue are equal, so what holds over the ring of residues holds of them.
-- Assumes nothing.
use mathlib.Core.Path.{◌≡◌, refl, sym, ap, ap₂, ◌∙◌}
use mathlib.Core.List.{List, [], ◌∷◌, ◌++◌, map, append_assoc}
use Prim.Native.Nat.{ℕ, zero, suc, ◌+◌, ◌-◌, ◌*◌, ◌<◌, Fin}
use native.Mathlib.Nat.{mod-lt}
use native.Mathlib.Omega.{arith}
use lib.ListN.{length, take, drop, length-append, length-map}
use Rattle.lists.specs.Each.{All}
use Rattle.lists.proofs.Map.{map_append}
use Rattle.algebra.specs.Numbers.{Numbers, words}
use Rattle.algebra.specs.Hom.{Hom}
use Rattle.algebra.specs.Residue.{residue, residues}
use Rattle.algebra.specs.Polynomial.{value_at, constant, X, polynomials}
use Rattle.algebra.proofs.Hom.{hom_add, hom_sub, hom_mul}
use Rattle.algebra.proofs.Polynomial.{hom_value, value_below}
use Rattle.algebra.proofs.Residue.{residues_ring, residue_hom, residue_injective}
use Rattle.multilinear.specs.Extension.{extension}
use Rattle.multilinear.proofs.Hom.{hom_extension}
use Rattle.multilinear.proofs.Words.{below, by_residues, sum_from_below, plus_below, times_below, sum_from_coefficients, coefficients_below}
use Rattle.circuit.specs.Gate.{Gate, kinds, gate_value}
use Rattle.sumcheck.specs.Summand.{wiring, combined, summand, summand_at, cube, partial_sum, line_point}
use Rattle.sumcheck.specs.Message.{fit, sum_message, line_message}
use Rattle.sumcheck.specs.Theorems.{FormulaOnWords, LayerIdentity, SumOfTwo, SumMessageValue, LineMessageValue, LineEnds, SumMessageWords, LineMessageWords, PartialSumBelow, LinePointLength}
use Rattle.sumcheck.proofs.Hom.{hom_layer, hom_wiring, hom_combined, hom_partial_sum, hom_line_point, hom_sum_message, hom_line_message}
use Rattle.sumcheck.proofs.Cube.{cube_more, cube_same}
use Rattle.sumcheck.proofs.Layer.{formula, ring_identity}
use Rattle.sumcheck.proofs.Degree.{length_fit}
use Rattle.sumcheck.proofs.Message.{length_line, sum_value, line_value, line_zero, line_one}

-- BELOW P: a sum over {0, 1} is a sum or one summand, and both are reduced
module _ (p : ℕ) (pos : 0 < p) where
  cube_below : (n : ℕ) (f : List ℕ → ℕ) → ((bs : List ℕ) → f bs < p) → cube (words p) n f < p
  unfolding cube
  cube_below zero f h = h []
  cube_below (suc n) f h = mod-lt _ pos

  pub combined_below : (gs : List Gate) (point u v : List ℕ) (x y : ℕ) → combined (words p) gs point u v x y < p
  unfolding combined
  combined_below gs point u v x y = sum_from_below p pos _ 0 kinds

pub partial_sum_below : PartialSumBelow
unfolding partial_sum summand
partial_sum_below p pos k gs point vs xs =
    cube_below p pos (2 * k - length xs) (λ bs. summand_at (words p) k gs point vs (xs ++ bs))
    (λ bs. combined_below p pos gs point (take k (xs ++ bs)) (drop k (xs ++ bs))
    (extension (words p) vs (take k (xs ++ bs))) (extension (words p) vs (drop k (xs ++ bs))))

-- THE MESSAGES' COEFFICIENTS
module _ (p : ℕ) (pos : 0 < p) where
  abbrev P : Numbers (List ℕ)
  P = polynomials (words p)

  cube_coefficients : (n : ℕ) (f : List (List ℕ) → List ℕ) → ((bs : List (List ℕ)) → All (λ c. c < p) (f bs)) → All (λ c. c < p) (cube P n f)
  unfolding cube
  cube_coefficients zero f h = h []
  cube_coefficients (suc n) f h =
      plus_below p pos (cube P n (λ bs. f ([] ∷ bs))) (cube P n (λ bs. f ((1 ∷ []) ∷ bs)))
      (cube_coefficients n (λ bs. f ([] ∷ bs)) (λ bs. h ([] ∷ bs))) (cube_coefficients n (λ bs. f ((1 ∷ []) ∷ bs)) (λ bs. h ((1 ∷ []) ∷ bs)))

  combined_coefficients : (gs : List Gate) (point u v : List (List ℕ)) (x y : List ℕ) → All (λ c. c < p) (combined P gs point u v x y)
  unfolding combined
  combined_coefficients gs point u v x y =
      sum_from_coefficients p pos _ 0 kinds (λ i kind. times_below p pos (wiring P kind gs point u v) _)

  fit_coefficients : (n : ℕ) (f : List ℕ) → All (λ c. c < p) f → All (λ c. c < p) (fit (words p) n f)
  unfolding fit
  fit_coefficients zero f h = tt
  fit_coefficients (suc n) [] h = (pos, fit_coefficients n [] tt)
  fit_coefficients (suc n) (c ∷ f) h = (h.0, fit_coefficients n f h.1)

pub sum_message_words : SumMessageWords
unfolding sum_message partial_sum summand
sum_message_words p pos k gs point vs xs = (length_fit (words p) 3 (cube P n term), fit_coefficients p pos 3 (cube P n term) (cube_coefficients p pos n term each))
  where
    P : Numbers (List ℕ)
    P = polynomials (words p)

    fixed : List (List ℕ)
    fixed = map (constant (words p)) xs ++ (X (words p) ∷ [])

    n : ℕ
    n = 2 * k - length fixed

    term : List (List ℕ) → List ℕ
    term bs = summand_at P k gs (map (constant (words p)) point) (map (constant (words p)) vs) (fixed ++ bs)

    each : (bs : List (List ℕ)) → All (λ c. c < p) (term bs)
    each bs =
        let u : List (List ℕ) = take k (fixed ++ bs) in
        let v : List (List ℕ) = drop k (fixed ++ bs) in
        let ws : List (List ℕ) = map (constant (words p)) vs in
        combined_coefficients p pos gs (map (constant (words p)) point) u v (extension P ws u) (extension P ws v)

pub line_message_words : LineMessageWords
unfolding line_message
line_message_words p pos vs u v =
    let line : List (List ℕ) = line_point (polynomials (words p)) (map (constant (words p)) u) (map (constant (words p)) v) (X (words p)) in
    let f : List ℕ = extension (polynomials (words p)) (map (constant (words p)) vs) line in
    (length_fit (words p) (suc (length u)) f, fit_coefficients p pos (suc (length u)) f (coefficients_below p pos (map (constant (words p)) vs) line))

-- ONE COORDINATE MORE
pub sum_of_two : SumOfTwo
unfolding partial_sum
sum_of_two p k gs point vs xs h =
    let next : 2 * k - length xs ≡ suc (2 * k - (length xs + 1)) = omega arith in
    ap (λ (n : ℕ). cube (words p) n (λ bs. at (xs ++ bs))) next
    ∙ cube_more (words p) (2 * k - (length xs + 1)) (λ bs. at (xs ++ bs))
    ∙ ap₂ (words p).add (one 0) (one 1)
  where
    at : List ℕ → ℕ
    at ws = summand_at (words p) k gs point vs ws

    one : (b : ℕ) → cube (words p) (2 * k - (length xs + 1)) (λ bs. at (xs ++ b ∷ bs))
        ≡ cube (words p) (2 * k - length (xs ++ (b ∷ []))) (λ bs. at ((xs ++ (b ∷ [])) ++ bs))
    one b =
        ap (λ (n : ℕ). cube (words p) (2 * k - n) (λ bs. at (xs ++ b ∷ bs))) (sym (length-append xs (b ∷ [])))
        ∙ cube_same (words p) (2 * k - length (xs ++ (b ∷ []))) (λ bs. at (xs ++ b ∷ bs)) (λ bs. at ((xs ++ (b ∷ [])) ++ bs))
        (λ bs l. ap at (sym (append_assoc xs (b ∷ []) bs)))

pub line_point_length : LinePointLength
line_point_length p u v t e = length_line (words p) (length u) u v t refl (sym e)

-- WHAT HOLDS OF RESIDUES
pub formula_on_words : FormulaOnWords
formula_on_words p pos gs point u v x y =
    residue_injective p pos _ _ (combined_below p pos gs point u v x y) (mod-lt _ pos)
    (hom_combined H gs point u v refl refl
    ∙ formula (residues_ring p pos) gs (map ι point) (map ι u) (map ι v) (ι x) (ι y)
    ∙ sym (hom_add H
    (hom_add H (hom_mul H (hom_wiring H _ gs point u v) (hom_add H refl refl)) (hom_mul H (hom_mul H (hom_wiring H _ gs point u v) refl) refl))
    (hom_mul H (hom_wiring H _ gs point u v) (hom_sub H refl refl))))
  where
    ι : ℕ → Fin p
    ι = residue p pos

    H : Hom (words p) (residues p pos) (residue p pos)
    H = residue_hom p pos

pub layer_identity : LayerIdentity
layer_identity p pos k gs point vs e h =
    residue_injective p pos (partial_sum (words p) k gs point vs []) (extension (words p) (map (gate_value (words p) vs) gs) point)
    (partial_sum_below p pos k gs point vs []) (below p pos (map (gate_value (words p) vs) gs) point)
    (hom_partial_sum H k gs point vs []
    ∙ ring_identity (residues_ring p pos) k gs (map ι point) (map ι vs) (length-map vs ι ∙ e) h
    ∙ ap (λ (l : List (Fin p)). extension (residues p pos) l (map ι point)) (sym (hom_layer H vs gs))
    ∙ sym (hom_extension H (map (gate_value (words p) vs) gs) point))
  where
    ι : ℕ → Fin p
    ι = residue p pos

    H : Hom (words p) (residues p pos) (residue p pos)
    H = residue_hom p pos

pub sum_message_value : SumMessageValue
sum_message_value p pos k gs point vs xs r =
    residue_injective p pos (value_at (words p) (sum_message (words p) k gs point vs xs) r) (partial_sum (words p) k gs point vs (xs ++ (r ∷ [])))
    (value_below p pos (sum_message (words p) k gs point vs xs) r) (partial_sum_below p pos k gs point vs (xs ++ (r ∷ [])))
    (hom_value H (sum_message (words p) k gs point vs xs) r
    ∙ ap (λ (f : List (Fin p)). value_at (residues p pos) f (ι r)) (hom_sum_message H k gs point vs xs)
    ∙ sum_value (residues_ring p pos) k gs (map ι point) (map ι vs) (map ι xs) (ι r)
    ∙ ap (partial_sum (residues p pos) k gs (map ι point) (map ι vs)) (sym (map_append ι xs (r ∷ [])))
    ∙ sym (hom_partial_sum H k gs point vs (xs ++ (r ∷ []))))
  where
    ι : ℕ → Fin p
    ι = residue p pos

    H : Hom (words p) (residues p pos) (residue p pos)
    H = residue_hom p pos

pub line_message_value : LineMessageValue
line_message_value p pos vs u v t =
    residue_injective p pos (value_at (words p) (line_message (words p) vs u v) t) (extension (words p) vs (line_point (words p) u v t))
    (value_below p pos (line_message (words p) vs u v) t) (below p pos vs (line_point (words p) u v t))
    (hom_value H (line_message (words p) vs u v) t
    ∙ ap (λ (f : List (Fin p)). value_at (residues p pos) f (ι t)) (hom_line_message H vs u v)
    ∙ line_value (residues_ring p pos) (map ι vs) (map ι u) (map ι v) (ι t)
    ∙ ap (extension (residues p pos) (map ι vs)) (sym (hom_line_point H u v t))
    ∙ sym (hom_extension H vs (line_point (words p) u v t)))
  where
    ι : ℕ → Fin p
    ι = residue p pos

    H : Hom (words p) (residues p pos) (residue p pos)
    H = residue_hom p pos

pub line_ends : LineEnds
line_ends p pos vs u v e = (
  by_residues p pos vs (line_point (words p) u v 0) vs u
      (ap (extension (residues p pos) (map ι vs))
      (hom_line_point H u v 0 ∙ ap (line_point (residues p pos) (map ι u) (map ι v)) H.keeps_𝟘 ∙ line_zero (residues_ring p pos) (map ι u) (map ι v) sized)),
  by_residues p pos vs (line_point (words p) u v 1) vs v
      (ap (extension (residues p pos) (map ι vs))
      (hom_line_point H u v 1 ∙ ap (line_point (residues p pos) (map ι u) (map ι v)) H.keeps_𝟙 ∙ line_one (residues_ring p pos) (map ι u) (map ι v) sized)),
)
  where
    ι : ℕ → Fin p
    ι = residue p pos

    H : Hom (words p) (residues p pos) (residue p pos)
    H = residue_hom p pos

    sized : length (map ι u) ≡ length (map ι v)
    sized = length-map u ι ∙ e ∙ sym (length-map v ι)
