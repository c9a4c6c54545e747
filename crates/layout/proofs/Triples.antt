-- Gates as triples of words: the triples of a list of words are its gates, and a part of the triples is the gates of a part of the words.
-- Assumes nothing.
use Prim.Native.Nat.{ℕ, zero, suc, ◌+◌, ◌*◌, ◌/◌, ◌^◌, ◌≤◌, ◌<◌}
use mathlib.Core.Path.{◌≡◌, refl, sym, ap, ap₂, ◌∙◌}
use mathlib.Core.List.{List, [], ◌∷◌, map}
use native.Mathlib.Numerals.{add-one}
use native.Mathlib.Omega.{arith}
use lib.ListN.{length, length-map, length-drop, take, drop, get_or}
use lib.Seq.{drop-cons, drop-drop}
use Rattle.std.specs.Simd.{first_chunks}
use Rattle.lists.proofs.Map.{get_d_map_lt}
use Rattle.circuit.specs.Gate.{Gate, gate}
use Rattle.circuit.specs.Circuit.{depth, exponent_at, gates_of, gates_start, gates_before, gates_at}
use Rattle.circuit.specs.Sized.{Sized}
use Rattle.circuit.proofs.Gates.{rest_start, rest_words, rest_gates}
use Rattle.layout.specs.Gate.{gate_in}

-- three words say what the list that they begin says
first_three : (ws : List ℕ) → gate_in (take 3 ws) ≡ gate_in ws
first_three [] = refl
first_three (a ∷ []) = refl
first_three (a ∷ b ∷ []) = refl
first_three (a ∷ b ∷ d ∷ ws) = refl

pub chunked_gates : (n : ℕ) (ws : List ℕ) → map gate_in (first_chunks 3 n ws) ≡ gates_of n ws
unfolding gates_of
chunked_gates zero ws = refl
chunked_gates (suc n) ws = ap₂ (λ (g : Gate) (gs : List Gate). g ∷ gs) (first_three ws) (chunked_gates n (drop 3 ws))

-- k gates from gate i on
pub gates_cut : (n i k : ℕ) (ws : List ℕ) → i + k ≤ n → take k (drop i (gates_of n ws)) ≡ gates_of k (drop (3 * i) ws)
unfolding gates_of
gates_cut n zero zero ws h = refl
gates_cut zero zero (suc k) ws h = absurd (omega arith)
gates_cut (suc n) zero (suc k) ws h = ap (λ (gs : List Gate). gate_in ws ∷ gs) (gates_cut n zero k (drop 3 ws) (omega arith))
gates_cut zero (suc i) k ws h = absurd (omega arith)
gates_cut (suc n) (suc i) k ws h =
    let on : 3 + 3 * i ≡ 3 * suc i = omega arith in
    gates_cut n i k (drop 3 ws) (omega arith) ∙ ap (gates_of k) (drop-drop (3 * i) 3 ws ∙ ap (λ (m : ℕ). drop m ws) on)

-- the gates from triple i on
pub gates_on : (rows : List (List ℕ)) (i : ℕ) → i < length rows → drop i (map gate_in rows) ≡ gate_in (get_or rows i []) ∷ drop (i + 1) (map gate_in rows)
gates_on rows i h =
    let none : Gate = gate 0 0 0 in
    let there : i < length (map gate_in rows) = omega (arith, length-map rows gate_in) in
    drop-cons (map gate_in rows) i none there
    ∙ ap₂ (λ (g : Gate) (m : ℕ). g ∷ drop m (map gate_in rows)) (get_d_map_lt gate_in rows i none [] h) (sym (add-one i))

-- all gates of a circuit's words, and a layer's among them
abbrev pub all_of : List ℕ → List Gate
all_of c = gates_of (length (drop (gates_start c) c) / 3) (drop (gates_start c) c)

module _ (c : List ℕ) (h : Sized c) (layer from count : ℕ) (more : layer < depth c) (ef : from ≡ gates_before c layer) (ec : count ≡ 2 ^ exponent_at c layer) where
  pub layer_fits : from + count ≤ length (drop (gates_start c) c) / 3
  layer_fits =
      let size = length-drop (3 * from) (drop (gates_start c) c) in
      let start = rest_start c h layer from count more ef ec (drop (gates_start c) c) refl in
      let words = rest_words c h layer from count more ef ec in
      omega arith

  pub layer_cut : take count (drop from (all_of c)) ≡ gates_at c layer
  layer_cut =
      gates_cut (length (drop (gates_start c) c) / 3) from count (drop (gates_start c) c) layer_fits
      ∙ rest_gates c h layer from count more ef ec
