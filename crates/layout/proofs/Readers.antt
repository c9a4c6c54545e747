-- Parts of a list whose bounds are cut to it, and the words that a layer's exponent is read from.
-- Assumes nothing.
use Prim.Native.Nat.{ℕ, zero, suc, ◌+◌, ◌-◌, ◌*◌, ◌^◌, ◌≤◌, ◌<◌, min}
use mathlib.Core.Path.{◌≡◌, refl, sym, ap, ap₂, ◌∙◌}
use mathlib.Core.List.{List}
use native.Mathlib.Decide.{dec_le}
use native.Mathlib.Omega.{arith}
use lib.ListN.{length, length-drop, length-take, take, drop, get_or, drop_of_length-le, get_or-eq_default}
use lib.Seq.{drop-drop, take-nil, get_or-take, get_or-drop}
use Rattle.lists.proofs.Parts.{take_most}
use Rattle.circuit.specs.Limits.{header_words}
use Rattle.circuit.specs.Circuit.{depth, exponents, exponent_at, gates_of, gates_start, gate_words, gates_before}
use Rattle.circuit.specs.Sized.{Sized}
use Rattle.circuit.proofs.Gates.{layer_words, layer_gates}
use Rattle.layout.specs.Gates.{LayerWords}

-- n words from place a on, as many of them as there are
part_cut : (l : List ℕ) (a n : ℕ) → take (min (a + n) (length l) - min a (length l)) (drop (min a (length l)) l) ≡ take n (drop a l)
part_cut l a n = go (dec_le a (length l))
  where
    go : Dec (a ≤ length l) → take (min (a + n) (length l) - min a (length l)) (drop (min a (length l)) l) ≡ take n (drop a l)
    go (yes h) =
        let start : min a (length l) ≡ a = omega arith in
        let size : min (a + n) (length l) - min a (length l) ≡ min n (length (drop a l)) = omega (arith, length-drop a l) in
        ap₂ (λ (m i : ℕ). take m (drop i l)) size start ∙ take_most n (drop a l)
    go (no h) =
        let m : ℕ = min a (length l) in
        ap (take (min (a + n) (length l) - m)) (drop_of_length-le l {i = m} (omega arith)) ∙ take-nil (min (a + n) (length l) - m)
        ∙ sym (ap (take n) (drop_of_length-le l {i = a} (omega arith)) ∙ take-nil n)

module _ (c : List ℕ) where
  pub exponents_part : (start end : ℕ) → start ≡ min header_words (length c) → end ≡ min (gates_start c) (length c)
      → take (end - start) (drop start c) ≡ exponents c
  unfolding exponents
  exponents_part start end es ee =
      ap₂ (λ (a b : ℕ). take (b - a) (drop a c)) es ee ∙ part_cut c header_words (depth c)

  pub gates_part : (gates : List ℕ) (from count start end : ℕ) → gates ≡ drop (gates_start c) c → start ≡ min (3 * from) (length gates)
      → end ≡ min (start + 3 * count) (length gates) → take (end - start) (drop start gates) ≡ gate_words c from count
  gates_part gates from count start end eg es ee =
      let to : end ≡ min (3 * from + 3 * count) (length gates) = omega arith in
      ap₂ (λ (a b : ℕ). take (b - a) (drop a gates)) es to ∙ part_cut gates (3 * from) (3 * count)
      ∙ ap (take (3 * count)) (ap (drop (3 * from)) eg ∙ drop-drop (3 * from) (gates_start c) c)

  -- a layer's exponent is a word of the list, where there is such a layer
  pub exponent_there : (layer : ℕ) → layer ≤ depth c → get_or c (header_words - 1 + layer) 0 ≡ exponent_at c layer
  unfolding exponents
  exponent_there zero h = refl
  exponent_there (suc l) h =
      let e : header_words - 1 + suc l ≡ header_words + l = omega arith in
      ap (λ (i : ℕ). get_or c i 0) e ∙ sym (get_or-take (depth c) (drop header_words c) l 0 h ∙ get_or-drop header_words c l 0)

  pub exponent_past : (layer : ℕ) → depth c < layer → 0 ≡ exponent_at c layer
  unfolding exponents
  exponent_past zero h = absurd (omega arith)
  exponent_past (suc l) h =
      sym (get_or-eq_default (take (depth c) (drop header_words c)) 0 (omega (arith, length-take (depth c) (drop header_words c))))

  -- a layer's gates
  pub layer_read : (layer from count : ℕ) (ws : List ℕ) → Sized c → layer < depth c → from ≡ gates_before c layer → count ≡ 2 ^ exponent_at c layer
      → ws ≡ gate_words c from count → LayerWords c layer ws
  layer_read layer from count ws h inside ef ec ew = record {
    size = ap length ew ∙ layer_words c h layer from count inside ef ec ∙ ap (λ (n : ℕ). 3 * n) ec;
    gates = ap₂ gates_of (sym ec) ew ∙ layer_gates c h layer from count inside ef ec;
  }
