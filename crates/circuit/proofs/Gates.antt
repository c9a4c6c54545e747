-- Where the gates of a layer stand: behind the header and the exponents, three words a gate, those of the layers before it first.
-- Assumes nothing.
use Prim.Native.Nat.{ℕ, zero, suc, ◌+◌, ◌*◌, ◌^◌, ◌≤◌, ◌<◌}
use mathlib.Core.Path.{◌≡◌, refl, sym, ap, ap₂, ◌∙◌}
use mathlib.Core.List.{List, [], ◌∷◌}
use native.Mathlib.Nat.{not-suc-le-zero, le_of_suc-le-suc, le_refl}
use native.Mathlib.Numerals.{add-one}
use native.Mathlib.Omega.{arith}
use lib.ListN.{length, length-drop, take, drop, get_or, drop_of_length-le}
use lib.Seq.{drop-cons, drop-drop, length-take-le, take_all}
use Rattle.refusal.specs.Order.{first}
use Rattle.circuit.specs.Gate.{Gate}
use Rattle.circuit.specs.Circuit.{depth, exponents, exponent_at, output_exponent, width_of, gates_of, layers_of, gate_count, gates_start, gate_words, gate_layers, gates_before, gates_at, word_count}
use Rattle.circuit.specs.Legal.{gates_cause, layers_cause}
use Rattle.circuit.specs.Sized.{Exponents, Sized}
use Rattle.circuit.proofs.Sized.{exponent_width}
use Rattle.circuit.proofs.Legal.{length_gates, gates_part}

-- the gates of the first layers, one layer more
count_more : (k : ℕ) (ks : List ℕ) (i : ℕ) → i < length ks → gate_count k (take (suc i) ks) ≡ gate_count k (take i ks) + 2 ^ get_or (k ∷ ks) i 0
unfolding gate_count
count_more k [] i l = absurd (not-suc-le-zero l)
count_more k (k' ∷ ks) zero l = omega arith
count_more k (k' ∷ ks) (suc i) l = omega (arith, count_more k' ks i (le_of_suc-le-suc l))

count_part : (k : ℕ) (ks : List ℕ) (i : ℕ) → gate_count k (take i ks) ≤ gate_count k ks
unfolding gate_count
count_part k ks zero = omega arith
count_part k [] (suc i) = omega arith
count_part k (k' ∷ ks) (suc i) = omega (arith, count_part k' ks i)

pub count_none : (c : List ℕ) → 0 ≡ gates_before c 0
unfolding gate_count
count_none c = refl

-- all words of the gates from gate number i on
abbrev pub gates_from : List ℕ → ℕ → List ℕ
gates_from c i = drop (3 * i) (drop (gates_start c) c)

layer_in : (k : ℕ) (ks ws : List ℕ) (l : ℕ) → l < length ks
    → get_or (layers_of k ks ws) l [] ≡ gates_of (2 ^ get_or (k ∷ ks) l 0) (drop (3 * gate_count k (take l ks)) ws)
unfolding layers_of gate_count
layer_in k [] ws l h = absurd (not-suc-le-zero h)
layer_in k (k' ∷ ks) ws zero h = refl
layer_in k (k' ∷ ks) ws (suc l) h =
    let n : ℕ = gate_count k' (take l ks) in
    let e : 3 * 2 ^ k + 3 * n ≡ 3 * (2 ^ k + n) = omega arith in
    layer_in k' ks (drop (3 * 2 ^ k) ws) l (le_of_suc-le-suc h)
    ∙ ap (gates_of (2 ^ get_or (k' ∷ ks) l 0)) (drop-drop (3 * n) (3 * 2 ^ k) ws ∙ ap (λ (i : ℕ). drop i ws) e)

pub length_layers : (k : ℕ) (ks ws : List ℕ) → length (layers_of k ks ws) ≡ length ks
unfolding layers_of
length_layers k [] ws = refl
length_layers k (k' ∷ ks) ws = ap suc (length_layers k' ks (drop (3 * 2 ^ k) ws))

module _ (c : List ℕ) (h : Exponents c) where
  pub count_all : gates_before c (depth c) ≡ gate_count (output_exponent c) (exponents c)
  count_all = ap (gate_count (output_exponent c)) (take_all (depth c) (exponents c) (omega (arith, h.whole)))

  pub before_next : (l : ℕ) → l < depth c → gates_before c (suc l) ≡ gates_before c l + 2 ^ exponent_at c l
  before_next l n = count_more (output_exponent c) (exponents c) l (omega (arith, h.whole))

  pub layer_count : (l : ℕ) → l < depth c → length (gates_at c l) ≡ 2 ^ exponent_at c l
  unfolding gates_at gate_layers
  layer_count l n =
      ap length (layer_in (output_exponent c) (exponents c) (drop (gates_start c) c) l (omega (arith, h.whole)))
      ∙ length_gates (2 ^ exponent_at c l) (drop (3 * gates_before c l) (drop (gates_start c) c))

  -- the count so far, in a loop over the layers
  pub count_turn : (i count k w : ℕ) → i < depth c → count ≡ gates_before c i → k ≡ exponent_at c i → w ≡ width_of k → count + w ≡ gates_before c (i + 1)
  count_turn i count k w n e ek ew =
      let wide : w ≡ 2 ^ exponent_at c i = ew ∙ ap width_of ek ∙ exponent_width c i (record { headed = h; inside = omega arith }) in
      let next : gates_before c (i + 1) ≡ gates_before c i + 2 ^ exponent_at c i = ap (gates_before c) (add-one i) ∙ before_next i n in
      omega (arith, wide, next, e)

module _ (c : List ℕ) (h : Sized c) where
  -- they are inside the list
  gates_room : (l : ℕ) → l < depth c → gates_start c + 3 * gates_before c l + 3 * 2 ^ exponent_at c l ≤ length c
  unfolding word_count
  gates_room l n =
      let whole : length c ≡ word_count c = h.counted in
      let part = count_part (output_exponent c) (exponents c) (suc l) in
      omega (arith, whole, part, before_next c h.headed l n)

  module _ (l from count : ℕ) (n : l < depth c) (ef : from ≡ gates_before c l) (ec : count ≡ 2 ^ exponent_at c l) where
    -- all their words are there
    rest_room : 3 * from + 3 * count ≤ length (drop (gates_start c) c)
    rest_room = rw length-drop (omega (arith, gates_room l n, ef, ec))

    pub rest_start : (gates : List ℕ) → gates ≡ drop (gates_start c) c → 3 * from ≤ length gates
    rest_start gates e = omega (arith, rest_room, ap length e)

    pub rest_words : 3 * count ≤ length (gates_from c from)
    rest_words = rw length-drop (omega (arith, rest_room))

    -- and they are the layer's gates
    pub rest_gates : gates_of count (gates_from c from) ≡ gates_at c l
    unfolding gates_at gate_layers
    rest_gates =
        ap₂ (λ (m k : ℕ). gates_of m (gates_from c k)) ec ef
        ∙ sym (layer_in (output_exponent c) (exponents c) (drop (gates_start c) c) l (omega (arith, h.headed.whole)))

    -- the same, of a part that has no others
    pub layer_words : length (gate_words c from count) ≡ 3 * count
    layer_words =
        length-take-le (3 * count) (drop (gates_start c + 3 * from) c)
        (rw length-drop (omega (arith, gates_room l n, ef, ec)))

    pub layer_gates : gates_of count (gate_words c from count) ≡ gates_at c l
    layer_gates =
        gates_part count (3 * count) (drop (gates_start c + 3 * from) c) (le_refl (3 * count))
        ∙ ap (gates_of count) (sym (drop-drop (3 * from) (gates_start c) c)) ∙ rest_gates

-- LEGALITY, layer by layer: what the layers from i on say
module _ (c : List ℕ) (h : Exponents c) where
  pub layers_at : (i : ℕ) → i < depth c
      → layers_cause (drop i (exponents c)) (drop i (gate_layers c))
      ≡ first (gates_cause (2 ^ exponent_at c (i + 1)) (gates_at c i)) (layers_cause (drop (i + 1) (exponents c)) (drop (i + 1) (gate_layers c)))
  unfolding layers_cause gate_layers gates_at
  layers_at i n =
      let size = length_layers (output_exponent c) (exponents c) (drop (gates_start c) c) in
      let none : List Gate = [] in
      rw (
        add-one,
        drop-cons (exponents c) i 0 (omega (arith, h.whole)),
        drop-cons (layers_of (output_exponent c) (exponents c) (drop (gates_start c) c)) i none (omega (arith, size, h.whole)),
      )

  pub layers_end : (i : ℕ) → depth c ≤ i → layers_cause (drop i (exponents c)) (drop i (gate_layers c)) ≡ 0
  unfolding layers_cause gate_layers
  layers_end i n =
      let size = length_layers (output_exponent c) (exponents c) (drop (gates_start c) c) in
      rw (drop_of_length-le (layers_of (output_exponent c) (exponents c) (drop (gates_start c) c)) {i = i} (omega (arith, size, h.whole)))
