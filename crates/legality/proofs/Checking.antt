-- Legality in loops over gates and over layers: what is left from a gate on, and from a layer on, decides as all of them do.
-- Assumes nothing.
use Prim.Native.Nat.{ℕ, ◌+◌, ◌/◌, ◌^◌, ◌≤◌, ◌<◌, zero-le}
use mathlib.Core.Path.{◌≡◌, refl, sym, ap, ap₂, ◌∙◌}
use mathlib.Core.List.{List, [], map}
use native.Mathlib.Numerals.{add-one}
use native.Mathlib.Omega.{arith}
use lib.ListN.{length, length-drop, length-map, take, drop, drop_of_length-le, get_or}
use lib.Seq.{drop-drop}
use Rattle.std.proofs.lemmas.List.{take-map, drop-map}
use Rattle.refusal.specs.Number.{number_of}
use Rattle.refusal.specs.Order.{first}
use Rattle.refusal.specs.declared.Cause.{Cause}
use Rattle.refusal.proofs.Order.{refused_first, legal_first}
use Rattle.circuit.specs.Gate.{Gate}
use Rattle.circuit.specs.Circuit.{depth, exponents, exponent_at, width_of, gates_start, gates_before, gates_at, gate_layers}
use Rattle.circuit.specs.Legal.{gate_cause, gates_cause, layers_cause}
use Rattle.circuit.specs.Sized.{Sized}
use Rattle.circuit.proofs.Legal.{length_gates}
use Rattle.circuit.proofs.Sized.{exponent_width}
use Rattle.circuit.proofs.Gates.{count_none, before_next, layers_at, layers_end}
use Rattle.layout.specs.Gate.{gate_in}
use Rattle.layout.proofs.Triples.{gates_on, all_of, layer_fits, layer_cut}

-- GATES, from triple i on
module _ (next : ℕ) (rows : List (List ℕ)) (i : ℕ) where
  pub gates_turn : (g : Gate) → i < length rows → g ≡ gate_in (get_or rows i [])
      → gates_cause next (drop i (map gate_in rows)) ≡ first (gate_cause next g) (gates_cause next (drop (i + 1) (map gate_in rows)))
  unfolding gates_cause
  gates_turn g h e = rw (gates_on rows i h, ← e)

  pub gates_done : length rows ≤ i → gates_cause next (drop i (map gate_in rows)) ≡ 0
  unfolding gates_cause
  gates_done h = rw (drop_of_length-le (map gate_in rows) {i = i} (omega (arith, length-map rows gate_in)))

-- LAYERS
-- before a layer, or behind the last: its width, the gates from its first on, and what is left decides
pub record BeforeLayer (c : List ℕ) (layer count : ℕ) (rows : List (List ℕ)) : Type 0 where
  pub inside : layer ≤ depth c
  pub wide : count ≡ 2 ^ exponent_at c layer
  pub rest : map gate_in rows ≡ drop (gates_before c layer) (all_of c)
  pub left : layers_cause (exponents c) (gate_layers c) ≡ layers_cause (drop layer (exponents c)) (drop layer (gate_layers c))

module _ (c : List ℕ) (h : Sized c) where
  pub checks_start : (count : ℕ) (rows : List (List ℕ)) → count ≡ width_of (exponent_at c 0) → map gate_in rows ≡ all_of c → BeforeLayer c 0 count rows
  checks_start count rows e er = record {
    inside = omega arith;
    wide = e ∙ exponent_width c 0 (record { headed = h.headed; inside = zero-le });
    rest = er ∙ ap (λ (n : ℕ). drop n (all_of c)) (count_none c);
    left = refl;
  }

  pub checks_end : (layer count : ℕ) (rows : List (List ℕ)) → BeforeLayer c layer count rows → depth c ≤ layer → layers_cause (exponents c) (gate_layers c) ≡ 0
  checks_end layer count rows b out = b.left ∙ layers_end c h.headed layer out

  -- a layer of the circuit
  module _ (layer count : ℕ) (rows : List (List ℕ)) (b : BeforeLayer c layer count rows) (more : layer < depth c) where
    abbrev from : ℕ
    from = gates_before c layer

    pub layer_there : count ≤ length rows
    layer_there =
        let size = ap length b.rest in
        let rest = length-drop from (all_of c) in
        let all = length_gates (length (drop (gates_start c) c) / 3) (drop (gates_start c) c) in
        omega (arith, layer_fits c h layer from count more refl b.wide, length-map rows gate_in)

    gates_are : map gate_in (take count rows) ≡ gates_at c layer
    gates_are =
        sym (take-map gate_in count rows) ∙ ap (take count) b.rest
        ∙ layer_cut c h layer from count more refl b.wide

    -- what its check says, and what is left behind it
    module _ (next : ℕ) (e : next ≡ 2 ^ exponent_at c (layer + 1)) where
      opens : layers_cause (exponents c) (gate_layers c)
          ≡ first (gates_cause next (map gate_in (take count rows))) (layers_cause (drop (layer + 1) (exponents c)) (drop (layer + 1) (gate_layers c)))
      opens =
          b.left ∙ layers_at c h.headed layer more
          ∙ sym (ap₂ (λ (n : ℕ) (gs : List Gate). first (gates_cause n gs) (layers_cause (drop (layer + 1) (exponents c)) (drop (layer + 1) (gate_layers c)))) e gates_are)

      pub layer_refused : (cause : Cause) → number_of cause ≡ gates_cause next (map gate_in (take count rows))
          → layers_cause (exponents c) (gate_layers c) ≡ number_of cause
      layer_refused cause q = opens ∙ refused_first cause _ _ q

      pub layer_legal : gates_cause next (map gate_in (take count rows)) ≡ 0 → BeforeLayer c (layer + 1) next (drop count rows)
      layer_legal q =
          let before : from + count ≡ gates_before c (layer + 1) =
          let one = ap (gates_before c) (add-one layer) ∙ before_next c h.headed layer more in omega (arith, one, b.wide) in
          record {
            inside = omega arith;
            wide = e;
            rest = sym (drop-map gate_in count rows) ∙ ap (drop count) b.rest ∙ drop-drop count from (all_of c) ∙ ap (λ (n : ℕ). drop n (all_of c)) before;
            left = opens ∙ legal_first _ _ q;
          }
