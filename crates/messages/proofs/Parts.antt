-- The part of all layers' values that the code takes for a layer: it is there, and holds the layer's values.
-- Assumes nothing.
use Prim.Native.Nat.{ℕ, ◌+◌, ◌-◌, ◌*◌, ◌^◌, ◌≤◌, ◌<◌}
use mathlib.Core.Path.{◌≡◌, sym, ap, ap₂, ◌∙◌, subst}
use mathlib.Core.List.{List}
use native.Mathlib.Omega.{arith}
use lib.Pow.{pow_pos}
use lib.ListN.{length, length-take, length-drop, take, drop}
use Rattle.lists.specs.Buffer.{over}
use Rattle.circuit.specs.Limits.{max_depth, max_width}
use Rattle.circuit.specs.Circuit.{exponent_at, width_of, gates_before}
use Rattle.circuit.proofs.Sized.{width_small, exponent_width}
use Rattle.layout.specs.Gates.{GatesBefore}
use Rattle.standing.proofs.Rounds.{own_layer}
use Rattle.protocol.specs.Rounds.{place}
use Rattle.protocol.specs.Prove.{message_from}
use Rattle.messages.specs.Writing.{WritesFrom, values_in, Writable}

-- the part that the code takes for a layer ends at a small place
pub part_small : (c : List ℕ) (layer from k w : ℕ) → GatesBefore c layer from → w ≡ width_of k → from + w ≤ max_depth * max_width + max_width
part_small c layer from k w before ew = omega (arith, before.few, ew, width_small k)

-- it is the layer's
module _ (c : List ℕ) (layer round : ℕ) (past values buffer : List ℕ) (h : Writable c (place layer round) past (values_in c layer values) buffer) (from w : ℕ)
    (before : GatesBefore c layer from) (ew : w ≡ width_of (exponent_at c layer)) where
  at_from : from ≡ gates_before c layer
  at_from = before.counted (own_layer c layer round past h.there)

  wide : w ≡ 2 ^ exponent_at c layer
  wide = ew ∙ exponent_width c layer (own_layer c layer round past h.there)

  pub part_inside : from + w ≤ length values
  part_inside =
      let n : ℕ = 2 ^ exponent_at c layer in
      let m : ℕ = gates_before c layer in
      let some : 0 < n = pow_pos (exponent_at c layer) in
      omega (arith, at_from, wide, some, h.sized, length-take n (drop m values), length-drop m values)

  -- the words that are read there
  module _ (own : List ℕ) (read : own ≡ take (from + w - from) (drop from values)) where
    part_values : own ≡ values_in c layer values
    part_values =
        let cut : from + w - from ≡ w = omega arith in
        read ∙ ap₂ (λ (n m : ℕ). take n (drop m values)) (cut ∙ wide) at_from

    part_writable : Writable c (place layer round) past own buffer
    part_writable = subst (λ (vs : List ℕ). Writable c (place layer round) past vs buffer) (sym part_values) h

    -- and what is written from them is the message of the layer's values
    pub part_written : {after : List ℕ} → WritesFrom c (place layer round) past own buffer after
        → after ≡ over (message_from c (values_in c layer values) (place layer round) past) buffer
    part_written written =
        written part_writable ∙ ap (λ (vs : List ℕ). over (message_from c vs (place layer round) past) buffer) part_values
