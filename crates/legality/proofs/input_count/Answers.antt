-- `input_count` meets its contract: the input is as wide as layer D.
use Prim.Native.Nat.{ℕ, ◌^◌}
use mathlib.Core.Path.{ap, ◌∙◌}
use native.Mathlib.Nat.{le_refl}
use Rattle.circuit.specs.Circuit.{exponent_at, width_of}
use Rattle.circuit.specs.Circuit.{depth as depth_of}
use Rattle.circuit.proofs.Sized.{exponent_width, layer_of, last_exponent}
use Rattle.legality.proofs.input_count.Goals as goal

pub returns : goal.returns
returns c =
    let l = c.args.circuit.now in
    c.layer_width.ensures ∙ ap (λ (i : ℕ). width_of (exponent_at l i)) c.depth.ensures.0
    ∙ exponent_width l (depth_of l) (layer_of l c.requires (depth_of l) (le_refl (depth_of l))) ∙ ap (λ (k : ℕ). 2 ^ k) (last_exponent l c.requires)
