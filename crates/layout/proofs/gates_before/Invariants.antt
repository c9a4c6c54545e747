-- `gates_before` meets its contract: before word i of the exponents the count is of the gates of the layers before i, and layer i is `own` wide.
use Prim.Native.Nat.{◌≤◌, ◌*◌}
use mathlib.Core.Path.{◌≡◌}
use Rattle.circuit.specs.Limits.{max_width}
use Rattle.circuit.specs.Circuit.{exponent_at, width_of, gates_before}
use Rattle.circuit.specs.Sized.{LayerOf}
use Rattle.layout.proofs.gates_before.Given as goal

abbrev pub invariant-loop-k : goal.invariant-loop-k
invariant-loop-k l =
    (l.count ≤ l.k-index * max_width) × (l.own ≡ width_of (exponent_at l.circuit l.k-index))
    × (LayerOf l.circuit l.layer → l.count ≡ gates_before l.circuit l.k-index)
