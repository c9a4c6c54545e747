-- `Cut::at` meets its contract: the number of gates of an exponent within the limit is its power of two.
use Rattle.std.proofs.Common.{rules, arith, ◌≤◌, ◌∙◌}
use Rattle.circuit.proofs.Sized.{width_of_lem}
use Rattle.sums.proofs.wires.Cut.at.Goals as goal
use Rattle.sums.proofs.wires.Cut.at.Goals.{then-next, else-next}

pub invariant_of-result : goal.invariant_of-result
invariant_of-result c =
    let size = c.width-size.ensures ∙ width_of_lem _ (search rules) in
    let part : c.if-next.half ≤ c.width-size.result = elim c.if-next.branch [ then-next w ↦ omega arith | else-next w ↦ omega arith ] in
    record { within = search rules; power = size; part = part }
