-- `exponents` meets its contract: from behind the header to where the gates start, cut to the list.
use mathlib.Core.Path.{ap, ◌∙◌}
use Prim.Native.Nat.{ℕ, min}
use lib.ListN.{length}
use Rattle.layout.proofs.Readers.{exponents_part}
use Rattle.layout.proofs.exponents.Goals as goal

pub returns : goal.returns
returns c =
    let l = c.args.circuit.now in
    exponents_part l _ _ c.min-start.ensures
    (c.min-end.ensures ∙ ap (λ (n : ℕ). min n (length l)) c.gates_start.ensures.0)
