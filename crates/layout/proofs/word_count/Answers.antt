-- `word_count` meets its contract: three words a gate, behind the exponents.
use mathlib.Core.Path.{ap, ◌∙◌}
use native.Mathlib.Omega.{arith}
use Rattle.circuit.specs.Circuit.{gates_before, word_count}
use Rattle.circuit.specs.Sized.{LayerOf}
use Rattle.circuit.proofs.Gates.{count_all}
use Rattle.layout.proofs.word_count.Goals as goal

pub returns : goal.returns
unfolding word_count
returns c h =
    let l = c.args.circuit.now in
    let deep = c.depth.ensures.0 in
    let whole : LayerOf l c.depth.result = record { headed = h; inside = omega (arith, deep) } in
    let all = c.gates_before.ensures.counted whole ∙ ap (gates_before l) deep ∙ count_all l h in
    omega (arith, all, c.gates_start.ensures.0)
