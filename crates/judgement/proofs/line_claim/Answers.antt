-- `line_claim` meets its contract: the point that stands is the one whose coordinates were read.
use Rattle.std.proofs.Common.{ℕ, List, [], take, get_or, ap₂, ◌∙◌}
use Rattle.algebra.specs.Numbers.{words}
use Rattle.circuit.proofs.Layers.{prime_modulus}
use Rattle.sumcheck.specs.Summand.{combined}
use Rattle.summand.specs.Gates.{gates_in}
use Rattle.judgement.proofs.Lines.{line_claim_lem}
use Rattle.judgement.proofs.line_claim.Goals as goal

pub returns : goal.returns
returns c h is =
    let s = c.stand-stand.result in
    let gates = c.gates_above-gates.result.now in
    line_claim_lem _ _ _ _ h is s (c.stand-stand.ensures.stands h) gates c.gates_above-gates.ensures _ _ _
    (c.combined.ensures
    ∙ ap₂ (λ (p : ℕ) (z : List ℕ). combined (words p) (gates_in gates) z (take s.own (get_or s.points 0 [])) (take s.own (get_or s.points 1 [])) c.args.x c.args.y)
    (prime_modulus _ h.legal _ c.field-f.ensures) c.coordinates-point.ensures.all)
