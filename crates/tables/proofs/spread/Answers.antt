-- `spread` meets its contract: of each pair it takes the weight, and gives what 1 - z and what z takes of it.
use Rattle.std.proofs.Common.{rules, arith, ℕ, ap, ◌∙◌}
use Rattle.field.specs.Modulus.{modulus, numbers}
use Rattle.field.proofs.Word.{by_residue}
use Rattle.multilinear.proofs.Slope.{by_rest}
use Rattle.tables.proofs.Pairing.{spread_of}
use Rattle.tables.proofs.spread.Goals as goal

pub returns : goal.returns
returns c =
    let p : ℕ = modulus c.args.f in
    let N = numbers c.args.f in
    let z = c.args.z in
    let by = c.multiplier-by.result.by in
    let taken = λ (w : ℕ). by_residue p z by w c.multiplier-by.ensures in
    c.each_pair.ensures (λ w y. N.sub w (N.mul by w)) (λ w y. N.mul by w) (λ w y r q. search rules)
    ∙ spread_of N _ _ c.args.table.now z (λ w y. ap (N.sub w) (taken w) ∙ by_rest p (omega arith) z w) (λ w y. taken w)
