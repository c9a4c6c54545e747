-- `fold` meets its contract: of each pair it makes what stands between them at r, and leaves the second.
use Rattle.std.proofs.Common.{rules, arith, ℕ, refl, ap, ◌∙◌}
use Rattle.field.specs.Modulus.{modulus, numbers}
use Rattle.field.proofs.Word.{by_residue}
use Rattle.multilinear.proofs.Slope.{by_slope}
use Rattle.tables.proofs.Pairing.{fold_of}
use Rattle.tables.proofs.fold.Goals as goal

pub returns : goal.returns
returns c =
    let p : ℕ = modulus c.args.f in
    let N = numbers c.args.f in
    let by = c.multiplier-by.result.by in
    c.each_pair.ensures (λ x y. N.add x (N.mul by (N.sub y x))) (λ x y. y) (λ x y r q. search rules)
    ∙ fold_of N _ _ c.args.table.now c.args.r
    (λ x y. ap (N.add x) (by_residue p c.args.r by (N.sub y x) c.multiplier-by.ensures) ∙ by_slope p (omega arith) c.args.r x y) (λ x y. refl)
