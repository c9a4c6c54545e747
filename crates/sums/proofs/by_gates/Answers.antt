-- `by_gates` meets its contract. The loop keeps `Passed`: the three sums over the gates passed, from the last on. The measure is the number
-- of gates to come.
use Rattle.field.specs.Modulus.{modulus}
use Rattle.sums.proofs.Counting.{start, step, end}
use borrow.Author.Rules.{rules}
use Rattle.sums.proofs.by_gates.Goals as goal

pub loop-a-init : goal.loop-a-init
loop-a-init c =
    let p = modulus c.args.layer.f in
    start _ _ _ _ _ (c.empty-zeros.ensures p) (c.empty-ones.ensures p) (c.empty-squares.ensures p)

pub loop-a-preserved : goal.loop-a-preserved
loop-a-preserved c =
    rw (c.plus-zeros.ensures, c.plus-ones.ensures, c.plus-squares.ensures)
    (step _ _ _ _ _ c.loop-a.invariant (search rules)
    record {
      weighed = c.word.ensures;
      on_left = c.wire-l.ensures;
      on_right = c.wire-r.ensures;
      counts = c.count_gate-counts.ensures;
    })

pub returns : goal.returns
returns c =
    rw (c.sub-2.ensures, c.sub.ensures, c.residue-constant.ensures, c.residue.ensures, c.residue-square.ensures)
    (end _ _ _ _ _ c.loop-a.invariant (search rules))
