-- `halves` meets its contract, by recursion on the number of coordinates: with none there is the first value alone, with one the halves have a
-- value each, and otherwise the two calls give the halves' coefficients along the rest of the line.
use Rattle.std.proofs.Common.{rules, arith, ℕ, ◌<◌, [], ◌∷◌, length, set, ap, ◌∙◌}
use Rattle.field.specs.Modulus.{numbers}
use Rattle.line.proofs.Parts.{take_front, from_first, length_half, from_halves, from_values}
use Rattle.line.proofs.+halves.Goals as goal

pub returns-in_default : goal.returns-in_default
returns-in_default t c =
    let room = c.requires.2 in
    ap (set c.args.row.now 0) c.word.ensures
    ∙ from_first (numbers c.args.f) c.args.values.now c.args.u.now c.args.v.now c.args.row.now (omega arith) (omega arith)

pub returns-then-is_empty : goal.returns-then-is_empty
returns-then-is_empty t c =
    let args = c.args in
    let room = c.requires.2 in
    (rw (c.word-then-is_empty.ensures, c.sub-d.ensures, c.split_at.ensures.front) at c.along.ensures)
    ∙ from_values (numbers args.f) args.values.now args.u.now args.v.now c.requires.0 (search rules) (search rules)
    args.row.now _ (omega arith) (rw c.split_at.ensures.back at (ap (λ (n : ℕ). n ∷ []) c.word-then-is_empty-2.ensures))

pub returns : goal.returns
returns t c =
    let args = c.args in
    let same = c.requires.0 in
    let some : 0 < length args.u.now = search rules in
    (rw c.sub-d.ensures at c.along-2.ensures)
    ∙ from_halves (numbers args.f) args.values.now args.u.now args.v.now same some
    args.row.now c.halves.new.row _ (rw c.split_at.ensures.front at c.halves.ensures)
    (rw c.split_at.ensures.back at (take_front _ _ c.halves-2.new.row (length args.u.now) c.halves-2.ensures
    (length_half (numbers args.f) args.values.now args.u.now args.v.now same some _)))
