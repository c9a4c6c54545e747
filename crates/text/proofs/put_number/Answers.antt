-- `put_number` meets its contract: a space, and behind it the fewest digits that hold the number.
use Rattle.std.proofs.Common.{ap, ◌∙◌, List, ◌∷◌, ℕ, arith}
use Rattle.text.specs.Lines.{space, decimal}
use Rattle.text.proofs.Writing.{wrote_put, wrote_as, wrote_more}
use Rattle.text.proofs.Decimal.{fewest_digits}
use Rattle.text.proofs.put_number.Goals as goal

pub returns : goal.returns
returns c =
    let call = c.decimal-count in
    let same = call.ensures.digits ∙ fewest_digits 9 c.from.result call.result (omega arith) call.ensures.len ∙ ap decimal c.from.ensures in
    let first = wrote_put _ _ _ _ c.put-at.ensures.count c.put-at.ensures.items in
    let second = wrote_put _ _ _ _ c.put.ensures.count c.put.ensures.items in
    wrote_as _ _ _ _ (wrote_more _ _ _ _ first _ _ _ second) _ (ap (λ (ds : List ℕ). space ∷ ds) same)
