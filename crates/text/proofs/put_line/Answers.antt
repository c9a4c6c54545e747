-- `put_line` meets its contract: the word, then the numbers, then the line's end.
use Rattle.text.specs.Lines.{line_text}
use Rattle.text.proofs.Writing.{wrote_put, wrote_more}
use Rattle.text.proofs.put_line.Goals as goal

pub returns : goal.returns
unfolding line_text
returns c =
    let word = wrote_put _ _ _ _ c.put-first.ensures.count c.put-first.ensures.items in
    let both = wrote_more _ _ _ _ word _ _ _ c.put_numbers.ensures in
    wrote_more _ _ _ _ both _ _ _ (wrote_put _ _ _ _ c.put.ensures.count c.put.ensures.items)
