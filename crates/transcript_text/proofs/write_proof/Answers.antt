-- `write_proof` meets its contract: the output's line, then those of all rounds.
use Rattle.text.proofs.Writing.{wrote_more}
use Rattle.transcript_text.proofs.write_proof.Goals as goal

pub returns : goal.returns
returns c =
    let first = c.put_line-at in
    wrote_more _ _ _ _ first.ensures _ _ _ c.write_messages.ensures
