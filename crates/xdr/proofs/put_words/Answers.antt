-- `put_words` meets its contract: after i turns the first i words stand over the buffer.
use Rattle.std.proofs.Common.{arith, ◌∙◌, length-take}
use Rattle.lists.proofs.Storing.{next_held, end_held}
use Rattle.xdr.specs.Read.{words}
use Rattle.xdr.proofs.Words.{length_words, word_of}
use Rattle.xdr.proofs.put_words.Goals as goal

pub loop-i-preserved : goal.loop-i-preserved
loop-i-preserved c =
    let bytes = c.args.bytes.now in
    let size = length_words bytes in
    let chunks = c.as_chunks.result.0.now in
    let cut = length-take c.min-count.result chunks in
    next_held (words bytes) _ c.loop-i.invariant 0 _ (omega arith)
    (c.from_be_bytes.ensures ∙ word_of bytes chunks c.min-count.result c.loop-i.i c.as_chunks.ensures.front c.loop-i-test.true)

pub returns-clause-words : goal.returns-clause-words
returns-clause-words c =
    let size = length_words c.args.bytes.now in
    let cut = length-take c.min-count.result c.as_chunks.result.0.now in
    end_held (words c.args.bytes.now) _ c.loop-i.invariant (omega arith)
