-- `put_words` meets its contract: after i turns the first i words stand over the buffer.
use Rattle.std.proofs.Common.{length, take}
use Rattle.lists.proofs.Storing.{Stored}
use Rattle.xdr.specs.Read.{words}
use Rattle.xdr.proofs.put_words.Given as goal

abbrev pub invariant-loop-i : goal.invariant-loop-i
invariant-loop-i l = Stored (take (length l.initial.buffer) (words l.bytes)) l.initial.buffer l.buffer l.i
