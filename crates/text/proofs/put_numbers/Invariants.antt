-- `put_numbers` meets its contract: after i turns the first i numbers are written.
use Rattle.std.proofs.Common.{take}
use Rattle.text.specs.Lines.{numbers_text}
use Rattle.text.specs.Wrote.{Wrote}
use Rattle.text.proofs.put_numbers.Given as goal

abbrev pub invariant-loop-number : goal.invariant-loop-number
invariant-loop-number l = Wrote (numbers_text (take l.number-index l.numbers)) l.initial.buffer l.buffer l.at
