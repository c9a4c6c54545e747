-- `write_text` meets its contract: bytes that are not the program's arrays are refused, and the others' parts are its lists.
use Rattle.std.proofs.Common.{ℕ}
use lib.ListN.{replicate, length-replicate}
use Rattle.text.proofs.Writing.{wrote_as}
use Rattle.printing.specs.Limits.{max_words}
use Rattle.printing.proofs.Parts.{parts}
use Rattle.programs.proofs.Texts.{printed_unfit, printed_parts}
use Rattle.programs.proofs.write_text.Goals as goal

pub write_parts-requires : goal.write_parts-requires
write_parts-requires c =
    (parts c.arrays_of.result c.args.bytes.now (replicate max_words 0) (length-replicate {A = ℕ} max_words 0) _ _ _ _ _
    c.in-Ok.ensures.answer c.in-Ok.ensures.words).inside

pub returns-in-Err : goal.returns-in-Err
returns-in-Err c =
    wrote_as _ _ _ _ c.write_refused.ensures _ (printed_unfit _ _ _ c.arrays_of.ensures _ c.in-Err.ensures.answer)

pub returns-in-Ok : goal.returns-in-Ok
returns-in-Ok c =
    let read = c.in-Ok.ensures in
    wrote_as _ _ _ _ c.write_parts.ensures _
    (printed_parts _ _ _ c.arrays_of.ensures _ _ _ _ _
    (parts _ _ (replicate max_words 0) (length-replicate {A = ℕ} max_words 0) _ _ _ _ _ read.answer read.words))
