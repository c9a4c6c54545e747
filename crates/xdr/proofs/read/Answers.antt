-- `read` meets its contract: counts from the scan mean that the arrays are there with so many words; a refusal leaves nothing to write.
use Rattle.std.proofs.Common.{arith, ℕ, List, length, sym, ap, ◌∙◌}
use Rattle.std.proofs.Math.Option.{Option}
use Rattle.std.proofs.lemmas.Grind.{common_steps}
use Rattle.lists.specs.Buffer.{over}
use Rattle.xdr.specs.Read.{called, words_of}
use Rattle.xdr.proofs.Answers.{counted, refused_none, read_short, read_whole, read_none}
use Rattle.xdr.proofs.read.Goals as goal

pub returns-in_err-counts : goal.returns-in_err-counts
returns-in_err-counts c =
    let args = c.args in
    let n = args.number in
    let bytes = args.bytes.now in
    let e = c.in_err-counts.ensures {u = tt} in
    let left = read_none n bytes args.buffer.now (refused_none _ (called n bytes) e) in
    record { answer = let whole = e ∙ left.0 in grind (arith, common_steps, whole); words = left.1 }

pub returns-then-buffer-total : goal.returns-then-buffer-total
returns-then-buffer-total c =
    let args = c.args in
    let k = counted args.number _ _ _ _ args.bytes.now (c.in_ok-counts.ensures {u = tt}) in
    let all = read_short args.number args.bytes.now args.buffer.now (omega arith) in
    record { answer = all.0; words = all.1 }

pub write-requires : goal.write-requires
write-requires c =
    let k = counted c.args.number _ _ _ _ c.args.bytes.now (c.in_ok-counts.ensures {u = tt}) in
    (k.found, omega (arith, ap (λ (f : Option (List (List ℕ))). length (words_of f)) k.same))

pub returns : goal.returns
returns c =
    let args = c.args in
    let buffer = args.buffer.now in
    let e = c.in_ok-counts.ensures {u = tt} in
    let k = counted args.number _ _ _ _ args.bytes.now e in
    let w = read_whole args.number args.bytes.now buffer (omega arith) in
    record { answer = e ∙ w.0; words = c.write.ensures ∙ ap (λ (f : Option (List (List ℕ))). over (words_of f) buffer) (sym k.same) ∙ w.1 }
