-- `write` meets its contract. Invariant: the words done stand over the buffer, the arrays ahead are all in the rest, and together they are all words.
use Rattle.std.proofs.Common.{◌≡◌, ℕ, ◌+◌, ◌-◌, ◌≤◌, List, ◌++◌, length}
use Rattle.std.proofs.Math.Option.{IsSome}
use Rattle.lists.specs.Buffer.{over}
use Rattle.xdr.specs.Read.{arrays, words_of}
use Rattle.xdr.proofs.write.Given as goal

abbrev pub invariant-loop : goal.invariant-loop
invariant-loop l =
    let ahead = arrays (l.number - l.counter) l.rest in
    (done : List ℕ) × (length done ≡ l.to) × (l.buffer ≡ over done l.initial.buffer)
    × (l.to + length (words_of ahead) ≤ length l.initial.buffer) × IsSome ahead
    × (words_of (arrays l.number l.bytes) ≡ done ++ words_of ahead)
