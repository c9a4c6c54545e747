-- `scan` meets its contract. Invariant: the arrays done, put before those found in the rest, are all arrays, and their counts stand over zeros.
use Rattle.std.proofs.Common.{◌≡◌, ◌-◌, List, ℕ, length, map, take}
use Rattle.lists.specs.Buffer.{over}
use Rattle.xdr.specs.Read.{arrays}
use Rattle.xdr.proofs.Found.{zeros, after}
use Rattle.xdr.proofs.scan.Given as goal

abbrev pub invariant-loop-count : goal.invariant-loop-count
invariant-loop-count l =
    (done : List (List ℕ)) × (length done ≡ l.count-index) × (l.count-items ≡ over (map length done) (take l.number zeros))
    × (arrays l.number l.bytes ≡ after done (arrays (l.number - l.count-index) l.rest))
