-- `checksum` meets its contract: what is done, and then what is left, have the checksum of the whole.
use Rattle.std.proofs.Common.{◌≡◌, ◌<◌, drop}
use Rattle.cases.specs.Checksum.{modulus, checksum_from}
use Rattle.cases.proofs.checksum.Given as goal

abbrev pub invariant-loop-word : goal.invariant-loop-word
invariant-loop-word l = record { small : l.h < modulus; same : checksum_from l.h (drop l.word-index l.words) ≡ checksum_from 0 l.words }
