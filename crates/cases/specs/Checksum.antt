-- The checksum of a list of words. A word that is changed always changes it: 31 has an inverse modulo this prime, and words are below it.
-- Assumes nothing.
use Rattle.std.specs.Prelude.{ℕ, ◌+◌, ◌*◌, ◌%◌, List, [], ◌∷◌}

abbrev pub modulus : ℕ
modulus = 100000000000000003

-- the checksum of words that follow those of checksum h
unfoldable pub checksum_from : ℕ → List ℕ → ℕ
checksum_from h [] = h
checksum_from h (w ∷ l) = checksum_from ((h * 31 + w) % modulus) l

abbrev pub checksum_of : List ℕ → ℕ
checksum_of l = checksum_from 0 l
