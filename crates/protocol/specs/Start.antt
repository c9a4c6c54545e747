-- Where the walk starts: "k_0 coins are drawn before any message and form the first point; the first standing claim is the output list's extension
-- there." Both are read off the coins that come before any message.
-- Assumes nothing.
use Rattle.std.specs.Prelude.{ℕ, ◌+◌, List, take, drop}
use Rattle.algebra.specs.Numbers.{words}
use Rattle.multilinear.specs.Extension.{extension}
use Rattle.circuit.specs.Circuit.{prime_of, output_exponent}

-- the coins before any message form the first point
abbrev pub first_point : List ℕ → List ℕ → List ℕ
first_point c cs = take (output_exponent c) cs

-- the coins of the messages
abbrev pub later_coins : List ℕ → List ℕ → List ℕ
later_coins c cs = drop (output_exponent c) cs

-- the coins before message j, from 0: "The honest message number j, from 0, reads k_0 + j coins"
abbrev pub coins_to : List ℕ → ℕ → List ℕ → List ℕ
coins_to c j cs = take (output_exponent c + j) cs

-- the extension of a list of outputs at a point
unfoldable pub claim_at : List ℕ → List ℕ → List ℕ → ℕ
claim_at c ys us = extension (words (prime_of c)) ys us

-- the first standing claim, for a list of outputs
abbrev pub first_claim : List ℕ → List ℕ → List ℕ → ℕ
first_claim c ys cs = claim_at c ys (first_point c cs)
