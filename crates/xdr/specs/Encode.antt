-- RFC 4506's encoder of arrays of unsigned integers.
-- Assumes nothing.
use Rattle.std.specs.Prelude.{ℕ, ◌/◌, ◌%◌, length}
use mathlib.Core.List.{List, [], ◌∷◌, ◌++◌, flat_map}

-- the four bytes of a word, high byte first
unfoldable pub bytes_of : ℕ → List ℕ
bytes_of w = w / 16777216 % 256 ∷ w / 65536 % 256 ∷ w / 256 % 256 ∷ w % 256 ∷ []

-- an array: its count, then its words
unfoldable pub encode_array : List ℕ → List ℕ
encode_array ws = bytes_of (length ws) ++ flat_map bytes_of ws

-- arrays, one directly after the other
unfoldable pub encode : List (List ℕ) → List ℕ
encode ls = flat_map encode_array ls
