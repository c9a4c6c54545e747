-- Lines as the specification prints them, in ASCII: "Each line is a word, then decimal numbers", single spaces between them.
-- Assumes nothing.
use Rattle.std.specs.Prelude.{ℕ, zero, suc, ◌+◌, ◌/◌, ◌%◌, cond, List, [], ◌∷◌, ◌++◌, ltb}
use Prim.Native.Char.{code}
use Prim.Native.String.{String, [] as none, ◌∷◌ as ◌then◌}

-- the bytes of a text in ASCII
abbrev pub ascii : String → List ℕ
ascii none = []
ascii (c then s) = code c ∷ ascii s

abbrev pub space : ℕ
space = code " "

abbrev pub line_end : ℕ
line_end = code "\n"

-- the digit of a number below ten
abbrev pub digit : ℕ → ℕ
digit d = code "0" + d

-- a number of at most n + 1 digits, the highest first, with no zero in front
unfoldable pub digits_up_to : ℕ → ℕ → List ℕ
digits_up_to zero x = digit (x % 10) ∷ []
digits_up_to (suc n) x = cond (ltb x 10) (digit (x % 10) ∷ []) (digits_up_to n (x / 10) ++ (digit (x % 10) ∷ []))

-- a word in decimal: it has at most ten digits
abbrev pub decimal : ℕ → List ℕ
decimal x = digits_up_to 9 x

abbrev pub number_text : ℕ → List ℕ
number_text x = space ∷ decimal x

unfoldable pub numbers_text : List ℕ → List ℕ
numbers_text [] = []
numbers_text (x ∷ xs) = number_text x ++ numbers_text xs

unfoldable pub line_text : List ℕ → List ℕ → List ℕ
line_text word xs = word ++ numbers_text xs ++ (line_end ∷ [])
