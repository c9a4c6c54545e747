-- Arrays of unsigned integers as bytes (RFC 4506, 4.2 and 4.13): a count, then that many words, four bytes each, high byte first.
-- Assumes nothing.
use Rattle.std.specs.Prelude.{ℕ, zero, suc, ◌+◌, ◌*◌, Bool, cond, ◌&&◌, length, get_or, take, drop, leb, eqb, Result, Ok, Err}
use Rattle.std.proofs.Math.Option.{Option, none, some}
use mathlib.Core.List.{List, [], ◌∷◌, flatten}
use Rattle.lists.specs.Buffer.{over}
use Rattle.refusal.specs.declared.Cause.{Cause}
use Rattle.refusal.specs.Number.{number_of}
use Rattle.xdr.specs.Limits.{max_count}

-- WORDS
-- four bytes, high byte first
abbrev pub word : ℕ → ℕ → ℕ → ℕ → ℕ
word a b c d = ((a * 256 + b) * 256 + c) * 256 + d

-- the words of a list of bytes; fewer than four bytes at its end are none
unfoldable pub words : List ℕ → List ℕ
words [] = []
words (a ∷ []) = []
words (a ∷ b ∷ []) = []
words (a ∷ b ∷ c ∷ []) = []
words (a ∷ b ∷ c ∷ d ∷ l) = word a b c d ∷ words l

-- the first word of a list of bytes, an array's count; 0 where there is none
unfoldable pub first_word : List ℕ → ℕ
first_word l = get_or (words l) 0 0

-- ARRAYS
-- the bytes of an array of so many words, its count included
abbrev pub size : ℕ → ℕ
size count = 4 + 4 * count

-- Whether the bytes begin with an array: its count is not too large, and nothing of it is cut off. Of fewer than four bytes
-- this does not hold, as the count itself takes four.
unfoldable pub whole : List ℕ → Bool
whole l = leb (first_word l) max_count && leb (size (first_word l)) (length l)

abbrev pub prepend : List ℕ → Option (List (List ℕ)) → Option (List (List ℕ))
prepend ws none = none
prepend ws (some ls) = some (ws ∷ ls)

-- the arrays, as many as are called for, that make up these bytes with none left over; none where the bytes are not such arrays
unfoldable pub arrays : ℕ → List ℕ → Option (List (List ℕ))
arrays zero l = cond (eqb (length l) 0) (some []) none
arrays (suc n) l =
    cond (whole l) (prepend (words (take (4 * first_word l) (drop 4 l))) (arrays n (drop (size (first_word l)) l))) none

-- the arrays that are read: none unless one to four are called for
unfoldable pub called : ℕ → List ℕ → Option (List (List ℕ))
called number l = cond (leb 1 number && leb number 4) (arrays number l) none

-- READ
-- an answer in the specification's terms: the number of a refusal, or four counts
pub data Answer : Type 0 where
  refused : ℕ → Answer
  counts : ℕ → ℕ → ℕ → ℕ → Answer

abbrev pub answer_of : Result (List ℕ) Cause → Answer
answer_of (Ok cs) = counts (get_or cs 0 0) (get_or cs 1 0) (get_or cs 2 0) (get_or cs 3 0)
answer_of (Err cause) = refused (number_of cause)

-- the count of the array with this index, 0 where there is none
abbrev pub count_at : List (List ℕ) → ℕ → ℕ
count_at ls i = length (get_or ls i [])

-- the answer where the buffer is long enough
unfoldable pub counts_of : Option (List (List ℕ)) → Answer
counts_of none = refused 20
counts_of (some ls) = counts (count_at ls 0) (count_at ls 1) (count_at ls 2) (count_at ls 3)

-- the words of all arrays in order
unfoldable pub words_of : Option (List (List ℕ)) → List ℕ
words_of none = []
words_of (some ls) = flatten ls

-- whether the buffer is long enough for all words; where there are no arrays it need not be
abbrev pub room : ℕ → List ℕ → List ℕ → Bool
room number bytes buffer = leb (length (words_of (called number bytes))) (length buffer)

-- what reading answers, from the given number, the bytes and the buffer
unfoldable pub read_answer : ℕ → List ℕ → List ℕ → Answer
read_answer number bytes buffer = cond (room number bytes buffer) (counts_of (called number bytes)) (refused 10)

-- what it leaves in the buffer
unfoldable pub read_buffer : ℕ → List ℕ → List ℕ → List ℕ
read_buffer number bytes buffer = cond (room number bytes buffer) (over (words_of (called number bytes)) buffer) buffer
