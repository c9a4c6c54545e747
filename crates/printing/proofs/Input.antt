-- The arrays that a program reads: bytes that may be read hold no more words than the array, so that reading never lacks room.
-- Assumes nothing.
use Prim.Native.Nat.{ℕ, ◌+◌, ◌*◌, ◌≤◌, ◌<◌}
use mathlib.Core.Path.{◌≡◌, refl, sym}
use mathlib.Core.Bool.{Bool, true, false, cond, ◌&&◌}
use mathlib.Core.Option.{none}
use mathlib.Core.List.{List}
use native.Mathlib.Omega.{arith}
use lib.Dec.{leb}
use lib.ListN.{length, take}
use lib.Seq.{take_all, length-take-le}
use borrow.Author.Tests.{le-leb, lt-leb, leb-true, leb-false}
use Rattle.lists.specs.Buffer.{over}
use Rattle.xdr.specs.Read.{arrays, called, refused, counts_of, words_of, read_answer, read_buffer}
use Rattle.xdr.proofs.Found.{words_few}
use Rattle.xdr.proofs.Answers.{read_whole}
use Rattle.printing.specs.Limits.{max_bytes, max_words}
use Rattle.printing.specs.Input.{given}

-- too many bytes hold no lists
pub long_unfit : (n : ℕ) (bytes : List ℕ) → max_bytes < length bytes → refused 20 ≡ counts_of (given n bytes)
unfolding given counts_of
long_unfit n bytes h = rw (lt-leb (length bytes) max_bytes h) refl

module _ (n : ℕ) (bytes buffer : List ℕ) where
  pub long_kept : max_bytes < length bytes → buffer ≡ over (words_of (given n bytes)) buffer
  unfolding given words_of
  long_kept h = rw (lt-leb (length bytes) max_bytes h) refl

  few_words : 4 * length (words_of (called n bytes)) ≤ length bytes
  unfolding called words_of
  few_words = go (leb 1 n && leb n 4)
    where
      go : (b : Bool) → 4 * length (words_of (cond b (arrays n bytes) none)) ≤ length bytes
      go true = words_few n bytes
      go false = omega arith

  pub words_fit : 4 * length (words_of (given n bytes)) ≤ max_bytes
  unfolding given words_of
  words_fit = go (leb (length bytes) max_bytes) refl
    where
      go : (b : Bool) → leb (length bytes) max_bytes ≡ b → 4 * length (words_of (cond b (called n bytes) none)) ≤ max_bytes
      go true e = omega (arith, few_words, leb-true (length bytes) max_bytes e)
      go false e = omega arith

  pub read_short : length bytes ≤ max_bytes → max_words ≤ length buffer
      → (read_answer n bytes buffer ≡ counts_of (given n bytes)) × (read_buffer n bytes buffer ≡ over (words_of (given n bytes)) buffer)
  unfolding given
  read_short h room =
      let whole = read_whole n bytes buffer (omega (arith, few_words)) in
      rw (le-leb (length bytes) max_bytes h) (sym whole.0, sym whole.1)

-- of bytes that are too many, none behind those that are read counts
pub given_front : (n : ℕ) (bytes : List ℕ) → given n (take (max_bytes + 1) bytes) ≡ given n bytes
unfolding given
given_front n bytes = go (leb (length bytes) max_bytes) refl
  where
    go : (b : Bool) → leb (length bytes) max_bytes ≡ b
        → cond (leb (length (take (max_bytes + 1) bytes)) max_bytes) (called n (take (max_bytes + 1) bytes)) none ≡ cond (leb (length bytes) max_bytes) (called n bytes) none
    go true e = rw (take_all (max_bytes + 1) bytes (omega (arith, leb-true (length bytes) max_bytes e)))
    go false e =
        let long : max_bytes < length bytes = leb-false (length bytes) max_bytes e in
        let size : length (take (max_bytes + 1) bytes) ≡ max_bytes + 1 = length-take-le (max_bytes + 1) bytes (omega (arith, long)) in
        rw (lt-leb (length (take (max_bytes + 1) bytes)) max_bytes (omega (arith, size)), lt-leb (length bytes) max_bytes long)
