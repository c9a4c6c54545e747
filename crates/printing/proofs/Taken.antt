-- What a buffer takes of an input whose bytes are known: as much as it holds.
-- Assumes nothing.
use Rattle.std.proofs.Common.{◌≡◌, ℕ, ◌≤◌, ◌<◌, List, [], ◌++◌, length, take, sym, ap, ◌∙◌, arith, length-take-le, take_all, append-nil}
use Rattle.std.proofs.Math.Nat.{eq-or-lt_of_le}
use Rattle.std.specs.Prelude.{Option, Result, Ok, Err, None, Some, IfOk, IfSome}
use Rattle.std.specs.Io.{ReadsAtMost}
use Rattle.std.specs.Io.KnownBytes.{Consumes, IsAtEnd}
use mathlib.Core.Logic.{◌⊎◌, inl, inr}
use lib.Seq.{take-append_seam}

-- what was taken before the buffer was full, or the input at its end, is the front of the input
known_front : (xs ys bytes : List ℕ) (n : ℕ) → n ≤ length bytes → xs ≡ take n bytes ++ ys → (n < length bytes → ys ≡ [])
    → take n bytes ≡ take (length bytes) xs
known_front xs ys bytes n within from end = go (eq-or-lt_of_le within)
  where
    size : length (take n bytes) ≡ n
    size = length-take-le n bytes within

    go : (n ≡ length bytes) ⊎ (n < length bytes) → take n bytes ≡ take (length bytes) xs
    go (inl full) = sym (ap (λ (k : ℕ). take k xs) (sym full ∙ sym size) ∙ ap (take (length (take n bytes))) from ∙ take-append_seam (take n bytes) ys)
    go (inr less) =
        let whole : xs ≡ take n bytes = from ∙ ap (λ (l : List ℕ). take n bytes ++ l) (end less) ∙ append-nil (take n bytes) in
        sym whole ∙ sym (take_all (length bytes) xs (omega (arith, ap length whole, size)))

pub front_taken : {E : Type 0} (r : Result ℕ E) (a b : Option (List ℕ)) (bytes : List ℕ) (most : ℕ) → length bytes ≡ most → ReadsAtMost r bytes
    → IfOk r (λ n. Consumes a b (take n bytes)) → IfOk r (λ n. n < length bytes → IsAtEnd b)
    → IfOk r (λ n. IfSome a (λ xs. take n bytes ≡ take most xs))
front_taken (Err e) a b bytes most size within taken end = tt
front_taken (Ok n) None b bytes most size within taken end = tt
front_taken (Ok n) (Some xs) None bytes most size within taken end = absurd taken
front_taken (Ok n) (Some xs) (Some ys) bytes most size within taken end =
    known_front xs ys bytes n within.0 taken end ∙ ap (λ (k : ℕ). take k xs) size
