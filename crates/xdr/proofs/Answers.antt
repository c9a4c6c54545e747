-- Laws of what reading answers and leaves in the buffer.
-- Assumes nothing.
use mathlib.Core.Path.{◌≡◌, refl, sym, ap, ◌∙◌}
use mathlib.Core.Bool.{Bool, true, false, cond, ◌&&◌, false≢true}
use mathlib.Core.Option.{Option, none, some, IsSome}
use mathlib.Core.List.{List, [], ◌∷◌, flatten}
use Prim.Native.Nat.{ℕ, ◌+◌, ◌≤◌, ◌<◌}
use native.Mathlib.Omega.{arith}
use lib.Dec.{leb}
use borrow.Author.Tests.{le-leb, lt-leb, leb-true}
use lib.ListN.{length, length-append}
use Rattle.lists.specs.Buffer.{over}
use Rattle.xdr.specs.Read.{arrays, called, refused, counts, count_at, counts_of, words_of, read_answer, read_buffer}
use Rattle.xdr.proofs.Found.{length_arrays}

-- THE COUNTS
refused_counts : {n a b c d : ℕ} → refused n ≡ counts a b c d → ⊥
refused_counts e = let z : ◌≡◌ {A = ℕ} 0 1 = cc in omega arith

sum_counts : (ls : List (List ℕ)) → length ls ≤ 4 → length (flatten ls) ≡ count_at ls 0 + count_at ls 1 + count_at ls 2 + count_at ls 3
unfolding flatten
sum_counts [] h = refl
sum_counts (u ∷ []) h = simp length-append (omega arith)
sum_counts (u ∷ v ∷ []) h = simp length-append (omega arith)
sum_counts (u ∷ v ∷ w ∷ []) h = simp length-append (omega arith)
sum_counts (u ∷ v ∷ w ∷ x ∷ []) h = simp length-append (omega arith)
sum_counts (u ∷ v ∷ w ∷ x ∷ y ∷ ls) h = absurd (omega arith)

and_right : (a b : Bool) → (a && b) ≡ true → b ≡ true
and_right true b e = e
and_right false b e = absurd (false≢true e)

-- Counts in the answer: the arrays are all there, and their words are as many as the counts together.
pub record Counted (n total : ℕ) (bytes : List ℕ) : Type 0 where
  pub found : IsSome (arrays n bytes)
  pub same : called n bytes ≡ arrays n bytes
  pub words : length (words_of (called n bytes)) ≡ total

pub counted : (n a b c d : ℕ) (bytes : List ℕ) → counts a b c d ≡ counts_of (called n bytes) → Counted n (a + b + c + d) bytes
unfolding called counts_of words_of
counted n a b c d bytes e = range (leb 1 n && leb n 4) refl e
  where
    there : (all : Option (List (List ℕ))) → ((ls : List (List ℕ)) → all ≡ some ls → length ls ≤ 4) → counts a b c d ≡ counts_of all
        → IsSome all × (length (words_of all) ≡ a + b + c + d)
    there none f p = absurd (refused_counts (sym p))
    there (some ls) f p =
        let p₀ : a ≡ count_at ls 0 = cc in
        let p₁ : b ≡ count_at ls 1 = cc in
        let p₂ : c ≡ count_at ls 2 = cc in
        let p₃ : d ≡ count_at ls 3 = cc in
        (tt, omega (arith, sum_counts ls (f ls refl)))

    range : (t : Bool) → (leb 1 n && leb n 4) ≡ t → counts a b c d ≡ counts_of (cond t (arrays n bytes) none) → Counted n (a + b + c + d) bytes
    range false q p = absurd (refused_counts (sym p))
    range true q p =
        let four : n ≤ 4 = leb-true n 4 (and_right (leb 1 n) (leb n 4) q) in
        let same : called n bytes ≡ arrays n bytes = ap (λ (t : Bool). cond t (arrays n bytes) none) q in
        let all = there (arrays n bytes) (λ ls f. omega (arith, length_arrays n bytes ls f)) p in
        record { found = all.0; same = same; words = ap (λ (f : Option (List (List ℕ))). length (words_of f)) same ∙ all.1 }

pub refused_none : (cause : ℕ) (found : Option (List (List ℕ))) → refused cause ≡ counts_of found → found ≡ none
unfolding counts_of
refused_none cause none e = refl
refused_none cause (some ls) e = absurd (refused_counts e)

-- ANSWER AND BUFFER
module _ (n : ℕ) (bytes buffer : List ℕ) where
  pub read_short : length buffer < length (words_of (called n bytes))
      → (refused 10 ≡ read_answer n bytes buffer) × (buffer ≡ read_buffer n bytes buffer)
  unfolding read_answer read_buffer
  read_short h = (rw (lt-leb _ _ h), rw (lt-leb _ _ h))

  pub read_whole : length (words_of (called n bytes)) ≤ length buffer
      → (counts_of (called n bytes) ≡ read_answer n bytes buffer) × (over (words_of (called n bytes)) buffer ≡ read_buffer n bytes buffer)
  unfolding read_answer read_buffer
  read_whole h = (rw (le-leb _ _ h), rw (le-leb _ _ h))

  -- nothing to write where there are no arrays
  pub read_none : called n bytes ≡ none
      → (counts_of (called n bytes) ≡ read_answer n bytes buffer) × (buffer ≡ read_buffer n bytes buffer)
  unfolding words_of
  read_none e =
      let none : words_of (called n bytes) ≡ [] = ap words_of e in
      let w = read_whole (omega (arith, ap length none)) in
      (w.0, ap (λ (ms : List ℕ). over ms buffer) (sym none) ∙ w.1)
