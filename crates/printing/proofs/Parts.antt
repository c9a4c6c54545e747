-- Where the lists stand that were read: one directly after another at the front of the words, those not called for empty.
-- Assumes nothing.
use Prim.Native.Nat.{ℕ, zero, suc, ◌+◌, ◌*◌, ◌≤◌}
use mathlib.Core.Path.{◌≡◌, refl, sym, ap, ◌∙◌}
use mathlib.Core.Option.{Option, none, some}
use mathlib.Core.List.{List, [], ◌∷◌, ◌++◌, flatten, append_assoc}
use native.Mathlib.Omega.{arith}
use lib.ListN.{length, take, drop, get_or, length-append}
use lib.Seq.{take-append_seam, drop-append-add}
use Rattle.lists.specs.Buffer.{over}
use Rattle.lists.proofs.Buffer.{length_over}
use Rattle.xdr.specs.Read.{refused, counts, count_at, counts_of, words_of}
use Rattle.printing.specs.Limits.{max_bytes, max_words}
use Rattle.printing.specs.Input.{given}
use Rattle.printing.specs.Printed.{refused_text, printed}
use Rattle.printing.proofs.Input.{words_fit}

-- bytes that hold no lists are refused by 20
pub refused_unfit : (text : List (List ℕ) → List ℕ) (found : Option (List (List ℕ))) (n : ℕ) → refused n ≡ counts_of found
    → refused_text n ≡ printed text found
unfolding counts_of printed
refused_unfit text none n e = let same : n ≡ 20 = cc in ap refused_text same
refused_unfit text (some ls) n e = absurd (let z : ◌≡◌ {A = ℕ} 0 1 = cc in omega arith)

-- and others by what is printed for their lists
pub printed_lists : (text : List (List ℕ) → List ℕ) (found : Option (List (List ℕ))) (ls : List (List ℕ)) → found ≡ some ls
    → text ls ≡ printed text found
unfolding printed
printed_lists text found ls e = ap (printed text) (sym e)

-- LISTS ONE DIRECTLY AFTER ANOTHER
-- the elements before list i
abbrev before : List (List ℕ) → ℕ → ℕ
before ls zero = 0
before [] (suc i) = 0
before (x ∷ ls) (suc i) = length x + before ls i

before_next : (ls : List (List ℕ)) (i : ℕ) → before ls i + count_at ls i ≡ before ls (suc i)
before_next [] zero = refl
before_next [] (suc i) = refl
before_next (x ∷ ls) zero = omega arith
before_next (x ∷ ls) (suc i) = omega (arith, before_next ls i)

before_inside : (ls : List (List ℕ)) (i : ℕ) → before ls i ≤ length (flatten ls)
unfolding flatten
before_inside ls zero = omega arith
before_inside [] (suc i) = omega arith
before_inside (x ∷ ls) (suc i) = rw length-append (omega (arith, before_inside ls i))

-- list i stands behind those elements; one that is not there is empty
cut : (ls : List (List ℕ)) (t : List ℕ) (i : ℕ) → take (count_at ls i) (drop (before ls i) (flatten ls ++ t)) ≡ get_or ls i []
unfolding flatten
cut [] t zero = refl
cut [] t (suc i) = refl
cut (x ∷ ls) t zero = rw append_assoc (take-append_seam x (flatten ls ++ t))
cut (x ∷ ls) t (suc i) = rw (append_assoc, drop-append-add) (cut ls t i)

-- the lists of these bytes, by the counts that were answered
pub record Parts (found : Option (List (List ℕ))) (a b c d : ℕ) (words : List ℕ) : Type 0 where
  pub lists : List (List ℕ)
  pub are : found ≡ some lists
  pub size : length words ≡ max_words
  pub inside : a + b + c + d ≤ length words
  pub first : take a words ≡ get_or lists 0 []
  pub second : take b (drop a words) ≡ get_or lists 1 []
  pub third : take c (drop (a + b) words) ≡ get_or lists 2 []
  pub fourth : take d (drop (a + b + c) words) ≡ get_or lists 3 []

pub parts : (n : ℕ) (bytes buffer : List ℕ) → length buffer ≡ max_words → (a b c d : ℕ) (words : List ℕ)
    → counts a b c d ≡ counts_of (given n bytes) → words ≡ over (words_of (given n bytes)) buffer → Parts (given n bytes) a b c d words
unfolding counts_of words_of
parts n bytes buffer room a b c d words ec ew = go (given n bytes) (words_fit n bytes buffer) ec ew
  where
    go : (found : Option (List (List ℕ))) → 4 * length (words_of found) ≤ max_bytes → counts a b c d ≡ counts_of found
        → words ≡ over (words_of found) buffer → Parts found a b c d words
    go none fit ec ew = absurd (let z : ◌≡◌ {A = ℕ} 0 1 = cc in omega arith)
    go (some ls) fit ec ew =
        let ea : a ≡ count_at ls 0 = cc in
        let eb : b ≡ count_at ls 1 = cc in
        let ed : c ≡ count_at ls 2 = cc in
        let ef : d ≡ count_at ls 3 = cc in
        let one : a ≡ before ls 1 = omega (arith, before_next ls 0) in
        let two : a + b ≡ before ls 2 = omega (arith, before_next ls 1) in
        let three : a + b + c ≡ before ls 3 = omega (arith, before_next ls 2) in
        let all : length words ≡ max_words = ap length ew ∙ length_over (flatten ls) buffer (omega arith) ∙ room in
        let t : List ℕ = drop (length (flatten ls)) buffer in
        record {
          lists = ls;
          are = refl;
          size = all;
          inside = omega (arith, before_next ls 3, before_inside ls 4);
          first = rw (ew, ea) (cut ls t 0);
          second = rw (ew, eb, one) (cut ls t 1);
          third = rw (ew, ed, two) (cut ls t 2);
          fourth = rw (ew, ef, three) (cut ls t 3);
        }
