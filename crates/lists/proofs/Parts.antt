-- Parts of lists.
-- Assumes nothing.
use mathlib.Core.Path.{◌≡◌, sym, ap, ◌∙◌}
use mathlib.Core.List.{List, [], ◌∷◌, ◌++◌, map, flatten}
use Prim.Native.Nat.{ℕ, zero, suc, ◌+◌, ◌<◌, min}
use native.Mathlib.Decide.{dec_lt}
use native.Mathlib.Omega.{arith}
use native.Mathlib.Nat.{zero-min, min-zero, suc-min-suc, not-suc-le-zero, le_of_suc-le-suc}
use lib.ListN.{length, take, drop, get_or, length-append, drop_of_length-le}
use lib.Seq.{take_all, take-append_seam, drop-append_seam, drop-drop}
use Rattle.lists.specs.Count.{sum}
use Rattle.lists.proofs.Count.{sum_nil, sum_cons}

-- to take more than there is, is to take all
pub take_most : {A : Type 0} (n : ℕ) (l : List A) → take (min n (length l)) l ≡ take n l
take_most zero l = ap (λ k. take k l) (zero-min (length l))
take_most {A} (suc n) [] = ap (λ (k : ℕ). take {A = A} k []) (min-zero (suc n))
take_most (suc n) (x ∷ l) = ap (λ k. take k (x ∷ l)) (suc-min-suc n (length l)) ∙ ap (λ t. x ∷ t) (take_most n l)

-- the lesser of a list's length and k takes as many words as k
pub least_front : {A : Type 0} (k : ℕ) (l : List A) (r : ℕ) → r ≡ min (length l) k → take r l ≡ take k l
least_front k l r e = go (dec_lt (length l) k)
  where
    go : Dec (length l < k) → take r l ≡ take k l
    go (yes h) = take_all r l (omega arith) ∙ sym (take_all k l (omega arith))
    go (no h) = let s : r ≡ k = omega arith in ap (λ (i : ℕ). take i l) s

pub least_rest : {A : Type 0} (k : ℕ) (l : List A) (r : ℕ) → r ≡ min (length l) k → drop r l ≡ drop k l
least_rest k l r e = go (dec_lt (length l) k)
  where
    go : Dec (length l < k) → drop r l ≡ drop k l
    go (yes h) = drop_of_length-le l {i = r} (omega arith) ∙ sym (drop_of_length-le l {i = k} (omega arith))
    go (no h) = let s : r ≡ k = omega arith in ap (λ (i : ℕ). drop i l) s

-- a list of lists, one after another: list i is where those before it end
pub flatten_part : {A : Type 0} (ls : List (List A)) (i : ℕ) → i < length ls
    → take (length (get_or ls i [])) (drop (sum (map length (take i ls))) (flatten ls)) ≡ get_or ls i []
unfolding flatten
flatten_part [] i h = absurd (not-suc-le-zero h)
flatten_part (l ∷ ls) zero h = ap (λ (n : ℕ). take (length l) (drop n (l ++ flatten ls))) sum_nil ∙ take-append_seam l (flatten ls)
flatten_part (l ∷ ls) (suc i) h =
    ap (λ (n : ℕ). take (length (get_or ls i [])) (drop n (l ++ flatten ls))) (sum_cons (length l) (map length (take i ls)))
    ∙ ap (take (length (get_or ls i []))) (sym (drop-drop (sum (map length (take i ls))) (length l) (l ++ flatten ls)) ∙ ap (drop (sum (map length (take i ls)))) (drop-append_seam l (flatten ls)))
    ∙ flatten_part ls i (le_of_suc-le-suc h)

-- to take from a part is to take the fewer of the two
pub take_least : {A : Type 0} (a b : ℕ) (l : List A) → take (min a b) l ≡ take a (take b l)
take_least zero b l = ap (λ (n : ℕ). take n l) (zero-min b)
take_least (suc a) zero l = ap (λ (n : ℕ). take n l) (min-zero (suc a))
take_least {A} (suc a) (suc b) [] = ap (λ (n : ℕ). take {A = A} n []) (suc-min-suc a b)
take_least {A} (suc a) (suc b) (x ∷ l) = ap (λ (n : ℕ). take n (x ∷ l)) (suc-min-suc a b) ∙ ap (λ (t : List A). x ∷ t) (take_least a b l)

pub length_flatten : {A : Type 0} (ls : List (List A)) → length (flatten ls) ≡ sum (map length ls)
unfolding flatten
length_flatten [] = sym sum_nil
length_flatten (l ∷ ls) = length-append l (flatten ls) ∙ ap (λ (n : ℕ). length l + n) (length_flatten ls) ∙ sym (sum_cons (length l) (map length ls))
