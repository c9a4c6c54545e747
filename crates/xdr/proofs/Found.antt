-- Laws of the arrays in a list of bytes: the one at the front, those behind it, and what a walk over the bytes has found.
-- Assumes nothing.
use mathlib.Core.Path.{◌≡◌, refl, sym, ap, ap₂, ◌∙◌, subst}
use mathlib.Core.Logic.{◌⊎◌, inl, inr}
use mathlib.Core.Bool.{Bool, true, false, cond, ◌&&◌, and-false, false≢true}
use mathlib.Core.Option.{Option, none, some, IsSome}
use mathlib.Core.List.{List, [], ◌∷◌, ◌++◌, map, flatten, append_assoc, append-nil}
use Prim.Native.Nat.{ℕ, zero, suc, ◌+◌, ◌-◌, ◌*◌, ◌≤◌, ◌<◌}
use native.Mathlib.Numerals.{sub-one}
use native.Mathlib.Omega.{arith}
use lib.Dec.{leb, eqb}
use borrow.Author.Tests.{le-leb, lt-leb, leb-true, eq-eqb, ne_eqb}
use lib.ListN.{length, get_or, set, take, drop, replicate, length-take, length-drop, length-append, length-map, drop_of_length-le}
use lib.Seq.{take_all, get_or-drop}
use Rattle.std.proofs.lemmas.List.{drop-take}
use Rattle.lists.specs.Buffer.{over}
use Rattle.lists.proofs.Buffer.{over_set}
use Rattle.lists.proofs.Map.{map_append}
use Rattle.xdr.specs.Limits.{max_count}
use Rattle.xdr.specs.Read.{words, first_word, size, whole, prepend, arrays, called, refused, counts, counts_of, words_of}
use Rattle.xdr.proofs.Words.{length_words}

-- THE FRONT
pub whole_yes : (l : List ℕ) → first_word l ≤ max_count → size (first_word l) ≤ length l → whole l ≡ true
unfolding whole
whole_yes l h k =
    ap (λ (b : Bool). b && leb (size (first_word l)) (length l)) (le-leb _ _ h) ∙ le-leb _ _ k

pub whole_fits : (l : List ℕ) → whole l ≡ true → (first_word l ≤ max_count) × (size (first_word l) ≤ length l)
unfolding whole
whole_fits l h = go (leb (first_word l) max_count) (leb (size (first_word l)) (length l)) refl refl h
  where
    go : (a b : Bool) → leb (first_word l) max_count ≡ a → leb (size (first_word l)) (length l) ≡ b → (a && b) ≡ true
        → (first_word l ≤ max_count) × (size (first_word l) ≤ length l)
    go true b p q e = (leb-true _ _ p, leb-true _ _ (q ∙ e))
    go false b p q e = absurd (false≢true e)

-- the words of the array at the front, and the bytes behind it
abbrev pub front : List ℕ → List ℕ
front l = words (take (4 * first_word l) (drop 4 l))

abbrev pub behind : List ℕ → List ℕ
behind l = drop (size (first_word l)) l

pub length_front : (l : List ℕ) → size (first_word l) ≤ length l → length (front l) ≡ first_word l
length_front l h = length_words (take (4 * first_word l) (drop 4 l)) ∙ simp (length-take, length-drop) (omega arith)

-- ALL ARRAYS
pub arrays_none : (n : ℕ) (l : List ℕ) → 0 < n → whole l ≡ false → arrays n l ≡ none
unfolding arrays
arrays_none zero l h e = absurd (omega arith)
arrays_none (suc n) l h e = rw e

arrays_front : (n : ℕ) (l : List ℕ) → 0 < n → whole l ≡ true → arrays n l ≡ prepend (front l) (arrays (n - 1) (behind l))
unfolding arrays
arrays_front zero l h e = absurd (omega arith)
arrays_front (suc n) l h e = rw (e, sub-one)

pub arrays_end : (n : ℕ) (l : List ℕ) → n ≡ 0 → length l ≡ 0 → arrays n l ≡ some []
unfolding arrays
arrays_end zero l h e = rw (eq-eqb _ _ e)
arrays_end (suc n) l h e = absurd (omega arith)

pub arrays_left_over : (n : ℕ) (l : List ℕ) → n ≡ 0 → 0 < length l → arrays n l ≡ none
unfolding arrays
arrays_left_over zero l h e = rw (ne_eqb (length l) 0 (λ p. omega arith))
arrays_left_over (suc n) l h e = absurd (omega arith)

none_some : {A : Type 0} {x : A} → none ≡ some x → ⊥
none_some e = let z : ◌≡◌ {A = ℕ} 0 1 = cc in omega arith

-- What is found, taken apart: none are called for and no bytes are left, or one stands at the front and the others behind it.
pub found_none : (l : List ℕ) (ls : List (List ℕ)) → arrays 0 l ≡ some ls → (l ≡ []) × (ls ≡ [])
unfolding arrays
found_none [] ls e = (refl, cc)
found_none (x ∷ l) ls e = absurd (none_some (sym (arrays_left_over 0 (x ∷ l) refl (omega arith)) ∙ e))

pub record Found (n : ℕ) (l : List ℕ) (ls : List (List ℕ)) : Type 0 where
  pub fit : whole l ≡ true
  pub others : List (List ℕ)
  pub rest : arrays n (behind l) ≡ some others
  pub all : ls ≡ front l ∷ others

pub found_more : (n : ℕ) (l : List ℕ) (ls : List (List ℕ)) → arrays (suc n) l ≡ some ls → Found n l ls
unfolding arrays
found_more n l ls e = go (whole l) (arrays n (behind l)) refl refl e
  where
    go : (b : Bool) (found : Option (List (List ℕ))) → whole l ≡ b → arrays n (behind l) ≡ found
        → cond b (prepend (front l) found) none ≡ some ls → Found n l ls
    go true none f g q = absurd (none_some q)
    go true (some ms) f g q = record { fit = f; others = ms; rest = g; all = cc }
    go false found f g q = absurd (none_some q)

pub length_arrays : (n : ℕ) (l : List ℕ) (ls : List (List ℕ)) → arrays n l ≡ some ls → length ls ≡ n
length_arrays zero l ls e = ap length (found_none l ls e).1
length_arrays (suc n) l ls e = let f = found_more n l ls e in ap length f.all ∙ ap suc (length_arrays n (behind l) f.others f.rest)

pub called_none : (n : ℕ) (l : List ℕ) → (n < 1) ⊎ (4 < n) → called n l ≡ none
unfolding called
called_none n l (inl h) = rw (lt-leb 1 n h)
called_none n l (inr h) = rw (lt-leb n 4 h, and-false)

pub called_some : (n : ℕ) (l : List ℕ) → 1 ≤ n → n ≤ 4 → called n l ≡ arrays n l
unfolding called
called_some n l h k = rw (le-leb 1 n h, le-leb n 4 k)

pub refused_found : {found : Option (List (List ℕ))} → found ≡ none → counts_of found ≡ refused 20
unfolding counts_of
refused_found e = rw e

-- where all arrays are there, so is the one at the front
whole_some : (n : ℕ) (l : List ℕ) → 0 < n → IsSome (arrays n l) → whole l ≡ true
whole_some n l h s = go (whole l) refl
  where
    go : (b : Bool) → whole l ≡ b → whole l ≡ true
    go true e = e
    go false e = absurd (subst IsSome (arrays_none n l h e) s)

words_prepend : (ws : List ℕ) (found : Option (List (List ℕ))) → IsSome (prepend ws found)
    → IsSome found × (words_of (prepend ws found) ≡ ws ++ words_of found)
unfolding words_of flatten
words_prepend ws none s = absurd s
words_prepend ws (some ls) s = (tt, refl)

-- A walk over bytes that hold n arrays: the one at the front, whose count was read as w, and m in the rest behind it.
pub record Step (n m w : ℕ) (l rest : List ℕ) : Type 0 where
  pub inside : size w ≤ length l
  pub part : (array : List ℕ) → array ≡ take (size w) l → words (take (length array - 4) (drop 4 array)) ≡ front l
  pub count : length (front l) ≡ w
  pub there : IsSome (arrays m rest)
  pub all : words_of (arrays n l) ≡ front l ++ words_of (arrays m rest)
  pub left : length (words_of (arrays n l)) ≡ w + length (words_of (arrays m rest))

pub step : (n m w : ℕ) (l rest : List ℕ) → m + 1 ≡ n → IsSome (arrays n l) → w ≡ first_word l → rest ≡ drop (size w) l → Step n m w l rest
step n m w l rest h s v t =
    let yes = whole_some n l (omega arith) s in
    let fits = (whole_fits l yes).1 in
    let less : n - 1 ≡ m = omega arith in
    let e : arrays n l ≡ prepend (front l) (arrays m rest) =
    arrays_front n l (omega arith) yes ∙ ap₂ (λ (k : ℕ) (r : List ℕ). prepend (front l) (arrays k r)) less (ap (λ (k : ℕ). drop (size k) l) (sym v) ∙ sym t) in
    let parts = words_prepend (front l) (arrays m rest) (subst IsSome e s) in
    let joined = ap words_of e ∙ parts.1 in
    let count : length (front l) ≡ w = length_front l fits ∙ sym v in
    record {
      inside = omega (arith, fits);
      part = λ array a. ap words (array_words w l array (omega (arith, fits)) a) ∙ ap (λ (k : ℕ). words (take (4 * k) (drop 4 l))) v;
      count = count;
      there = parts.0;
      all = joined;
      left = ap length joined ∙ length-append (front l) (words_of (arrays m rest)) ∙ ap (λ (k : ℕ). k + length (words_of (arrays m rest))) count;
    }
  where
    array_words : (w : ℕ) (l array : List ℕ) → size w ≤ length l → array ≡ take (size w) l → take (length array - 4) (drop 4 array) ≡ take (4 * w) (drop 4 l)
    array_words w l array h e =
        let long : length array - 4 ≡ 4 * w = omega (arith, ap length e, length-take (size w) l) in
        ap₂ (λ (k : ℕ) (t : List ℕ). take k (drop 4 t)) long e ∙ ap (take (4 * w)) (drop-take 4 (4 * w) l)
        ∙ take_all (4 * w) (take (4 * w) (drop 4 l)) (omega (arith, length-take (4 * w) (drop 4 l)))

pub words_none : (n : ℕ) (l : List ℕ) → n ≡ 0 → words_of (arrays n l) ≡ []
unfolding arrays words_of flatten
words_none zero l h = go (eqb (length l) 0)
  where
    go : (b : Bool) → words_of (cond b (some []) none) ≡ []
    go true = refl
    go false = refl
words_none (suc n) l h = absurd (omega arith)

-- WHAT A WALK OVER THE BYTES HAS FOUND SO FAR
abbrev pub after : List (List ℕ) → Option (List (List ℕ)) → Option (List (List ℕ))
after done none = none
after done (some ls) = some (done ++ ls)

after_prepend : (done : List (List ℕ)) (ws : List ℕ) (found : Option (List (List ℕ)))
    → after done (prepend ws found) ≡ after (done ++ (ws ∷ [])) found
after_prepend done ws none = refl
after_prepend done ws (some ls) = ap some (sym (append_assoc done (ws ∷ []) ls))

-- one array more, whose count was read as w
pub after_front : (n i w : ℕ) (l : List ℕ) (done : List (List ℕ)) (all : Option (List (List ℕ)))
    → all ≡ after done (arrays (n - i) l) → i < n → whole l ≡ true → w ≡ first_word l
    → all ≡ after (done ++ (front l ∷ [])) (arrays (n - (i + 1)) (drop (size w) l))
after_front n i w l done all e h f v =
    let less : n - i - 1 ≡ n - (i + 1) = omega arith in
    e ∙ ap (after done) (arrays_front (n - i) l (omega arith) f)
    ∙ after_prepend done (front l) (arrays (n - i - 1) (behind l))
    ∙ ap₂ (λ (k j : ℕ). after (done ++ (front l ∷ [])) (arrays k (drop (size j) l))) less (sym v)

-- the counts, written over the first of four zeros
abbrev pub zeros : List ℕ
zeros = replicate 4 0

count_over : (done : List (List ℕ)) (n k : ℕ) → get_or (map length done ++ drop n zeros) k 0 ≡ length (get_or done k [])
count_over [] n k = get_or-drop n zeros k 0 ∙ zero_at (n + k)
  where
    zero_at : (i : ℕ) → get_or zeros i 0 ≡ 0
    zero_at zero = refl
    zero_at (suc zero) = refl
    zero_at (suc (suc zero)) = refl
    zero_at (suc (suc (suc zero))) = refl
    zero_at (suc (suc (suc (suc i)))) = refl
count_over (ws ∷ done) n zero = refl
count_over (ws ∷ done) n (suc k) = count_over done n k

pub counts_found : (done : List (List ℕ)) (cs : List ℕ) (n : ℕ) → n ≤ 4 → length done ≡ n → cs ≡ over (map length done) (take n zeros)
    → counts (get_or (cs ++ drop n zeros) 0 0) (get_or (cs ++ drop n zeros) 1 0) (get_or (cs ++ drop n zeros) 2 0) (get_or (cs ++ drop n zeros) 3 0)
    ≡ counts_of (some done)
unfolding counts_of
counts_found done cs n few same e =
    let ms = map length done in
    let none : drop (length ms) (take n zeros) ≡ [] =
    drop_of_length-le (take n zeros) {i = length ms} (omega (arith, length-map {A = List ℕ} done length, length-take n zeros)) in
    let whole : cs ≡ ms = e ∙ ap (λ (t : List ℕ). ms ++ t) none ∙ append-nil ms in
    let at : (k : ℕ) → get_or (cs ++ drop n zeros) k 0 ≡ length (get_or done k []) =
    λ k. ap (λ (l : List ℕ). get_or (l ++ drop n zeros) k 0) whole ∙ count_over done n k in
    rw (at 0, at 1, at 2, at 3)

pub counts_more : (done : List (List ℕ)) (ws cs zs : List ℕ) (i w : ℕ) → cs ≡ over (map length done) zs → length done ≡ i → i < length zs
    → w ≡ length ws → set cs i w ≡ over (map length (done ++ (ws ∷ []))) zs
counts_more done ws cs zs i w e d h v =
    ap (λ (l : List ℕ). set l i w) e ∙ over_set (map length done) zs i w (length-map done length ∙ d) h
    ∙ rw (map_append length done (ws ∷ []), v)

-- FOUR BYTES A WORD
-- the words of all arrays are no more than a quarter of the bytes
pub words_few : (n : ℕ) (l : List ℕ) → 4 * length (words_of (arrays n l)) ≤ length l
unfolding arrays words_of flatten
words_few zero l = go (eqb (length l) 0)
  where
    go : (b : Bool) → 4 * length (words_of (cond b (some []) none)) ≤ length l
    go true = omega arith
    go false = omega arith
words_few (suc n) l = go (whole l) refl (arrays n (behind l)) (words_few n (behind l))
  where
    go : (b : Bool) → whole l ≡ b → (found : Option (List (List ℕ))) → 4 * length (words_of found) ≤ length (behind l)
        → 4 * length (words_of (cond b (prepend (front l) found) none)) ≤ length l
    go true e none few = omega arith
    go true e (some ls) few =
        let fits = whole_fits l e in
        rw length-append (omega (arith, few, fits.1, length_front l fits.1, length-drop (size (first_word l)) l))
    go false e found few = omega arith
