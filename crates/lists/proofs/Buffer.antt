-- Laws of words written over a buffer: what stands where, and one message after another.
-- Assumes nothing.
use mathlib.Core.Path.{◌≡◌, sym, ap, ◌∙◌, subst}
use mathlib.Core.List.{List, [], ◌∷◌, ◌++◌, append_assoc, append-nil}
use Prim.Native.Nat.{ℕ, suc, ◌+◌, ◌-◌, ◌≤◌, ◌<◌}
use native.Mathlib.Omega.{arith}
use native.Mathlib.Numerals.{add-one}
use lib.ListN.{length, get_or, set, take, drop, length-append, length-drop, drop_of_length-le}
use lib.Seq.{take_at, drop_at, drop-drop, take_all, drop-cons, set_at, take-append_seam, drop-append_seam, get_or-append-add, get_or-drop}
use Rattle.lists.specs.Buffer.{over}

module _ {A : Type 0} where
  pub length_over : (ms l : List A) → length ms ≤ length l → length (over ms l) ≡ length l
  length_over ms l h = simp (length-append, length-drop) (omega arith)

  pub take_over : (ms l : List A) → take (length ms) (over ms l) ≡ ms
  take_over ms l = take-append_seam ms (drop (length ms) l)

  pub drop_over : (ms l : List A) → drop (length ms) (over ms l) ≡ drop (length ms) l
  drop_over ms l = drop-append_seam ms (drop (length ms) l)

  -- a word behind those written is as it was
  pub get_d_over_rest : (ms l : List A) (i : ℕ) (d : A) → get_or (over ms l) (length ms + i) d ≡ get_or l (length ms + i) d
  get_d_over_rest ms l i d = get_or-append-add ms (drop (length ms) l) i d ∙ get_or-drop (length ms) l i d

  pub get_d_over_after : (ms l : List A) (j : ℕ) (d : A) → length ms ≤ j → get_or (over ms l) j d ≡ get_or l j d
  get_d_over_after ms l j d h =
      let e : length ms + (j - length ms) ≡ j = omega arith in
      subst (λ (k : ℕ). get_or (over ms l) k d ≡ get_or l k d) e (get_d_over_rest ms l (j - length ms) d)

  -- what is written over at least as many words leaves none of those
  pub over_over : (ms ns l : List A) → length ms ≤ length ns → over ns (over ms l) ≡ over ns l
  over_over ms ns l h =
      let n : ℕ = length ns - length ms in
      let e : length ms + n ≡ length ns = omega arith in
      ap (λ (t : List A). ns ++ t)
      (ap (λ (k : ℕ). drop k (over ms l)) (sym e) ∙ sym (drop-drop n (length ms) (over ms l)) ∙ ap (drop n) (drop_over ms l)
      ∙ drop-drop n (length ms) l ∙ ap (λ (k : ℕ). drop k l) e)

  -- one word more, stored directly behind those that stand
  pub over_set : (ms l : List A) (n : ℕ) (x : A) → length ms ≡ n → n < length l
      → set (over ms l) n x ≡ over (ms ++ (x ∷ [])) l
  over_set ms l n x e h =
      let more : length (ms ++ (x ∷ [])) ≡ suc (length ms) = length-append ms (x ∷ []) ∙ add-one (length ms) in
      let rest : drop (length ms) l ≡ get_or l (length ms) x ∷ drop (suc (length ms)) l =
      drop-cons l (length ms) x (omega arith) in
      ap (λ t. set (ms ++ t) n x) rest ∙ set_at ms (get_or l (length ms) x) (drop (suc (length ms)) l) x n e
      ∙ sym (append_assoc ms (x ∷ []) (drop (suc (length ms)) l))
      ∙ ap (λ (k : ℕ). (ms ++ (x ∷ [])) ++ drop k l) (sym more)

  -- A message written to the rest of a buffer over which others stand already. The part that was lent, and the buffer put
  -- together again, are as the borrow checker gives them.
  pub over_more : (ms m l buf part : List A) (at : ℕ) → buf ≡ over ms l → length ms ≡ at
      → part ≡ over m (take (length buf - at) (drop at buf)) → length ms + length m ≤ length l
      → take at buf ++ (part ++ drop (length buf - at) (drop at buf)) ≡ over (ms ++ m) l
  over_more ms m l buf part at e e₁ p fits =
      let size : length buf ≡ length l = ap length e ∙ length_over ms l (omega arith) in
      let rest : drop at buf ≡ drop (length ms) l = ap (drop at) e ∙ drop_at ms (drop (length ms) l) at e₁ in
      let front : take at buf ≡ ms = ap (take at) e ∙ take_at ms (drop (length ms) l) at e₁ in
      let all : length (drop (length ms) l) ≤ length buf - at = simp length-drop (omega arith) in
      let whole : take (length buf - at) (drop (length ms) l) ≡ drop (length ms) l = take_all (length buf - at) (drop (length ms) l) all in
      let none : drop (length buf - at) (drop (length ms) l) ≡ [] = drop_of_length-le (drop (length ms) l) all in
      rw (p, rest, front, whole, none) (simp (drop-drop, length-append, append_assoc, append-nil))

  -- The rest of a list of n words from `at` on, lent as the borrow checker lends it, and put back.
  pub rest_lent : (l : List A) (at n : ℕ) → length l ≡ n → take (n - at) (drop at l) ≡ drop at l
  rest_lent l at n e = take_all (n - at) (drop at l) (simp length-drop (omega arith))

  pub rest_back : (l part : List A) (at n : ℕ) → length l ≡ n → take at l ++ (part ++ drop (n - at) (drop at l)) ≡ take at l ++ part
  rest_back l part at n e =
      let none : drop (n - at) (drop at l) ≡ [] = drop_of_length-le (drop at l) {i = n - at} (simp length-drop (omega arith)) in
      ap (λ (t : List A). take at l ++ (part ++ t)) none ∙ ap (λ (t : List A). take at l ++ t) (append-nil part)

  -- words that the buffer holds
  pub over_whole : (words l after : List A) → length words ≤ length l → after ≡ over (take (length l) words) l → after ≡ over words l
  over_whole words l after h e = e ∙ ap (λ (ms : List A). over ms l) (take_all (length l) words h)
