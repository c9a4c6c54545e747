-- Texts written one after another: the parts that a buffer holds of two texts are the part that it holds of both.
-- Assumes nothing.
use Prim.Native.Nat.{ℕ, zero, suc, ◌+◌, ◌-◌, ◌≤◌, ◌<◌, min}
use mathlib.Core.Path.{◌≡◌, refl, sym, ap, ap₂, ◌∙◌, subst}
use mathlib.Core.List.{List, [], ◌∷◌, ◌++◌, append_assoc, append-nil}
use native.Mathlib.Nat.{sub-zero}
use native.Mathlib.Omega.{arith}
use native.Mathlib.Numerals.{add-one}
use lib.ListN.{length, get_or, take, drop, length-take, length-append, length-drop}
use lib.Seq.{take_all, take-nil}
use Rattle.lists.specs.Buffer.{over}
use Rattle.lists.proofs.Buffer.{length_over, over_more}
use Rattle.text.specs.Lines.{number_text, numbers_text}
use Rattle.text.specs.Wrote.{held, Wrote}

-- the first n bytes of two texts
take_both : (n : ℕ) (a b : List ℕ) → take n (a ++ b) ≡ take n a ++ take (n - length (take n a)) b
take_both zero a b = refl
take_both (suc n) [] b = ap (λ (k : ℕ). take k b) (sym (sub-zero (suc n)))
take_both (suc n) (x ∷ a) b =
    let less : n - length (take n a) ≡ suc n - suc (length (take n a)) = omega arith in
    ap (λ (t : List ℕ). x ∷ t) (take_both n a b) ∙ ap (λ (k : ℕ). x ∷ (take n a ++ take k b)) less

module _ (text before after : List ℕ) (count : ℕ) (w : Wrote text before after count) where
  pub wrote_length : length after ≡ length before
  wrote_length = ap length w.stands ∙ length_over (held text before) before (omega (arith, length-take (length before) text))

  pub wrote_room : count ≤ length before
  wrote_room = omega (arith, w.counted, length-take (length before) text)

  pub wrote_within : count ≤ length after
  wrote_within = omega (arith, wrote_room, wrote_length)

  -- a text that the buffer holds whole
  pub wrote_whole : length text ≤ length before → (count ≡ length text) × (after ≡ over text before)
  wrote_whole h =
      let all = take_all (length before) text h in
      (w.counted ∙ ap length all, w.stands ∙ ap (λ (t : List ℕ). over t before) all)

  -- a text under another name
  pub wrote_as : (other : List ℕ) → text ≡ other → Wrote other before after count
  wrote_as other e = subst (λ (t : List ℕ). Wrote t before after count) e w

  -- A text written to the rest of the buffer. The part that was lent, and the buffer put together again, are as the borrow checker gives them.
  pub wrote_more : (more part : List ℕ) (n : ℕ) → Wrote more (take (length after - count) (drop count after)) part n
      → Wrote (text ++ more) before (take count after ++ (part ++ drop (length after - count) (drop count after))) (count + n)
  wrote_more more part n v =
      let rest : List ℕ = take (length after - count) (drop count after) in
      let first : List ℕ = held text before in
      let size : length rest ≡ length before - length first =
      length-take (length after - count) (drop count after) ∙ omega (arith, length-drop count after, wrote_length, w.counted) in
      let both : first ++ held more rest ≡ held (text ++ more) before =
      ap (λ (k : ℕ). first ++ take k more) size ∙ sym (take_both (length before) text more) in
      let short : length first ≤ length before = omega (arith, length-take (length before) text) in
      let fits : length first + length (held more rest) ≤ length before = omega (arith, size, length-take (length rest) more, short) in
      record {
        counted = ap₂ (λ (i j : ℕ). i + j) w.counted v.counted ∙ sym (length-append first (held more rest)) ∙ ap length both;
        stands = over_more first (held more rest) before after part count w.stands (sym w.counted) v.stands fits ∙ ap (λ (t : List ℕ). over t before) both;
      }

-- a text that was put at the front
pub wrote_put : (text before after : List ℕ) (count : ℕ) → count ≡ min (length text) (length before) → after ≡ over (held text before) before
    → Wrote text before after count
wrote_put text before after count counted stands = record { counted = omega (arith, length-take (length before) text); stands = stands }

-- nothing written
pub wrote_none : (before : List ℕ) → Wrote [] before before 0
wrote_none before = record { counted = ap length (sym (take-nil (length before))); stands = ap (λ (t : List ℕ). over t before) (sym (take-nil (length before))) }

-- NUMBERS
pub numbers_none : (before : List ℕ) → Wrote (numbers_text []) before before 0
unfolding numbers_text
numbers_none before = wrote_none before

-- the numbers up to the next one
pub numbers_next : (xs : List ℕ) (i : ℕ) → i < length xs → numbers_text (take i xs) ++ number_text (get_or xs i 0) ≡ numbers_text (take (i + 1) xs)
unfolding numbers_text
numbers_next xs i h = go xs i h ∙ ap (λ (k : ℕ). numbers_text (take k xs)) (sym (add-one i))
  where
    go : (xs : List ℕ) (i : ℕ) → i < length xs → numbers_text (take i xs) ++ number_text (get_or xs i 0) ≡ numbers_text (take (suc i) xs)
    go [] i h = absurd (omega arith)
    go (x ∷ xs) zero h = sym (append-nil (number_text x))
    go (x ∷ xs) (suc i) h =
        append_assoc (number_text x) (numbers_text (take i xs)) (number_text (get_or xs i 0)) ∙ ap (λ (t : List ℕ). number_text x ++ t) (go xs i (omega arith))
