-- The loop that combines two halves' coefficients in place: i of the whole stand over the row, and what is left of the whole is what the
-- definition gives for the coefficients to come, with the last difference carried.
-- Assumes nothing.
use mathlib.Core.Path.{◌≡◌, refl, sym, ap, ap₂, ◌∙◌}
use mathlib.Core.List.{List, [], ◌∷◌}
use Prim.Native.Nat.{ℕ, suc, ◌+◌, ◌≤◌, ◌<◌}
use native.Mathlib.Numerals.{add-one}
use native.Mathlib.Omega.{arith}
use lib.ListN.{length, take, drop, get_or, set, drop_of_length-le}
use lib.Seq.{length-take-le, drop-cons, get_or-take}
use Rattle.lists.specs.Buffer.{over}
use Rattle.lists.proofs.Storing.{Stored, kept, next, start as stored-start, end as stored-end}
use Rattle.algebra.specs.Numbers.{Numbers}
use Rattle.sumcheck.specs.Line.{along}
use Rattle.sumcheck.proofs.Line.{length_along}

module _ {C : Type 0} (N : Numbers C) (x d : C) (row₀ high : List C) where
  open N use {𝟘, add as ◌⊕◌, sub as ◌⊖◌, mul as ◌⊗◌}

  infixl 60 ◌⊕◌ ◌⊖◌
  infixl 70 ◌⊗◌
  abbrev m : ℕ
  m = length high

  abbrev low : List C
  low = take m row₀

  abbrev whole : List C
  whole = along N x d 𝟘 low high

  pub record Carried (row : List C) (carry : C) (i : ℕ) : Type 0 where
    pub within : i ≤ m
    pub room : m < length row₀
    pub front : Stored whole row₀ row i
    pub left : drop i whole ≡ along N x d carry (drop i low) (drop i high)

  low_long : m < length row₀ → length low ≡ m
  low_long room = length-take-le m row₀ (omega arith)

  long : m < length row₀ → length whole ≡ suc m
  long room = length_along N m x d 𝟘 low high (low_long room) refl

  pub start : m < length row₀ → Carried row₀ 𝟘 0
  start h = record { within = omega arith; room = h; front = stored-start whole row₀ (omega (arith, long h)); left = refl }

  -- an element and the rest after it, from a list's part
  first_left : (l rest : List C) (i : ℕ) (c : C) → i < length l → drop i l ≡ c ∷ rest → (get_or l i 𝟘 ≡ c) × (drop (suc i) l ≡ rest)
  first_left l rest i c h e =
      let parts : get_or l i 𝟘 ∷ drop (suc i) l ≡ c ∷ rest = sym (drop-cons l i 𝟘 h) ∙ e in
      (ap (λ (t : List C). get_or t 0 𝟘) parts, ap (drop 1) parts)

  module _ (row : List C) (carry : C) (i : ℕ) (h : Carried row carry i) where
    -- a word that is not yet written
    word_left : i < m → get_or row i 𝟘 ≡ get_or low i 𝟘
    word_left more = kept h.front i 𝟘 (omega arith) ∙ sym (get_or-take m row₀ i 𝟘 more)

    -- the difference that is carried on
    abbrev e : C
    e = get_or high i 𝟘 ⊖ get_or row i 𝟘

    pub step : i < m → Carried (set row i (get_or row i 𝟘 ⊕ x ⊗ e ⊕ d ⊗ carry)) e (i + 1)
    unfolding along
    step more =
        let size = long h.room in
        let low-size = low_long h.room in
        let a : C = get_or low i 𝟘 in
        let b : C = get_or high i 𝟘 in
        let rest : List C = along N x d (b ⊖ a) (drop (suc i) low) (drop (suc i) high) in
        let same : e ≡ b ⊖ a = ap (λ (k : C). b ⊖ k) (word_left more) in
        let parts : (get_or whole i 𝟘 ≡ a ⊕ x ⊗ (b ⊖ a) ⊕ d ⊗ carry) × (drop (suc i) whole ≡ rest) =
        first_left whole rest i _ (omega arith) (h.left ∙ ap₂ (along N x d carry) (drop-cons low i 𝟘 (omega arith)) (drop-cons high i 𝟘 more)) in
        record {
          within = omega arith;
          room = h.room;
          front = next h.front 𝟘 _ (omega arith) (ap₂ (λ (k l : C). k ⊕ x ⊗ l ⊕ d ⊗ carry) (word_left more) same ∙ sym parts.0);
          left = ap (λ (n : ℕ). drop n whole) (add-one i) ∙ parts.1
              ∙ ap₂ (λ (k : C) (n : ℕ). along N x d k (drop n low) (drop n high)) (sym same) (sym (add-one i));
        }

    -- the last coefficient
    pub end : m ≤ i → set row m (d ⊗ carry) ≡ over whole row₀
    unfolding along
    end all =
        let within : i ≤ m = h.within in
        let size = long h.room in
        let here : i ≡ m = omega arith in
        let none : drop i low ≡ [] = drop_of_length-le low {i = i} (omega (arith, low_long h.room)) in
        let parts : (get_or whole i 𝟘 ≡ d ⊗ carry) × (drop (suc i) whole ≡ []) =
        first_left whole [] i _ (omega arith) (h.left ∙ ap (λ (l : List C). along N x d carry l (drop i high)) none) in
        ap (λ (n : ℕ). set row n (d ⊗ carry)) (sym here)
        ∙ stored-end (next h.front 𝟘 (d ⊗ carry) (omega arith) (sym parts.0)) (omega arith)
