-- Laws of a list at the front of an array: how it comes there, and what its parts are.
-- Assumes nothing.
use Prim.Native.Nat.{ℕ, ◌+◌, ◌≤◌}
use mathlib.Core.Path.{◌≡◌, sym, ap, ap₂, ◌∙◌, subst}
use mathlib.Core.List.{List, ◌++◌}
use native.Mathlib.Omega.{arith}
use lib.ListN.{length, length-drop, length-take, take, drop, take-append-drop}
use lib.Seq.{take_all, take-append-le, drop-append-le, length-take-le}
use Rattle.lists.specs.Buffer.{over}
use Rattle.lists.specs.Front.{Front}
use Rattle.lists.proofs.Buffer.{length_over, take_over}

-- a list written over an array that holds it
pub front_over : (n : ℕ) (words array : List ℕ) → length array ≡ n → length words ≤ n → Front n words (over words array)
front_over n words array size h = record { size = length_over words array (omega arith) ∙ size; holds = take_over words array }

-- words put over an array, as many as it holds
pub front_put : (n : ℕ) (words array after : List ℕ) → length array ≡ n → after ≡ over (take (length array) words) array
    → Front n (take n words) after
front_put n words array after size e =
    let few : length (take n words) ≤ n = omega (arith, length-take n words) in
    subst (λ (l : List ℕ). Front n (take n words) l) (sym (e ∙ ap (λ (k : ℕ). over (take k words) array) size))
    (front_over n (take n words) array size few)

-- an array that is a list put over another array is made again of the list, its length with it
pub front_again : {A : Type 0} (make : List ℕ → ℕ → A) (before array : List ℕ) (n : ℕ) → n ≤ length before → array ≡ over (take n array) before
    → make (over (take n array) before) (length (take n array)) ≡ make array n
front_again make before array n h e =
    let few : length (take n array) ≤ length before = omega (arith, length-take n array, h) in
    let size : length array ≡ length before = ap length e ∙ length_over (take n array) before few in
    ap₂ make (sym e) (length-take-le n array (omega (arith, size, h)))

-- the words that an array holds are all of a list that fits
pub front_whole : (n : ℕ) (words array : List ℕ) → length words ≤ n → Front n (take n words) array → Front n words array
front_whole n words array h f = subst (λ (l : List ℕ). Front n l array) (take_all n words h) f

module _ {n : ℕ} {words array : List ℕ} (f : Front n words array) where
  -- as many words as the list has
  pub front_take : (m : ℕ) → m ≡ length words → take m array ≡ words
  front_take m e = ap (λ (k : ℕ). take k array) e ∙ f.holds

  -- a part of the list
  pub front_part : (m k : ℕ) → m + k ≤ length words → take k (drop m array) ≡ take k (drop m words)
  front_part m k h =
      let back = drop (length words) array in
      let whole : words ++ back ≡ array = ap (λ (l : List ℕ). l ++ back) (sym f.holds) ∙ take-append-drop (length words) array in
      ap (λ (l : List ℕ). take k (drop m l)) (sym whole) ∙ ap (take k) (drop-append-le m words back (omega arith))
      ∙ take-append-le k (drop m words) back (omega (arith, length-drop m words))
