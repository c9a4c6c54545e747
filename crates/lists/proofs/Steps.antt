-- A list at an index that goes up by one: its front with an element more, and its rest with one less.
-- Assumes nothing.
use mathlib.Core.Path.{◌≡◌, ap, ◌∙◌}
use mathlib.Core.List.{List, [], ◌∷◌, ◌++◌}
use Prim.Native.Nat.{ℕ, ◌+◌, ◌<◌}
use native.Mathlib.Numerals.{add-one}
use lib.ListN.{length, get_or, take, drop}
use lib.Seq.{take-suc, drop-cons}

module _ {A : Type 0} (l : List A) (i : ℕ) (d : A) where
  pub take_up : i < length l → take (i + 1) l ≡ take i l ++ (get_or l i d ∷ [])
  take_up h = ap (λ (k : ℕ). take k l) (add-one i) ∙ take-suc l i d h

  pub drop_up : i < length l → drop i l ≡ get_or l i d ∷ drop (i + 1) l
  drop_up h = rw (add-one, drop-cons l i d)
