-- The rows of an array of arrays have the length that its type says, since a function's parameter is a value of its type; so
-- the first k words of a row are all of it where k is larger.
-- Assumes nothing.
use mathlib.Core.Path.{◌≡◌, sym, ap, ◌∙◌}
use mathlib.Core.List.{List, [], ◌∷◌}
use Prim.Native.Nat.{ℕ, zero, suc, ◌<◌, min}
use native.Mathlib.Omega.{arith}
use lib.ListN.{length, get_or, take}
use mir.Syntax.{w32}
use mir.Val.{Val}
use denote.Laws.{Is}
use denote.Shadow.{shadow}
use denote.Array.{Array, each}
use denote.Plain.{UInt}
use Rattle.lists.proofs.Parts.{take_most}
use Rattle.extension.specs.Limits.{row_length}
use borrow.Kind.Array.{e_int, e_arr, good_length}

in_rows : (n : ℕ) (rows : List (List ℕ)) (us : List Val) (i : ℕ) → i < length rows
    → shadow (each (List ℕ) (Array (UInt w32) n).own_val rows us) → length (get_or rows i []) ≡ n
in_rows n [] us i h e = absurd (omega arith)
in_rows n (row ∷ rows) [] i h e = absurd e
in_rows n (row ∷ rows) (u ∷ us) zero h e = good_length (e_int w32) n row (u ∷ []) e.0
in_rows n (row ∷ rows) (u ∷ us) (suc i) h e = in_rows n rows us i (omega arith) e.1

pub length_row : (m n : ℕ) (rows : List (List ℕ)) (vs : List Val) (i : ℕ) → Is (Array (Array (UInt w32) n) m) rows vs → i < m
    → length (get_or rows i []) ≡ n
length_row m n rows vs i p h =
    let size = good_length (e_arr (e_int w32) n) m rows vs p in
    in_rows n rows p.0 i (omega arith) p.1.1

-- a row of the two, and n coordinates of it
module _ (rows : List (List ℕ)) (vs : List Val) (i k n : ℕ) (p : Is (Array (Array (UInt w32) row_length) 2) rows vs) (h : i < 2)
    (e : n ≡ min k row_length) where
  pub part_of_row : take n (get_or rows i []) ≡ take k (get_or rows i [])
  part_of_row =
      let size = length_row 2 row_length rows vs i p h in
      ap (λ (m : ℕ). take m (get_or rows i [])) (e ∙ ap (min k) (sym size)) ∙ take_most k (get_or rows i [])
