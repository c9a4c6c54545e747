-- The front of a list that was lent and written over; a row's weights fit in a table.
-- Assumes nothing.
use mathlib.Core.Path.{◌≡◌, ap, ◌∙◌}
use mathlib.Core.List.{List, ◌++◌, append_assoc}
use Prim.Native.Nat.{ℕ, ◌^◌, ◌≤◌}
use native.Mathlib.Nat.{pow-le-pow_right}
use native.Mathlib.Omega.{arith}
use lib.Dec.{lit<}
use lib.ListN.{length, take, drop}
use lib.Seq.{length-take-le, length_front, take-append_seam}
use Rattle.lists.specs.Buffer.{over}
use Rattle.lists.proofs.Buffer.{length_over}
use Rattle.extension.specs.Limits.{row_length}
use Rattle.tables.specs.Limits.{table_width}

-- a row has no more weights than a table has words
pub weights_fit : (n : ℕ) → n ≤ row_length → 2 ^ n ≤ table_width
weights_fit n h = pow-le-pow_right (lit< tt) h

-- the first n words of a list, lent, written over and put back
module _ {A : Type 0} (l part ms : List A) (n : ℕ) (e : part ≡ over ms (take n l)) where
  pub length_back : length ms ≤ n → n ≤ length l → length (part ++ drop n l) ≡ length l
  length_back h h' =
      let size : length (take n l) ≡ n = length-take-le n l h' in
      length_front l part n (ap length e ∙ length_over ms (take n l) (omega arith))

  pub front_back : take (length ms) (part ++ drop n l) ≡ ms
  front_back =
      ap (λ (t : List A). take (length ms) (t ++ drop n l)) e
      ∙ ap (take (length ms)) (append_assoc ms (drop (length ms) (take n l)) (drop n l))
      ∙ take-append_seam ms (drop (length ms) (take n l) ++ drop n l)
