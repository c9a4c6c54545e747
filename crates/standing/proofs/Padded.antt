-- A padded row has its coordinates in front.
-- Assumes nothing.
use Prim.Native.Nat.{ℕ, ◌≤◌}
use mathlib.Core.List.{List}
use lib.ListN.{length, replicate, length-replicate}
use Rattle.lists.specs.Front.{Front}
use Rattle.lists.proofs.Front.{front_over}
use Rattle.extension.specs.Limits.{row_length}
use Rattle.standing.specs.Row.{padded}

pub padded_row : (l : List ℕ) → length l ≤ row_length → Front row_length l (padded l)
padded_row l h = front_over row_length l (replicate row_length 0) (length-replicate {A = ℕ} row_length 0) h
