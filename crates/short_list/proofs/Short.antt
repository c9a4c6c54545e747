-- A list in a row is the list again, and one that fits is not cut.
-- Assumes nothing.
use Prim.Native.Nat.{ℕ, ◌≤◌}
use mathlib.Core.Path.{◌≡◌}
use mathlib.Core.List.{List}
use lib.ListN.{length, take, replicate}
use lib.Seq.{take_all}
use Rattle.lists.proofs.Buffer.{take_over}
use Rattle.circuit.specs.Limits.{max_outputs}
use Rattle.short_list.specs.Short.{short, list_of}

pub held : (l : List ℕ) → list_of (short l) ≡ l
held l = take_over l (replicate max_outputs 0)

pub uncut : (l : List ℕ) → length l ≤ max_outputs → take max_outputs l ≡ l
uncut l h = take_all max_outputs l h
