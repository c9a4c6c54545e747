-- Laws of parts that are cut off where the list ends, and of the checksum of what is left of a list.
-- Assumes nothing.
use mathlib.Core.Path.{◌≡◌, sym, ap, ◌∙◌}
use mathlib.Core.List.{List, []}
use Prim.Native.Nat.{ℕ, ◌+◌, ◌-◌, ◌*◌, ◌%◌, ◌≤◌, ◌<◌, min}
use mathlib.Core.Logic.{◌⊎◌, inl, inr}
use native.Mathlib.Nat.{eq-zero-or-pos}
use native.Mathlib.Omega.{arith}
use lib.ListN.{length, get_or, take, drop, length-drop, drop_of_length-le}
use Rattle.lists.proofs.Parts.{take_most}
use Rattle.cases.specs.Parts.{between}
use Rattle.lists.proofs.Steps.{drop_up}
use Rattle.cases.specs.Checksum.{modulus, checksum_from}

-- PARTS
-- Both ends of a part are moved to the list's end where they lie behind it, and the start to the end of the part.
pub between_clipped : {A : Type 0} (start end from to : ℕ) (l : List A) → to ≡ min end (length l) → from ≡ min start to
    → between from to l ≡ between start end l
between_clipped start end from to l e f =
    let size : to - from ≡ min (end - start) (length (drop start l)) = simp length-drop (omega arith) in
    moved (eq-zero-or-pos (to - from)) ∙ ap (λ (n : ℕ). take n (drop start l)) size ∙ take_most (end - start) (drop start l)
  where
    moved : (to - from ≡ 0) ⊎ (0 < to - from) → between from to l ≡ take (to - from) (drop start l)
    moved (inl none) = ap (λ (n : ℕ). take n (drop from l)) none ∙ sym (ap (λ (n : ℕ). take n (drop start l)) none)
    moved (inr some) = let same : from ≡ start = omega arith in ap (λ (n : ℕ). take (to - from) (drop n l)) same

-- THE CHECKSUM
-- the next word goes into the checksum
pub checksum_next : (h : ℕ) (l : List ℕ) (i : ℕ) → i < length l
    → checksum_from h (drop i l) ≡ checksum_from ((h * 31 + get_or l i 0) % modulus) (drop (i + 1) l)
unfolding checksum_from
checksum_next h l i less = rw (drop_up l i 0)

-- and past the last there is none
pub checksum_end : (h : ℕ) (l : List ℕ) (i : ℕ) → length l ≤ i → checksum_from h (drop i l) ≡ h
unfolding checksum_from
checksum_end h l i past = let none : drop i l ≡ [] = drop_of_length-le l {i = i} past in rw none
