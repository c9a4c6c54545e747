-- Two lists that differ, and how long their extensions do; `proofs/Apart` proves it.
-- Assumes nothing.
use Rattle.std.specs.Prelude.{ℕ, suc, ◌^◌, ◌≤◌, ◌<◌, ◌≡◌, Bool, false, List, [], ◌∷◌, length}
use Rattle.lists.specs.Count.{count, range}
use Rattle.primes.specs.Prime.{Prime}
use Rattle.algebra.specs.Numbers.{words}
use Rattle.algebra.specs.Theorems.{Residues}
use Rattle.multilinear.specs.Extension.{extension, fold}

-- two lists of 2^k residues that differ
pub record Apart (p k : ℕ) (vs ws : List ℕ) : Type 0 where
  pub long : length vs ≡ 2 ^ k
  pub long' : length ws ≡ 2 ^ k
  pub small : Residues p vs
  pub small' : Residues p ws
  pub differ : ¬ (vs ≡ ws)

-- with the first variable fixed at a residue they still differ, but for at most one of the residues
abbrev pub StayApart : Type 0
StayApart =
    (p : ℕ) → Prime p → (k : ℕ) (vs ws : List ℕ) → Apart p (suc k) vs ws
    → (lucky : ℕ → Bool) × (count lucky (range p) ≤ 1)
    × ((c : ℕ) → lucky c ≡ false → Apart p k (fold (words p) c vs) (fold (words p) c ws))

-- with none left, so do the extensions
abbrev pub ApartAtNone : Type 0
ApartAtNone = (p : ℕ) (vs ws : List ℕ) → Apart p 0 vs ws → ¬ (extension (words p) vs [] ≡ extension (words p) ws [])

-- on words, the extension of a list with its first variable fixed
abbrev pub FirstFixedOnWords : Type 0
FirstFixedOnWords =
    (p : ℕ) → 0 < p → (vs : List ℕ) (c : ℕ) (us : List ℕ) → length vs ≡ 2 ^ suc (length us)
    → extension (words p) vs (c ∷ us) ≡ extension (words p) (fold (words p) c vs) us
