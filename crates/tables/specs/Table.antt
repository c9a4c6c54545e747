-- Lists that stand at the front of a table.
-- Assumes nothing.
use Rattle.std.specs.Prelude.{ℕ, ◌≡◌, ◌/◌, List, ◌++◌, map, length, take, drop}
use Rattle.std.specs.Simd.Lanes.{zip2}
use Rattle.lists.specs.Buffer.{over}
use Rattle.lists.specs.Front.{Front}
use Rattle.algebra.specs.Numbers.{Numbers}
use Rattle.tables.specs.Limits.{table_width}

abbrev pub Table : List ℕ → List ℕ → Type 0
Table entries table = Front table_width entries table

-- a lent array of that length gets the entries, and any other is left as it was
pub record Written (entries before after : List ℕ) : Type 0 where
  pub whole : length before ≡ table_width → Table entries after
  pub other : (length before ≡ table_width → ⊥) → after ≡ before

-- the weights at a point with z before it, from those at the point
unfoldable pub spread : {C : Type 0} → Numbers C → C → List C → List C
spread N z ws = map (λ w. N.mul (N.sub N.𝟙 z) w) ws ++ map (λ w. N.mul z w) ws

-- a list with what `a` and `b` make of each pair of entries, one from either half, in place of these
abbrev pub paired : (ℕ → ℕ → ℕ) → (ℕ → ℕ → ℕ) → List ℕ → List ℕ
paired a b t =
    over (zip2 a (take (length t / 2) t) (drop (length t / 2) t) ++ zip2 b (take (length t / 2) t) (drop (length t / 2) t)) t
