-- What the code of an extension promises.
-- Assumes nothing.
use Rattle.std.specs.Prelude.{ℕ, ◌^◌, ◌<◌, ◌≡◌, List, length}
use Rattle.lists.specs.Each.{All}
use Rattle.algebra.specs.Numbers.{words}
use Rattle.multilinear.specs.Extension.{extension, halving}

-- modulo p, at a point of k coordinates: the form by halves for all lists, and for 2^k residues the published sum of value × weight
pub record Extends (p : ℕ) (values point : List ℕ) (r : ℕ) : Type 0 where
  pub halves : r ≡ halving (words p) values point
  pub sum : length values ≡ 2 ^ length point → All (λ v. v < p) values → r ≡ extension (words p) values point
