-- The residues modulo p: the words below p, with the operations of `words p`. On all words the laws of a ring fail, since a word
-- and its remainder differ; on residues they hold.
-- Assumes nothing.
use Prim.Native.Nat.{ℕ, ◌+◌, ◌-◌, ◌*◌, ◌%◌, ◌<◌, Fin}
use Rattle.std.proofs.Common.{mod-lt}
use Rattle.algebra.specs.Numbers.{Numbers}

module _ (p : ℕ) (pos : 0 < p) where
  -- the residue of a word
  unfoldable pub residue : ℕ → Fin p
  residue n = (n % p, mod-lt n pos)

  unfoldable pub residues : Numbers (Fin p)
  unfolding residue
  residues = record {
    𝟘 = residue 0;
    𝟙 = residue 1;
    add = λ a b. residue (a.0 + b.0);
    sub = λ a b. residue (a.0 + (p - b.0));
    mul = λ a b. residue (a.0 * b.0);
  }
