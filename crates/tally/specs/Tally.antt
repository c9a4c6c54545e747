-- What a tally stands for.
-- Assumes nothing.
use Rattle.std.specs.Prelude.{ℕ, ◌+◌, ◌*◌, ◌%◌}
use Rattle.tally.specs.declared.Tally.{Tally}

-- the residue modulo p of the sum whose high words come to one half and whose low words to the other
unfoldable pub tallied : ℕ → Tally → ℕ
tallied p t = (t.high * 4294967296 + t.low) % p
