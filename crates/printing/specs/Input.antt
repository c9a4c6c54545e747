-- The arrays that a program reads.
-- Assumes nothing.
use Rattle.std.specs.Prelude.{ℕ, cond, List, leb, length}
use Rattle.std.proofs.Math.Option.{Option, none}
use Rattle.xdr.specs.Read.{called}
use Rattle.printing.specs.Limits.{max_bytes}

-- those that these bytes are made of, as many as are called for; none of too many bytes
unfoldable pub given : ℕ → List ℕ → Option (List (List ℕ))
given number bytes = cond (leb (length bytes) max_bytes) (called number bytes) none
