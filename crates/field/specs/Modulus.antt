-- The numbers of a field value.
-- Assumes nothing.
use Rattle.std.specs.Prelude.{ℕ, ◌+◌}
use Rattle.algebra.specs.Numbers.{Numbers, words}
use Rattle.field.specs.declared.Field.{Field}

-- the modulus is kept as its largest residue, and so is never 0
abbrev pub modulus : Field → ℕ
modulus f = f.largest + 1

-- arithmetic in a field: on words, modulo its modulus
abbrev pub numbers : Field → Numbers ℕ
numbers f = words (modulus f)
