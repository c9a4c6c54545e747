-- The last kind's number bounds every kind's.
-- Assumes nothing.
use Rattle.std.proofs.Common.{◌≡◌, ℕ, ◌≤◌, arith}
use Rattle.circuit.specs.Gate.{max_kind}
use Rattle.layout.specs.Gate.{kind_number}
use Rattle.layout.specs.declared.Kind.{Kind}
use Rattle.layout.specs.declared.Kind.TheVariants.{Empty, Add, Multiply, Subtract}

pub known : (kind : Kind) (n : ℕ) → kind_number kind ≡ n → n ≤ max_kind
known Empty n e = omega arith
known Add n e = omega arith
known Multiply n e = omega arith
known Subtract n e = omega arith
