-- `width` meets its contract: a power of two that fits is not cut.
use mathlib.Core.Path.{sym}
use Rattle.circuit.proofs.Sized.{width_none, width_of_lem, width_le}
use Prim.Native.Nat.{ℕ, ◌%◌, ◌^◌}
use mathlib.Core.Path.{ap, ◌∙◌}
use native.Mathlib.Nat.{one-mul, mod-eq_of_lt, lt_of_le_of_lt}
use lib.Dec.{lit<}
use Rattle.layout.proofs.width.Goals as goal

pub returns-then-k-gt-MAX_EXPONENT : goal.returns-then-k-gt-MAX_EXPONENT
returns-then-k-gt-MAX_EXPONENT c = sym (width_none c.args.k c.if-k-gt-MAX_EXPONENT.true)

pub returns : goal.returns
returns c =
    let h = c.if-k-gt-MAX_EXPONENT.false in
    ap (λ (n : ℕ). n % 18446744073709551616) (one-mul (2 ^ c.args.k)) ∙ mod-eq_of_lt (lt_of_le_of_lt (width_le c.args.k h) (lit< tt))
    ∙ sym (width_of_lem c.args.k h)
