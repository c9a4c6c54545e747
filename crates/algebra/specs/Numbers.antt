-- What the mathematics above is written over: two constants and three operations, of which no law is asked. A definition over
-- `Numbers` is read on words, where it computes; on residues, where the laws of a ring hold; and on coefficient lists.
-- Assumes nothing.
use Rattle.std.specs.Prelude.{ℕ, ◌+◌, ◌-◌, ◌*◌, ◌%◌}

pub record Numbers (C : Type 0) : Type 0 where
  pub 𝟘 : C
  pub 𝟙 : C
  pub add : C → C → C
  pub sub : C → C → C
  pub mul : C → C → C

-- arithmetic modulo p, on any words
abbrev pub words : ℕ → Numbers ℕ
words p = record {
  𝟘 = 0;
  𝟙 = 1;
  add = λ a b. (a + b) % p;
  sub = λ a b. (a + (p - b % p)) % p;
  mul = λ a b. (a * b) % p;
}
