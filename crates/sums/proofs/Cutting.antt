-- A wire's number by its cut: the shift gives the quotient, what is left is the remainder, and half of the divisor added turns the first
-- bit of the remainder, past the divisor from its start again.
-- Assumes nothing.
use mathlib.Core.Path.{◌≡◌, sym, ap, ◌∙◌}
use Prim.Native.Nat.{ℕ, ◌+◌, ◌-◌, ◌*◌, ◌/◌, ◌%◌, ◌^◌, ◌≤◌, ◌<◌}
use native.Mathlib.Nat.{mod-lt, mod-eq_of_lt, mod-add-mod, add-mod_right}
use native.Mathlib.Omega.{arith}
use lib.Pow.{pow_pos, split}
use Rattle.sums.specs.declared.wires.Cut.{Cut}

module _ (c : Cut) (i : ℕ) where
  parts : i / 2 ^ c.free * c.size + i % 2 ^ c.free ≡ i
  parts = ap (λ (n : ℕ). i / 2 ^ c.free * n + i % 2 ^ c.free) c.power ∙ split i c.free

  pub low_is : i - i / 2 ^ c.free * c.size ≡ i % c.size
  low_is = omega (arith, parts) ∙ ap (λ (n : ℕ). i % n) (sym c.power)

  low_below : i % c.size < c.size
  low_below = mod-lt i (omega (arith, c.power, pow_pos c.free))

  pub high_is : i / 2 ^ c.free ≡ i / c.size
  high_is = ap (λ (n : ℕ). i / n) (sym c.power)

  -- the number with the first bit of its remainder turned
  pub turned_within : (l : ℕ) → l ≡ i % c.size → l + c.half < c.size → l + c.half ≡ (i + c.half) % c.size
  turned_within l e h =
      sym (mod-eq_of_lt h) ∙ ap (λ (n : ℕ). (n + c.half) % c.size) e ∙ mod-add-mod i c.size c.half

  pub turned_past : (l : ℕ) → l ≡ i % c.size → c.size ≤ l + c.half → l + c.half - c.size ≡ (i + c.half) % c.size
  turned_past l e h =
      let less : l + c.half - c.size < c.size = omega (arith, low_below, c.part) in
      let back : l + c.half - c.size + c.size ≡ l + c.half = omega arith in
      sym (mod-eq_of_lt less) ∙ sym (add-mod_right (l + c.half - c.size) c.size) ∙ ap (λ (n : ℕ). n % c.size) back
      ∙ ap (λ (n : ℕ). (n + c.half) % c.size) e ∙ mod-add-mod i c.size c.half
