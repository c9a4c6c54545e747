-- The three sums, built from the last gate: with `a` gates to come, they are the sums over the gates passed.
-- Assumes nothing.
use mathlib.Core.Path.{◌≡◌, refl, sym, ap, ◌∙◌}
use mathlib.Core.Bool.{Bool, true, false, cond}
use mathlib.Core.List.{List}
use Prim.Native.Nat.{ℕ, ◌-◌, ◌/◌, ◌%◌, ◌≤◌, ◌<◌}
use native.Mathlib.Nat.{mul-zero, zero-mod}
use native.Mathlib.Omega.{arith}
use lib.ListN.{length, get_or}
use Rattle.algebra.specs.Numbers.{Numbers, words}
use Rattle.algebra.proofs.Euclid.{mod_mul_right}
use Rattle.multilinear.specs.Extension.{sum_from}
use Rattle.circuit.specs.Gate.{Gate}
use Rattle.sumcheck.specs.Gatewise.{Side, coefficients, three_sums, gate_share, gate_is_one, gate_own, gate_other, sums_of}
use Rattle.summand.specs.Gates.{gates_in}
use Rattle.summand.proofs.Wires.{gate_at, sum_on, sum_none, sum_step, sum_all}
use Rattle.sums.specs.declared.wires.Wire.{Wire}
use Rattle.sums.specs.declared.Counts.{Counts}
use Rattle.sums.specs.Wire.{Reads, Counted}

module _ (p : ℕ) where
  abbrev N : Numbers ℕ
  N = words p

  -- a product by a word is one by its residue
  pub by_share : (weight both product : ℕ) → both % p ≡ product → N.mul weight both ≡ N.mul weight product
  by_share weight both product e = sym (mod_mul_right weight both p) ∙ ap (N.mul weight) e

  by_none : (w : ℕ) → N.mul w 0 ≡ 0
  by_none w = ap (λ (n : ℕ). n % p) (mul-zero w) ∙ zero-mod p

  -- a product by a value or 0 is the product or 0
  picked : (b : Bool) (w x y : ℕ) → N.mul w (cond b x y) ≡ cond b (N.mul w x) (N.mul w y)
  picked true w x y = refl
  picked false w x y = refl

  module _ (ws ps : List ℕ) (l r : Side ℕ) where
    -- its parts in the three sums, from the tables
    abbrev zero_part : ℕ → Gate → ℕ
    zero_part a g = cond (gate_is_one N l r g) 0 (N.mul (gate_share N ps l r a g) (gate_own N l r g))

    abbrev one_part : ℕ → Gate → ℕ
    one_part a g = cond (gate_is_one N l r g) (N.mul (gate_share N ps l r a g) (gate_own N l r g)) 0

    abbrev square_part : ℕ → Gate → ℕ
    square_part a g = N.mul (gate_share N ps l r a g) (N.sub (gate_own N l r g) (gate_other N l r g))

    -- what is read of gate a: its weight, its wires, and its counts from these
    pub record Known (a weight : ℕ) (left right : Wire) (c : Counts) : Type 0 where
      pub weighed : weight ≡ get_or ps a 0
      pub on_left : Reads l (gate_at ws a).left left
      pub on_right : Reads r (gate_at ws a).right right
      pub counts : Counted N (gate_at ws a).kind weight left right c

    tabled : {a weight : ℕ} {left right : Wire} {c : Counts} → Known a weight left right c
        → (N.mul c.share c.zeros ≡ zero_part a (gate_at ws a)) × (N.mul c.share c.ones ≡ one_part a (gate_at ws a))
        × (N.mul c.share c.squares ≡ square_part a (gate_at ws a))
    tabled {a} h =
        let g = gate_at ws a in
        let w = h.weighed in
        let hl = h.on_left in
        let hr = h.on_right in
        let hc = h.counts in
        let share = gate_share N ps l r a g in
        let value = gate_own N l r g in
        let bit = gate_is_one N l r g in
        let none = by_none share in
        let kept : N.mul share (cond bit 0 value) ≡ zero_part a g =
        picked bit share 0 value ∙ ap (λ (n : ℕ). cond bit n (N.mul share value)) none in
        let turned : N.mul share (cond bit value 0) ≡ one_part a g =
        picked bit share value 0 ∙ ap (cond bit (N.mul share value)) none in
        (cc, cc, cc)

    -- THE SUMS OVER THE GATES PASSED
    abbrev sum_at : (ℕ → Gate → ℕ) → ℕ → ℕ
    sum_at part a = sum_on N part (length ws / 3) ws a

    pub record Passed (zeros ones squares a : ℕ) : Type 0 where
      pub within : a ≤ length ws / 3
      pub zeros_are : zeros ≡ sum_at zero_part a
      pub ones_are : ones ≡ sum_at one_part a
      pub squares_are : squares ≡ sum_at square_part a

    pub start : {zeros ones squares : ℕ} → zeros ≡ 0 → ones ≡ 0 → squares ≡ 0 → Passed zeros ones squares (length ws / 3)
    start ez eo es = record {
      within = omega arith;
      zeros_are = ez ∙ sum_none N zero_part (length ws / 3) ws;
      ones_are = eo ∙ sum_none N one_part (length ws / 3) ws;
      squares_are = es ∙ sum_none N square_part (length ws / 3) ws;
    }

    pub step : {zeros ones squares a weight : ℕ} {left right : Wire} {c : Counts} → Passed zeros ones squares a → 0 < a → Known (a - 1) weight left right c
        → Passed (N.add (N.mul c.share c.zeros) zeros) (N.add (N.mul c.share c.ones) ones)
        (N.add (N.mul c.share c.squares) squares) (a - 1)
    step {zeros} {ones} {squares} {a} h more known =
        let n = length ws / 3 in
        let within = h.within in
        let parts = tabled known in
        record {
          within = omega arith;
          zeros_are = sum_step N zero_part n ws a _ zeros more within parts.0 h.zeros_are;
          ones_are = sum_step N one_part n ws a _ ones more within parts.1 h.ones_are;
          squares_are = sum_step N square_part n ws a _ squares more within parts.2 h.squares_are;
        }

    pub end : {zeros ones squares a : ℕ} → Passed zeros ones squares a → a ≡ 0 → coefficients N zeros ones squares ≡ sums_of N ps l r (gates_in ws)
    unfolding three_sums
    end {zeros} {ones} {squares} {a} h e =
        let n = length ws / 3 in
        let all : (x : ℕ → Gate → ℕ) (s : ℕ) → s ≡ sum_on N x n ws a → s ≡ sum_from N x 0 (gates_in ws) =
        λ x s q. q ∙ ap (sum_on N x n ws) e ∙ sum_all N x n ws in
        let z = all zero_part zeros h.zeros_are in
        let o = all one_part ones h.ones_are in
        let s = all square_part squares h.squares_are in
        cc
