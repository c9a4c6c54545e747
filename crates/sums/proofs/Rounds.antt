-- The round's message is the honest one: while u has a coordinate left v has none fixed, and after that u has k.
-- Assumes nothing.
use mathlib.Core.Path.{◌≡◌, sym, ap, ap₂, ◌∙◌}
use mathlib.Core.Logic.{inl, inr}
use mathlib.Core.List.{List, [], ◌++◌, append-nil}
use Prim.Native.Nat.{ℕ, ◌+◌, ◌-◌, ◌*◌, ◌≤◌, ◌<◌}
use native.Mathlib.Nat.{min-eq_left}
use native.Mathlib.Decide.{dec_le}
use native.Mathlib.Omega.{arith}
use lib.ListN.{length, take, get_or}
use lib.Seq.{length-take-le, take_all, take-append-le, take-append-add}
use Rattle.algebra.specs.Numbers.{words}
use Rattle.tables.specs.Limits.{table_width}
use Rattle.circuit.proofs.Sized.{width_le}
use Rattle.sumcheck.specs.Message.{sum_message}
use Rattle.sumcheck.specs.Gatewise.{sum_by_gates, InOrder}
use Rattle.sumcheck.proofs.Gatewise.{sum_by_gates_lem}
use Rattle.sums.specs.Round.{fixed_first, fixed_second, HonestRound}
use Rattle.sums.proofs.Fronts.{row_is, table_is}

module _ (k n : ℕ) (us vs : List ℕ) (eu : length us ≡ k) (ev : length vs ≡ k) where
  in_order : n < 2 * k → InOrder k (take n us) (take (n - k) vs)
  in_order less = go (dec_le k n)
    where
      go : Dec (k ≤ n) → InOrder k (take n us) (take (n - k) vs)
      go (yes h) = inr (ap length (take_all n us (omega arith)) ∙ eu, omega (arith, length-take-le (n - k) vs (omega arith)))
      go (no h) = inl (omega (arith, length-take-le n us (omega arith)), length-take-le (n - k) vs (omega arith) ∙ omega arith)

  together : take n us ++ take (n - k) vs ≡ take n (us ++ vs)
  together = go (dec_le k n)
    where
      go : Dec (k ≤ n) → take n us ++ take (n - k) vs ≡ take n (us ++ vs)
      go (yes h) =
          let sum : length us + (n - k) ≡ n = omega arith in
          ap (λ (l : List ℕ). l ++ take (n - k) vs) (take_all n us (omega arith))
          ∙ sym (take-append-add us vs (n - k)) ∙ ap (λ (m : ℕ). take m (us ++ vs)) sum
      go (no h) =
          let none : n - k ≡ 0 = omega arith in
          ap (λ (m : ℕ). take n us ++ take m vs) none ∙ append-nil (take n us) ∙ sym (take-append-le n us vs (omega arith))

pub honest_round : HonestRound
honest_round p prime three k n gs point values rows small less eu ev e below few =
    let us : List ℕ = take k (get_or rows 0 []) in
    let vs : List ℕ = take k (get_or rows 1 []) in
    let size : length us ≡ k = length-take-le k (get_or rows 0 []) (omega arith) in
    let size' : length vs ≡ k = length-take-le k (get_or rows 1 []) (omega arith) in
    ap₂ (λ (m : ℕ) (l : List ℕ). sum_by_gates (words p) m gs point l (fixed_first m n rows) (fixed_second m n rows))
    (min-eq_left (omega (arith, row_is, small))) (take_all table_width values (omega (arith, table_is, width_le k small)))
    ∙ sum_by_gates_lem p prime three k gs point values (take n us) (take (n - k) vs) e below few (in_order k n us vs size size' less)
    ∙ ap (sum_message (words p) k gs point values) (together k n us vs size size')
