-- The last comparison, as the check computes it.
-- Assumes nothing.
use Prim.Native.Nat.{ℕ, suc, ◌+◌, ◌-◌, ◌^◌, ◌<◌}
use mathlib.Core.Path.{◌≡◌, sym, ap, ap₂, ◌∙◌, subst}
use mathlib.Core.List.{List}
use native.Mathlib.Numerals.{add-one}
use native.Mathlib.Omega.{arith}
use lib.Dec.{eqb}
use lib.ListN.{length}
use Rattle.lists.specs.Each.{All}
use Rattle.algebra.specs.Numbers.{words}
use Rattle.multilinear.specs.Extension.{extension}
use Rattle.extension.specs.Extended.{Extends}
use Rattle.circuit.specs.Circuit.{prime_of, depth, exponents, exponent_at, input_exponent}
use Rattle.circuit.specs.Sized.{LegalCircuit}
use Rattle.circuit.proofs.Layers.{all_below_lem, prime_modulus}
use Rattle.circuit.proofs.Loading.{legal_lists}
use Rattle.circuit.proofs.Sized.{deep}
use Rattle.protocol.specs.Judge.{point_at, input_agrees}
use Rattle.protocol.specs.Check.{Counted}
use Rattle.standing.specs.Standing.{AtLayer, PointStands}
use Rattle.standing.proofs.Points.{point_length}
use Rattle.standing.proofs.Coins.{so_far, all_coins}

module _ (c input cs : List ℕ) (h : Counted c input cs) where
  pub legal : LegalCircuit c
  legal = (legal_lists c input h.lists).circuit

  pub behind_last : AtLayer c (depth c + 1) (length cs)
  behind_last = record { there = so_far c legal; counted = h.coins ∙ sym (all_coins c legal) }

  -- from what the check computes
  pub agrees : {layers largest x : ℕ} (claim : ℕ) {point : List ℕ} → layers ≡ depth c → PointStands c (layers + 1) cs point
      → largest ≡ prime_of c - 1 → Extends (largest + 1) input point x → eqb x claim ≡ input_agrees c input cs claim
  unfolding input_agrees input_exponent
  agrees {layers} {largest} {x} claim {point} deepest stands residue e =
      let lists = legal_lists c input h.lists in
      let p : ℕ = prime_of c in
      let f : largest + 1 ≡ p = prime_modulus c legal largest residue in
      let there : point ≡ point_at c (depth c + 1) cs = subst (λ (i : ℕ). PointStands c (i + 1) cs point) deepest stands behind_last in
      let here : depth c + 1 - 1 ≡ depth c = omega arith in
      let size : length point ≡ exponent_at c (depth c) = ap length there ∙ point_length c cs (depth c + 1) behind_last ∙ ap (exponent_at c) here in
      let wide : length input ≡ 2 ^ length point = lists.sized ∙ ap (λ (n : ℕ). 2 ^ exponent_at c n) (deep c legal) ∙ ap (λ (n : ℕ). 2 ^ n) (sym size) in
      let below : All (λ v. v < largest + 1) input =
      subst (λ (m : ℕ). All (λ v. v < m) input) (sym f) (all_below_lem p input lists.residues) in
      let last : depth c + 1 ≡ suc (length (exponents c)) = add-one (depth c) ∙ ap suc (sym (deep c legal)) in
      ap (λ (v : ℕ). eqb v claim)
      (e.sum wide below ∙ ap₂ (λ (m : ℕ) (l : List ℕ). extension (words m) input l) f there
      ∙ ap (λ (n : ℕ). extension (words p) input (point_at c n cs)) last)
