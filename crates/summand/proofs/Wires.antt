-- A sum over the gates of a list of words, built from the last gate: with `a` gates to come, it is the sum over the gates passed.
-- Assumes nothing.
use mathlib.Core.Path.{◌≡◌, refl, sym, ap, ap₂, ◌∙◌}
use mathlib.Core.List.{List, ◌∷◌}
use Prim.Native.Nat.{ℕ, suc, ◌+◌, ◌-◌, ◌*◌, ◌≤◌, ◌<◌}
use native.Mathlib.Nat.{sub_self, sub-zero}
use native.Mathlib.Omega.{arith}
use lib.ListN.{drop, get_or}
use lib.Seq.{drop-drop, get_or-drop}
use Rattle.algebra.specs.Numbers.{Numbers}
use Rattle.multilinear.specs.Extension.{sum_from}
use Rattle.circuit.specs.Gate.{Gate, gate}
use Rattle.circuit.specs.Circuit.{gates_of}

-- gate a of a list of words
abbrev pub gate_at : List ℕ → ℕ → Gate
gate_at ws a = gate (get_or ws (3 * a) 0) (get_or ws (3 * a + 1) 0) (get_or ws (3 * a + 2) 0)

gates_cons : (n a : ℕ) (ws : List ℕ) → gates_of (suc n) (drop (3 * a) ws) ≡ gate_at ws a ∷ gates_of n (drop (3 * suc a) ws)
unfolding gates_of
gates_cons n a ws =
    let next : 3 * a + 3 ≡ 3 * suc a = omega arith in
    let here : 3 * a + 0 ≡ 3 * a = omega arith in
    simp (get_or-drop, drop-drop, next, here)

module _ {C : Type 0} (N : Numbers C) where
  -- the sum over the gates from a on, of the n gates of a list of words
  abbrev pub sum_on : (ℕ → Gate → C) → ℕ → List ℕ → ℕ → C
  sum_on f n ws a = sum_from N f a (gates_of (n - a) (drop (3 * a) ws))

  pub sum_none : (f : ℕ → Gate → C) (n : ℕ) (ws : List ℕ) → N.𝟘 ≡ sum_on f n ws n
  unfolding sum_from gates_of
  sum_none f n ws = rw (sub_self n) refl

  pub sum_step : (f : ℕ → Gate → C) (n : ℕ) (ws : List ℕ) (a : ℕ) (x sum : C) → 0 < a → a ≤ n
      → x ≡ f (a - 1) (gate_at ws (a - 1)) → sum ≡ sum_on f n ws a → N.add x sum ≡ sum_on f n ws (a - 1)
  unfolding sum_from
  sum_step f n ws a x sum more within e h =
      let longer : n - (a - 1) ≡ suc (n - a) = omega arith in
      let again : suc (a - 1) ≡ a = omega arith in
      ap₂ N.add e (h ∙ ap (λ (b : ℕ). sum_from N f b (gates_of (n - a) (drop (3 * b) ws))) (sym again))
      ∙ sym (ap (sum_from N f (a - 1)) (ap (λ (m : ℕ). gates_of m (drop (3 * (a - 1)) ws)) longer ∙ gates_cons (n - a) (a - 1) ws))

  pub sum_all : (f : ℕ → Gate → C) (n : ℕ) (ws : List ℕ) → sum_on f n ws 0 ≡ sum_from N f 0 (gates_of n ws)
  sum_all f n ws = ap (λ (m : ℕ). sum_from N f 0 (gates_of m ws)) (sub-zero n)
