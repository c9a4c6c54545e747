-- What a line is compared by, as the check computes it from what stands at the round.
-- Assumes nothing.
use Prim.Native.Nat.{ℕ, ◌*◌}
use mathlib.Core.Bool.{true}
use borrow.Author.Tests.{eqb-true}
use mathlib.Core.Path.{◌≡◌, sym, ap₂, ◌∙◌}
use mathlib.Core.List.{List, []}
use native.Mathlib.Omega.{arith}
use lib.ListN.{length, length-drop, take, drop, get_or}
use lib.Seq.{length-take-le}
use Rattle.lists.proofs.Front.{front_take}
use Rattle.algebra.specs.Numbers.{words}
use Rattle.circuit.specs.Gate.{Gate}
use Rattle.circuit.specs.Circuit.{prime_of, exponent_at}
use Rattle.layout.specs.Gates.{GatesAbove}
use Rattle.sumcheck.specs.Summand.{combined}
use Rattle.summand.specs.Gates.{gates_in}
use Rattle.protocol.specs.Rounds.{place, is_line, AtRound}
use Rattle.protocol.specs.Judge.{fixed, point_at, gates_above, line_claim}
use Rattle.standing.specs.Standing.{Stands}
use Rattle.standing.specs.declared.Stand.{Stand}
use Rattle.standing.proofs.Rounds.{own_coins, gates_above_lem}

-- what the code computes, modulo p
abbrev pub claimed : ℕ → List ℕ → Stand → ℕ → ℕ → ℕ
claimed p gates s x y = combined (words p) (gates_in gates) s.point (take s.own (get_or s.points 0 [])) (take s.own (get_or s.points 1 [])) x y

pub line_claim_lem : (c : List ℕ) (layer round : ℕ) (past : List ℕ) → AtRound c (place layer round) (length past)
    → is_line c (place layer round) ≡ true → (s : Stand) → Stands c layer past s → (gates : List ℕ) → GatesAbove c layer gates
    → (x y r : ℕ) → r ≡ claimed (prime_of c) gates s x y → r ≡ line_claim c layer (point_at c layer past) (fixed c layer past) x y
unfolding line_claim
line_claim_lem c layer round past h is s t gates above x y r e =
    let N = words (prime_of c) in
    let k : ℕ = exponent_at c layer in
    let xs : List ℕ = fixed c layer past in
    let size : length xs ≡ 2 * k = own_coins c layer round past h ∙ eqb-true round (2 * k) is in
    let wide-u : length (take k xs) ≡ k = length-take-le k xs (omega arith) in
    let wide-v : length (drop k xs) ≡ k = length-drop k xs ∙ omega arith in
    let u : take s.own (get_or s.points 0 []) ≡ take k xs = front_take t.first s.own (t.own ∙ sym wide-u) in
    let v : take s.own (get_or s.points 1 []) ≡ drop k xs = front_take t.second s.own (t.own ∙ sym wide-v) in
    let gs = gates_above_lem c layer round past h gates above in
    e
    ∙ ap₂ (λ (g : List Gate) (z : List ℕ). combined N g z (take s.own (get_or s.points 0 [])) (take s.own (get_or s.points 1 [])) x y) gs t.point
    ∙ ap₂ (λ (i j : List ℕ). combined N (gates_above c layer) (point_at c layer past) i j x y) u v
