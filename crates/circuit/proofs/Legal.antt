-- Laws of legality: a list's words from a place on, a gate by its words, layer by layer.
-- Assumes nothing.
use Prim.Native.Nat.{ℕ, zero, suc, ◌+◌, ◌-◌, ◌*◌, ◌≤◌, ◌<◌}
use mathlib.Core.Path.{◌≡◌, refl, sym, ap, ◌∙◌}
use mathlib.Core.Bool.{Bool, true, false, ◌&&◌, false≢true}
use mathlib.Core.List.{List, [], ◌∷◌}
use native.Mathlib.Nat.{add-zero, sub-zero, suc-sub-suc}
use native.Mathlib.Omega.{arith}
use lib.Dec.{ltb, leb}
use lib.ListN.{length, get_or, take, drop}
use lib.Seq.{drop-drop, get_or-drop, get_or-take, take-nil}
use borrow.Author.Tests.{lt-leb, le-leb, ltb-true}
use Rattle.refusal.specs.Order.{need, first}
use Rattle.refusal.proofs.Order.{need_none}
use Rattle.circuit.specs.Gate.{Gate, gate, max_kind}
use Rattle.circuit.specs.Circuit.{gates_of}
use Rattle.circuit.specs.Legal.{all_below, wires_good, gate_cause, gates_cause}

-- WORDS BELOW A BOUND

-- what a test of the words said, with the bound as the code has it
pub below_told : (ws : List ℕ) {p q : ℕ} {b : Bool} → p ≡ q → b ≡ all_below p ws → all_below q ws ≡ b
below_told ws e told = sym (ap (λ (n : ℕ). all_below n ws) e) ∙ sym told

-- A GATE, by its words: its kind decides, then its wires
module _ (next kind left right : ℕ) where
  pub gate_kind : max_kind < kind → gate_cause next (gate kind left right) ≡ 6
  unfolding gate_cause
  gate_kind h = simp (lt-leb kind max_kind h)

  pub gate_known : kind ≤ max_kind → {good : Bool} → good ≡ wires_good next (gate kind left right) → gate_cause next (gate kind left right) ≡ need good 7 0
  unfolding gate_cause
  gate_known known told = rw (le-leb kind max_kind known, told) refl

-- GATES, from gate i on
gates_cons : (n at : ℕ) (c : List ℕ)
    → gates_of (suc n) (drop at c) ≡ gate (get_or c at 0) (get_or c (at + 1) 0) (get_or c (at + 2) 0) ∷ gates_of n (drop (at + 3) c)
unfolding gates_of
gates_cons n at c =
    let zeroth : get_or (drop at c) 0 0 ≡ get_or c at 0 = get_or-drop at c 0 0 ∙ ap (λ (k : ℕ). get_or c k 0) (add-zero at) in
    rw (zeroth, get_or-drop at c 1 0, get_or-drop at c 2 0, drop-drop 3 at c)

pub gates_at_lem : (next count i : ℕ) (ws : List ℕ) → i < count
    → gates_cause next (gates_of (count - i) (drop (3 * i) ws))
    ≡ first (gate_cause next (gate (get_or ws (3 * i) 0) (get_or ws (3 * i + 1) 0) (get_or ws (3 * i + 2) 0)))
    (gates_cause next (gates_of (count - (i + 1)) (drop (3 * (i + 1)) ws)))
unfolding gates_cause
gates_at_lem next count i ws h =
    let more : count - i ≡ suc (count - (i + 1)) = omega arith in
    let on : 3 * (i + 1) ≡ 3 * i + 3 = omega arith in
    rw (more, on, gates_cons (count - (i + 1)) (3 * i) ws)

pub length_gates : (n : ℕ) (ws : List ℕ) → length (gates_of n ws) ≡ n
unfolding gates_of
length_gates zero ws = refl
length_gates (suc n) ws = ap suc (length_gates n (drop 3 ws))

-- legal gates have their wires below
and_left : (a b : Bool) → (a && b) ≡ true → a ≡ true
and_left true b e = refl
and_left false b e = absurd (false≢true e)

and_right : (a b : Bool) → (a && b) ≡ true → b ≡ true
and_right true b e = e
and_right false b e = absurd (false≢true e)

pub record Wires (next : ℕ) (g : Gate) : Type 0 where
  pub left : g.left < next
  pub right : g.right < next

pub gate_wires : (next : ℕ) (g : Gate) → gate_cause next g ≡ 0 → Wires next g
unfolding gate_cause wires_good
gate_wires next g e =
    let kinds = need_none (leb g.kind max_kind) 5 _ e in
    let good = (need_none (wires_good next g) 6 _ kinds.1).0 in
    record {
      left = ltb-true g.left next (and_left (ltb g.left next) _ good);
      right = ltb-true g.right next (and_left (ltb g.right next) _ (and_right (ltb g.left next) _ good));
    }

-- the gates of a part that has all their words
pub gates_part : (n m : ℕ) (ws : List ℕ) → 3 * n ≤ m → gates_of n (take m ws) ≡ gates_of n ws
unfolding gates_of
gates_part zero m ws h = refl
gates_part (suc n) m ws h =
    let three : drop 3 (take m ws) ≡ take (m - 3) (drop 3 ws) = drop_take 3 m ws (omega arith) in
    let zeroth : get_or (take m ws) 0 0 ≡ get_or ws 0 0 = get_or-take m ws 0 0 (omega arith) in
    let first : get_or (take m ws) 1 0 ≡ get_or ws 1 0 = get_or-take m ws 1 0 (omega arith) in
    let second : get_or (take m ws) 2 0 ≡ get_or ws 2 0 = get_or-take m ws 2 0 (omega arith) in
    rw (zeroth, first, second, three, gates_part n (m - 3) (drop 3 ws) (omega arith))
  where
    drop_take : (a b : ℕ) (l : List ℕ) → a ≤ b → drop a (take b l) ≡ take (b - a) (drop a l)
    drop_take zero b l q = ap (λ (k : ℕ). take k l) (sym (sub-zero b))
    drop_take (suc a) zero l q = absurd (omega arith)
    drop_take (suc a) (suc b) [] q = sym (take-nil (suc b - suc a))
    drop_take (suc a) (suc b) (x ∷ l) q = drop_take a b l (omega arith) ∙ ap (λ (k : ℕ). take k (drop a l)) (sym (suc-sub-suc b a))
