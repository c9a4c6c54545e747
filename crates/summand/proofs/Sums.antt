-- The sums over the gates of each kind, in one pass, and the summand from them. A gate is of one kind, and to the other sums it adds 0.
-- Assumes nothing.
use mathlib.Core.Path.{◌≡◌, refl, sym, ap, ◌∙◌}
use mathlib.Core.Logic.{◌≢◌}
use mathlib.Core.Bool.{Bool, true, false, cond}
use mathlib.Core.List.{List, [], ◌∷◌}
use Prim.Native.Nat.{ℕ, suc, ◌+◌, ◌*◌, ◌%◌, ◌≤◌, ◌<◌}
use native.Mathlib.Nat.{zero-add, add-zero, mod-eq_of_lt, mod-mod}
use native.Mathlib.Omega.{arith}
use borrow.Author.Tests.{eq-eqb, ne_eqb, eqb-true, eqb-false}
use lib.Dec.{eqb}
use lib.ListN.{length, take, get_or, set, replicate, length-set, get_or-replicate}
use lib.Seq.{get_or-set_same, get_or-set_other, ext_get_or}
use Rattle.lists.proofs.Map.{get_d_map_lt}
use Rattle.algebra.specs.Numbers.{Numbers, words}
use Rattle.multilinear.specs.Extension.{sum_from}
use Rattle.multilinear.proofs.Words.{sum_from_below}
use Rattle.circuit.specs.Gate.{Gate, gate, kinds, max_kind, operate}
use Rattle.circuit.proofs.Operate.{kind_at}
use Rattle.sumcheck.specs.Summand.{gate_weight, wiring, combined}
use Rattle.summand.specs.Gates.{wirings, by_kinds}
use Rattle.summand.proofs.Passes.{sum_to, to_none, to_next, to_all}

plus_zero : (p n : ℕ) → n < p → (0 + n) % p ≡ n
plus_zero p n h = ap (λ (m : ℕ). m % p) (zero-add n) ∙ mod-eq_of_lt h

-- ALL KINDS IN ONE PASS, on words
abbrev pub none : Gate
none = gate 0 0 0

module _ (p : ℕ) (gs : List Gate) (point u v : List ℕ) where
  -- what a gate counts in the sum over the gates of a kind
  abbrev counted : ℕ → ℕ → Gate → ℕ
  counted kind a g = cond (eqb g.kind kind) (gate_weight (words p) point u v a g.left g.right) 0

  -- the sum over the first a of them
  abbrev kind_to : ℕ → ℕ → ℕ
  kind_to kind a = sum_to p (counted kind) none gs a

  pub record Passed (sums : List ℕ) (a : ℕ) : Type 0 where
    pub positive : 0 < p
    pub sized : length sums ≡ max_kind
    pub each : (i : ℕ) → i < max_kind → get_or sums i 0 ≡ kind_to (suc i) a

  pub start : 0 < p → Passed (replicate max_kind 0) 0
  start pos = record {
    positive = pos;
    sized = refl;
    each = λ i h. get_or-replicate {A = ℕ} max_kind i 0 0 h ∙ to_none p (counted (suc i)) none gs;
  }

  module _ {sums : List ℕ} {a : ℕ} (h : Passed sums a) (more : a < length gs) {g : Gate} (is : get_or gs a none ≡ g) where
    step : (kind x : ℕ) → x ≡ counted kind a g → (x + kind_to kind a) % p ≡ kind_to kind (a + 1)
    step kind x e = to_next p (counted kind) none gs a g x (kind_to kind a) more is e refl

    -- a gate of another kind
    other_kind : (kind : ℕ) → g.kind ≢ kind → kind_to kind a ≡ kind_to kind (a + 1)
    other_kind kind ne =
        sym (plus_zero p (kind_to kind a) (sum_from_below p h.positive (counted kind) 0 (take a gs)))
        ∙ step kind 0 (simp (ne_eqb g.kind kind ne))

    -- the gate's kind has no sum
    pub none_counts : ((i : ℕ) → i < max_kind → g.kind ≢ suc i) → Passed sums (a + 1)
    none_counts apart = record {
      positive = h.positive;
      sized = h.sized;
      each = λ i l. h.each i l ∙ other_kind (suc i) (apart i l);
    }

    -- it has one, and the gate's weight is added there
    pub one_counts : {i w : ℕ} → g.kind ≡ suc i → i < max_kind → w ≡ gate_weight (words p) point u v a g.left g.right
        → Passed (set sums i ((w + get_or sums i 0) % p)) (a + 1)
    one_counts {i} {w} kind inside weighed = record {
      positive = h.positive;
      sized = length-set sums i _ ∙ h.sized;
      each = λ j m. at j m (eqb j i) refl;
    }
      where
        at : (j : ℕ) → j < max_kind → (b : Bool) → eqb j i ≡ b → get_or (set sums i ((w + get_or sums i 0) % p)) j 0 ≡ kind_to (suc j) (a + 1)
        at j m true e =
            rw (eqb-true j i e)
            (get_or-set_same sums i _ 0 (omega (arith, h.sized, inside)) ∙ ap (λ (s : ℕ). (w + s) % p) (h.each i inside)
            ∙ step (suc i) w (weighed ∙ simp (eq-eqb g.kind (suc i) kind)))
        at j m false e =
            let ne : j ≢ i = eqb-false j i e in
            get_or-set_other sums i j _ 0 ne ∙ h.each j m ∙ other_kind (suc j) (λ same. ne (omega (arith, kind)))

  pub end : (sums : List ℕ) (a : ℕ) → Passed sums a → length gs ≤ a → sums ≡ wirings (words p) gs point u v
  unfolding wiring
  end sums a h e =
      ext_get_or 0 sums (wirings (words p) gs point u v) h.sized (λ i l.
      let m : i < max_kind = omega (arith, h.sized) in
      h.each i m ∙ to_all p (counted (suc i)) none gs a e ∙ sym (get_d_map_lt whole kinds i 0 0 m ∙ ap whole (kind_at i m)))
    where
      whole : ℕ → ℕ
      whole kind = wiring (words p) kind gs point u v

-- FROM THE SUMS, kind by kind: the kinds' parts are the sum over all kinds
module _ (p x y : ℕ) where
  abbrev pub given : ℕ → ℕ → ℕ
  given sum kind = (words p).mul sum (operate (words p) kind x y)

  pub each_added : (sums : List ℕ) → length sums ≡ max_kind
      → (words p).add (given (get_or sums 0 0) 1) ((words p).add (given (get_or sums 1 0) 2) (given (get_or sums 2 0) 3)) ≡ by_kinds (words p) sums x y
  unfolding sum_from
  each_added [] e = absurd (omega arith)
  each_added (a ∷ []) e = absurd (omega arith)
  each_added (a ∷ b ∷ []) e = absurd (omega arith)
  each_added (a ∷ b ∷ c ∷ d ∷ l) e = absurd (omega arith)
  each_added (a ∷ b ∷ c ∷ []) e =
      let m : ℕ = c * operate (words p) 3 x y in
      ap (λ (n : ℕ). (words p).add (given a 1) ((words p).add (given b 2) n)) (sym (ap (λ (n : ℕ). n % p) (add-zero (m % p)) ∙ mod-mod m p))

-- the summand, from all of them
pub from_sums : (N : Numbers ℕ) (gs : List Gate) (point u v : List ℕ) (x y : ℕ) → by_kinds N (wirings N gs point u v) x y ≡ combined N gs point u v x y
unfolding combined sum_from
from_sums N gs point u v x y = refl
