-- A table with variables fixed, one after another, at its own front.
-- Assumes nothing.
use mathlib.Core.Path.{◌≡◌, sym, ap, ◌∙◌}
use mathlib.Core.List.{List, [], ◌∷◌, ◌++◌}
use Prim.Native.Nat.{ℕ, ◌+◌, ◌/◌, ◌≤◌, ◌<◌}
use native.Mathlib.Omega.{arith}
use lib.ListN.{length, take, drop, get_or}
use lib.Seq.{length-take-le, take_all}
use Rattle.lists.specs.Buffer.{over}
use Rattle.lists.proofs.Steps.{take_up}
use Rattle.algebra.specs.Numbers.{Numbers}
use Rattle.multilinear.specs.Extension.{fold}
use Rattle.multilinear.specs.Tables.{folded}
use Rattle.multilinear.proofs.Tables.{length_fold, folded_none, folded_one, folded_append}
use Rattle.tables.specs.Limits.{table_width}
use Rattle.tables.proofs.Front.{length_back, front_back}

-- the first variables of vs fixed at the first i coordinates of a point, at the front of a table
module _ {C : Type 0} (N : Numbers C) (point vs : List C) where
  pub record Fixed (l : List C) (n i : ℕ) : Type 0 where
    pub reached : i ≤ length point
    pub within : n ≤ table_width
    pub size : length l ≡ table_width
    pub holds : take n l ≡ folded N (take i point) vs

  pub none_fixed : (l : List C) (n : ℕ) → n ≤ table_width → length l ≡ table_width → take n l ≡ vs → Fixed l n 0
  none_fixed l n h size e = record {
    reached = omega arith;
    within = h;
    size = size;
    holds = e ∙ sym (folded_none N vs);
  }

  pub fix_next : (l part : List C) (n i : ℕ) → Fixed l n i → i < length point
      → part ≡ over (fold N (get_or point i N.𝟘) (take n l)) (take n l) → Fixed (part ++ drop n l) (n / 2) (i + 1)
  fix_next l part n i h more e =
      let r : C = get_or point i N.𝟘 in
      let within = h.within in
      let size = h.size in
      let count : length (take n l) ≡ n = length-take-le n l (omega arith) in
      let halved : length (fold N r (take n l)) ≡ n / 2 = length_fold N r (take n l) ∙ ap (λ (m : ℕ). m / 2) count in
      record {
        reached = omega arith;
        within = omega arith;
        size = length_back l part (fold N r (take n l)) n e (omega arith) (omega arith) ∙ size;
        holds = ap (λ (m : ℕ). take m (part ++ drop n l)) (sym halved) ∙ front_back l part (fold N r (take n l)) n e
            ∙ ap (fold N r) h.holds ∙ sym (folded_one N r (folded N (take i point) vs))
            ∙ sym (folded_append N (take i point) (r ∷ []) vs)
            ∙ ap (λ (xs : List C). folded N xs vs) (sym (take_up point i N.𝟘 more));
      }

  -- with all coordinates passed the table is the folded one
  pub all_fixed : (l : List C) (n i : ℕ) → Fixed l n i → length point ≤ i → take (length (folded N point vs)) l ≡ folded N point vs
  all_fixed l n i h all =
      let within = h.within in
      let size = h.size in
      let whole : take n l ≡ folded N point vs = h.holds ∙ ap (λ (xs : List C). folded N xs vs) (take_all i point all) in
      ap (λ (m : ℕ). take m l) (sym (ap length whole) ∙ length-take-le n l (omega arith)) ∙ whole
