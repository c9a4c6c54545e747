-- The weights of all indices, from the last coordinate on: one turn of `weights` makes both halves of a table from the weights at the coordinates
-- passed.
-- Assumes nothing.
use mathlib.Core.Path.{◌≡◌, refl, sym, ap, ◌∙◌}
use mathlib.Core.List.{List, [], ◌∷◌, ◌++◌, map, reverse}
use Prim.Native.Nat.{ℕ, suc, ◌*◌, ◌/◌, ◌^◌, ◌≤◌, ◌<◌, min}
use native.Mathlib.Nat.{two-pow-succ}
use native.Mathlib.Omega.{arith}
use lib.ListN.{length, take, drop, length-map, length-take}
use lib.Seq.{length-take-le, take-take}
use Rattle.std.specs.Prelude.{Option, Some}
use Rattle.std.specs.Iterator.{Yields}
use Rattle.std.proofs.lemmas.List.{length-reverse}
use Rattle.std.proofs.lemmas.Iterator.{YieldsList}
use Rattle.std.proofs.lemmas.Iterator.Consumers.{YieldsList-turn}
use Rattle.lists.specs.Buffer.{over}
use Rattle.algebra.specs.Numbers.{Numbers}
use Rattle.multilinear.specs.Tables.{weights}
use Rattle.multilinear.proofs.Tables.{length_weights}
use Rattle.extension.specs.Limits.{row_length}
use Rattle.tables.specs.Limits.{table_width}
use Rattle.tables.specs.Table.{spread}
use Rattle.tables.proofs.Front.{weights_fit, length_back, front_back}

weights_more : {C : Type 0} (N : Numbers C) (z : C) (zs : List C) → weights N (z ∷ zs) ≡ spread N z (weights N zs)
unfolding weights spread
weights_more N z zs = refl

-- a turn finds fewer coordinates passed than a row holds
pub few_passed : {S A B : Type 0} {steps : S → Option A → S → Type 0} {v : A → B} {s : S} (point : List B) (n : ℕ) → n ≡ min row_length (length point)
    → YieldsList steps v s (reverse (take n point)) → (items : List A) (t : S) → Yields steps s items t → (r : Option A) (u : S) (x : A) → r ≡ Some x
    → steps t r u → length (reverse (map v items)) < row_length
few_passed {v = v} point n size all items t y r u x e more =
    let turn = YieldsList-turn all items t y r u x e more in
    omega (arith, turn.0, length-reverse (take n point), length-take n point, length-reverse (map v items), length-map items v)

-- the weights at the coordinates passed, from a point's last on, at the front of a table
module _ {C : Type 0} (N : Numbers C) where
  pub record Weighed (passed l : List C) (n : ℕ) : Type 0 where
    pub count : n ≡ 2 ^ length passed
    pub size : length l ≡ table_width
    pub holds : take n l ≡ weights N passed

  pub none_weighed : (l : List C) → length l ≡ table_width → take 1 l ≡ N.𝟙 ∷ [] → Weighed [] l 1
  unfolding weights
  none_weighed l size h = record { count = refl; size = size; holds = h }

  module _ {passed l : List C} {n : ℕ} (h : Weighed passed l n) (few : length passed < row_length) where
    -- twice as many weights fit
    pub room : n * 2 ≤ table_width
    room = omega (arith, h.count, two-pow-succ (length passed), weights_fit (suc (length passed)) few)

    pub weigh_next : (part : List C) (z : C)
        → part ≡ over (spread N z (take (length (take (n * 2) l) / 2) (take (n * 2) l))) (take (n * 2) l)
        → Weighed (z ∷ passed) (part ++ drop (n * 2) l) (n * 2)
    weigh_next part z e =
        let fits = room in
        let size = h.size in
        let twice : n * 2 ≡ 2 ^ suc (length passed) = omega (arith, h.count, two-pow-succ (length passed)) in
        let lent : length (take (n * 2) l) / 2 ≡ n = ap (λ (m : ℕ). m / 2) (length-take-le (n * 2) l (omega arith)) ∙ omega arith in
        let before : take (length (take (n * 2) l) / 2) (take (n * 2) l) ≡ weights N passed =
        ap (λ (m : ℕ). take m (take (n * 2) l)) lent ∙ take-take n (n * 2) l (omega arith) ∙ h.holds in
        let ws : List C = spread N z (take (length (take (n * 2) l) / 2) (take (n * 2) l)) in
        let made : ws ≡ weights N (z ∷ passed) = ap (spread N z) before ∙ sym (weights_more N z passed) in
        let all : length ws ≡ n * 2 = ap length made ∙ length_weights N (z ∷ passed) ∙ sym twice in
        record {
          count = twice;
          size = length_back l part ws (n * 2) e (omega arith) (omega arith) ∙ size;
          holds = ap (λ (m : ℕ). take m (part ++ drop (n * 2) l)) (sym all) ∙ front_back l part ws (n * 2) e ∙ made;
        }
