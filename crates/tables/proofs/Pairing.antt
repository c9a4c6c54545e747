-- Pairs of entries, one from either half of a list, replaced one after another: i of them are replaced, and the others are as they were. What
-- that makes of a table of weights, and of a table whose first variable is fixed.
-- Assumes nothing.
use mathlib.Core.Path.{◌≡◌, refl, sym, ap, ap₂, ◌∙◌}
use mathlib.Core.List.{List, [], ◌∷◌, ◌++◌, map, append_assoc, append-nil}
use Prim.Native.Nat.{ℕ, suc, ◌+◌, ◌/◌, ◌≤◌, ◌<◌}
use native.Mathlib.Nat.{le_of_suc-le-suc}
use native.Mathlib.Omega.{arith}
use lib.ListN.{length, take, drop, get_or, set, length-drop, length-append, take-append-drop, drop_of_length-le}
use lib.Seq.{length-take-le, drop-drop, drop_at}
use Rattle.std.specs.Simd.Lanes.{zip2}
use Rattle.std.proofs.lemmas.Simd.{get_or-zip2}
use Rattle.lists.specs.Buffer.{over}
use Rattle.lists.proofs.Storing.{Stored, kept, next, start as stored-start, end as stored-end}
use Rattle.algebra.specs.Numbers.{Numbers}
use Rattle.multilinear.specs.Extension.{between, blend, fold}
use Rattle.tables.specs.Table.{spread, paired}

length_paired : (a : ℕ → ℕ → ℕ) (xs ys : List ℕ) → length xs ≤ length ys → length (zip2 a xs ys) ≡ length xs
length_paired a [] ys h = refl
length_paired a (x ∷ xs) [] h = absurd (omega arith)
length_paired a (x ∷ xs) (y ∷ ys) h = ap suc (length_paired a xs ys (le_of_suc-le-suc h))

-- THE LOOP
module _ (a b : ℕ → ℕ → ℕ) (low₀ high₀ : List ℕ) (room : length low₀ ≤ length high₀) where
  pub record Paired (low high : List ℕ) (i : ℕ) : Type 0 where
    pub below : Stored (zip2 a low₀ high₀) low₀ low i
    pub above : Stored (zip2 b low₀ high₀) high₀ high i

  pub start : Paired low₀ high₀ 0
  start =
      let la = length_paired a low₀ high₀ room in
      let lb = length_paired b low₀ high₀ room in
      record { below = stored-start _ _ (omega arith); above = stored-start _ _ (omega arith) }

  pub step : (low high : List ℕ) (i x y : ℕ) → Paired low high i → i < length low₀ → x ≡ a (get_or low i 0) (get_or high i 0)
      → y ≡ b (get_or low i 0) (get_or high i 0) → Paired (set low i x) (set high i y) (i + 1)
  step low high i x y h more ex ey =
      let la = length_paired a low₀ high₀ room in
      let lb = length_paired b low₀ high₀ room in
      let first : get_or low i 0 ≡ get_or low₀ i 0 = kept h.below i 0 (omega arith) in
      let second : get_or high i 0 ≡ get_or high₀ i 0 = kept h.above i 0 (omega arith) in
      record {
        below = next h.below 0 x (omega arith) (ex ∙ ap₂ a first second ∙ sym (get_or-zip2 a low₀ high₀ i 0 0 0 more (omega arith)));
        above = next h.above 0 y (omega arith) (ey ∙ ap₂ b first second ∙ sym (get_or-zip2 b low₀ high₀ i 0 0 0 more (omega arith)));
      }

  pub end : (low high : List ℕ) (i : ℕ) → Paired low high i → length low₀ ≤ i
      → low ++ high ≡ over (zip2 a low₀ high₀ ++ zip2 b low₀ high₀) (low₀ ++ high₀)
  end low high i h all =
      let first = zip2 a low₀ high₀ in
      let second = zip2 b low₀ high₀ in
      let la : length first ≡ length low₀ = length_paired a low₀ high₀ room in
      let lb : length second ≡ length low₀ = length_paired b low₀ high₀ room in
      let none : drop (length first) low₀ ≡ [] = drop_of_length-le low₀ {i = length first} (omega arith) in
      let below : low ≡ first = stored-end h.below (omega arith) ∙ ap (λ (t : List ℕ). first ++ t) none ∙ append-nil first in
      let rest : drop (length (first ++ second)) (low₀ ++ high₀) ≡ drop (length second) high₀ =
      ap (λ (n : ℕ). drop n (low₀ ++ high₀)) (length-append first second) ∙ sym (drop-drop (length second) (length first) (low₀ ++ high₀))
      ∙ ap (drop (length second)) (drop_at low₀ high₀ (length first) (sym la)) in
      ap₂ (λ (l m : List ℕ). l ++ m) below (stored-end h.above (omega arith)) ∙ sym (append_assoc first second (drop (length second) high₀))
      ∙ ap (λ (t : List ℕ). (first ++ second) ++ t) (sym rest)

-- THE HALVES OF A LIST
pub halved : (a b : ℕ → ℕ → ℕ) (t low high : List ℕ) → low ≡ take (length t / 2) t → high ≡ drop (length t / 2) t → t ≡ low ++ high
    → over (zip2 a low high ++ zip2 b low high) (low ++ high) ≡ paired a b t
halved a b t low high el eh e = rw (el, eh) (ap (over _) (take-append-drop (length t / 2) t))

-- WHAT IS MADE OF THE PAIRS
by_first : (a : ℕ → ℕ → ℕ) (g : ℕ → ℕ) → ((x y : ℕ) → a x y ≡ g x) → (xs ys : List ℕ) → length xs ≤ length ys → zip2 a xs ys ≡ map g xs
by_first a g e [] ys h = refl
by_first a g e (x ∷ xs) [] h = absurd (omega arith)
by_first a g e (x ∷ xs) (y ∷ ys) h = ap₂ (λ (k : ℕ) (t : List ℕ). k ∷ t) (e x y) (by_first a g e xs ys (le_of_suc-le-suc h))

module _ (N : Numbers ℕ) (a b : ℕ → ℕ → ℕ) (t : List ℕ) where
  abbrev half : ℕ
  half = length t / 2

  abbrev low : List ℕ
  low = take half t

  abbrev high : List ℕ
  high = drop half t

  enough : length low ≤ length high
  enough = omega (arith, length-take-le half t (omega arith), length-drop half t)

  pub spread_of : (z : ℕ) → ((x y : ℕ) → a x y ≡ N.mul (N.sub N.𝟙 z) x) → ((x y : ℕ) → b x y ≡ N.mul z x)
      → paired a b t ≡ over (spread N z low) t
  unfolding spread
  spread_of z ea eb =
      ap₂ (λ (l m : List ℕ). over (l ++ m) t) (by_first a _ ea low high enough) (by_first b _ eb low high enough)

  blended : (r : ℕ) → ((x y : ℕ) → a x y ≡ between N r x y) → (xs ys : List ℕ) → zip2 a xs ys ≡ blend N r xs ys
  unfolding blend
  blended r e [] ys = refl
  blended r e (x ∷ xs) [] = refl
  blended r e (x ∷ xs) (y ∷ ys) = ap₂ (λ (k : ℕ) (l : List ℕ). k ∷ l) (e x y) (blended r e xs ys)

  seconds : ((x y : ℕ) → b x y ≡ y) → (xs ys : List ℕ) → zip2 b xs ys ++ drop (length (zip2 b xs ys)) ys ≡ ys
  seconds e [] ys = refl
  seconds e (x ∷ xs) [] = refl
  seconds e (x ∷ xs) (y ∷ ys) = ap₂ (λ (k : ℕ) (l : List ℕ). k ∷ l) (e x y) (seconds e xs ys)

  -- the upper half is as it was
  pub fold_of : (r : ℕ) → ((x y : ℕ) → a x y ≡ between N r x y) → ((x y : ℕ) → b x y ≡ y) → paired a b t ≡ over (fold N r t) t
  unfolding fold
  fold_of r ea eb =
      let first = zip2 a low high in
      let second = zip2 b low high in
      let size : length first ≡ half = length_paired a low high enough ∙ length-take-le half t (omega arith) in
      let upper : drop (length first) t ≡ high = ap (λ (n : ℕ). drop n t) size in
      let rest : drop (length (first ++ second)) t ≡ drop (length second) high =
      ap (λ (n : ℕ). drop n t) (length-append first second) ∙ sym (drop-drop (length second) (length first) t) ∙ ap (drop (length second)) upper in
      append_assoc first second (drop (length (first ++ second)) t) ∙ ap (λ (l : List ℕ). first ++ (second ++ l)) rest
      ∙ ap (λ (l : List ℕ). first ++ l) (seconds eb low high ∙ sym upper) ∙ ap (λ (l : List ℕ). over l t) (blended r ea low high)
