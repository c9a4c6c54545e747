-- A sum modulo p over a list, built from its first item on: after `a` items it is the sum over these. The definition builds it from the last one
-- on, and modulo p the order does not matter.
-- Assumes nothing.
use mathlib.Core.Path.{◌≡◌, refl, sym, ap, ap₂, ◌∙◌}
use mathlib.Core.List.{List, [], ◌∷◌}
use Prim.Native.Nat.{ℕ, zero, suc, ◌+◌, ◌%◌, ◌≤◌, ◌<◌}
use native.Mathlib.Nat.{add-zero, add-mod-mod}
use native.Mathlib.Numerals.{add-one}
use native.Mathlib.Omega.{arith}
use lib.ListN.{length, take, get_or}
use lib.Seq.{take_all}
use Rattle.algebra.specs.Numbers.{words}
use Rattle.multilinear.specs.Extension.{sum_from}

module _ {A : Type 0} (p : ℕ) (f : ℕ → A → ℕ) (none : A) where
  -- one item more at the end, where the first has number i
  one_more : (i a : ℕ) (gs : List A) (x : ℕ) → a < length gs → x ≡ f (i + a) (get_or gs a none)
      → (x + sum_from (words p) f i (take a gs)) % p ≡ sum_from (words p) f i (take (suc a) gs)
  unfolding sum_from
  one_more i a [] x h e = absurd (omega arith)
  one_more i zero (g ∷ gs) x h e = ap (λ (y : ℕ). (y + 0) % p) (e ∙ ap (λ (n : ℕ). f n g) (add-zero i))
  one_more i (suc a) (g ∷ gs) x h e =
      let rest : ℕ = sum_from (words p) f (suc i) (take a gs) in
      let on : i + suc a ≡ suc i + a = omega arith in
      let order : x + (f i g + rest) ≡ f i g + (x + rest) = omega arith in
      add-mod-mod x (f i g + rest) p ∙ ap (λ (n : ℕ). n % p) order ∙ sym (add-mod-mod (f i g) (x + rest) p)
      ∙ ap (λ (n : ℕ). (f i g + n) % p) (one_more (suc i) a gs x (omega arith) (e ∙ ap (λ (n : ℕ). f n (get_or gs a none)) on))

  module _ (gs : List A) where
    -- the sum over the first a items
    abbrev pub sum_to : ℕ → ℕ
    sum_to a = sum_from (words p) f 0 (take a gs)

    pub to_none : 0 ≡ sum_to 0
    unfolding sum_from
    to_none = refl

    pub to_next : (a : ℕ) (g : A) (x sum : ℕ) → a < length gs → get_or gs a none ≡ g → x ≡ f a g → sum ≡ sum_to a → (x + sum) % p ≡ sum_to (a + 1)
    to_next a g x sum more is e h =
        let here : 0 + a ≡ a = omega arith in
        ap (λ (s : ℕ). (x + s) % p) h
        ∙ one_more 0 a gs x more (e ∙ ap₂ f (sym here) (sym is)) ∙ ap sum_to (sym (add-one a))

    pub to_all : (a : ℕ) → length gs ≤ a → sum_to a ≡ sum_from (words p) f 0 gs
    to_all a h = ap (sum_from (words p) f 0) (take_all a gs h)
