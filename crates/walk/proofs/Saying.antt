-- A rule's messages in a loop: before each round those of the rounds left are what is still to come of the whole.
-- Assumes nothing.
use Prim.Native.Nat.{ℕ, ◌+◌, ◌≤◌, ◌<◌}
use mathlib.Core.Path.{◌≡◌, refl, sym, ap, ◌∙◌}
use mathlib.Core.List.{List, [], ◌∷◌, ◌++◌, flatten}
use native.Mathlib.Omega.{arith}
use lib.ListN.{length, length-append, length-drop, take, drop}
use lib.Seq.{drop-drop, drop-append_seam, take-append_seam, take-add}
use Rattle.lists.proofs.Steps.{take_up, drop_up}
use Rattle.walk.specs.Rule.{Rule, said}

-- so many coins come before any message
module _ {R : Type 0} (rule : Rule R) (rounds : List R) (first-coins : ℕ) (cs : List ℕ) where
  abbrev whole : List ℕ
  whole = flatten (said rule rounds (take first-coins cs) (drop first-coins cs))

  -- these rounds are left, after n coins and `at` words
  pub record Saying (rest : List R) (n at : ℕ) : Type 0 where
    pub coins : length cs ≡ n + length rest
    pub inside : at ≤ length whole
    pub left : drop at whole ≡ flatten (said rule rest (take n cs) (drop n cs))

  pub saying_all : length cs ≡ first-coins + length rounds → Saying rounds first-coins 0
  saying_all e = record { coins = omega arith; inside = omega arith; left = refl }

  pub saying_none : {n at : ℕ} → Saying [] n at → length whole ≡ at
  unfolding said flatten
  saying_none {n} {at} h =
      let none : length (drop at whole) ≡ 0 = ap length h.left in
      let inside = h.inside in
      omega (arith, none, length-drop at whole)

  module _ {r : R} {rest : List R} {n at : ℕ} (h : Saying (r ∷ rest) n at) where
    abbrev message : List ℕ
    message = rule r (take n cs)

    abbrev later : List ℕ
    later = flatten (said rule rest (take (n + 1) cs) (drop (n + 1) cs))

    one_round : drop at whole ≡ message ++ later
    unfolding said flatten
    one_round =
        let more : n < length cs = omega (arith, h.coins) in
        h.left
        ∙ ap (λ (l : List ℕ). flatten (said rule (r ∷ rest) (take n cs) l)) (drop_up cs n 0 more)
        ∙ ap (λ (l : List ℕ). message ++ flatten (said rule rest l (drop (n + 1) cs))) (sym (take_up cs n 0 more))

    pub saying_room : at + length message ≤ length whole
    saying_room =
        let size = ap length one_round ∙ length-append message later in
        let inside = h.inside in
        omega (arith, size, length-drop at whole)

    -- the words so far, with this message
    pub said_more : take (at + length message) whole ≡ take at whole ++ message
    said_more =
        take-add at (length message) whole
        ∙ ap (λ (l : List ℕ). take at whole ++ take (length message) l) one_round
        ∙ ap (λ (l : List ℕ). take at whole ++ l) (take-append_seam message later)

    pub saying_next : Saying rest (n + 1) (at + length message)
    saying_next = record {
      coins = omega (arith, h.coins);
      inside = saying_room;
      left = sym (drop-drop (length message) at whole) ∙ ap (drop (length message)) one_round ∙ drop-append_seam message later;
    }
