-- A walk in a loop: before each round what is left of it, from the coins and words left, is the whole walk.
-- Assumes nothing.
use Prim.Native.Nat.{ℕ, ◌+◌, ◌≤◌, ◌<◌}
use mathlib.Core.Path.{◌≡◌, sym, ap, ap₂, ◌∙◌}
use mathlib.Core.List.{List, [], ◌∷◌, map}
use native.Mathlib.Omega.{arith}
use lib.ListN.{length, take, drop, get_or}
use lib.Seq.{take_all, drop-drop}
use Rattle.lists.specs.Count.{sum}
use Rattle.lists.proofs.Count.{sum_there, sum_passed}
use Rattle.lists.proofs.Steps.{take_up, drop_up}
use Rattle.refusal.specs.Number.{number_of}
use Rattle.refusal.specs.Order.{first}
use Rattle.refusal.specs.declared.Cause.{Cause}
use Rattle.refusal.proofs.Order.{refused_first, legal_first}
use Rattle.walk.specs.Game.{Game, Comparison, final_cause, walk}

-- one run of a game: its message words, its coins, and what the walk over all of them says
pub record Run (R : Type 0) : Type 0 where
  pub game : Game R
  pub final : Comparison
  pub messages : List ℕ
  pub coins : List ℕ
  pub whole : ℕ

module _ {R : Type 0} (run : Run R) where
  open run use {game as g, final, messages as ms, coins as cs, whole}

  -- these rounds are left, after n coins and `at` message words
  pub record Left (rest : List R) (n at claim : ℕ) : Type 0 where
    pub coins : length cs ≡ n + length rest
    pub words : at + sum (map g.len rest) ≡ length ms
    pub same : walk g final rest (take n cs) claim (drop at ms) (drop n cs) ≡ whole

  module _ {r : R} {rest : List R} {n at claim : ℕ} (h : Left (r ∷ rest) n at claim) where
    pub left_coin : n < length cs
    left_coin = omega (arith, h.coins)

    pub left_words : at + g.len r ≤ length ms
    left_words = sum_there g.len r rest at (length ms) h.words

    abbrev message : List ℕ
    message = take (g.len r) (drop at ms)

    abbrev later : ℕ
    later = walk g final rest (take (n + 1) cs) (g.next message (get_or cs n 0)) (drop (at + g.len r) ms) (drop (n + 1) cs)

    one_round : walk g final (r ∷ rest) (take n cs) claim (drop at ms) (drop n cs)
        ≡ first (g.judge r (take n cs) claim message) later
    unfolding walk
    one_round =
        let back : drop (g.len r) (drop at ms) ≡ drop (at + g.len r) ms = drop-drop (g.len r) at ms in
        ap (λ (l : List ℕ). walk g final (r ∷ rest) (take n cs) claim (drop at ms) l) (drop_up cs n 0 left_coin)
        ∙ ap₂ (λ (a b : List ℕ). first (g.judge r (take n cs) claim message) (walk g final rest a (g.next message (get_or cs n 0)) b (drop (n + 1) cs)))
        (sym (take_up cs n 0 left_coin)) back

    pub left_next : g.judge r (take n cs) claim message ≡ 0 → Left rest (n + 1) (at + g.len r) (g.next message (get_or cs n 0))
    left_next e = record {
      coins = omega (arith, h.coins);
      words = sum_passed g.len r rest at (length ms) h.words;
      same = sym (one_round ∙ legal_first (g.judge r (take n cs) claim message) later e) ∙ h.same;
    }

    pub left_refused : (cause : Cause) → number_of cause ≡ g.judge r (take n cs) claim message → number_of cause ≡ whole
    left_refused cause e = sym (one_round ∙ refused_first cause (g.judge r (take n cs) claim message) later e) ∙ h.same

  pub left_none : {n at claim : ℕ} → Left [] n at claim → final_cause (final cs claim) ≡ whole
  unfolding walk
  left_none {n} {at} {claim} h =
      let all : length cs ≤ n = omega (arith, h.coins) in
      ap (λ (l : List ℕ). final_cause (final l claim)) (sym (take_all n cs all)) ∙ h.same
