-- The walk's two loops: what is left before a layer, or before a round, is the whole walk.
-- Assumes nothing.
use Prim.Native.Nat.{ℕ, ◌+◌, ◌-◌, ◌*◌, ◌≤◌, ◌<◌}
use mathlib.Core.Path.{◌≡◌, refl, sym, ap, ◌∙◌, subst}
use mathlib.Core.List.{List, ◌∷◌}
use native.Mathlib.Omega.{arith}
use lib.ListN.{length, take, drop, get_or}
use Rattle.refusal.specs.Number.{number_of}
use Rattle.refusal.specs.declared.Cause.{Cause}
use Rattle.circuit.specs.Circuit.{depth, exponent_at, message_words}
use Rattle.walk.specs.Game.{final_cause}
use Rattle.walk.proofs.Loop.{Run, Left, left_coin, left_words, left_next, left_refused, left_none}
use Rattle.protocol.specs.Rounds.{Place, place, layer_start, AtRound}
use Rattle.protocol.specs.Judge.{message_at, message_length, judge, input_agrees, descent}
use Rattle.protocol.specs.Check.{Counted, walk_from}
use Rattle.protocol.proofs.Coins.{its_circuit}
use Rattle.protocol.proofs.Rounds.{as_many}
use Rattle.protocol.proofs.Sums.{message_words_lem}
use Rattle.protocol.proofs.Places.{before_round}
use Rattle.standing.proofs.Loops as loops

-- what is checked: a circuit and its input, the claim that the walk starts from, and the messages and coins that are to show it
pub record Claimed : Type 0 where
  pub circuit : List ℕ
  pub input : List ℕ
  pub first : ℕ
  pub messages : List ℕ
  pub coins : List ℕ

abbrev pub claimed : List ℕ → List ℕ → ℕ → List ℕ → List ℕ → Claimed
claimed c input first ms cs = record { circuit = c; input = input; first = first; messages = ms; coins = cs }

module _ (k : Claimed) where
  open k use {circuit as c, input, first as y, messages as ms, coins as cs}

  abbrev run : Run Place
  run = record { game = descent c; final = input_agrees c input; messages = ms; coins = cs; whole = walk_from c input y cs ms }

  -- what is left, after `at` message words and with this claim
  abbrev LeftAt : ℕ → ℕ → List Place → ℕ → Type 0
  LeftAt at claim rest n = Left run rest n at claim

  abbrev pub BeforeLayer : ℕ → ℕ → ℕ → ℕ → Type 0
  BeforeLayer layer n at claim = loops.BeforeLayer c (LeftAt at claim) layer n

  abbrev pub BeforeRound : ℕ → ℕ → ℕ → ℕ → ℕ → Type 0
  BeforeRound layer round n at claim = loops.BeforeRound c (LeftAt at claim) layer round n

  -- a walk stands before a round, whose message is due
  pub record Due (layer round n at claim : ℕ) : Type 0 where
    pub given : Counted c input cs
    pub before : BeforeRound layer round n at claim
    pub more : round < 2 * exponent_at c layer + 1

  pub due : Counted c input cs → {layer round n at claim : ℕ} → BeforeRound layer round n at claim → {end : ℕ}
      → end ≡ 2 * exponent_at c layer + 1 → round < end → Due layer round n at claim
  due h {layer} {round} {n} {at} {claim} before {end} e more =
      record { given = h; before = before; more = subst (λ (i : ℕ). round < i) e more }

  pub walk_starts : Counted c input cs → length ms ≡ message_words c → (n : ℕ) → n ≡ layer_start c 1 → BeforeLayer 1 n 0 y
  unfolding descent
  walk_starts h words n e =
      loops.loops_start c (its_circuit h) n e
      (record { coins = h.coins ∙ sym (as_many c); words = omega (arith, message_words_lem c, words); same = refl })

  pub walk_ends : Counted c input cs → {layer n at claim : ℕ} → BeforeLayer layer n at claim → depth c < layer
      → final_cause (input_agrees c input cs claim) ≡ walk_from c input y cs ms
  walk_ends h b out = left_none run (loops.loops_end c (its_circuit h) b out)

  module _ {layer round n at claim : ℕ} (due : Due layer round n at claim) where
    opened : LeftAt at claim (place layer round ∷ before_round c layer (round + 1)) n
    opened = loops.round_opened c (its_circuit due.given) due.before due.more

    pub coin_there : n < length cs
    coin_there = left_coin run opened

    pub words_there : at + message_length c (place layer round) ≤ length ms
    unfolding descent
    words_there = left_words run opened

    pub round_place : AtRound c (place layer round) (length (take n cs))
    round_place = loops.round_place c (its_circuit due.given) due.before due.more cs (let there = coin_there in omega arith)

    module _ (w : ℕ) (ew : w ≡ message_length c (place layer round)) where
      abbrev message : List ℕ
      message = take (at + w - at) (drop at ms)

      same_message : message ≡ take (message_length c (place layer round)) (drop at ms)
      same_message = let cut : at + w - at ≡ w = omega arith in ap (λ (i : ℕ). take i (drop at ms)) (cut ∙ ew)

      pub round_passes : (next : ℕ) → judge c (place layer round) (take n cs) claim message ≡ 0 → next ≡ message_at c message (get_or cs n 0)
          → BeforeRound layer (round + 1) (n + 1) (at + w) next
      unfolding descent
      round_passes next e en =
          let on = left_next run opened (ap (judge c (place layer round) (take n cs) claim) (sym same_message) ∙ e) in
          let claims : message_at c (take (message_length c (place layer round)) (drop at ms)) (get_or cs n 0) ≡ next =
          ap (λ (m : List ℕ). message_at c m (get_or cs n 0)) (sym same_message) ∙ sym en in
          loops.round_next c (its_circuit due.given) due.before due.more
          (subst (λ (i : ℕ). LeftAt (at + i) next (before_round c layer (round + 1)) (n + 1)) (sym ew)
          (subst (λ (i : ℕ). LeftAt (at + message_length c (place layer round)) i (before_round c layer (round + 1)) (n + 1)) claims on))

      pub round_refuses : (cause : Cause) → number_of cause ≡ judge c (place layer round) (take n cs) claim message
          → number_of cause ≡ walk_from c input y cs ms
      unfolding descent
      round_refuses cause e = left_refused run opened cause (e ∙ ap (judge c (place layer round) (take n cs) claim) same_message)
