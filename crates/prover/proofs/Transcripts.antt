-- All messages in two loops: those of the rounds before stand over the buffer's front, and those of the rounds left are what is still to come.
-- Assumes nothing.
use Prim.Native.Nat.{ℕ, ◌+◌, ◌-◌, ◌*◌, ◌≤◌, ◌<◌}
use mathlib.Core.Path.{◌≡◌, refl, sym, ap, ◌∙◌, subst}
use mathlib.Core.List.{List, ◌∷◌, ◌++◌, map}
use native.Mathlib.Nat.{le_of_eq}
use native.Mathlib.Omega.{arith}
use lib.ListN.{length, length-drop, length-take, take, drop}
use lib.Seq.{take_all, length-take-le}
use Rattle.lists.specs.Count.{sum}
use Rattle.lists.specs.Buffer.{over}
use Rattle.lists.proofs.Count.{sum_nil, sum_there, sum_passed}
use Rattle.lists.proofs.Buffer.{length_over, over_more}
use Rattle.circuit.specs.Circuit.{depth, output_exponent, exponent_at, message_words}
use Rattle.circuit.specs.Sized.{LegalCircuit}
use Rattle.circuit.specs.Values.{values_at}
use Rattle.walk.proofs.Saying.{Saying, saying_all, saying_none, said_more, saying_next}
use Rattle.protocol.specs.Rounds.{Place, place, rounds, layer_start, AtRound}
use Rattle.protocol.specs.Judge.{message_length}
use Rattle.protocol.specs.Check.{Counted}
use Rattle.protocol.specs.Prove.{message_from, honest, transcript}
use Rattle.protocol.proofs.Coins.{its_circuit}
use Rattle.protocol.proofs.Rounds.{as_many}
use Rattle.protocol.proofs.Sums.{message_words_lem}
use Rattle.protocol.proofs.Places.{before_round}
use Rattle.protocol.proofs.Truth.{honest_words}
use Rattle.standing.proofs.Loops as loops

module _ (c input cs first : List ℕ) where
  abbrev all : List ℕ
  all = transcript c (honest c input) cs

  -- the rounds left, after `at` words
  abbrev Rest : ℕ → List Place → ℕ → Type 0
  Rest at rest n = Saying (honest c input) (rounds c) (output_exponent c) cs rest n at × (at + sum (map (message_length c) rest) ≡ message_words c)

  pub record BeforeLayer (layer n at : ℕ) (buffer : List ℕ) : Type 0 where
    pub reached : loops.BeforeLayer c (Rest at) layer n
    pub written : buffer ≡ over (take at all) first

  pub record BeforeRound (layer round n at : ℕ) (buffer : List ℕ) : Type 0 where
    pub reached : loops.BeforeRound c (Rest at) layer round n
    pub written : buffer ≡ over (take at all) first

  -- a buffer with room for all messages stands before a round, whose message is due
  pub record Due (layer round n at : ℕ) (buffer : List ℕ) : Type 0 where
    pub given : Counted c input cs
    pub room : message_words c ≤ length first
    pub before : BeforeRound layer round n at buffer
    pub more : round < 2 * exponent_at c layer + 1

  pub is_due : {layer round n at end : ℕ} {buffer : List ℕ} → Counted c input cs → message_words c ≤ length first
      → BeforeRound layer round n at buffer → end ≡ 2 * exponent_at c layer + 1 → round < end → Due layer round n at buffer
  is_due {round = round} h room b e less = record { given = h; room = room; before = b; more = subst (λ (i : ℕ). round < i) e less }

  module _ (h : Counted c input cs) (room : message_words c ≤ length first) where
    legal : LegalCircuit c
    legal = its_circuit h

    pub all_start : (n : ℕ) → n ≡ layer_start c 1 → BeforeLayer 1 n 0 first
    all_start n e = record {
      reached =
          loops.loops_start c legal n e
          (saying_all (honest c input) (rounds c) (output_exponent c) cs (h.coins ∙ sym (as_many c)), omega (arith, message_words_lem c));
      written = refl;
    }

    as_long : (at : ℕ) {buffer : List ℕ} → buffer ≡ over (take at all) first → at ≤ message_words c → length buffer ≡ length first
    as_long at e low = ap length e ∙ length_over (take at all) first (omega (arith, room, length-take at all))

    module _ {layer n at : ℕ} {buffer : List ℕ} (b : BeforeLayer layer n at buffer) where
      pub layer_starts : layer ≤ depth c → BeforeRound layer 0 n at buffer
      layer_starts inside = record { reached = loops.layer_starts c legal b.reached inside; written = b.written }

      pub all_end : depth c < layer → (at ≡ message_words c) × (buffer ≡ over all first)
      unfolding transcript
      all_end out =
          let end = loops.loops_end c legal b.reached out in
          let size = saying_none (honest c input) (rounds c) (output_exponent c) cs end.0 in
          (omega (arith, end.1, sum_nil), b.written ∙ ap (λ (l : List ℕ). over l first) (take_all at all (le_of_eq size)))

    pub layer_ends : {layer round n at : ℕ} {buffer : List ℕ} → BeforeRound layer round n at buffer → 2 * exponent_at c layer + 1 ≤ round
        → BeforeLayer (layer + 1) n at buffer
    layer_ends b done = record { reached = loops.layer_ends c legal b.reached done; written = b.written }

  module _ {layer round n at : ℕ} {buffer : List ℕ} (due : Due layer round n at buffer) where
    opened : Rest at (place layer round ∷ before_round c layer (round + 1)) n
    opened = loops.round_opened c (its_circuit due.given) due.before.reached due.more

    pub coins_there : n < length cs
    coins_there = omega (arith, opened.0.coins)

    pub round_place : AtRound c (place layer round) (length (take n cs))
    round_place =
        loops.round_place c (its_circuit due.given) due.before.reached due.more cs (let there = coins_there in omega arith)

    words_left : at + message_length c (place layer round) ≤ message_words c
    words_left = sum_there (message_length c) (place layer round) (before_round c layer (round + 1)) at (message_words c) opened.1

    pub enough : at + message_length c (place layer round) ≤ length first
    enough = omega (arith, words_left, due.room)

    pub at_inside : at + message_length c (place layer round) ≤ length buffer
    at_inside = let left = words_left in omega (arith, enough, as_long due.given due.room at due.before.written (omega arith))

    pub lent_room : message_length c (place layer round) ≤ length (take (length buffer - at) (drop at buffer))
    lent_room = let inside = at_inside in omega (arith, length-take (length buffer - at) (drop at buffer), length-drop at buffer)

    abbrev message : List ℕ
    message = message_from c (values_at c input layer) (place layer round) (take n cs)

    pub next_round : {part : List ℕ} → part ≡ over message (take (length buffer - at) (drop at buffer))
        → BeforeRound layer (round + 1) (n + 1) (at + message_length c (place layer round))
        (take at buffer ++ (part ++ drop (length buffer - at) (drop at buffer)))
    unfolding transcript honest
    next_round {part} e =
        let room = enough in
        let said = opened.0 in
        let size : length message ≡ message_length c (place layer round) =
        (honest_words c input due.given.lists (place layer round) (take n cs) round_place).0 in
        let front : length (take at all) ≡ at = length-take-le at all said.inside in
        record {
          reached =
              loops.round_next c (its_circuit due.given) due.before.reached due.more (
                subst (λ (m : ℕ). Saying (honest c input) (rounds c) (output_exponent c) cs (before_round c layer (round + 1)) (n + 1) (at + m)) size
                    (saying_next (honest c input) (rounds c) (output_exponent c) cs said),
                sum_passed (message_length c) (place layer round) (before_round c layer (round + 1)) at (message_words c) opened.1,
              );
          written =
              over_more (take at all) message first buffer part at due.before.written front e (omega (arith, front, size))
              ∙ ap (λ (l : List ℕ). over l first)
              (sym (said_more (honest c input) (rounds c) (output_exponent c) cs said) ∙ ap (λ (m : ℕ). take (at + m) all) size);
        }
