-- The lines of all rounds: those written and those of the rounds left are the whole, before each layer and before each round.
-- Assumes nothing.
use Prim.Native.Nat.{ℕ, ◌+◌, ◌-◌, ◌*◌, ◌≤◌, ◌<◌}
use mathlib.Core.Path.{◌≡◌, refl, sym, ap, ap₂, ◌∙◌, subst}
use mathlib.Core.List.{List, [], ◌∷◌, ◌++◌, map, append_assoc, append-nil}
use native.Mathlib.Nat.{zero-add}
use native.Mathlib.Omega.{arith}
use lib.ListN.{length, take, drop}
use lib.Seq.{drop-drop}
use Rattle.lists.specs.Count.{sum}
use Rattle.lists.proofs.Count.{sum_there, sum_passed}
use Rattle.circuit.specs.Circuit.{depth, exponent_at, message_words}
use Rattle.circuit.specs.Sized.{LegalCircuit}
use Rattle.protocol.specs.Rounds.{Place, place, rounds, layer_start}
use Rattle.protocol.specs.Judge.{message_length}
use Rattle.protocol.proofs.Sums.{message_words_lem}
use Rattle.protocol.proofs.Places.{before_round}
use Rattle.standing.proofs.Loops as loops
use Rattle.text.specs.Lines.{line_text}
use Rattle.text.specs.Wrote.{Wrote}
use Rattle.text.proofs.Writing.{wrote_none, wrote_more, wrote_as}
use Rattle.transcript_text.specs.Transcript.{word_of, messages_text}

module _ (c ms before : List ℕ) where
  -- after `at` message words and `to` bytes, with these rounds left
  pub record Left (text : List ℕ) (at to : ℕ) (rs : List Place) (n : ℕ) : Type 0 where
    pub done : List ℕ
    pub wrote : Wrote done before text to
    pub whole : done ++ messages_text c rs (drop at ms) ≡ messages_text c (rounds c) ms
    pub counted : at + sum (map (message_length c) rs) ≡ length ms

  -- before a layer, and before a round of one, n coins before it
  pub record BeforeLayer (text : List ℕ) (at to layer : ℕ) : Type 0 where
    pub coins : ℕ
    pub stands : loops.BeforeLayer c (Left text at to) layer coins

  pub record BeforeRound (text : List ℕ) (at to layer round : ℕ) : Type 0 where
    pub coins : ℕ
    pub stands : loops.BeforeRound c (Left text at to) layer round coins

  -- a round of a legal circuit whose line is due
  pub record Due (text : List ℕ) (at to layer round : ℕ) : Type 0 where
    pub legal : LegalCircuit c
    pub here : BeforeRound text at to layer round
    pub more : round < 2 * exponent_at c layer + 1

  pub is_due : {text : List ℕ} {at to layer round end : ℕ} → LegalCircuit c → BeforeRound text at to layer round
      → end ≡ 2 * exponent_at c layer + 1 → round < end → Due text at to layer round
  is_due {round = round} legal b e less = record { legal = legal; here = b; more = subst (λ (i : ℕ). round < i) e less }

  module _ (legal : LegalCircuit c) where
    pub lines_start : length ms ≡ message_words c → BeforeLayer before 0 0 1
    lines_start e = record {
      coins = layer_start c 1;
      stands =
          loops.loops_start c legal (layer_start c 1) refl
          (record {
            done = [];
            wrote = wrote_none before;
            whole = refl;
            counted = zero-add (sum (map (message_length c) (rounds c))) ∙ message_words_lem c ∙ sym e;
          });
    }

    module _ {text : List ℕ} {at to layer : ℕ} where
      pub layer_starts : BeforeLayer text at to layer → layer ≤ depth c → BeforeRound text at to layer 0
      layer_starts b inside = record { coins = b.coins; stands = loops.layer_starts c legal b.stands inside }

      pub layer_ends : {round : ℕ} → BeforeRound text at to layer round → 2 * exponent_at c layer + 1 ≤ round → BeforeLayer text at to (layer + 1)
      layer_ends b done = record { coins = b.coins; stands = loops.layer_ends c legal b.stands done }

      pub lines_end : BeforeLayer text at to layer → depth c < layer → Wrote (messages_text c (rounds c) ms) before text to
      unfolding messages_text
      lines_end b out =
          let left = loops.loops_end c legal b.stands out in
          wrote_as left.done before text to left.wrote (messages_text c (rounds c) ms) (sym (append-nil left.done) ∙ left.whole)

  module _ {text : List ℕ} {at to layer round : ℕ} (due : Due text at to layer round) where
    abbrev len : ℕ
    len = message_length c (place layer round)

    left : Left text at to (place layer round ∷ before_round c layer (round + 1)) due.here.coins
    left = loops.round_opened c due.legal due.here.stands due.more

    pub words_there : at + len ≤ length ms
    words_there = sum_there (message_length c) (place layer round) (before_round c layer (round + 1)) at (length ms) left.counted

    pub round_done : {part : List ℕ} {n : ℕ}
        → Wrote (line_text (word_of c (place layer round)) (take (at + len - at) (drop at ms))) (take (length text - to) (drop to text)) part n
        → BeforeRound (take to text ++ (part ++ drop (length text - to) (drop to text))) (at + len) (to + n) layer (round + 1)
    unfolding messages_text
    round_done {part} {n} v =
        let rest : List Place = before_round c layer (round + 1) in
        let cut : at + len - at ≡ len = omega arith in
        let line : List ℕ = line_text (word_of c (place layer round)) (take (at + len - at) (drop at ms)) in
        let same : line ≡ line_text (word_of c (place layer round)) (take len (drop at ms)) =
        ap (λ (i : ℕ). line_text (word_of c (place layer round)) (take i (drop at ms))) cut in
        record {
          coins = due.here.coins + 1;
          stands =
              loops.round_next c due.legal due.here.stands due.more
              (record {
                done = left.done ++ line;
                wrote = wrote_more left.done before text to left.wrote line part n v;
                whole =
                    append_assoc left.done line (messages_text c rest (drop (at + len) ms))
                    ∙ ap₂ (λ (l : List ℕ) (ws : List ℕ). left.done ++ (l ++ messages_text c rest ws)) same (sym (drop-drop len at ms))
                    ∙ left.whole;
                counted = sum_passed (message_length c) (place layer round) rest at (length ms) left.counted;
              });
        }
