-- The lines of messages are no longer than their rounds and words allow.
-- Assumes nothing.
use Prim.Native.Nat.{ℕ, ◌+◌, ◌*◌, ◌≤◌}
use mathlib.Core.Bool.{Bool, true, false, cond}
use mathlib.Core.List.{List, [], ◌∷◌}
use native.Mathlib.Omega.{arith}
use lib.ListN.{length, take, drop, length-append, length-take, length-drop}
use Rattle.protocol.specs.Rounds.{Place, is_line}
use Rattle.protocol.specs.Judge.{message_length}
use Rattle.text.specs.Lines.{ascii}
use Rattle.text.proofs.Lengths.{line_short}
use Rattle.transcript_text.specs.Transcript.{word_of, messages_text}

-- a line's word is short
word_short : (c : List ℕ) (r : Place) → length (word_of c r) ≤ 4
word_short c r = go (is_line c r)
  where
    go : (b : Bool) → length (cond b (ascii "line") (ascii "sum")) ≤ 4
    go true = omega arith
    go false = omega arith

-- and so are the lines of these rounds
pub messages_short : (c : List ℕ) (rs : List Place) (ms : List ℕ) → length (messages_text c rs ms) ≤ 5 * length rs + 11 * length ms
unfolding messages_text
messages_short c [] ms = omega arith
messages_short c (r ∷ rs) ms =
    let w : ℕ = message_length c r in
    let line = line_short (word_of c r) (take w ms) in
    let rest = messages_short c rs (drop w ms) in
    rw length-append (omega (arith, word_short c r, line, rest, length-take w ms, length-drop w ms))
