-- What a writer of text leaves in a lent buffer: as much of the text as the buffer holds, at its front.
-- Assumes nothing.
use Rattle.std.specs.Prelude.{ℕ, ◌≡◌, List, length, take}
use Rattle.lists.specs.Buffer.{over}

-- the part of a text that a buffer holds
abbrev pub held : List ℕ → List ℕ → List ℕ
held text buffer = take (length buffer) text

-- a text, the buffer before and after it, and the count of bytes written
pub record Wrote (text before after : List ℕ) (count : ℕ) : Type 0 where
  pub counted : count ≡ length (held text before)
  pub stands : after ≡ over (held text before) before
