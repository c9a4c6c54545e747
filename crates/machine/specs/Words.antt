-- Words, and lists of them, as the code has them.
-- Assumes nothing.
use Rattle.std.specs.Prelude.{ℕ, ◌^◌, ◌<◌, List}
use Rattle.lists.specs.Each.{All}
use Rattle.walk.specs.Rule.{Rule}
use Rattle.protocol.specs.Rounds.{Place}

-- "A word is an unsigned 32-bit number."
abbrev pub Word : ℕ → Type 0
Word w = w < 2 ^ 32

abbrev pub Words : List ℕ → Type 0
Words l = All Word l

-- a rule that answers lists of words
abbrev pub WordRule : Rule Place → Type 0
WordRule rule = (r : Place) (past : List ℕ) → Words (rule r past)

-- a circuit, an input and coins
pub record WordLists (c input cs : List ℕ) : Type 0 where
  pub circuit : Words c
  pub values : Words input
  pub coins : Words cs
