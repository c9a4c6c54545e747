-- A list of few words, as a row of a fixed length holds it.
-- Assumes nothing.
use Rattle.std.specs.Prelude.{ℕ, List, length, take, replicate}
use Rattle.lists.specs.Buffer.{over}
use Rattle.circuit.specs.Limits.{max_outputs}
use Rattle.short_list.specs.declared.ShortList.{ShortList}

-- its words in front, and the words past them are 0
abbrev pub short : List ℕ → ShortList
short l = record { count = length l; words = over l (replicate max_outputs 0) }

-- the list that a row holds
abbrev pub list_of : ShortList → List ℕ
list_of s = take s.count s.words
