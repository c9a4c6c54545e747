-- A session's record as four words: layer, round, claim, and 1 where it is open. Any other fourth word is that of an ended record.
-- Assumes nothing.
use Rattle.std.specs.Prelude.{ℕ, cond, List, [], ◌∷◌, eqb, get_or}
use Rattle.walk.specs.Session.{Record}
use Rattle.protocol.specs.Rounds.{Place, place}
use Rattle.protocol.specs.Session.{open_cause, opened_at}

abbrev pub session_of : List ℕ → Record Place
session_of ws = record { round = place (get_or ws 0 0) (get_or ws 1 0); claim = get_or ws 2 0; opened = eqb (get_or ws 3 0) 1 }

abbrev pub session_words : Record Place → List ℕ
session_words s = s.round.layer ∷ s.round.round ∷ s.claim ∷ cond s.opened 1 0 ∷ []

-- what Open leaves: a refusal leaves the words
abbrev pub open_words : List ℕ → List ℕ → List ℕ → List ℕ → List ℕ → List ℕ
open_words c input ys cs before = cond (eqb (open_cause c input ys cs) 0) (session_words (opened_at c ys cs)) before

-- what Step leaves, from the record after it: the words of a record that is not open stay, whatever they are
abbrev pub words_of_step : List ℕ → Record Place → List ℕ
words_of_step before after = cond (session_of before).opened (session_words after) before
