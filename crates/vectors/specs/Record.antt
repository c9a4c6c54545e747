-- A session's record in a case.
-- Assumes nothing.
use Rattle.std.specs.Prelude.{ℕ, List, eqb, get_or}
use Rattle.session.specs.declared.Session.{Session}

-- the record whose figures are in a list
abbrev pub session_in : List ℕ → Session
session_in figures =
    record { layer = get_or figures 0 0; round = get_or figures 1 0; claim = get_or figures 2 0; «open» = eqb (get_or figures 3 0) 1 }
