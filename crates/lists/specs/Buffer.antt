-- What a writer leaves in a lent buffer.
-- Assumes nothing.
use Rattle.std.specs.Prelude.{List, ◌++◌, length, drop}

-- `ms` at the front of the buffer `l`, and the rest of `l` as it was
abbrev pub over : {A : Type 0} → List A → List A → List A
over ms l = ms ++ drop (length ms) l
