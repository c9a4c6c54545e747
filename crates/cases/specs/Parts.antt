-- Parts of a list: of the bytes of a case, and of its words.
-- Assumes nothing.
use Rattle.std.specs.Prelude.{ℕ, ◌+◌, ◌-◌, List, get_or, take, drop}

-- what stands from one place to another, as much of it as there is
abbrev pub between : {A : Type 0} → ℕ → ℕ → List A → List A
between start end l = take (end - start) (drop start l)

-- The list with this index. The words begin with the places where the lists start, in order; the place behind the last list follows.
unfoldable pub list_at : ℕ → List ℕ → List ℕ
list_at i l = between (get_or l i 0) (get_or l (i + 1) 0) l
