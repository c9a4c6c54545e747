-- What holds of every element of a list, and lists that name nothing twice.
-- Assumes nothing.
use Rattle.std.specs.Prelude.{◌≢◌, List, [], ◌∷◌}

-- P of each element
abbrev pub All : {A : Type 0} → (A → Type 0) → List A → Type 0
All P [] = Unit {0}
All P (x ∷ l) = P x × All P l

-- no element twice
abbrev pub Distinct : {A : Type 0} → List A → Type 0
Distinct [] = Unit {0}
Distinct (x ∷ l) = All (λ y. y ≢ x) l × Distinct l
