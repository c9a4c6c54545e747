-- Sums and counts over a list, and the list of the numbers below a bound.
-- Assumes nothing.
use Rattle.std.specs.Prelude.{ℕ, zero, suc, ◌+◌, Bool, true, false, List, [], ◌∷◌, ◌++◌, map}

unfoldable pub sum : List ℕ → ℕ
sum [] = 0
sum (n ∷ l) = n + sum l

abbrev pub one_if : Bool → ℕ
one_if true = 1
one_if false = 0

-- how many elements pass the test
unfoldable pub count : {A : Type 0} → (A → Bool) → List A → ℕ
unfolding sum
count test l = sum (map (λ x. one_if (test x)) l)

-- 0, 1, .., n - 1
unfoldable pub range : ℕ → List ℕ
range zero = []
range (suc n) = range n ++ (n ∷ [])
