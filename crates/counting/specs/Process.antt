-- A process that draws coins one by one. Between two draws it may do anything that draws none: try a message, serve somebody else.
-- Assumes nothing.
use Rattle.std.specs.Prelude.{ℕ, zero, suc, ◌≤◌, ◌<◌, ◌≡◌, Bool, false, List, [], ◌∷◌}
use Rattle.lists.specs.Count.{count, range}

-- what it does next: end with a verdict, go on without a coin, or go on by the coin that it draws
pub data Move (X : Type 0) : Type 0 where
  done : Bool → Move X
  silent : X → Move X
  draw : (ℕ → X) → Move X

abbrev pub after : {X : Type 0} → (X → List ℕ → Bool) → Move X → List ℕ → Bool
after go (done verdict) cs = verdict
after go (silent x) cs = go x cs
after go (draw next) [] = false
after go (draw next) (c ∷ cs) = go (next c) cs

-- the verdict after at most n moves, from these coins; without one, no
unfoldable pub run : {X : Type 0} → (X → Move X) → ℕ → X → List ℕ → Bool
run move zero x cs = false
run move (suc n) x cs = after (λ y ds. run move n y ds) (move x) cs

-- a move that keeps a bad state bad but for at most d values of the coin, d the first of the losses to come
abbrev pub Keeps : {X : Type 0} → ℕ → (List ℕ → X → Type 0) → List ℕ → Move X → Type 0
Keeps p Bad losses (done verdict) = verdict ≡ false
Keeps p Bad losses (silent x) = Bad losses x
Keeps p Bad [] (draw next) = ⊥
Keeps p Bad (d ∷ losses) (draw next) =
    (lucky : ℕ → Bool) × (count lucky (range p) ≤ d) × ((c : ℕ) → c < p → lucky c ≡ false → Bad losses (next c))
