-- A process from a bad state: each move ends it refused, keeps it bad, or draws a coin with few lucky values.
-- Assumes nothing.
use Prim.Native.Nat.{ℕ, zero, suc}
use mathlib.Core.Path.{refl}
use mathlib.Core.Bool.{false}
use mathlib.Core.List.{List, [], ◌∷◌}
use Rattle.counting.specs.Doomed.{Doomed, Fails}
use Rattle.counting.specs.Process.{Move, done, silent, draw, after, run, Keeps}
use Rattle.counting.specs.Theorems.{SilentMoves}
use Rattle.counting.proofs.Doomed.{doomed_coin, doomed_refused}

pub silent_moves : SilentMoves
unfolding run
silent_moves X move p Bad h zero losses x b = doomed_refused p losses (λ cs. false) (λ cs. refl)
silent_moves X move p Bad h (suc n) losses x b = go (λ es y e. silent_moves X move p Bad h n es y e) losses (move x) (h losses x b)
  where
    go : ((es : List ℕ) (y : X) → Bad es y → Doomed p es Fails (run move n y))
        → (es : List ℕ) (m : Move X) → Keeps p Bad es m → Doomed p es Fails (λ cs. after (λ y ds. run move n y ds) m cs)
    go ih es (done verdict) e = doomed_refused p es (λ cs. verdict) (λ cs. e)
    go ih es (silent y) e = ih es y e
    go ih [] (draw next) e = absurd e
    go ih (d ∷ es) (draw next) e =
        doomed_coin p d es Fails (λ cs. after (λ y ds. run move n y ds) (draw next) cs) e.0 e.1 (λ c l u. ih es (next c) (e.2 c l u))
