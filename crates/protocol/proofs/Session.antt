-- From opening, a step refuses nothing before it looks at the message, until the record is ended; so the steps are the calls of the walk's game.
-- Assumes nothing.
use Prim.Native.Nat.{ℕ, zero, suc, ◌*◌, ◌<◌}
use mathlib.Core.Path.{◌≡◌, refl, sym, ap, ◌∙◌, subst}
use mathlib.Core.Bool.{Bool, true, false, true≢false}
use mathlib.Core.List.{List, [], ◌∷◌, ◌++◌}
use lib.ListN.{length, take, get_or}
use borrow.Author.Tests.{le-leb, lt-ltb}
use Rattle.algebra.proofs.Polynomial.{value_below}
use Rattle.counting.specs.Coins.{CoinList}
use Rattle.refusal.specs.Order.{need}
use Rattle.circuit.specs.Circuit.{prime_of, exponents, exponent_at, coin_count}
use Rattle.circuit.specs.Legal.{lists_cause}
use Rattle.walk.specs.Session.{Answer, refused, Record, ended, step_final, step_judge, step, calls, at}
use Rattle.protocol.specs.Rounds.{Place, AtRound}
use Rattle.protocol.specs.Judge.{message_at, descent, input_agrees}
use Rattle.protocol.specs.Session.{record_fits, step_cause, step_after, step_answer, steps}
use Rattle.protocol.proofs.Rounds.{within}
use Rattle.protocol.proofs.Truth.{positive}
use Rattle.protocol.proofs.Descent.{Stands, stands_here, stands_follows, stands_next}
use Rattle.protocol.proofs.Coins.{coins_taken}

module _ (c input : List ℕ) (legal : lists_cause c input ≡ 0) (cs : List ℕ) (coins : CoinList (prime_of c) (coin_count c) cs) where
  -- only the record can be refused
  record_decides : (s : Record Place) → step_cause c input cs s ≡ need (record_fits c s) 19 0
  unfolding step_cause
  record_decides s = rw legal (coins_taken c cs (need (record_fits c s) 19 0) coins)

  -- an ended record is refused, and stays
  step_ended : (s : Record Place) (m : List ℕ) → step_answer c input cs (ended s) m ≡ (refused 19, ended s)
  unfolding step_answer record_fits
  step_ended s m = ap (λ (n : ℕ). step_after n c input cs (ended s) m) (record_decides (ended s))

  steps_ended : (s : Record Place) (ms : List (List ℕ)) → steps c input cs (ended s) ms ≡ calls (descent c) (input_agrees c input) cs (ended s) ms
  unfolding steps calls step
  steps_ended s [] = refl
  steps_ended s (m ∷ ms) = rw (step_ended s m) (ap (λ (l : List Answer). refused 19 ∷ l) (steps_ended s ms))

  -- an open record at a round of the walk fits
  fits_here : (r : Place) (claim : ℕ) (past : List ℕ) → AtRound c r (length past) → claim < prime_of c → record_fits c (at r claim) ≡ true
  unfolding record_fits
  fits_here r claim past h l =
      let inside = le-leb r.layer (length (exponents c)) (within c r (length past) h) in
      let reached = le-leb r.round (2 * exponent_at c r.layer) h.reached in
      rw (le-leb 1 r.layer h.first, inside, reached, lt-ltb claim (prime_of c) l) refl

  step_here : (r : Place) (claim : ℕ) (past : List ℕ) (m : List ℕ) → AtRound c r (length past) → claim < prime_of c
      → step_answer c input cs (at r claim) m ≡ step (descent c) (input_agrees c input) cs (at r claim) m
  unfolding step_answer
  step_here r claim past m h l =
      let s : Record Place = at r claim in
      ap (λ (n : ℕ). step_after n c input cs s m) (record_decides s ∙ ap (λ (b : Bool). need b 19 0) (fits_here r claim past h l))

  -- the record after a step is ended, or stands at the next round with a residue as its claim
  after_step : (k : ℕ) (b : Bool) (before : List ℕ) (t : ℕ) (r : Place) (claim : ℕ) (m : List ℕ) (ms : List (List ℕ)) → (descent c).last r ≡ b
      → (b ≡ false → steps c input cs (at ((descent c).after r) (message_at c m t)) ms
      ≡ calls (descent c) (input_agrees c input) cs (at ((descent c).after r) (message_at c m t)) ms)
      → steps c input cs (step_judge (descent c) (input_agrees c input) k before t (at r claim) m).1 ms
      ≡ calls (descent c) (input_agrees c input) cs (step_judge (descent c) (input_agrees c input) k before t (at r claim) m).1 ms
  unfolding descent
  after_step (suc k) b before t r claim m ms eb ih = steps_ended (at r claim) ms
  after_step zero false before t r claim m ms eb ih = rw eb (ih refl)
  after_step zero true before t r claim m ms eb ih = rw eb (go (input_agrees c input (before ++ (t ∷ [])) (message_at c m t)))
    where
      go : (e : Bool) → steps c input cs (step_final e (at r claim)).1 ms
          ≡ calls (descent c) (input_agrees c input) cs (step_final e (at r claim)).1 ms
      go true = steps_ended (at r claim) ms
      go false = steps_ended (at r claim) ms

  -- one step, and those after it
  step_then : (r : Place) (rs : List Place) (past : List ℕ) (claim : ℕ) (m : List ℕ) (ms : List (List ℕ)) → Stands c (r ∷ rs) past → claim < prime_of c
      → ((t : ℕ) → (descent c).last r ≡ false → steps c input cs (at ((descent c).after r) (message_at c m t)) ms
      ≡ calls (descent c) (input_agrees c input) cs (at ((descent c).after r) (message_at c m t)) ms)
      → steps c input cs (at r claim) (m ∷ ms) ≡ calls (descent c) (input_agrees c input) cs (at r claim) (m ∷ ms)
  unfolding steps calls step
  step_then r rs past claim m ms s l ih =
      let g = descent c in
      let now = step g (input_agrees c input) cs (at r claim) m in
      let t : ℕ = get_or cs (g.before r) 0 in
      ap (λ (x : Answer × Record Place). x.0 ∷ steps c input cs x.1 ms) (step_here r claim past m (stands_here c r rs past s) l)
      ∙ ap (λ (rest : List Answer). now.0 ∷ rest)
      (after_step (g.judge r (take (g.before r) cs) claim m) (g.last r) (take (g.before r) cs) t r claim m ms refl (ih t))

  pub steps_calls : (ms : List (List ℕ)) (r : Place) (rs : List Place) (past : List ℕ) (claim : ℕ) → Stands c (r ∷ rs) past → claim < prime_of c
      → steps c input cs (at r claim) ms ≡ calls (descent c) (input_agrees c input) cs (at r claim) ms
  unfolding steps calls
  steps_calls [] r rs past claim s l = refl
  steps_calls (m ∷ ms) r [] past claim s l =
      step_then r [] past claim m ms s l (λ t nl. absurd (true≢false (sym (stands_follows c r [] past s) ∙ nl)))
  steps_calls (m ∷ ms) r (r' ∷ rs) past claim s l =
      step_then r (r' ∷ rs) past claim m ms s l
      (λ t nl. subst (λ (x : Place). steps c input cs (at x (message_at c m t)) ms ≡ calls (descent c) (input_agrees c input) cs (at x (message_at c m t)) ms)
      (sym (stands_follows c r (r' ∷ rs) past s).1)
      (steps_calls ms r' rs (past ++ (t ∷ [])) (message_at c m t) (stands_next c r (r' ∷ rs) past t s) (value_below (prime_of c) (positive c input legal) m t)))
