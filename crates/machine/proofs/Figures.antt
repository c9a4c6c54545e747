-- A record's figures stay words: an opening's are 1, 0 and the first claim, a residue; a step leaves them, or goes on to the next round of a small circuit with a
-- residue as the claim.
-- Assumes nothing.
use Prim.Native.Nat.{ℕ, zero, suc}
use mathlib.Core.Path.{◌≡◌, refl, sym, subst}
use mathlib.Core.Bool.{Bool, true, false, cond}
use mathlib.Core.List.{List, [], ◌∷◌, ◌++◌}
use native.Mathlib.Omega.{arith}
use lib.Dec.{eqb}
use lib.ListN.{length, take, get_or}
use Rattle.algebra.proofs.Polynomial.{value_below}
use Rattle.refusal.proofs.Order.{first_none, need_none}
use Rattle.circuit.specs.Circuit.{prime_of, coin_count}
use Rattle.circuit.specs.Legal.{all_below, lists_cause}
use Rattle.circuit.proofs.Loading.{legal_lists}
use Rattle.circuit.proofs.Sized.{exponent_small, layer_of}
use Rattle.walk.specs.Session.{Record, at, ended, step_final, step_last, step_judge, step_open, step}
use Rattle.protocol.specs.Start.{first_point}
use Rattle.protocol.specs.Rounds.{Place, place, is_line, coins_before, place_after, AtRound}
use Rattle.protocol.specs.Judge.{message_at, descent, input_agrees}
use Rattle.protocol.specs.Session.{opens, open_answer, record_fits, step_cause, step_after, step_answer}
use Rattle.protocol.proofs.Truth.{positive, claim_below}
use Rattle.protocol.proofs.Check.{opened}
use Rattle.protocol.proofs.Opening.{opened_free, opened_given}
use Rattle.session.proofs.Records.{fit}
use Rattle.machine.specs.Words.{Word, Words}

pub record Figures (s : Record Place) : Type 0 where
  pub layer : Word s.round.layer
  pub round : Word s.round.round
  pub claim : Word s.claim

-- the prime is a word of the list
pub small_prime : (c : List ℕ) → Words c → Word (prime_of c)
small_prime [] w = omega arith
small_prime (p ∷ c) w = w.0

pub opened_figures : (c input ys cs us : List ℕ) (s : Record Place) → Words c → opens us s ≡ open_answer c input ys cs → Figures s
opened_figures c input ys cs us s w e =
    let legal = (opened c input ys cs (opened_free c input ys cs us s e)).given.lists in
    let small = claim_below c input legal ys (first_point c cs) in
    subst Figures (sym (opened_given c input ys cs us s e).1)
    (record { layer = omega arith; round = omega arith; claim = omega (arith, small, small_prime c w) })

-- THE NEXT ROUND of a legal circuit
next_figures : (c : List ℕ) (r : Place) (n claim : ℕ) → AtRound c r n → Word claim → Figures (at (place_after c r) claim)
next_figures c r n claim h w = go (is_line c r)
  where
    go : (b : Bool) → Figures (at (cond b (place (suc r.layer) 0) (place r.layer (suc r.round))) claim)
    go true = record { layer = omega (arith, h.last, h.legal.sized.headed.shallow); round = omega arith; claim = w }
    go false = record {
      layer = omega (arith, h.last, h.legal.sized.headed.shallow);
      round = omega (arith, h.reached, exponent_small c r.layer (layer_of c h.legal r.layer h.last));
      claim = w;
    }

module _ (c input : List ℕ) (w : Words c) (s : Record Place) (f : Figures s) (m : List ℕ) where
  ended_figures : Figures (ended s)
  ended_figures = record { layer = f.layer; round = f.round; claim = f.claim }

  -- A STEP, once nothing is refused before its message
  module _ (legal : lists_cause c input ≡ 0) (there : AtRound c s.round (coins_before c s.round)) (past : List ℕ) (t : ℕ) where
    final_figures : (b : Bool) → Figures (step_final b s).1
    final_figures true = ended_figures
    final_figures false = ended_figures

    last_figures : (b : Bool) → Figures (step_last (descent c) (input_agrees c input) b past t s m).1
    unfolding descent
    last_figures true = final_figures (input_agrees c input (past ++ (t ∷ [])) (message_at c m t))
    last_figures false =
        next_figures c s.round _ (message_at c m t) there
        (omega (arith, value_below (prime_of c) (positive c input legal) m t, small_prime c w))

    judge_figures : (k : ℕ) → Figures (step_judge (descent c) (input_agrees c input) k past t s m).1
    judge_figures zero = last_figures ((descent c).last s.round)
    judge_figures (suc k) = ended_figures

    open_figures : (b : Bool) → Figures (step_open (descent c) (input_agrees c input) b past t s m).1
    open_figures true = judge_figures ((descent c).judge s.round past s.claim m)
    open_figures false = f

  pub step_figures : (cs : List ℕ) → Figures (step_answer c input cs s m).1
  unfolding step_answer step_cause step
  step_figures cs = go (step_cause c input cs s) refl
    where
      go : (n : ℕ) → step_cause c input cs s ≡ n → Figures (step_after n c input cs s m).1
      go (suc n) e = f
      go zero e =
          let lists = first_none (lists_cause c input) _ e in
          let number = need_none (eqb (length cs) (coin_count c)) 10 _ lists.1 in
          let below = need_none (all_below (prime_of c) cs) 11 _ number.1 in
          let fits = need_none (record_fits c s) 18 0 below.1 in
          let here = (fit c (legal_lists c input lists.0).circuit s fits.0).there in
          let n : ℕ = (descent c).before s.round in
          open_figures lists.0 here (take n cs) (get_or cs n 0) s.opened
