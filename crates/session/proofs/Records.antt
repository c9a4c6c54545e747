-- When a record fits a circuit, case by case; and what follows a message that passed.
-- Assumes nothing.
use Prim.Native.Nat.{ℕ, suc, ◌+◌, ◌*◌, ◌≤◌, ◌<◌}
use mathlib.Core.Path.{◌≡◌, refl, sym, ap, ◌∙◌}
use mathlib.Core.Bool.{Bool, true, false, ◌&&◌, cond}
use mathlib.Core.List.{List}
use native.Mathlib.Numerals.{add-one}
use native.Mathlib.Omega.{arith}
use lib.Dec.{leb, eqb}
use lib.ListN.{length}
use borrow.Author.Tests.{leb-true, ltb-true, eq-eqb, ne_eqb}
use Rattle.circuit.specs.Limits.{max_exponent}
use Rattle.circuit.specs.Circuit.{prime_of, depth, exponents, exponent_at}
use Rattle.circuit.specs.Sized.{LayerOf, LegalCircuit}
use Rattle.circuit.proofs.Loading.{split_true}
use Rattle.circuit.proofs.Sized.{deep, exponent_small, layer_of}
use Rattle.walk.specs.Session.{going_on, Record, at, ended, step_final}
use Rattle.protocol.specs.Rounds.{Place, place, coins_before, is_line, is_last, AtRound}
use Rattle.protocol.specs.Judge.{input_agrees}
use Rattle.protocol.specs.Check.{Counted}
use Rattle.protocol.specs.Session.{record_fits}
use Rattle.protocol.proofs.Coins.{its_circuit}
use Rattle.session.specs.Answers.{record_of, verdict_of, goes_on, GoesOn}
use Rattle.session.specs.declared.Session.{Session}
use Rattle.session.specs.declared.Stepped.{Stepped}
use Rattle.standing.specs.Standing.{LayerSoFar}

module _ (c : List ℕ) (h : LegalCircuit c) (s : Record Place) where
  -- what a fitting record says
  pub record Fit : Type 0 where
    pub opened : s.opened ≡ true
    pub there : AtRound c s.round (coins_before c s.round)
    pub claim : s.claim < prime_of c

  pub fit : record_fits c s ≡ true → Fit
  unfolding record_fits
  fit e =
      let a = split_true s.opened _ e in
      let b = split_true (leb 1 s.round.layer) _ a.1 in
      let d = split_true (leb s.round.layer (length (exponents c))) _ b.1 in
      let f = split_true (leb s.round.round (2 * exponent_at c s.round.layer)) _ d.1 in
      let deeper = leb-true s.round.layer (length (exponents c)) d.0 in
      record {
        opened = a.0;
        there = record {
          legal = h;
          first = leb-true 1 s.round.layer b.0;
          last = omega (arith, deep c h, deeper);
          reached = leb-true s.round.round (2 * exponent_at c s.round.layer) f.0;
          counted = refl;
        };
        claim = ltb-true s.claim (prime_of c) f.1;
      }

-- AFTER A MESSAGE THAT PASSED
module _ {c input cs : List ℕ} (s : Session) (h : Counted c input cs) (fits : record_fits c (record_of s) ≡ true) where
  abbrev legal : LegalCircuit c
  legal = its_circuit h

  pub own : Fit c legal (record_of s)
  own = fit c legal (record_of s) fits

  pub own_layer : LayerOf c s.layer
  own_layer = layer_of c legal s.layer own.there.last

  pub own_start_lem : LayerSoFar c s.layer
  own_start_lem = let inside = own.there.last in record { legal = legal; first = own.there.first; last = omega arith }

  pub small_round : s.round ≤ 2 * max_exponent
  small_round = let low = exponent_small c s.layer own_layer in let reached = own.there.reached in omega arith

  at_end : ¬ (s.layer < depth c) → s.layer ≡ length (exponents c)
  at_end ne = let inside = own.there.last in omega (arith, ne, deep c legal)

  module _ (coin y : ℕ) where
    goes : (b : Bool) → is_last c (place s.layer s.round) ≡ b → (r : Stepped) → verdict_of r.verdict ≡ (goes_on c input cs s coin y b).0
        → record_of r.session ≡ (goes_on c input cs s coin y b).1 → GoesOn c input cs s coin y r
    goes b e r answer after = record {
      answer = answer ∙ ap (λ (x : Bool). (goes_on c input cs s coin y x).0) (sym e);
      after = after ∙ ap (λ (x : Bool). (goes_on c input cs s coin y x).1) (sym e);
    }

    -- the record at another place, with the new claim
    abbrev moved : Place → Bool → Record Place
    moved r opened = record { round = r; claim = y; opened = opened }

    pub goes_round : is_line c (place s.layer s.round) ≡ false → (r : Stepped)
        → (verdict_of r.verdict ≡ going_on coin) × (record_of r.session ≡ moved (place s.layer (s.round + 1)) s.open) → GoesOn c input cs s coin y r
    goes_round e r says =
        goes false (ap (λ (b : Bool). b && eqb s.layer (length (exponents c))) e) r says.0
        (says.1 ∙ ap (moved (place s.layer (s.round + 1))) own.opened ∙ ap (λ (j : ℕ). at (place s.layer j) y) (add-one s.round)
        ∙ ap (λ (b : Bool). at (cond b (place (suc s.layer) 0) (place s.layer (suc s.round))) y) (sym e))

    pub goes_layer : is_line c (place s.layer s.round) ≡ true → s.layer < depth c → (r : Stepped)
        → (verdict_of r.verdict ≡ going_on coin) × (record_of r.session ≡ moved (place (s.layer + 1) 0) s.open) → GoesOn c input cs s coin y r
    goes_layer e more r says =
        let ne : ¬ (s.layer ≡ length (exponents c)) = λ (q : s.layer ≡ length (exponents c)). omega (arith, q, more, deep c legal) in
        goes false (ap (λ (b : Bool). b && eqb s.layer (length (exponents c))) e ∙ ne_eqb s.layer (length (exponents c)) ne) r says.0
        (says.1 ∙ ap (moved (place (s.layer + 1) 0)) own.opened ∙ ap (λ (i : ℕ). at (place i 0) y) (add-one s.layer)
        ∙ ap (λ (b : Bool). at (cond b (place (suc s.layer) 0) (place s.layer (suc s.round))) y) (sym e))

    -- the last comparison ends the session, whatever it says
    pub goes_ended : is_line c (place s.layer s.round) ≡ true → ¬ (s.layer < depth c) → (r : Stepped) → record_of r.session ≡ ended (record_of s)
        → verdict_of r.verdict ≡ (step_final (input_agrees c input cs y) (record_of s)).0 → GoesOn c input cs s coin y r
    goes_ended e ne r after answer =
        goes true (ap (λ (b : Bool). b && eqb s.layer (length (exponents c))) e ∙ eq-eqb s.layer (length (exponents c)) (at_end ne)) r answer
        (after ∙ ends (input_agrees c input cs y))
      where
        ends : (b : Bool) → ended (record_of s) ≡ (step_final b (record_of s)).1
        ends true = refl
        ends false = refl
