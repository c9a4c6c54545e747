-- One step: the coins before its round, the judgement and what follows it, the refusals before it.
-- Assumes nothing.
use Prim.Native.Nat.{ℕ, zero, suc, ◌+◌, ◌*◌, ◌≤◌, ◌<◌}
use mathlib.Core.Path.{◌≡◌, refl, sym, subst, ap, ◌∙◌}
use mathlib.Core.Bool.{Bool, true, false}
use mathlib.Core.List.{List, [], ◌∷◌, ◌++◌}
use native.Mathlib.Omega.{arith}
use lib.ListN.{length, take, drop, get_or, take-append-drop}
use lib.Seq.{take-suc, take_all, length-take-le}
use borrow.Author.Tests.{eqb-true}
use Rattle.refusal.specs.Number.{number_of}
use Rattle.refusal.specs.Order.{need, first}
use Rattle.refusal.specs.declared.Cause.{Cause}
use Rattle.refusal.specs.declared.Cause.TheVariants.{RecordUnfit}
use Rattle.refusal.proofs.Order.{refused_by, refused_first, legal_first}
use Rattle.circuit.specs.Limits.{max_coins}
use Rattle.circuit.specs.Circuit.{depth, output_exponent, exponents, exponent_at, coin_count}
use Rattle.circuit.specs.Legal.{lists_cause}
use Rattle.circuit.proofs.Loading.{split_true}
use Rattle.circuit.proofs.Sized.{deep}
use Rattle.circuit.proofs.Largest.{in_limits}
use Rattle.walk.specs.Session.{Answer, refused, Record, ended, step_final, step_last, step_judge, step_open, step}
use Rattle.protocol.specs.Rounds.{Place, place, coins_of, layer_start, is_line, coins_before, is_last, AtRound}
use Rattle.protocol.specs.Judge.{message_at, judge, input_agrees, descent}
use Rattle.protocol.specs.Check.{need_coins, Counted}
use Rattle.protocol.specs.Session.{record_fits, step_cause, step_after, step_answer}
use Rattle.protocol.proofs.Coins.{by_rest, its_circuit}
use Rattle.protocol.proofs.Points.{start_next}
use Rattle.protocol.proofs.Rounds.{coins_append}
use Rattle.session.specs.Answers.{record_of, verdict_of, goes_on, GoesOn, StepsOpen, Steps}
use Rattle.session.specs.declared.Session.{Session}
use Rattle.session.specs.declared.Stepped.{Stepped}
use Rattle.standing.specs.Standing.{CoinsBefore}
use Rattle.session.proofs.Records.{own, own_start_lem}

-- the coins of the layers up to here are among all
some_coins : (c : List ℕ) (l : ℕ) → layer_start c (suc l) ≤ coin_count c
unfolding coin_count
some_coins c l =
    let ks : List ℕ = exponents c in
    let whole : coins_of ks ≡ coins_of (take l ks) + coins_of (drop l ks) = ap coins_of (sym (take-append-drop l ks)) ∙ coins_append (take l ks) (drop l ks) in
    omega arith

-- the coins before a message, from those before its layer
pub number_is : {c input cs : List ℕ} (s : Session) → Counted c input cs → record_fits c (record_of s) ≡ true → {here : Place} → here ≡ place s.layer s.round → {k : ℕ}
    → CoinsBefore c here.layer k → k + here.round ≡ layer_start c s.layer + s.round
number_is {c} s h fits {here} e {k} counted =
    ap (λ (r : Place). k + r.round) e
    ∙ ap (λ (i : ℕ). i + s.round) (subst (λ (r : Place). CoinsBefore c r.layer k) e counted (own_start_lem s h fits))

module _ {c input cs : List ℕ} (s : Session) (h : Counted c input cs) (fits : record_fits c (record_of s) ≡ true)
    (n : ℕ) (en : n ≡ layer_start c s.layer + s.round) where
  abbrev here : Place
  here = place s.layer s.round

  own_end : (i : ℕ) → 1 ≤ i → i ≤ depth c → layer_start c (suc i) ≡ layer_start c i + 2 * exponent_at c i + 1
  own_end zero low m = absurd (omega arith)
  own_end (suc l) low m = start_next c l (omega (arith, deep c (its_circuit h)))

  coin_in_lem : n < coin_count c
  coin_in_lem =
      let o = own s h fits in
      let reached = o.there.reached in
      omega (arith, en, own_end s.layer o.there.first o.there.last, some_coins c s.layer)

  pub coin_inside : n < length cs
  coin_inside = let inside = coin_in_lem in omega (arith, h.coins)

  pub coins_few : n ≤ max_coins
  coins_few = let inside = coin_in_lem in omega (arith, (in_limits c (its_circuit h)).coins)

  pub at_round : {r : Place} → r ≡ here → AtRound c r (length (take n cs))
  at_round e =
      let counted : length (take n cs) ≡ coins_before c here = length-take-le n cs (let inside = coin_inside in omega arith) ∙ en in
      subst (λ (r : Place). AtRound c r (length (take n cs))) (sym e) (subst (AtRound c here) (sym counted) (own s h fits).there)

  -- at the last round it is the last coin
  last_coin_lem : is_last c here ≡ true → n + 1 ≡ coin_count c
  unfolding coin_count
  last_coin_lem e =
      let o = own s h fits in
      let parts = split_true (is_line c here) _ e in
      let line : s.round ≡ 2 * exponent_at c s.layer = eqb-true s.round (2 * exponent_at c s.layer) parts.0 in
      let last : s.layer ≡ length (exponents c) = eqb-true s.layer (length (exponents c)) parts.1 in
      let all : layer_start c (suc (length (exponents c))) ≡ output_exponent c + coins_of (exponents c) =
      ap (λ (ks : List ℕ). output_exponent c + coins_of ks) (take_all (length (exponents c)) (exponents c) (omega arith)) in
      let end : layer_start c (suc s.layer) ≡ output_exponent c + coins_of (exponents c) = ap (λ (i : ℕ). layer_start c (suc i)) last ∙ all in
      omega (arith, en, line, end, own_end s.layer o.there.first o.there.last)

  all_coins : is_last c here ≡ true → take n cs ++ (get_or cs n 0 ∷ []) ≡ cs
  all_coins e =
      let last = last_coin_lem e in
      sym (take-suc cs n 0 coin_inside) ∙ take_all (suc n) cs (omega (arith, h.coins))

  module _ (m : List ℕ) where
    abbrev coin : ℕ
    coin = get_or cs n 0

    abbrev cause : ℕ
    cause = judge c here (take n cs) s.claim m

    step_is : step (descent c) (input_agrees c input) cs (record_of s) m ≡ step_judge (descent c) (input_agrees c input) cause (take n cs) coin (record_of s) m
    unfolding step descent
    step_is =
        let o = own s h fits in
        ap (λ (b : Bool). step_open (descent c) (input_agrees c input) b (take (coins_before c here) cs) (get_or cs (coins_before c here) 0) (record_of s) m) o.opened
        ∙ ap (λ (i : ℕ). step_judge (descent c) (input_agrees c input) (judge c here (take i cs) s.claim m) (take i cs) (get_or cs i 0) (record_of s) m) (sym en)

    follows : (b : Bool) → is_last c here ≡ b
        → step_last (descent c) (input_agrees c input) b (take n cs) coin (record_of s) m ≡ goes_on c input cs s coin (message_at c m coin) b
    unfolding descent
    follows false e = refl
    follows true e = ap (λ (l : List ℕ). step_final (input_agrees c input l (message_at c m coin)) (record_of s)) (all_coins e)

    step_goes : cause ≡ 0 → step (descent c) (input_agrees c input) cs (record_of s) m ≡ goes_on c input cs s coin (message_at c m coin) (is_last c here)
    step_goes e =
        step_is ∙ ap (λ (k : ℕ). step_judge (descent c) (input_agrees c input) k (take n cs) coin (record_of s) m) e ∙ last_is ∙ follows (is_last c here) refl
      where
        last_is : step_last (descent c) (input_agrees c input) ((descent c).last here) (take n cs) coin (record_of s) m
            ≡ step_last (descent c) (input_agrees c input) (is_last c here) (take n cs) coin (record_of s) m
        last_is = unfold descent in refl

    step_ends : (k : Cause) → number_of k ≡ cause → step (descent c) (input_agrees c input) cs (record_of s) m ≡ (refused (number_of k), ended (record_of s))
    step_ends k e =
        step_is ∙ sym (refused_by (λ j. step_judge (descent c) (input_agrees c input) j (take n cs) coin (record_of s) m)
        (λ j. (refused j, ended (record_of s))) (λ j. refl) k cause (sym e))

    pub refused_open : (k : Cause) → {here' : Place} → here' ≡ here → number_of k ≡ judge c here' (take n cs) s.claim m → (r : Stepped)
        → verdict_of r.verdict ≡ refused (number_of k) → record_of r.session ≡ ended (record_of s) → StepsOpen c input cs s m r
    refused_open k same e' r answer after =
        let e : number_of k ≡ cause = e' ∙ ap (λ (r : Place). judge c r (take n cs) s.claim m) same in
        record {
          answer = answer ∙ sym (ap (λ (x : Answer × Record Place). x.0) (step_ends k e));
          after = after ∙ sym (ap (λ (x : Answer × Record Place). x.1) (step_ends k e));
        }

    pub passed_open : {here' : Place} → here' ≡ here → judge c here' (take n cs) s.claim m ≡ 0 → (r : Stepped)
        → GoesOn c input cs s coin (message_at c m coin) r → StepsOpen c input cs s m r
    passed_open same e' r goes =
        let e : cause ≡ 0 = ap (λ (r : Place). judge c r (take n cs) s.claim m) (sym same) ∙ e' in
        record {
          answer = goes.answer ∙ sym (ap (λ (x : Answer × Record Place). x.0) (step_goes e));
          after = goes.after ∙ sym (ap (λ (x : Answer × Record Place). x.1) (step_goes e));
        }

-- A STEP
module _ (c input cs : List ℕ) (s : Session) (m : List ℕ) where
  abbrev of_lists : ℕ
  of_lists = first (lists_cause c input) (need_coins c cs 0)

  left_by : (k : Cause) → number_of k ≡ step_cause c input cs (record_of s) → (r : Stepped)
      → (verdict_of r.verdict ≡ refused (number_of k)) × (record_of r.session ≡ record_of s) → Steps c input cs s m r
  unfolding step_answer
  left_by k e r says =
      let cause = step_cause c input cs (record_of s) in
      let same : (refused (number_of k), record_of s) ≡ step_after cause c input cs (record_of s) m =
      refused_by (λ j. step_after j c input cs (record_of s) m) (λ j. (refused j, record_of s)) (λ j. refl) k cause (sym e) in
      record {
        answer = says.0 ∙ ap (λ (x : Answer × Record Place). x.0) same;
        after = says.1 ∙ ap (λ (x : Answer × Record Place). x.1) same;
      }

  -- 1 to 9, 11 and 12
  pub lists_left : (k : Cause) → number_of k ≡ of_lists → (r : Stepped)
      → (verdict_of r.verdict ≡ refused (number_of k)) × (record_of r.session ≡ record_of s) → Steps c input cs s m r
  unfolding step_cause
  lists_left k e = left_by k (sym (refused_first k of_lists _ e) ∙ by_rest c input cs _)

  module _ (none : of_lists ≡ 0) where
    then_record : {fits : Bool} → record_fits c (record_of s) ≡ fits → step_cause c input cs (record_of s) ≡ need fits 19 0
    unfolding step_cause
    then_record e = sym (by_rest c input cs _) ∙ legal_first of_lists _ none ∙ ap (λ (b : Bool). need b 19 0) e

    pub record_left : record_fits c (record_of s) ≡ false → (r : Stepped)
        → (verdict_of r.verdict ≡ refused 19) × (record_of r.session ≡ record_of s) → Steps c input cs s m r
    record_left e = left_by RecordUnfit (sym (then_record e))

    pub steps_open : record_fits c (record_of s) ≡ true → (r : Stepped) → StepsOpen c input cs s m r → Steps c input cs s m r
    unfolding step_answer
    steps_open e r o =
        let same = ap (λ (j : ℕ). step_after j c input cs (record_of s) m) (then_record e) in
        record {
          answer = o.answer ∙ sym (ap (λ (x : Answer × Record Place). x.0) same);
          after = o.after ∙ sym (ap (λ (x : Answer × Record Place). x.1) same);
        }
