-- The theorems, from the walk down a circuit and from what check and steps do with it.
-- Assumes nothing.
use Prim.Native.Nat.{ℕ, suc, ◌+◌, ◌-◌, ◌^◌, ◌≤◌, ◌<◌}
use mathlib.Core.Path.{◌≡◌, refl, sym, ap, ap₂, ◌∙◌, subst}
use mathlib.Core.Logic.{◌⊎◌, inl, inr}
use mathlib.Core.Bool.{Bool, true, false}
use mathlib.Core.List.{List, ◌∷◌, ◌++◌}
use native.Mathlib.Nat.{le_trans, le_of_eq}
use native.Mathlib.Omega.{arith}
use lib.ListN.{length, length-append, length-drop, take, get_or}
use lib.Seq.{length-take-le, take_at, take-add}
use Rattle.counting.specs.Coins.{CoinList, passing}
use Rattle.counting.specs.Doomed.{Doomed, Fails, luckless}
use Rattle.counting.proofs.Coins.{agree, monotone}
use Rattle.counting.proofs.Doomed.{doomed_refused}
use Rattle.circuit.specs.Circuit.{prime_of, output_exponent, coin_count}
use Rattle.circuit.specs.Legal.{lists_cause}
use Rattle.circuit.specs.Values.{outputs}
use Rattle.circuit.specs.Theorems.{OutputList}
use Rattle.circuit.proofs.Layers.{output_layer}
use Rattle.walk.specs.Game.{passes, walk}
use Rattle.walk.specs.Rule.{Rule, said, Fits, play, by_rule}
use Rattle.walk.specs.Session.{Answer, accepted, Chain, any_accepted, end_of, up_to, calls, at, PassesAt, cut}
use Rattle.walk.proofs.Play.{said_at}
use Rattle.walk.proofs.Session.{words_of, session_play, transcript_session}
use Rattle.walk.proofs.Session.{no_early_coin as no-early-coin-in-walk}
use Rattle.walk.proofs.Session.{compared_first as compared-in-walk}
use Rattle.protocol.specs.Start.{first_point, later_coins, coins_to, claim_at, first_claim}
use Rattle.protocol.specs.Shares.{coin_losses}
use Rattle.protocol.specs.Rounds.{Place, place, rounds}
use Rattle.protocol.specs.Judge.{descent, input_agrees}
use Rattle.protocol.specs.Session.{OpenAnswer, opens, opened_at, steps_from, session_on}
use Rattle.protocol.specs.Prove.{honest, messages_on, transcript}
use Rattle.protocol.specs.Accept.{FitsCircuit, whole_accepts, session_accepts}
use Rattle.protocol.specs.Theorems.{Complete, Sound, Sharp, SameEnd, SameAcceptance, OpeningOnFirst, NoEarlyCoin, ComparedFirst, HonestByPrefix, HonestFits}
use Rattle.protocol.proofs.Rounds.{chain_all, as_many, coins_split}
use Rattle.protocol.proofs.Sums.{message_words_lem}
use Rattle.protocol.proofs.Truth.{claim_below}
use Rattle.protocol.proofs.Descent.{Stands, rounds_head, stands_first, accepts, false_outputs, bound_of, sharp_of, true_output, honest_sized}
use Rattle.protocol.proofs.Check.{Opened, opened, opens_on, its_coins, open_legal, open_unfit, check_unfit, check_walk, whole_play}
use Rattle.protocol.proofs.Session.{steps_calls}
use Rattle.protocol.proofs.Opening.{free_opens, none_opened}
use Rattle.protocol.proofs.Outputs.{Unfit, outputs_decided}

pub honest_fits : HonestFits
honest_fits c input legal cs v = honest_sized c input legal cs (coins_split c cs v).before.0

module _ (c input : List ℕ) (legal : lists_cause c input ≡ 0) where
  -- the chain of rounds with its first one in sight
  chain_first : (us : List ℕ) → length us ≡ output_exponent c → Chain (descent c) (place 1 0 ∷ (rounds_head c input legal).0) (length us)
  chain_first us e =
      subst (Chain (descent c) (place 1 0 ∷ (rounds_head c input legal).0)) (sym e)
      (subst (λ (l : List Place). Chain (descent c) l (output_exponent c)) (rounds_head c input legal).1 (chain_all c))

  steps_from_opening : (ys cs : List ℕ) → Opened c input ys cs → (ms : List (List ℕ))
      → session_on c input ys cs ms ≡ calls (descent c) (input_agrees c input) cs (opened_at c ys cs) ms
  steps_from_opening ys cs o ms =
      let w = rounds_head c input legal in
      let us : List ℕ = first_point c cs in
      ap (λ (a : OpenAnswer). steps_from c input cs a ms) (free_opens c input ys cs (open_legal c input ys cs o))
      ∙ steps_calls c input legal cs (its_coins o) ms (place 1 0) w.0 us (first_claim c ys cs)
      (subst (λ (l : List Place). Stands c l us) w.1 (stands_first c input legal us (coins_split c cs (its_coins o)).before.0))
      (claim_below c input legal ys us)

  -- AN OPENED SESSION, from its first round on: its calls, the chain of its rounds, and a coin for each
  module _ (ys cs : List ℕ) (o : Opened c input ys cs) where
    its_calls : (ms : List (List ℕ))
        → session_on c input ys cs ms ≡ calls (descent c) (input_agrees c input) (first_point c cs ++ later_coins c cs) (at (place 1 0) (first_claim c ys cs)) ms
    its_calls ms =
        steps_from_opening ys cs o ms
        ∙ ap (λ (all : List ℕ). calls (descent c) (input_agrees c input) all (opened_at c ys cs) ms) (sym (coins_split c cs (its_coins o)).whole)

    its_chain : Chain (descent c) (place 1 0 ∷ (rounds_head c input legal).0) (length (first_point c cs))
    its_chain = chain_first (first_point c cs) (coins_split c cs (its_coins o)).before.0

    a_coin_each : length (later_coins c cs) ≡ length (place 1 0 ∷ (rounds_head c input legal).0)
    a_coin_each = (coins_split c cs (its_coins o)).later.0 ∙ ap length (rounds_head c input legal).1

  -- WHERE NOTHING IS REFUSED BEFORE, whole check and session accept as the walk on the rule's messages does
  module _ (ys : List ℕ) (rule : Rule Place) (fits : FitsCircuit c rule) (cs : List ℕ) where
    abbrev plays : Bool
    plays = accepts c input legal ys (by_rule rule) cs

    whole_accepts_lem : Opened c input ys cs → whole_accepts c input ys rule cs ≡ plays
    whole_accepts_lem o = ap passes (whole_play c input ys cs o rule fits)

    session_accepts_lem : Opened c input ys cs → session_accepts c input ys rule cs ≡ plays
    session_accepts_lem o =
        let g = descent c in
        let final = input_agrees c input in
        let w = rounds_head c input legal in
        let us : List ℕ = first_point c cs in
        let vs : List ℕ = later_coins c cs in
        let claim : ℕ = first_claim c ys cs in
        ap any_accepted (its_calls ys cs o (messages_on c rule cs))
        ∙ ap (λ (l : List Place). any_accepted (calls g final (us ++ vs) (at (place 1 0) claim) (said rule l us vs))) w.1
        ∙ session_play g final rule (place 1 0) w.0 us claim vs (its_chain ys cs o)
        (subst (λ (l : List Place). Fits g rule l us vs) w.1 (fits cs (its_coins o))) (a_coin_each ys cs o)
        ∙ ap (λ (l : List Place). passes (play g final (by_rule rule) l us claim vs)) (sym w.1)

    same_at : CoinList (prime_of c) (coin_count c) cs → session_accepts c input ys rule cs ≡ whole_accepts c input ys rule cs
    unfolding any_accepted
    same_at v = go (outputs_decided c ys)
      where
        go : OutputList c ys ⊎ Unfit c ys → session_accepts c input ys rule cs ≡ whole_accepts c input ys rule cs
        go (inl listed) =
            let o = opens_on c input ys cs legal listed v in
            session_accepts_lem o ∙ sym (whole_accepts_lem o)
        go (inr unfit) =
            ap any_accepted (none_opened c input ys cs (messages_on c rule cs) (open_unfit c input ys cs legal unfit))
            ∙ sym (check_unfit c input ys cs (transcript c rule cs) legal unfit)

pub same_acceptance : SameAcceptance
same_acceptance c input legal ys rule fits cs v = same_at c input legal ys rule fits cs v

-- THE WHOLE CHECK of a false list accepts no more than a test that is doomed: the walk, or nothing where the list is no list of outputs
module _ (c input : List ℕ) (legal : lists_cause c input ≡ 0) (ys : List ℕ) (ne : ¬ (ys ≡ outputs c input)) (rule : Rule Place) (fits : FitsCircuit c rule) where
  record Above : Type 0 where
    test : List ℕ → Bool
    doomed : Doomed (prime_of c) (coin_losses c) Fails test
    above : (cs : List ℕ) → CoinList (prime_of c) (coin_count c) cs → whole_accepts c input ys rule cs ≡ true → test cs ≡ true

  doomed_above : OutputList c ys ⊎ Unfit c ys → Above
  doomed_above (inl listed) = record {
    test = accepts c input legal ys (by_rule rule);
    doomed = false_outputs c input legal (by_rule rule) ys listed ne;
    above = λ cs v a. sym (whole_accepts_lem c input legal ys rule fits cs (opens_on c input ys cs legal listed v)) ∙ a;
  }
  doomed_above (inr unfit) = record {
    test = λ cs. false;
    doomed = doomed_refused (prime_of c) (coin_losses c) (λ cs. false) (λ cs. refl);
    above = λ cs v a. sym (check_unfit c input ys cs (transcript c rule cs) legal unfit) ∙ a;
  }

  false_above : Above
  false_above = doomed_above (outputs_decided c ys)

  no_more : passing (prime_of c) (coin_count c) (whole_accepts c input ys rule) ≤ passing (prime_of c) (coin_count c) false_above.test
  no_more = monotone (prime_of c) (coin_count c) _ _ false_above.above

pub whole_sound : Sound whole_accepts
whole_sound c input legal ys ne rule fits =
    le_trans (no_more c input legal ys ne rule fits) (bound_of c input legal _ (false_above c input legal ys ne rule fits).doomed)

pub whole_sharp : Sharp whole_accepts
whole_sharp c input legal ys ne rule fits =
    let more = no_more c input legal ys ne rule fits in
    le_trans (omega (arith, more)) (sharp_of c input legal _ (false_above c input legal ys ne rule fits).doomed)

pub whole_complete : Complete whole_accepts
whole_complete c input legal cs v =
    whole_accepts_lem c input legal (outputs c input) (honest c input) (honest_fits c input legal) cs
    (opens_on c input (outputs c input) cs legal (output_layer c input legal) v)
    ∙ true_output c input legal cs v

-- THE SESSION, which accepts when the check does
pub session_sound : Sound session_accepts
session_sound c input legal ys ne rule fits =
    le_trans (le_of_eq (agree (prime_of c) (coin_count c) _ _ (same_acceptance c input legal ys rule fits))) (whole_sound c input legal ys ne rule fits)

pub session_sharp : Sharp session_accepts
session_sharp c input legal ys ne rule fits =
    let same = agree (prime_of c) (coin_count c) _ _ (same_acceptance c input legal ys rule fits) in
    subst (λ (n : ℕ). n + luckless (prime_of c) (coin_losses c) ≤ prime_of c ^ coin_count c) (sym same)
    (whole_sharp c input legal ys ne rule fits)

pub session_complete : Complete session_accepts
session_complete c input legal cs v =
    same_acceptance c input legal (outputs c input) (honest c input) (honest_fits c input legal) cs v ∙ whole_complete c input legal cs v

pub same_end : SameEnd
unfolding descent
same_end c input ys cs ms e n =
    let o = opened c input ys cs e in
    let g = descent c in
    let legal = o.given.lists in
    let w = rounds_head c input legal in
    let all : List ℕ = first_point c cs ++ later_coins c cs in
    let first = at (place 1 0) (first_claim c ys cs) in
    ap end_of (its_calls c input legal ys cs o (cut g (rounds c) ms))
    ∙ ap (λ (l : List Place). end_of (calls g (input_agrees c input) all first (cut g l ms))) w.1
    ∙ transcript_session g (input_agrees c input) (place 1 0) w.0 (first_point c cs) (first_claim c ys cs) ms (later_coins c cs) (its_chain c input legal ys cs o)
    (n ∙ sym (message_words_lem c) ∙ ap (words_of g) w.1) (a_coin_each c input legal ys cs o)
    ∙ ap (λ (l : List Place). walk g (input_agrees c input) l (first_point c cs) (first_claim c ys cs) ms (later_coins c cs)) (sym w.1)
    ∙ sym (check_walk c input ys cs ms o n)

pub opening_on_first : OpeningOnFirst
opening_on_first c input ys before rest n e =
    free_opens c input ys (before ++ rest) e
    ∙ ap (λ (us : List ℕ). opens us (at (place 1 0) (claim_at c ys us))) (take_at before rest (output_exponent c) n)

pub no_early_coin : NoEarlyCoin
no_early_coin c input ys ms us common coin coin' more more' n later e e' =
    let g = descent c in
    let final = input_agrees c input in
    let rest : List ℕ = coin ∷ more in
    let rest' : List ℕ = coin' ∷ more' in
    let o = opened c input ys (us ++ (common ++ rest)) e in
    let o' = opened c input ys (us ++ (common ++ rest')) e' in
    let legal = o.given.lists in
    let w = rounds_head c input legal in
    let total : length us + (length common + length rest) ≡ coin_count c =
    sym (length-append us (common ++ rest) ∙ ap (λ (k : ℕ). length us + k) (length-append common rest)) ∙ o.given.coins in
    let short : length common < length w.0 = omega (arith, total, as_many c, ap length w.1, n, later) in
    let first : (more : List ℕ) → first_claim c ys (us ++ more) ≡ claim_at c ys us = λ more. ap (claim_at c ys) (take_at us more (output_exponent c) n) in
    ap (up_to (length common) coin') (steps_from_opening c input legal ys (us ++ (common ++ rest)) o ms
    ∙ ap (λ (claim : ℕ). calls g final (us ++ (common ++ rest)) (at (place 1 0) claim) ms) (first (common ++ rest)))
    ∙ no-early-coin-in-walk g final ms (place 1 0) w.0 us (claim_at c ys us) common coin coin' more more' (chain_first c input legal us n) short
    ∙ sym (ap (take (suc (length common))) (steps_from_opening c input legal ys (us ++ (common ++ rest')) o' ms
    ∙ ap (λ (claim : ℕ). calls g final (us ++ (common ++ rest')) (at (place 1 0) claim) ms) (first (common ++ rest'))))

pub compared_first : ComparedFirst
compared_first c input ys cs ms j t e going =
    let o = opened c input ys cs e in
    let legal = o.given.lists in
    let w = rounds_head c input legal in
    subst (λ (l : List Place). PassesAt (descent c) (place 0 0) l (first_point c cs) (first_claim c ys cs) ms (later_coins c cs) j × (t ≡ get_or (later_coins c cs) j 0))
    (sym w.1)
    (compared-in-walk (descent c) (input_agrees c input) ms (place 1 0) (place 0 0) w.0 (first_point c cs) (first_claim c ys cs) (later_coins c cs) j t
    (its_chain c input legal ys cs o) (a_coin_each c input legal ys cs o)
    (ap (λ (l : List Answer). get_or l j accepted) (sym (its_calls c input legal ys cs o ms)) ∙ going))

pub honest_by_prefix : HonestByPrefix
honest_by_prefix c input cs j n l =
    let k : ℕ = output_exponent c in
    let many = as_many c in
    let later : length (later_coins c cs) ≡ length (rounds c) = length-drop k cs ∙ omega arith in
    let short : length (coins_to c j cs) ≡ k + j = length-take-le (k + j) cs (omega arith) in
    let here : j ≡ length (coins_to c j cs) - k = omega arith in
    said_at (honest c input) (rounds c) (first_point c cs) (later_coins c cs) j (place 0 0) later (omega arith)
    ∙ ap₂ (λ (i : ℕ) (past : List ℕ). honest c input (get_or (rounds c) i (place 0 0)) past) here (sym (take-add k j cs))
