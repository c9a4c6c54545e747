-- The walk down a legal circuit. A claim that is not the true one stays false but for as many coins as the message has coefficients, less one:
-- the message that passed is not the honest one, and the two agree at few points. A true claim stays true with the honest messages.
-- Assumes nothing.
use Prim.Native.Nat.{ℕ, zero, suc, ◌+◌, ◌-◌, ◌*◌, ◌^◌, ◌≤◌, ◌<◌, zero-le}
use mathlib.Core.Path.{◌≡◌, refl, sym, ap, ap₂, ◌∙◌, subst}
use mathlib.Core.Bool.{Bool, true, false, ◌&&◌, cond, true≢false}
use mathlib.Core.List.{List, [], ◌∷◌, ◌++◌}
use native.Mathlib.Nat.{le_refl, le_trans, le_of_eq, not-suc-le-zero, suc-ne-zero}
use native.Mathlib.Numerals.{add-one}
use native.Mathlib.Omega.{arith}
use lib.Dec.{eqb}
use lib.ListN.{length, length-append}
use lib.Seq.{take_at, drop_at}
use borrow.Author.Tests.{eq-eqb, ne_eqb, eqb-true}
use Rattle.lists.specs.Count.{sum, count, range}
use Rattle.lists.proofs.Count.{sum_nil, count_same, all_range}
use Rattle.algebra.proofs.Roots.{root_bound}
use Rattle.counting.specs.Coins.{CoinList, passing}
use Rattle.counting.specs.Doomed.{Doomed, Fails, luckless}
use Rattle.counting.proofs.Doomed.{losses_add, losses_multiply}
use Rattle.multilinear.specs.Apart.{Apart}
use Rattle.refusal.specs.Order.{need}
use Rattle.refusal.proofs.Order.{need_none}
use Rattle.circuit.specs.Circuit.{prime_of, depth, output_exponent, exponents, exponent_at, coin_count, exponent_sum}
use Rattle.circuit.specs.Legal.{all_below, lists_cause}
use Rattle.circuit.specs.Theorems.{OutputList}
use Rattle.circuit.specs.Values.{outputs}
use Rattle.circuit.proofs.Loading.{legal_lists}
use Rattle.circuit.proofs.Sized.{deep}
use Rattle.circuit.proofs.Layers.{legal_prime, all_below_lem, below_all, output_layer}
use Rattle.walk.specs.Game.{passes}
use Rattle.walk.specs.Rule.{Strategy, Fits, play, by_rule}
use Rattle.walk.specs.Session.{Follows, Chain}
use Rattle.walk.specs.Claims.{Sound}
use Rattle.walk.proofs.Play.{play_doomed, play_complete}
use Rattle.protocol.specs.Start.{first_point, later_coins, claim_at, first_claim}
use Rattle.protocol.specs.Shares.{message_losses, coin_losses}
use Rattle.protocol.specs.Rounds.{Place, place, rounds_of, rounds_from, rounds, is_line, AtRound}
use Rattle.protocol.specs.Judge.{message_at, message_length, compared, judge, input_agrees, descent}
use Rattle.protocol.specs.Prove.{honest}
use Rattle.protocol.proofs.Rounds.{chain_all, coins_split}
use Rattle.protocol.proofs.Sums.{loss_of, loss_more, coin_losses_sum, length_losses}
use Rattle.protocol.proofs.Outputs.{first_coins}
use Rattle.protocol.proofs.Truth.{truth, loaded, honest_words, honest_compared, honest_next, some_layer, first_truth}

-- THE JUDGEMENT, taken apart and put together
pub judged : (c : List ℕ) (r : Place) (past : List ℕ) (claim : ℕ) (m : List ℕ) → judge c r past claim m ≡ 0
    → (length m ≡ message_length c r) × (all_below (prime_of c) m ≡ true) × (compared c (is_line c r) r past m ≡ claim)
unfolding judge
judged c r past claim m e =
    let long = need_none (eqb (length m) (message_length c r)) 13 _ e in
    let small = need_none (all_below (prime_of c) m) 14 _ long.1 in
    (eqb-true (length m) (message_length c r) long.0, small.0, eqb-true _ claim (equal (eqb (compared c (is_line c r) r past m) claim) (is_line c r) small.1))
  where
    equal : (b l : Bool) → need b (cond l 17 16) 0 ≡ 0 → b ≡ true
    equal true l q = refl
    equal false true q = absurd (suc-ne-zero 16 q)
    equal false false q = absurd (suc-ne-zero 15 q)

pub passed : (c : List ℕ) (r : Place) (past : List ℕ) (claim : ℕ) (m : List ℕ)
    → length m ≡ message_length c r → all_below (prime_of c) m ≡ true → compared c (is_line c r) r past m ≡ claim → judge c r past claim m ≡ 0
unfolding judge
passed c r past claim m long small e =
    rw (eq-eqb (length m) (message_length c r) long, small, eq-eqb (compared c (is_line c r) r past m) claim e)

module _ (c : List ℕ) where
  -- STANDING at a round: the rounds left follow one another from here
  unfoldable pub At : List Place → List ℕ → Type 0
  At [] past = Unit {0}
  At (r ∷ rs) past = AtRound c r (length past)

  unfoldable pub Stands : List Place → List ℕ → Type 0
  Stands rs past = Chain (descent c) rs (length past) × At rs past

  pub stands_follows : (r : Place) (rs : List Place) (past : List ℕ) → Stands (r ∷ rs) past → Follows (descent c) r rs
  unfolding Stands Chain
  stands_follows r rs past s = s.0.1

  pub stands_here : (r : Place) (rs : List Place) (past : List ℕ) → Stands (r ∷ rs) past → AtRound c r (length past)
  unfolding Stands At
  stands_here r rs past s = s.1

  -- the round after a round that is not the last
  after_here : (i j : ℕ) (b : Bool) (n n' : ℕ) → is_line c (place i j) ≡ b → (b && eqb i (length (exponents c))) ≡ false → AtRound c (place i j) n
      → (r : Place) → cond b (place (suc i) 0) (place i (suc j)) ≡ r → (descent c).before r ≡ n' → AtRound c r n'
  unfolding descent
  after_here i j false n n' eb nl h r er e =
      let ne : ¬ (j ≡ 2 * exponent_at c i) = λ (q : j ≡ 2 * exponent_at c i). true≢false (sym (eq-eqb j (2 * exponent_at c i) q) ∙ eb) in
      let le : j ≤ 2 * exponent_at c i = h.reached in
      record {
        legal = h.legal;
        first = subst (λ (x : Place). 1 ≤ x.layer) er h.first;
        last = subst (λ (x : Place). x.layer ≤ depth c) er h.last;
        reached = subst (λ (x : Place). x.round ≤ 2 * exponent_at c x.layer) er (omega arith);
        counted = sym e;
      }
  after_here i j true n n' eb nl h r er e =
      let ne : ¬ (i ≡ length (exponents c)) = λ (q : i ≡ length (exponents c)). true≢false (sym (eq-eqb i (length (exponents c)) q) ∙ nl) in
      let le : i ≤ depth c = h.last in
      let whole = deep c h.legal in
      record {
        legal = h.legal;
        first = subst (λ (x : Place). 1 ≤ x.layer) er (omega arith);
        last = subst (λ (x : Place). x.layer ≤ depth c) er (omega arith);
        reached = subst (λ (x : Place). x.round ≤ 2 * exponent_at c x.layer) er zero-le;
        counted = sym e;
      }

  pub stands_next : (r : Place) (rs : List Place) (past : List ℕ) (t : ℕ) → Stands (r ∷ rs) past → Stands rs (past ++ (t ∷ []))
  unfolding Stands At Chain descent
  stands_next r [] past t s = (tt, tt)
  stands_next r (r' ∷ rs) past t s =
      let longer : length (past ++ (t ∷ [])) ≡ suc (length past) = length-append past (t ∷ []) ∙ add-one (length past) in
      let chain : Chain (descent c) (r' ∷ rs) (length (past ++ (t ∷ []))) = subst (Chain (descent c) (r' ∷ rs)) (sym longer) s.0.2 in
      (chain, after_here r.layer r.round (is_line c r) (length past) (length (past ++ (t ∷ []))) refl s.0.1.0 s.1 r' s.0.1.1 chain.0)

  -- the first round of a circuit with a layer
  head_of : (ks : List ℕ) → 0 < length ks → (rs : List Place) × (rounds_from 1 ks ≡ place 1 0 ∷ rs)
  unfolding rounds_from rounds_of
  head_of [] h = absurd (not-suc-le-zero h)
  head_of (k ∷ ks) h = go (2 * k)
    where
      go : (n : ℕ) → (rs : List Place) × (rounds_of 1 0 n ++ rounds_from 2 ks ≡ place 1 0 ∷ rs)
      go zero = (rounds_from 2 ks, refl)
      go (suc n) = (rounds_of 1 1 n ++ rounds_from 2 ks, refl)

module _ (c input : List ℕ) (legal : lists_cause c input ≡ 0) where
  pub rounds_head : (rs : List Place) × (rounds c ≡ place 1 0 ∷ rs)
  rounds_head = head_of c (exponents c) (some_layer c input legal)

  -- there: layer 1, round 0, after the coins before any message
  pub stands_first : (us : List ℕ) → length us ≡ output_exponent c → Stands c (rounds c) us
  unfolding Stands At
  stands_first us e =
      let w = rounds_head in
      let whole = (legal_lists c input legal).circuit in
      let here : AtRound c (place 1 0) (length us) =
      record { legal = whole; first = le_refl 1; last = whole.some; reached = zero-le; counted = rw sum_nil (omega arith) } in
      (subst (Chain (descent c) (rounds c)) (sym e) (chain_all c), subst (λ (l : List Place). At c l us) (sym w.1) here)

  true_first : (us : List ℕ) → length us ≡ output_exponent c → truth c input (rounds c) us ≡ claim_at c (outputs c input) us
  unfolding truth
  true_first us e = ap (λ (l : List Place). truth c input l us) rounds_head.1 ∙ first_truth c input legal us e

  abbrev p : ℕ
  p = prime_of c

  -- SOUNDNESS: a claim other than the true one
  Bad : List Place → List ℕ → ℕ → Type 0
  Bad rs past claim = Stands c rs past × ¬ (claim ≡ truth c input rs past)

  -- the coin at which a message meets the next true claim
  lucky : List Place → List ℕ → List ℕ → ℕ → Bool
  lucky [] past m t = false
  lucky (r ∷ rs) past m t = eqb (message_at c m t) (truth c input rs (past ++ (t ∷ [])))

  few : (r : Place) (rs : List Place) (past : List ℕ) (claim : ℕ) (m : List ℕ) → Bad (r ∷ rs) past claim → (descent c).judge r past claim m ≡ 0
      → count (lucky (r ∷ rs) past m) (range p) ≤ loss_of c r
  unfolding Bad lucky descent truth
  few r rs past claim m bad e =
      let h : List ℕ = honest c input r past in
      let here : AtRound c r (length past) = stands_here c r rs past bad.0 in
      let own = honest_words c input legal r past here in
      let said = judged c r past claim m e in
      let differ : ¬ (m ≡ h) = λ (q : m ≡ h). bad.1
      (sym said.2 ∙ ap (compared c (is_line c r) r past) q ∙ honest_compared c input legal r past here) in
      le_trans (le_of_eq (count_same (λ t. t < p) _ _
      (λ t l. ap (eqb (message_at c m t)) (sym (honest_next c input legal r rs past t here (stands_follows c r rs past bad.0))))
      (range p) (all_range p)))
      (root_bound p (legal_prime c (loaded c input legal)) (loss_of c r) m h (said.0 ∙ loss_more c r) (own.0 ∙ loss_more c r) (all_below_lem p m said.1) own.1 differ)

  stays : (r : Place) (rs : List Place) (past : List ℕ) (claim : ℕ) (m : List ℕ) → Bad (r ∷ rs) past claim → (descent c).judge r past claim m ≡ 0
      → (t : ℕ) → t < p → lucky (r ∷ rs) past m t ≡ false → Bad rs (past ++ (t ∷ [])) ((descent c).next m t)
  unfolding Bad lucky descent
  stays r rs past claim m bad e t l u =
      (stands_next c r rs past t bad.0, λ (q : message_at c m t ≡ truth c input rs (past ++ (t ∷ []))). true≢false (sym (eq-eqb _ _ q) ∙ u))

  ends : (past : List ℕ) (claim : ℕ) → Bad [] past claim → input_agrees c input past claim ≡ false
  unfolding Bad descent truth input_agrees
  ends past claim bad = ne_eqb _ claim (λ (q : truth c input [] past ≡ claim). bad.1 (sym q))

  sound : Sound (descent c) (input_agrees c input) p (loss_of c) Bad
  sound = record { lucky = lucky; few = few; stays = stays; ends = ends }

  starts : (us : List ℕ) (claim : ℕ) → length us ≡ output_exponent c → ¬ (claim ≡ claim_at c (outputs c input) us) → Bad (rounds c) us claim
  unfolding Bad
  starts us claim e ne = (stands_first us e, λ (q : claim ≡ truth c input (rounds c) us). ne (q ∙ true_first us e))

  -- whether the walk from the first claim on accepts a strategy's messages
  abbrev pub accepts : List ℕ → Strategy Place → List ℕ → Bool
  accepts ys σ cs = passes (play (descent c) (input_agrees c input) σ (rounds c) (first_point c cs) (first_claim c ys cs) (later_coins c cs))

  -- the coins before any message, then those of the messages
  accepts_on : (ys : List ℕ) (σ : Strategy Place) (us : List ℕ) → length us ≡ output_exponent c → (cs : List ℕ)
      → passes (play (descent c) (input_agrees c input) σ (rounds c) us (claim_at c ys us) cs) ≡ accepts ys σ (us ++ cs)
  accepts_on ys σ us e cs =
      ap₂ (λ (a b : List ℕ). passes (play (descent c) (input_agrees c input) σ (rounds c) a (claim_at c ys a) b))
      (sym (take_at us cs (output_exponent c) e)) (sym (drop_at us cs (output_exponent c) e))

  -- THE START of a false list is doomed: but for lucky first coins its first claim is false
  pub false_outputs : (σ : Strategy Place) (ys : List ℕ) → OutputList c ys → ¬ (ys ≡ outputs c input) → Doomed p (coin_losses c) Fails (accepts ys σ)
  unfolding claim_at
  false_outputs σ ys listed ne =
      let own = output_layer c input legal in
      let apart : Apart p (output_exponent c) ys (outputs c input) =
      record { long = listed.size; long' = own.size; small = listed.residues; small' = own.residues; differ = ne } in
      first_coins p (legal_prime c (loaded c input legal)) (output_exponent c) ys (outputs c input) (message_losses c) (accepts ys σ) apart
      (λ us v differ.
      subst (Doomed p (message_losses c) Fails) (λ i cs. accepts_on ys σ us v.0 cs i)
      (play_doomed (descent c) (input_agrees c input) p (loss_of c) Bad sound σ (rounds c) us (claim_at c ys us) (starts us (claim_at c ys us) v.0 differ)))

  pub bound_of : (test : List ℕ → Bool) → Doomed p (coin_losses c) Fails test
      → passing p (coin_count c) test ≤ (output_exponent c + 5 * exponent_sum c) * p ^ (coin_count c - 1)
  bound_of test h =
      subst (λ (x : ℕ). passing p (coin_count c) test ≤ x * p ^ (coin_count c - 1)) (coin_losses_sum c)
      (subst (λ (n : ℕ). passing p n test ≤ sum (coin_losses c) * p ^ (n - 1)) (length_losses c) (losses_add p (coin_losses c) test h))

  pub sharp_of : (test : List ℕ → Bool) → Doomed p (coin_losses c) Fails test → passing p (coin_count c) test + luckless p (coin_losses c) ≤ p ^ coin_count c
  sharp_of test h = subst (λ (n : ℕ). passing p n test + luckless p (coin_losses c) ≤ p ^ n) (length_losses c) (losses_multiply p (coin_losses c) test h)

  -- COMPLETENESS: the true claim
  Right : List Place → List ℕ → ℕ → Type 0
  Right rs past claim = Stands c rs past × (claim ≡ truth c input rs past)

  goes : (r : Place) (rs : List Place) (past : List ℕ) (claim : ℕ) → Right (r ∷ rs) past claim → (descent c).judge r past claim (honest c input r past) ≡ 0
  unfolding Right descent truth
  goes r rs past claim right =
      let here : AtRound c r (length past) = stands_here c r rs past right.0 in
      let own = honest_words c input legal r past here in
      passed c r past claim (honest c input r past) own.0 (below_all p (honest c input r past) own.1)
      (honest_compared c input legal r past here ∙ sym right.1)

  keeps : (r : Place) (rs : List Place) (past : List ℕ) (claim : ℕ) → Right (r ∷ rs) past claim
      → (t : ℕ) → t < p → Right rs (past ++ (t ∷ [])) ((descent c).next (honest c input r past) t)
  unfolding Right descent
  keeps r rs past claim right t l = (
    stands_next c r rs past t right.0,
    honest_next c input legal r rs past t (stands_here c r rs past right.0) (stands_follows c r rs past right.0),
  )

  closes : (past : List ℕ) (claim : ℕ) → Right [] past claim → input_agrees c input past claim ≡ true
  unfolding Right descent truth input_agrees
  closes past claim right = eq-eqb _ claim (sym right.1)

  pub true_output : (cs : List ℕ) → CoinList p (coin_count c) cs → accepts (outputs c input) (by_rule (honest c input)) cs ≡ true
  unfolding Right
  true_output cs v =
      let parts = coins_split c cs v in
      let us : List ℕ = first_point c cs in
      let start : Right (rounds c) us (first_claim c (outputs c input) cs) = (stands_first us parts.before.0, sym (true_first us parts.before.0)) in
      ap passes (play_complete (descent c) (input_agrees c input) p (by_rule (honest c input)) Right (record { goes = goes; keeps = keeps; closes = closes })
      (rounds c) us (first_claim c (outputs c input) cs) (later_coins c cs) start parts.later)

  -- the honest messages have the lengths that the walk calls for
  honest_fits_from : (rs : List Place) (past cs : List ℕ) → Stands c rs past → Fits (descent c) (honest c input) rs past cs
  unfolding Fits descent
  honest_fits_from [] past cs s = tt
  honest_fits_from (r ∷ rs) past [] s = tt
  honest_fits_from (r ∷ rs) past (t ∷ cs) s =
      ((honest_words c input legal r past (stands_here c r rs past s)).0, honest_fits_from rs (past ++ (t ∷ [])) cs (stands_next c r rs past t s))

  pub honest_sized : (cs : List ℕ) → length (first_point c cs) ≡ output_exponent c → Fits (descent c) (honest c input) (rounds c) (first_point c cs) (later_coins c cs)
  honest_sized cs e = honest_fits_from (rounds c) (first_point c cs) (later_coins c cs) (stands_first (first_point c cs) e)
