-- The round that follows a coin prefix, layer by layer; and the answer of one message, refusal by refusal.
-- Assumes nothing.
use Prim.Native.Nat.{ℕ, zero, suc, ◌+◌, ◌-◌, ◌*◌, ◌≤◌, ◌<◌}
use mathlib.Core.Path.{◌≡◌, refl, sym, ap, ◌∙◌}
use mathlib.Core.Bool.{Bool, true, false, cond}
use mathlib.Core.List.{List}
use native.Mathlib.Omega.{arith}
use native.Mathlib.Numerals.{add-one}
use lib.Dec.{eqb, leb, ltb}
use lib.ListN.{length}
use borrow.Author.Tests.{leb-true, ltb-true, lt-leb, le-leb}
use Rattle.lists.specs.Buffer.{over}
use Rattle.lists.proofs.Count.{sum_nil}
use Rattle.refusal.specs.Number.{number_of}
use Rattle.refusal.specs.Order.{need}
use Rattle.refusal.specs.declared.Cause.{Cause}
use Rattle.refusal.specs.declared.Cause.TheVariants.{BufferShort, CoinCount, CoinWord}
use Rattle.refusal.proofs.Order.{refused_first, refused_by, left_by}
use Rattle.circuit.specs.Circuit.{prime_of, depth, output_exponent, exponent_at, coin_count}
use Rattle.circuit.specs.Legal.{all_below, lists_cause}
use Rattle.circuit.specs.Sized.{LegalCircuit}
use Rattle.circuit.proofs.Loading.{split_true}
use Rattle.circuit.proofs.Sized.{deep}
use Rattle.evaluation.specs.Layer.{AllValues}
use Rattle.protocol.specs.Rounds.{Place, layer_start, AtRound}
use Rattle.protocol.specs.Judge.{message_length}
use Rattle.protocol.specs.Prove.{message_from, honest, place_of, followed, prove_one_cause, wrote, refused, one_of, prove_one_answer, prove_one_buffer}
use Rattle.protocol.proofs.Points.{start_next}
use Rattle.protocol.proofs.Places.{named}
use Rattle.standing.proofs.Coins.{all_coins}
use Rattle.messages.specs.Writing.{values_in}
use Rattle.prover.specs.Answers.{ProvesOne}
use Rattle.std.specs.Prelude.{Ok, Err}
use Rattle.prover.proofs.Values.{layer_values_lem}

-- THE COINS that a message follows
module _ (c : List ℕ) (n : ℕ) (f : followed c n ≡ true) where
  pub first_there : output_exponent c ≤ n
  first_there = leb-true (output_exponent c) n (split_true (leb (output_exponent c) n) (ltb n (coin_count c)) f).0

  pub not_all : n < coin_count c
  not_all = ltb-true n (coin_count c) (split_true (leb (output_exponent c) n) (ltb n (coin_count c)) f).1

-- THE ROUND
module _ (c : List ℕ) (legal : LegalCircuit c) where
  start_after : (i : ℕ) → 1 ≤ i → i ≤ depth c → layer_start c (i + 1) ≡ layer_start c i + 2 * exponent_at c i + 1
  start_after zero low n = absurd (omega arith)
  start_after (suc l) low n = ap (layer_start c) (add-one (suc l)) ∙ start_next c l (omega (arith, deep c legal))

  -- k_0 coins before the first layer
  pub before_first : (k : ℕ) → k ≡ layer_start c 1 → k ≡ output_exponent c
  before_first k e = e ∙ omega (arith, sum_nil)

  pub first_layer : (n k : ℕ) → followed c n ≡ true → k ≡ layer_start c 1 → (1 ≤ 1) × (1 ≤ depth c) × (n ≡ layer_start c 1 + (n - k))
  first_layer n k f e = (omega arith, legal.some, omega (arith, first_there c n f, before_first k e))

  module _ (n layer round line : ℕ) (low : 1 ≤ layer) (inside : layer ≤ depth c) (counted : n ≡ layer_start c layer + round)
      (own : line ≡ 2 * exponent_at c layer) where
    -- past a layer's line there is another layer
    pub next_layer : followed c n ≡ true → line < round → (1 ≤ layer + 1) × (layer + 1 ≤ depth c) × (n ≡ layer_start c (layer + 1) + (round - (line + 1)))
    next_layer f past =
        let few = not_all c n f in
        let next : layer_start c (layer + 1) ≡ layer_start c layer + 2 * exponent_at c layer + 1 = start_after layer low inside in
        let more : ¬ (layer ≡ depth c) = λ (e : layer ≡ depth c). omega (arith, ap (λ (i : ℕ). layer_start c (i + 1)) e, all_coins c legal) in
        (omega arith, omega (arith, more), omega arith)

-- THE ANSWER
module _ (c input prefix before : List ℕ) where
  -- nothing is wrong with the lists, and the round that follows the prefix has its message due
  pub record Due (here : Place) : Type 0 where
    pub none : lists_cause c input ≡ 0
    pub follows : followed c (length prefix) ≡ true
    pub residues : all_below (prime_of c) prefix ≡ true
    pub there : AtRound c here (length prefix)

  -- from what the checks of the lists and of the prefix say
  pub due_of : 0 ≡ lists_cause c input → followed c (length prefix) ≡ true → all_below (prime_of c) prefix ≡ true → {here : Place}
      → AtRound c here (length prefix) → Due here
  due_of none follows residues there = record { none = sym none; follows = follows; residues = residues; there = there }

  -- a cause, whatever it is, leaves the buffer
  by_cause : (cause : Cause) → prove_one_cause c input prefix before ≡ number_of cause → ProvesOne c input prefix before (Err cause) before
  unfolding prove_one_answer prove_one_buffer
  by_cause cause e = record {
    answer = refused_by (λ k. one_of k (message_length c (place_of c prefix))) refused (λ n. refl) cause (prove_one_cause c input prefix before) e;
    buffer = sym (left_by cause (prove_one_cause c input prefix before) (over (honest c input (place_of c prefix) prefix) before) before e);
  }

  pub one_lists : (cause : Cause) → number_of cause ≡ lists_cause c input → ProvesOne c input prefix before (Err cause) before
  unfolding prove_one_cause
  one_lists cause e = by_cause cause (refused_first cause (lists_cause c input) _ e)

  module _ (none : lists_cause c input ≡ 0) where
    pub one_count : followed c (length prefix) ≡ false → ProvesOne c input prefix before (Err CoinCount) before
    unfolding prove_one_cause
    one_count f = by_cause CoinCount (simp (none, f))

    pub one_word : followed c (length prefix) ≡ true → all_below (prime_of c) prefix ≡ false → ProvesOne c input prefix before (Err CoinWord) before
    unfolding prove_one_cause
    one_word f e = by_cause CoinWord (simp (none, f, e))

  module _ {here : Place} (due : Due here) where
    only_room : prove_one_cause c input prefix before ≡ need (leb (message_length c here) (length before)) 10 0
    unfolding prove_one_cause
    only_room = simp (due.none, due.follows, due.residues, named c prefix here due.there)

    pub one_short : length before < message_length c here → ProvesOne c input prefix before (Err BufferShort) before
    one_short l = by_cause BufferShort (only_room ∙ ap (λ (b : Bool). need b 10 0) (lt-leb (message_length c here) (length before) l))

    -- the honest message over the buffer
    pub one_written : {values after : List ℕ} → message_length c here ≤ length before → AllValues c input values
        → after ≡ over (message_from c (values_in c here.layer values) here prefix) before
        → ProvesOne c input prefix before (Ok (message_length c here)) after
    unfolding prove_one_answer prove_one_buffer honest
    one_written {values} room a e =
        let name : here ≡ place_of c prefix = sym (named c prefix here due.there) in
        let fits = le-leb (message_length c here) (length before) room in
        let none_left : prove_one_cause c input prefix before ≡ 0 = only_room ∙ ap (λ (b : Bool). need b 10 0) fits in
        let said : List ℕ = honest c input (place_of c prefix) prefix in
        let same : message_from c (values_in c here.layer values) here prefix ≡ said =
        ap (λ (vs : List ℕ). message_from c vs here prefix) (layer_values_lem c input due.none values a here.layer due.there.last)
        ∙ ap (λ (r : Place). honest c input r prefix) name in
        record {
          answer = ap wrote (ap (message_length c) name) ∙ sym (ap (λ (k : ℕ). one_of k (message_length c (place_of c prefix))) none_left);
          buffer = e ∙ ap (λ (m : List ℕ). over m before) same ∙ sym (ap (λ (k : ℕ). cond (eqb k 0) (over said before) before) none_left);
        }
