-- What Prove writes is accepted: where it refuses nothing it writes the honest transcript, or the honest message after a prefix, and the honest
-- messages are accepted on every coin list.
-- Assumes nothing.
use Prim.Native.Nat.{ℕ, zero, suc, ◌+◌, ◌≤◌, ◌<◌}
use mathlib.Core.Path.{◌≡◌, refl, sym, ap, ap₂, ◌∙◌}
use mathlib.Core.Bool.{Bool, true, false, ◌&&◌, cond, false≢true}
use mathlib.Core.List.{List, [], ◌∷◌, ◌++◌}
use native.Mathlib.Omega.{arith}
use lib.Dec.{eqb, ltb, leb}
use lib.ListN.{length, length-append, length-take, length-drop, take, get_or}
use lib.Seq.{length-take-le}
use borrow.Author.Tests.{ltb-true, lt-ltb, le-leb}
use Rattle.lists.specs.Each.{All}
use Rattle.lists.specs.Buffer.{over}
use Rattle.lists.proofs.Each.{all_append}
use Rattle.lists.proofs.Buffer.{take_over}
use Rattle.counting.specs.Coins.{CoinList}
use Rattle.refusal.specs.Order.{need}
use Rattle.refusal.proofs.Order.{first_none, need_none, legal_first}
use Rattle.circuit.specs.Circuit.{prime_of, output_exponent, coin_count, message_words}
use Rattle.circuit.specs.Legal.{lists_cause}
use Rattle.circuit.specs.Values.{outputs}
use Rattle.circuit.proofs.Layers.{below_all}
use Rattle.circuit.proofs.Loading.{split_true}
use Rattle.walk.specs.Game.{passes}
use Rattle.walk.specs.Rule.{said}
use Rattle.walk.specs.Session.{any_accepted}
use Rattle.walk.proofs.Session.{said_sized, sized_at}
use Rattle.protocol.specs.Start.{first_point, later_coins, coins_to}
use Rattle.protocol.specs.Rounds.{Place, place, rounds, layer_start, AtRound}
use Rattle.protocol.specs.Judge.{message_length, descent}
use Rattle.protocol.specs.Check.{check_answer}
use Rattle.protocol.specs.Session.{session_on}
use Rattle.protocol.specs.Prove.{Proof, proved, refused, OneMessage, wrote, proof_of, one_of, honest, messages_on, transcript, place_of, followed, message_in, asking, Roomy}
use Rattle.protocol.specs.Prove.{prove_cause, prove_answer, prove_buffer, prove_one_cause, prove_one_answer, prove_one_buffer}
use Rattle.protocol.specs.Theorems.{ProvedAccepted, ProvedInTurn, AskedAccepted}
use Rattle.protocol.proofs.Rounds.{as_many, coins_split}
use Rattle.protocol.proofs.Coins.{coin_list, coins_taken}
use Rattle.protocol.proofs.Truth.{honest_words}
use Rattle.protocol.proofs.Descent.{Stands, stands_here, stands_next, stands_first, honest_sized}
use Rattle.protocol.proofs.Places.{named}
use Rattle.protocol.proofs.Check.{length_transcript}
use Rattle.protocol.proofs.Theorems.{honest_fits, whole_complete, session_complete, honest_by_prefix}

-- an answer that is no refusal has no cause, and these figures
abbrev is_proved : Proof → Bool
is_proved (proved ys n) = true
is_proved (refused cause) = false

abbrev outputs_in : Proof → List ℕ
outputs_in (proved ys n) = ys
outputs_in (refused cause) = []

abbrev words_in : Proof → ℕ
words_in (proved ys n) = n
words_in (refused cause) = 0

no_cause : (cause : ℕ) (vs : List ℕ) (w : ℕ) (ys : List ℕ) (n : ℕ) → proof_of cause vs w ≡ proved ys n → (cause ≡ 0) × (vs ≡ ys) × (w ≡ n)
no_cause zero vs w ys n e = (refl, ap outputs_in e, ap words_in e)
no_cause (suc cause) vs w ys n e = absurd (false≢true (ap is_proved e))

abbrev is_written : OneMessage → Bool
is_written (wrote n) = true
is_written (refused cause) = false

abbrev count_in : OneMessage → ℕ
count_in (wrote n) = n
count_in (refused cause) = 0

no_cause_one : (cause w n : ℕ) → one_of cause w ≡ wrote n → (cause ≡ 0) × (w ≡ n)
no_cause_one zero w n e = (refl, ap count_in e)
no_cause_one (suc cause) w n e = absurd (false≢true (ap is_written e))

passes_none : (n : ℕ) → passes n ≡ true → n ≡ 0
passes_none zero e = refl
passes_none (suc n) e = absurd (false≢true e)

-- THE WHOLE TRANSCRIPT: nothing is refused of a legal job with a buffer that is long enough
pub nothing_refused : (c input cs buffer : List ℕ) → lists_cause c input ≡ 0 → CoinList (prime_of c) (coin_count c) cs → message_words c ≤ length buffer
    → prove_cause c input cs buffer ≡ 0
unfolding prove_cause
nothing_refused c input cs buffer legal v room =
    legal_first (lists_cause c input) _ legal ∙ coins_taken c cs _ v ∙ ap (λ (b : Bool). need b 10 0) (le-leb (message_words c) (length buffer) room)

module _ (c input cs buffer : List ℕ) (none : prove_cause c input cs buffer ≡ 0) where
  pub true_answer : prove_answer c input cs buffer ≡ proved (outputs c input) (message_words c)
  unfolding prove_answer
  true_answer = ap (λ (k : ℕ). proof_of k (outputs c input) (message_words c)) none

  its_lists : (lists_cause c input ≡ 0) × CoinList (prime_of c) (coin_count c) cs
  unfolding prove_cause
  its_lists =
      let lists = first_none (lists_cause c input) _ none in
      (lists.0, coin_list c cs _ lists.1)

  pub written : take (message_words c) (prove_buffer c input cs buffer) ≡ transcript c (honest c input) cs
  unfolding prove_buffer
  written =
      let all : List ℕ = transcript c (honest c input) cs in
      let size : length all ≡ message_words c = length_transcript c (honest c input) (honest_fits c input its_lists.0) cs its_lists.1 in
      ap (λ (k : ℕ). take (message_words c) (cond (eqb k 0) (over all buffer) buffer)) none
      ∙ ap (λ (k : ℕ). take k (over all buffer)) (sym size) ∙ take_over all buffer

  written_accepted : check_answer c input (outputs c input) cs (take (message_words c) (prove_buffer c input cs buffer)) ≡ 0
  written_accepted =
      ap (check_answer c input (outputs c input) cs) written
      ∙ passes_none (check_answer c input (outputs c input) cs _) (whole_complete c input its_lists.0 cs its_lists.1)

pub proved_accepted : ProvedAccepted
unfolding prove_answer
proved_accepted c input cs buffer ys n e =
    let told = no_cause (prove_cause c input cs buffer) (outputs c input) (message_words c) ys n e in
    ap₂ (λ (vs : List ℕ) (k : ℕ). check_answer c input vs cs (take k (prove_buffer c input cs buffer))) (sym told.1) (sym told.2)
    ∙ written_accepted c input cs buffer told.0

pub proved_in_turn : ProvedInTurn
unfolding prove_one_answer prove_one_buffer prove_one_cause descent
proved_in_turn c input cs buffer j n size e =
    let prefix : List ℕ = coins_to c j cs in
    let told = no_cause_one (prove_one_cause c input prefix buffer) (message_length c (place_of c prefix)) n e in
    let lists = first_none (lists_cause c input) _ told.0 in
    let inside = split_true (leb (output_exponent c) (length prefix)) _ (need_none (leb (output_exponent c) (length prefix) && ltb (length prefix) (coin_count c)) 10 _ lists.1).0 in
    let k : ℕ = output_exponent c in
    let many = as_many c in
    let short : k + j < coin_count c = omega (arith, ltb-true (length prefix) (coin_count c) inside.1, length-take (k + j) cs, size) in
    let counted : length prefix ≡ k + j = length-take-le (k + j) cs (omega arith) in
    let later : length (later_coins c cs) ≡ length (rounds c) = length-drop k cs ∙ omega arith in
    let sized = said_sized (descent c) (honest c input) (rounds c) (first_point c cs) (later_coins c cs)
    (honest_sized c input lists.0 cs (length-take-le k cs (omega arith))) later in
    record {
      count = sym (sized_at (descent c) (rounds c) (messages_on c (honest c input) cs) j (place 0 0) sized (omega arith)
          ∙ ap (λ (i : ℕ). message_length c (get_or (rounds c) i (place 0 0))) (omega (arith, counted)) ∙ told.1);
      buffer =
          ap (λ (i : ℕ). cond (eqb i 0) (over (honest c input (place_of c prefix) prefix) buffer) buffer) told.0
          ∙ ap (λ (m : List ℕ). over m buffer) (sym (honest_by_prefix c input cs j size short));
    }

-- a round comes after the coins before any message
after_first : {c : List ℕ} {r : Place} {n : ℕ} → AtRound c r n → output_exponent c ≤ n
after_first {c} {r} {n} here = go r.layer here.first here.counted
  where
    go : (i : ℕ) → 1 ≤ i → n ≡ layer_start c i + r.round → output_exponent c ≤ n
    go zero first e = absurd (omega arith)
    go (suc l) first e = omega arith

-- ASKED ONE BY ONE, Prove writes the honest message at each round
module _ (c input : List ℕ) (legal : lists_cause c input ≡ 0) (buffer : List ℕ → List ℕ) (room : Roomy c buffer) where
  asked_at : (r : Place) (past : List ℕ) → AtRound c r (length past) → length past < coin_count c → All (λ t. t < prime_of c) past
      → asking c input buffer r past ≡ honest c input r past
  unfolding prove_one_answer prove_one_buffer prove_one_cause
  asked_at r past here few below =
      let w : ℕ = message_length c (place_of c past) in
      let m : List ℕ = honest c input (place_of c past) past in
      let name = named c past r here in
      let follows : followed c (length past) ≡ true =
      simp (le-leb (output_exponent c) (length past) (after_first here), lt-ltb (length past) (coin_count c) few) in
      let none : prove_one_cause c input past (buffer past) ≡ 0 =
      simp (legal, follows, below_all (prime_of c) past below, le-leb w (length (buffer past)) (room past follows)) in
      let long : length m ≡ w = ap (λ (q : Place). length (honest c input q past)) name ∙ (honest_words c input legal r past here).0 ∙ ap (message_length c) (sym name) in
      ap₂ message_in (ap (λ (k : ℕ). one_of k w) none) (ap (λ (k : ℕ). cond (eqb k 0) (over m (buffer past)) (buffer past)) none)
      ∙ ap (λ (k : ℕ). take k (over m (buffer past))) (sym long)
      ∙ take_over m (buffer past)
      ∙ ap (λ (q : Place). honest c input q past) name

  asked_all : (rs : List Place) (past cs : List ℕ) → Stands c rs past → length past + length cs ≡ coin_count c
      → All (λ t. t < prime_of c) past → All (λ t. t < prime_of c) cs → said (asking c input buffer) rs past cs ≡ said (honest c input) rs past cs
  unfolding said
  asked_all [] past cs s n below later = refl
  asked_all (r ∷ rs) past [] s n below later = refl
  asked_all (r ∷ rs) past (t ∷ cs) s n below later =
      let here : AtRound c r (length past) = stands_here c r rs past s in
      ap₂ ◌∷◌ (asked_at r past here (omega (arith, n)) below)
      (asked_all rs (past ++ (t ∷ [])) cs (stands_next c r rs past t s) (omega (arith, n, length-append past (t ∷ [])))
      (all_append (λ x. x < prime_of c) past (t ∷ []) below (later.0, tt)) later.1)

  pub asked_same : (cs : List ℕ) → CoinList (prime_of c) (coin_count c) cs → messages_on c (asking c input buffer) cs ≡ messages_on c (honest c input) cs
  asked_same cs v =
      let parts = coins_split c cs v in
      let us : List ℕ = first_point c cs in
      let vs : List ℕ = later_coins c cs in
      let total : length us + length vs ≡ coin_count c = sym (length-append us vs) ∙ ap length parts.whole ∙ v.0 in
      asked_all (rounds c) us vs (stands_first c input legal us parts.before.0) total parts.before.1 parts.later.1

pub asked_accepted : AskedAccepted
asked_accepted c input legal buffer room cs v =
    ap (λ (ms : List (List ℕ)). any_accepted (session_on c input (outputs c input) cs ms))
    (asked_same c input legal buffer room cs v)
    ∙ session_complete c input legal cs v
