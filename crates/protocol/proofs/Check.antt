-- The whole check on a rule's transcript is the walk on its messages, once nothing is refused before.
-- Assumes nothing.
use Prim.Native.Nat.{ℕ, ◌<◌}
use mathlib.Core.Path.{◌≡◌, sym, ap, ◌∙◌}
use mathlib.Core.Bool.{Bool, false}
use mathlib.Core.List.{List}
use lib.Dec.{eqb}
use lib.ListN.{length}
use borrow.Author.Tests.{eq-eqb}
use Rattle.lists.specs.Each.{All}
use Rattle.counting.specs.Coins.{CoinList}
use Rattle.refusal.specs.Order.{need, first}
use Rattle.refusal.proofs.Order.{first_none, first_more, legal_first}
use Rattle.circuit.specs.Circuit.{prime_of, coin_count, message_words}
use Rattle.circuit.specs.Legal.{lists_cause}
use Rattle.circuit.specs.Theorems.{OutputList}
use Rattle.walk.specs.Game.{passes}
use Rattle.walk.specs.Rule.{Rule, play, by_rule}
use Rattle.walk.proofs.Play.{walk_said}
use Rattle.walk.proofs.Session.{said_sized, sized_words}
use Rattle.protocol.specs.Start.{first_point, later_coins, first_claim}
use Rattle.protocol.specs.Rounds.{Place, rounds}
use Rattle.protocol.specs.Judge.{descent, input_agrees}
use Rattle.protocol.specs.Check.{need_outputs, need_coins, Counted, walk_from, check_answer}
use Rattle.protocol.specs.Session.{open_cause}
use Rattle.protocol.specs.Prove.{messages_on, transcript}
use Rattle.protocol.specs.Accept.{FitsCircuit}
use Rattle.protocol.proofs.Coins.{coins_taken, coin_list, coins_more}
use Rattle.protocol.proofs.Outputs.{Unfit, outputs_taken, output_list, outputs_more}
use Rattle.protocol.proofs.Rounds.{coins_split}
use Rattle.protocol.proofs.Sums.{message_words_lem}

-- OPENING: what no refusal says
pub record Opened (c input ys cs : List ℕ) : Type 0 where
  pub given : Counted c input cs
  pub outputs : OutputList c ys
  pub below : All (λ r. r < prime_of c) cs

pub opened : (c input ys cs : List ℕ) → open_cause c input ys cs ≡ 0 → Opened c input ys cs
unfolding open_cause
opened c input ys cs e =
    let lists = first_none (lists_cause c input) _ e in
    let outputs = output_list c ys _ lists.1 in
    let coins = coin_list c cs 0 outputs.1 in
    record {
      given = record { lists = lists.0; coins = coins.0 };
      outputs = outputs.0;
      below = coins.1;
    }

pub opens_on : (c input ys cs : List ℕ) → lists_cause c input ≡ 0 → OutputList c ys → CoinList (prime_of c) (coin_count c) cs → Opened c input ys cs
opens_on c input ys cs legal listed v = record { given = record { lists = legal; coins = v.0 }; outputs = listed; below = v.1 }

pub its_coins : {c input ys cs : List ℕ} → Opened c input ys cs → CoinList (prime_of c) (coin_count c) cs
its_coins o = (o.given.coins, o.below)

pub open_legal : (c input ys cs : List ℕ) → Opened c input ys cs → open_cause c input ys cs ≡ 0
unfolding open_cause
open_legal c input ys cs o =
    legal_first (lists_cause c input) _ o.given.lists ∙ outputs_taken c ys (need_coins c cs 0) o.outputs ∙ coins_taken c cs 0 (its_coins o)

-- a list that is no list of outputs is refused by both
pub open_unfit : (c input ys cs : List ℕ) → lists_cause c input ≡ 0 → Unfit c ys → passes (open_cause c input ys cs) ≡ false
unfolding open_cause
open_unfit c input ys cs e u = ap passes (legal_first (lists_cause c input) _ e) ∙ u (need_coins c cs 0)

pub check_unfit : (c input ys cs ms : List ℕ) → lists_cause c input ≡ 0 → Unfit c ys → passes (check_answer c input ys cs ms) ≡ false
unfolding check_answer
check_unfit c input ys cs ms e u =
    ap passes (legal_first (lists_cause c input) _ e)
    ∙ u (need_coins c cs (need (eqb (length ms) (message_words c)) 14 (walk_from c input (first_claim c ys cs) cs ms)))

-- what refuses an opening refuses the check, and the rest is tried after it
pub check_opening : (c input ys cs ms : List ℕ)
    → check_answer c input ys cs ms
    ≡ first (open_cause c input ys cs) (need (eqb (length ms) (message_words c)) 14 (walk_from c input (first_claim c ys cs) cs ms))
unfolding check_answer open_cause
check_opening c input ys cs ms =
    let rest : ℕ = need (eqb (length ms) (message_words c)) 14 (walk_from c input (first_claim c ys cs) cs ms) in
    sym (first_more (lists_cause c input) (need_outputs c ys (need_coins c cs 0)) rest
    ∙ ap (first (lists_cause c input)) (outputs_more c ys (need_coins c cs 0) rest ∙ ap (need_outputs c ys) (coins_more c cs rest)))

-- once nothing is refused, the walk decides
pub check_walk : (c input ys cs ms : List ℕ) → Opened c input ys cs → length ms ≡ message_words c
    → check_answer c input ys cs ms ≡ walk_from c input (first_claim c ys cs) cs ms
unfolding check_answer
check_walk c input ys cs ms o n =
    legal_first (lists_cause c input) _ o.given.lists ∙ outputs_taken c ys _ o.outputs ∙ coins_taken c cs _ (its_coins o)
    ∙ ap (λ (b : Bool). need b 14 (walk_from c input (first_claim c ys cs) cs ms)) (eq-eqb (length ms) (message_words c) n)

-- a rule's transcript has the exact length
pub length_transcript : (c : List ℕ) (rule : Rule Place) → FitsCircuit c rule
    → (cs : List ℕ) → CoinList (prime_of c) (coin_count c) cs → length (transcript c rule cs) ≡ message_words c
unfolding transcript descent
length_transcript c rule fits cs v =
    sized_words (descent c) (rounds c) (messages_on c rule cs)
    (said_sized (descent c) rule (rounds c) (first_point c cs) (later_coins c cs) (fits cs v) (coins_split c cs v).later.0)
    ∙ message_words_lem c

pub whole_play : (c input ys cs : List ℕ) → Opened c input ys cs → (rule : Rule Place) → FitsCircuit c rule
    → check_answer c input ys cs (transcript c rule cs) ≡ play (descent c) (input_agrees c input) (by_rule rule) (rounds c) (first_point c cs) (first_claim c ys cs) (later_coins c cs)
unfolding transcript
whole_play c input ys cs o rule fits =
    check_walk c input ys cs (transcript c rule cs) o (length_transcript c rule fits cs (its_coins o))
    ∙ walk_said (descent c) (input_agrees c input) rule (rounds c) (first_point c cs) (first_claim c ys cs) (later_coins c cs)
    (fits cs (its_coins o))
