-- Demand 3 of a machine that simulates the definitions, from demand 3 of the definitions.
-- Assumes nothing.
use Prim.Native.Nat.{ℕ, suc, ◌+◌, ◌-◌, ◌*◌, ◌^◌, ◌≤◌, ◌<◌}
use mathlib.Core.Path.{◌≡◌, sym, ap, ap₂, ◌∙◌, subst}
use mathlib.Core.Bool.{Bool, ◌&&◌}
use mathlib.Core.List.{List, [], ◌∷◌, ◌++◌}
use native.Mathlib.Omega.{arith}
use lib.ListN.{length, take, get_or}
use Rattle.lists.specs.Each.{All}
use Rattle.lists.proofs.Each.{all_weaken, all_take, all_drop}
use Rattle.counting.specs.Coins.{CoinList, passing}
use Rattle.counting.specs.Doomed.{luckless}
use Rattle.counting.proofs.Coins.{agree, same_refl}
use Rattle.circuit.specs.Circuit.{prime_of, output_exponent, coin_count, exponent_sum}
use Rattle.circuit.specs.Values.{outputs}
use Rattle.circuit.proofs.Layers.{output_layer}
use Rattle.walk.specs.Rule.{Rule}
use Rattle.walk.specs.Session.{Answer, accepted, Record, is_accepted, any_accepted, end_of, up_to, cut}
use Rattle.walk.proofs.Session.{cut_all}
use Rattle.protocol.specs.Start.{first_point, later_coins}
use Rattle.protocol.specs.Rounds.{Place, rounds}
use Rattle.protocol.specs.Judge.{descent}
use Rattle.protocol.specs.Check.{check_answer}
use Rattle.protocol.specs.Prove.{Proof, honest, messages_on, prove_buffer}
use Rattle.protocol.specs.Accept as accept
use Rattle.protocol.specs.Theorems as theory
use Rattle.protocol.specs.Accept.{Acceptance}
use Rattle.protocol.specs.Shares.{coin_losses}
use Rattle.protocol.proofs.Truth.{honest_residues}
use Rattle.protocol.proofs.Proving.{nothing_refused, true_answer, written, asked_same}
use Rattle.protocol.proofs.Proved.{proved as theorems}
use Rattle.machine.specs.Words.{Word, Words, WordRule, WordLists}
use Rattle.machine.specs.Machine.{Machine, handed_out, answers, whole_accepts, session_accepts, taken, asking}
use Rattle.machine.specs.Theorems.{Job, Complete, Sound, Sharp, SameAcceptance, SameEnd, OpeningOnFirst, NoEarlyCoin, ComparedFirst, ProvedAccepted, AskedAccepted, Demand3}
use Rattle.machine.proofs.Figures.{small_prime}
use Rattle.machine.proofs.Simulation.{begun_by, Simulates, number_end, answers_are, opened_cause, whole_is, session_is, asking_is}

-- residues are words, since the prime is one
small : (c : List ℕ) → Words c → (l : List ℕ) → All (λ x. x < prime_of c) l → Words l
small c w l = all_weaken l (λ x h. omega (arith, h, small_prime c w))

module _ {c input : List ℕ} (job : Job c input) where
  lists_of : (cs : List ℕ) → CoinList (prime_of c) (coin_count c) cs → WordLists c input cs
  lists_of cs v = record { circuit = job.circuit; values = job.values; coins = small c job.circuit cs v.1 }

  true_words : Words (outputs c input)
  true_words = small c job.circuit (outputs c input) (output_layer c input job.legal).residues

  honest_rule : WordRule (honest c input)
  honest_rule r past = small c job.circuit (honest c input r past) (honest_residues c input job.legal r past)

-- AN ACCEPTANCE that is the definitions' on words has what theirs has
abbrev Agrees : Acceptance → Acceptance → Type 0
Agrees accepts defined =
    (c input ys : List ℕ) → Words ys → (rule : Rule Place) → WordRule rule → (cs : List ℕ) → WordLists c input cs
    → accepts c input ys rule cs ≡ defined c input ys rule cs

module _ (accepts defined : Acceptance) (same : Agrees accepts defined) where
  complete_by : theory.Complete defined → Complete accepts
  complete_by h c input job cs v =
      same c input (outputs c input) (true_words job) (honest c input) (honest_rule job) cs (lists_of job cs v) ∙ h c input job.legal cs v

  counts : (c input : List ℕ) → Job c input → (ys : List ℕ) → Words ys → (rule : Rule Place) → WordRule rule
      → passing (prime_of c) (coin_count c) (defined c input ys rule) ≡ passing (prime_of c) (coin_count c) (accepts c input ys rule)
  counts c input job ys wy rule wr = agree (prime_of c) (coin_count c) _ _ (λ cs v. sym (same c input ys wy rule wr cs (lists_of job cs v)))

  sound_by : theory.Sound defined → Sound accepts
  sound_by h c input job ys f rule any =
      subst (λ (n : ℕ). n ≤ (output_exponent c + 5 * exponent_sum c) * prime_of c ^ (coin_count c - 1)) (counts c input job ys f.words rule any.words)
      (h c input job.legal ys f.differs rule any.fits)

  sharp_by : theory.Sharp defined → Sharp accepts
  sharp_by h c input job ys f rule any =
      subst (λ (n : ℕ). n + luckless (prime_of c) (coin_losses c) ≤ prime_of c ^ coin_count c)
      (counts c input job ys f.words rule any.words) (h c input job.legal ys f.differs rule any.fits)

module _ {S : Type 0} (M : Machine S) (Store : S → Type 0) (read : S → Record Place) (sim : Simulates M Store read) where
  abbrev whole_agrees : Agrees (whole_accepts M) accept.whole_accepts
  whole_agrees c input ys wy rule wr cs w = whole_is M Store read sim c input ys wy rule wr cs w

  abbrev session_agrees : Agrees (session_accepts M) accept.session_accepts
  session_agrees c input ys wy rule wr cs w = session_is M Store read sim c input ys wy rule wr cs w

  same_acceptance : SameAcceptance (session_accepts M) (whole_accepts M)
  same_acceptance c input job ys wy rule any cs v =
      let w = lists_of job cs v in
      session_agrees c input ys wy rule any.words cs w
      ∙ theorems.same_acceptance c input job.legal ys rule any.fits cs v
      ∙ sym (whole_agrees c input ys wy rule any.words cs w)

  same_end : SameEnd M
  same_end c input ys cs o ms wm n =
      ap end_of (answers_are M Store read sim c input ys cs o.lists o.outputs (cut (descent c) (rounds c) ms) (cut_all (descent c) Word (rounds c) ms wm))
      ∙ theorems.same_end c input ys cs ms (opened_cause M Store read sim c input ys cs o) n
      ∙ sym (ap (λ (a : Answer). end_of (a ∷ [])) (sim.check c input ys cs ms o.lists o.outputs wm) ∙ number_end (check_answer c input ys cs ms))

  opening_on_first : OpeningOnFirst M
  opening_on_first c input ys before rest rest' n o o' =
      let e = theorems.opening_on_first c input ys before rest n (opened_cause M Store read sim c input ys (before ++ rest) o) in
      let e' = theorems.opening_on_first c input ys before rest' n (opened_cause M Store read sim c input ys (before ++ rest') o') in
      let begins = sim.begin c input ys (before ++ rest) o.lists o.outputs ∙ ap (begun_by sim.write) e in
      let begins' = sim.begin c input ys (before ++ rest') o'.lists o'.outputs ∙ ap (begun_by sim.write) e' in
      record { hands = ap handed_out begins; alike = begins ∙ sym begins' }

  no_early_coin : NoEarlyCoin M
  no_early_coin c input ys before common coin coin' rest rest' n more o o' ms wm =
      let cs : List ℕ = before ++ (common ++ coin ∷ rest) in
      let cs' : List ℕ = before ++ (common ++ coin' ∷ rest') in
      ap (up_to (length common) coin') (answers_are M Store read sim c input ys cs o.lists o.outputs ms wm)
      ∙ theorems.no_early_coin c input ys ms before common coin coin' rest rest' n more
      (opened_cause M Store read sim c input ys cs o) (opened_cause M Store read sim c input ys cs' o')
      ∙ sym (ap (take (suc (length common))) (answers_are M Store read sim c input ys cs' o'.lists o'.outputs ms wm))

  compared_first : ComparedFirst M
  compared_first c input ys cs o ms wm j t going =
      theorems.compared_first c input ys cs ms j t (opened_cause M Store read sim c input ys cs o)
      (ap (λ (l : List Answer). get_or l j accepted) (sym (answers_are M Store read sim c input ys cs o.lists o.outputs ms wm)) ∙ going)

  -- what Prove writes is the honest transcript
  proved_accepted : ProvedAccepted M
  proved_accepted c input job buffer wb room cs v =
      let w = lists_of job cs v in
      let none = nothing_refused c input cs buffer job.legal v room in
      let after : List ℕ = prove_buffer c input cs buffer in
      ap (taken M c input cs) (sim.prove c input cs buffer w wb)
      ∙ ap (λ (a : Proof). taken M c input cs (a, after)) (true_answer c input cs buffer none)
      ∙ ap₂ (λ (b : Bool) (ms : List ℕ). b && is_accepted (M.check c input (outputs c input) cs ms))
      (same_refl (outputs c input)) (written c input cs buffer none)
      ∙ complete_by (whole_accepts M) accept.whole_accepts whole_agrees theorems.demand_3.whole_complete c input job cs v

  asked_accepted : AskedAccepted M
  asked_accepted c input job buffer wb room cs v =
      let ws = small c job.circuit cs v.1 in
      let us : List ℕ = first_point c cs in
      let same : messages_on c (asking M c input buffer) cs ≡ messages_on c (honest c input) cs =
      asking_is M Store read sim c input job.circuit job.values buffer wb (rounds c) us (later_coins c cs)
      (all_take Word (output_exponent c) cs ws) (all_drop Word (output_exponent c) cs ws)
      ∙ asked_same c input job.legal buffer room cs v in
      ap (λ (ms : List (List ℕ)). any_accepted (answers M c input (outputs c input) cs ms)) same
      ∙ complete_by (session_accepts M) accept.session_accepts session_agrees theorems.demand_3.session_complete c input job cs v

  pub holds : Demand3 M
  holds = record {
    whole_complete = complete_by (whole_accepts M) accept.whole_accepts whole_agrees theorems.demand_3.whole_complete;
    whole_sound = sound_by (whole_accepts M) accept.whole_accepts whole_agrees theorems.demand_3.whole_sound;
    whole_sharp = sharp_by (whole_accepts M) accept.whole_accepts whole_agrees theorems.whole_sharp;
    session_complete = complete_by (session_accepts M) accept.session_accepts session_agrees theorems.demand_3.session_complete;
    session_sound = sound_by (session_accepts M) accept.session_accepts session_agrees theorems.demand_3.session_sound;
    session_sharp = sharp_by (session_accepts M) accept.session_accepts session_agrees theorems.session_sharp;
    same_acceptance = same_acceptance;
    same_end = same_end;
    opening_on_first = opening_on_first;
    no_early_coin = no_early_coin;
    compared_first = compared_first;
    proved_accepted = proved_accepted;
    asked_accepted = asked_accepted;
  }
