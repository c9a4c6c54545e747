-- A refused step, taken by its cause: what refuses before the message is looked at has none of the numbers 14 to 18 and leaves the record; what
-- refuses the message, or the claim after it, has one of them and ends it.
-- Assumes nothing.
use Prim.Native.Nat.{ℕ, zero, suc, ◌<◌, ◌≤◌}
use mathlib.Core.Path.{◌≡◌, refl, sym, ap, ◌∙◌}
use mathlib.Core.Bool.{Bool, true, false, cond, false≢true}
use mathlib.Core.List.{List, ◌++◌, ◌∷◌, []}
use native.Mathlib.Omega.{arith}
use lib.Dec.{eqb}
use lib.ListN.{length, take, get_or}
use borrow.Author.Tests.{lt-leb}
use Rattle.refusal.proofs.Order.{need_all, first_all}
use Rattle.circuit.specs.Circuit.{prime_of, coin_count}
use Rattle.circuit.specs.Legal.{all_below, lists_cause}
use Rattle.circuit.proofs.Loading.{lists_at_most}
use Rattle.walk.specs.Session.{Answer, accepted, going_on, refused, Record, ended, step_final, step_last, step_judge, step_open, step}
use Rattle.protocol.specs.Rounds.{Place, is_line}
use Rattle.protocol.specs.Judge.{message_length, compared, judge, descent, input_agrees}
use Rattle.protocol.specs.Session.{record_fits, step_cause, ends, record_left, step_after, step_answer}
use Rattle.protocol.specs.Theorems.{RefusalKeeps}

-- a message's refusal ends the record, one before it does not
judge_ends : (c : List ℕ) (r : Place) (past : List ℕ) (claim : ℕ) (m : List ℕ) → 0 < judge c r past claim m → ends (judge c r past claim m) ≡ true
unfolding judge
judge_ends c r past claim m =
    let Ends : ℕ → Type 0 = λ n. 0 < n → ends n ≡ true in
    need_all Ends (eqb (length m) (message_length c r)) (λ l. refl)
    (need_all Ends (all_below (prime_of c) m) (λ l. refl)
    (need_all Ends (eqb (compared c (is_line c r) r past m) claim) (differs (is_line c r)) (λ l. absurd (omega (arith, l)))))
  where
    differs : (b : Bool) → 0 < cond b 17 16 → ends (cond b 17 16) ≡ true
    differs true l = refl
    differs false l = refl

low_leaves : (n : ℕ) → n ≤ 9 → ends n ≡ false
low_leaves n l = rw (lt-leb 14 n (omega (arith, l))) refl

before_leaves : (c input cs : List ℕ) (s : Record Place) → ends (step_cause c input cs s) ≡ false
unfolding step_cause
before_leaves c input cs s =
    let Leaves : ℕ → Type 0 = λ n. ends n ≡ false in
    first_all Leaves (lists_cause c input) (low_leaves (lists_cause c input) (lists_at_most c input))
    (need_all Leaves (eqb (length cs) (coin_count c)) refl
    (need_all Leaves (all_below (prime_of c) cs) refl
    (need_all Leaves (record_fits c s) refl refl)))

module _ (c input : List ℕ) (s : Record Place) (m : List ℕ) where
  -- where an answer refuses, its cause has a number above 0 and the record is what the cause leaves
  pub record Refuses (cause : ℕ) (after : Record Place) : Type 0 where
    pub numbered : 0 < cause
    pub left : after ≡ record_left cause s

  abbrev Keeps : Answer × Record Place → Type 0
  Keeps x = (cause : ℕ) → x.0 ≡ refused cause → Refuses cause x.1

  abbrev cause_in : Answer → ℕ
  cause_in accepted = 0
  cause_in (going_on t) = 0
  cause_in (refused cause) = cause

  abbrev is_refused : Answer → Bool
  is_refused accepted = false
  is_refused (going_on t) = false
  is_refused (refused cause) = true

  by_cause : (n : ℕ) (after : Record Place) → after ≡ record_left (suc n) s → Keeps (refused (suc n), after)
  by_cause n after e cause q =
      let same : suc n ≡ cause = ap cause_in q in
      record { numbered = omega (arith, same); left = e ∙ ap (λ (k : ℕ). record_left k s) same }

  final_keeps : (b : Bool) → Keeps (step_final b s)
  final_keeps true cause q = absurd (false≢true (ap is_refused q))
  final_keeps false cause q = by_cause 17 (ended s) refl cause q

  last_keeps : (b : Bool) (past : List ℕ) (t : ℕ) → Keeps (step_last (descent c) (input_agrees c input) b past t s m)
  last_keeps true past t cause q = final_keeps (input_agrees c input (past ++ (t ∷ [])) ((descent c).next m t)) cause q
  last_keeps false past t cause q = absurd (false≢true (ap is_refused q))

  judge_keeps : (n : ℕ) (past : List ℕ) (t : ℕ) → (0 < n → ends n ≡ true) → Keeps (step_judge (descent c) (input_agrees c input) n past t s m)
  judge_keeps zero past t h = last_keeps ((descent c).last s.round) past t
  judge_keeps (suc n) past t h = by_cause n (ended s) (ap (λ (b : Bool). cond b (ended s) s) (sym (h (omega arith))))

  open_keeps : (b : Bool) (past : List ℕ) (t : ℕ) → Keeps (step_open (descent c) (input_agrees c input) b past t s m)
  unfolding descent
  open_keeps true past t = judge_keeps (judge c s.round past s.claim m) past t (judge_ends c s.round past s.claim m)
  open_keeps false past t = by_cause 18 s refl

  pub refused_step : (cs : List ℕ) → Keeps (step_answer c input cs s m)
  unfolding step_answer step
  refused_step cs = go (step_cause c input cs s) (before_leaves c input cs s)
    where
      go : (n : ℕ) → ends n ≡ false → Keeps (step_after n c input cs s m)
      go zero e = open_keeps s.opened (take ((descent c).before s.round) cs) (get_or cs ((descent c).before s.round) 0)
      go (suc n) e = by_cause n s (ap (λ (b : Bool). cond b (ended s) s) (sym e))

-- a record that is not open stays
pub closed_stays : (c input cs : List ℕ) (s : Record Place) (m : List ℕ) → s.opened ≡ false → (step_answer c input cs s m).1 ≡ s
unfolding step_answer step
closed_stays c input cs s m e = go (step_cause c input cs s)
  where
    go : (n : ℕ) → (step_after n c input cs s m).1 ≡ s
    go zero =
        let n : ℕ = (descent c).before s.round in
        ap (λ (b : Bool). (step_open (descent c) (input_agrees c input) b (take n cs) (get_or cs n 0) s m).1) e
    go (suc n) = refl

pub refusal_keeps : RefusalKeeps
refusal_keeps c input cs s m cause e = (refused_step c input s m cs cause e).left
