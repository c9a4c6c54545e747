-- With k_0 = 0 the list of outputs is one word, whose extension at the empty point it is; a list of other words has another length or another word.
-- Assumes nothing.
use Prim.Native.Nat.{ℕ, zero, suc, ◌+◌, ◌-◌, ◌*◌, ◌^◌, ◌≤◌}
use mathlib.Core.Path.{◌≡◌, refl, ap, ap₂, ◌∙◌, subst}
use mathlib.Core.Bool.{Bool, true, false}
use mathlib.Core.List.{List, [], ◌∷◌, ◌++◌}
use lib.Dec.{eqb, ltb}
use lib.ListN.{length, take, drop, get_or, replicate}
use borrow.Author.Tests.{ltb-true, lt-ltb}
use native.Mathlib.Nat.{le_trans, le_of_eq, zero-add}
use native.Mathlib.Omega.{arith}
use Rattle.counting.specs.Coins.{passing}
use Rattle.counting.specs.Doomed.{luckless}
use Rattle.multilinear.proofs.Words.{one_word}
use Rattle.refusal.specs.Order.{need, first}
use Rattle.circuit.specs.Circuit.{prime_of, output_exponent, coin_count, message_words, exponent_sum}
use Rattle.circuit.specs.Legal.{all_below, lists_cause}
use Rattle.circuit.specs.Values.{outputs, value}
use Rattle.circuit.proofs.Layers.{one_output}
use Rattle.walk.specs.Game.{walk}
use Rattle.walk.specs.Session.{Record, at}
use Rattle.protocol.specs.Start.{first_point, claim_at, first_claim}
use Rattle.protocol.specs.Rounds.{Place, place, rounds}
use Rattle.protocol.specs.Judge.{descent, input_agrees}
use Rattle.protocol.specs.Check.{need_outputs, need_coins, walk_from, check_answer}
use Rattle.protocol.specs.Session.{open_cause, opened_by, open_answer}
use Rattle.protocol.specs.Prove.{honest}
use Rattle.protocol.specs.Shares.{PassesAll, message_losses}
use Rattle.protocol.specs.Accept.{Acceptance, whole_accepts, session_accepts}
use Rattle.protocol.specs.Theorems.{Complete, Sound, Sharp}
use Rattle.protocol.specs.One.{OneStart, OneCheck, OneOpen, OneComplete, OneSound, OneSharp, WithOneOutput}
use Rattle.protocol.proofs.Theorems.{whole_complete, whole_sound, whole_sharp, session_complete, session_sound, session_sharp}

module _ (c : List ℕ) (one : output_exponent c ≡ 0) where
  no_point : (cs : List ℕ) → first_point c cs ≡ []
  no_point cs = ap (λ (k : ℕ). take k cs) one

  claim_is : (cs : List ℕ) (y : ℕ) → ltb y (prime_of c) ≡ true → first_claim c (y ∷ []) cs ≡ y
  unfolding claim_at
  claim_is cs y l = ap (claim_at c (y ∷ [])) (no_point cs) ∙ one_word (prime_of c) y (ltb-true y (prime_of c) l)

  -- one word is refused by 13 alone, and where it is not it is the first claim
  outputs_one : (y : ℕ) (cs : List ℕ) (rest : ℕ → ℕ)
      → need_outputs c (y ∷ []) (rest (first_claim c (y ∷ []) cs)) ≡ need (ltb y (prime_of c)) 13 (rest y)
  unfolding all_below
  outputs_one y cs rest =
      ap (λ (k : ℕ). need (eqb 1 (2 ^ k)) 21 (need (all_below (prime_of c) (y ∷ [])) 13 (rest (first_claim c (y ∷ []) cs)))) one
      ∙ go (ltb y (prime_of c)) refl
    where
      go : (b : Bool) → ltb y (prime_of c) ≡ b
          → need (all_below (prime_of c) (y ∷ [])) 13 (rest (first_claim c (y ∷ []) cs)) ≡ need (ltb y (prime_of c)) 13 (rest y)
      go true e = rw e (ap rest (claim_is cs y e))
      go false e = rw e refl

pub one_start : OneStart
unfolding coin_count
one_start c cs y one = record {
  point = no_point c one cs;
  later = ap (λ (k : ℕ). drop k cs) one;
  before = λ j. ap (λ (n : ℕ). take n cs) (omega (arith, one));
  count = omega (arith, one);
  claim = λ l. claim_is c one cs y (lt-ltb y (prime_of c) l);
}

pub one_check : OneCheck
unfolding check_answer
one_check c input cs ms y one =
    let after : ℕ → ℕ = λ claim. need_coins c cs (need (eqb (length ms) (message_words c)) 14 (walk_from c input claim cs ms)) in
    ap (first (lists_cause c input)) (outputs_one c one y cs after)
    ∙ ap₂ (λ (us vs : List ℕ).
    first (lists_cause c input) (need (ltb y (prime_of c)) 13 (need_coins c cs (need (eqb (length ms) (message_words c)) 14
    (walk (descent c) (input_agrees c input) (rounds c) us y ms vs)))))
    (no_point c one cs) (ap (λ (k : ℕ). drop k cs) one)

-- a refusal names no record
refusal_alone : (n m : ℕ) (us : List ℕ) (s r : Record Place) → opened_by (first n (suc m)) us s ≡ opened_by (first n (suc m)) us r
refusal_alone zero m us s r = refl
refusal_alone (suc n) m us s r = refl

pub one_open : OneOpen
unfolding open_answer open_cause
one_open c input cs y one =
    let lists : ℕ = lists_cause c input in
    ap₂ (λ (cause : ℕ) (us : List ℕ). opened_by (first lists cause) us (at (place 1 0) (first_claim c (y ∷ []) cs)))
    (outputs_one c one y cs (λ claim. need_coins c cs 0)) (no_point c one cs)
    ∙ go (ltb y (prime_of c)) refl
  where
    go : (b : Bool) → ltb y (prime_of c) ≡ b
        → opened_by (first (lists_cause c input) (need (ltb y (prime_of c)) 13 (need_coins c cs 0))) [] (at (place 1 0) (first_claim c (y ∷ []) cs))
        ≡ opened_by (first (lists_cause c input) (need (ltb y (prime_of c)) 13 (need_coins c cs 0))) [] (at (place 1 0) y)
    go true e =
        ap (λ (claim : ℕ). opened_by (first (lists_cause c input) (need (ltb y (prime_of c)) 13 (need_coins c cs 0))) [] (at (place 1 0) claim)) (claim_is c one cs y e)
    go false e = rw e (refusal_alone (lists_cause c input) 12 [] (at (place 1 0) (first_claim c (y ∷ []) cs)) (at (place 1 0) y))

-- THE SHARES
other : (c input : List ℕ) (y : ℕ) → ¬ (y ≡ value c input) → ¬ (y ∷ [] ≡ outputs c input)
other c input y ne q = ne (ap (λ (l : List ℕ). get_or l 0 0) q)

module _ (accepts : Acceptance) where
  pub of_complete : Complete accepts → OneComplete accepts
  of_complete all c input legal one =
      subst (λ (ys : List ℕ). PassesAll c (accepts c input ys (honest c input))) (one_output c input legal one) (all c input legal)

  pub of_sound : Sound accepts → OneSound accepts
  of_sound few c input legal one y ne rule fits =
      let test = accepts c input (y ∷ []) rule in
      let share : ℕ → ℕ = λ k. (k + 5 * exponent_sum c) * prime_of c ^ (coin_count c - 1) in
      le_trans (few c input legal (y ∷ []) (other c input y ne) rule fits)
      (le_of_eq (ap share one ∙ ap (λ (x : ℕ). x * prime_of c ^ (coin_count c - 1)) (zero-add (5 * exponent_sum c))))

  pub of_sharp : Sharp accepts → OneSharp accepts
  of_sharp few c input legal one y ne rule fits =
      subst (λ (k : ℕ). passing (prime_of c) (coin_count c) (accepts c input (y ∷ []) rule) + luckless (prime_of c) (replicate k 1 ++ message_losses c) ≤ prime_of c ^ coin_count c)
      one (few c input legal (y ∷ []) (other c input y ne) rule fits)

pub with_one_output : WithOneOutput
with_one_output = record {
  start = one_start;
  check = one_check;
  opening = one_open;
  whole_complete = of_complete whole_accepts whole_complete;
  session_complete = of_complete session_accepts session_complete;
  whole_sound = of_sound whole_accepts whole_sound;
  session_sound = of_sound session_accepts session_sound;
  whole_sharp = of_sharp whole_accepts whole_sharp;
  session_sharp = of_sharp session_accepts session_sharp;
}
