-- Losses over rounds. Of the values of the first coin at most d are lucky and take all the lists that follow; each of the others, at least
-- p - d, leaves its share of luckless lists unpassed. The sum of the losses bounds what that leaves.
-- Assumes nothing.
use Prim.Native.Nat.{ℕ, ◌+◌, ◌-◌, ◌*◌, ◌^◌, ◌≤◌, ◌<◌, zero-le}
use mathlib.Core.Path.{◌≡◌, refl, sym, ap, ◌∙◌}
use mathlib.Core.Bool.{Bool, true, false, not}
use mathlib.Core.List.{List, [], ◌∷◌, map}
use native.Mathlib.Nat.{le_refl, le_trans, le_of_eq, add-zero, one-mul, zero-mul, pow-zero, pow-succ'}
use native.Mathlib.Nat.{mul-zero, mul-le-mul, mul-le-mul_left, mul-le-mul_right, mul_left_comm, sub-le, suc-sub-suc, sub-zero}
use native.Mathlib.Omega.{arith}
use lib.ListN.{length}
use Rattle.lists.specs.Count.{sum, one_if, count, range}
use Rattle.lists.proofs.Count.{sum_nil, sum_cons, sum_le, sum_add, sum_scale, sum_const, count_sum, count_none, count_not, length_range, all_range}
use Rattle.counting.specs.Coins.{passing}
use Rattle.counting.specs.Doomed.{Doomed, Fails, luckless}
use Rattle.counting.specs.Theorems.{LossesAdd, LossesMultiply, Stages}
use Rattle.counting.proofs.Coins.{split_at_first, split_none, at_most_all}

-- HOW A TEST IS SHOWN TO BE DOOMED
-- no round left
pub doomed_end : (p : ℕ) (After : (List ℕ → Bool) → Type 0) (test : List ℕ → Bool) → After test → Doomed p [] After test
unfolding Doomed
doomed_end p After test h = h

-- one coin, with or without a message before it
pub doomed_coin : (p d : ℕ) (losses : List ℕ) (After : (List ℕ → Bool) → Type 0) (test : List ℕ → Bool) (lucky : ℕ → Bool)
    → count lucky (range p) ≤ d → ((c : ℕ) → c < p → lucky c ≡ false → Doomed p losses After (λ cs. test (c ∷ cs)))
    → Doomed p (d ∷ losses) After test
unfolding Doomed
doomed_coin p d losses After test lucky few h = (lucky, few, h)

-- one stage after another
pub doomed_then : Stages
unfolding Doomed
doomed_then p [] es Between After test q k = k test q
doomed_then p (d ∷ ds) es Between After test q k =
    (q.0, q.1, λ c l e. doomed_then p ds es Between After (λ cs. test (c ∷ cs)) (q.2 c l e) k)

-- what is refused already stays refused
pub doomed_refused : (p : ℕ) (losses : List ℕ) (test : List ℕ → Bool) → ((cs : List ℕ) → test cs ≡ false) → Doomed p losses Fails test
unfolding Doomed
doomed_refused p [] test h = h []
doomed_refused p (d ∷ losses) test h =
    (λ c. false, le_trans (le_of_eq (count_none (range p))) zero-le, λ c l e. doomed_refused p losses (λ cs. test (c ∷ cs)) (λ cs. h (c ∷ cs)))

-- THE BOUND
module _ (p : ℕ) where
  luckless_le : (losses : List ℕ) → luckless p losses ≤ p ^ length losses
  unfolding luckless
  luckless_le [] = le_of_eq (sym (pow-zero p))
  luckless_le (d ∷ losses) = rw pow-succ' (mul-le-mul (sub-le p d) (luckless_le losses))

  -- a first coin: lucky, and all may pass; or not, and the luckless lists do not
  by_luck : (b : Bool) (x s a : ℕ) → x ≤ a → (b ≡ false → x + s ≤ a) → x + one_if (not b) * s ≤ a
  by_luck true x s a h k = rw (zero-mul, add-zero) h
  by_luck false x s a h k = rw one-mul (k refl)

  -- s luckless lists behind each value that is not lucky
  tally : (s a d : ℕ) (lucky : ℕ → Bool) (share : ℕ → ℕ) → count lucky (range p) ≤ d
      → ((c : ℕ) → c < p → share c + one_if (not (lucky c)) * s ≤ a) → sum (map share (range p)) + (p - d) * s ≤ p * a
  tally s a d lucky share few each =
      let others : count (λ c. not (lucky c)) (range p) + count lucky (range p) ≡ p = count_not lucky (range p) ∙ length_range p in
      let enough : (p - d) * s ≤ count (λ c. not (lucky c)) (range p) * s = mul-le-mul_right s (omega arith) in
      let missed : sum (map (λ c. one_if (not (lucky c)) * s) (range p)) ≡ count (λ c. not (lucky c)) (range p) * s =
      sum_scale s (λ c. one_if (not (lucky c))) (range p) ∙ ap (λ (k : ℕ). k * s) (sym (count_sum (λ c. not (lucky c)) (range p))) in
      let both = sum_add share (λ c. one_if (not (lucky c)) * s) (range p) in
      let all = sum_le (λ c. c < p) (λ c. share c + one_if (not (lucky c)) * s) (λ c. a) each (range p) (all_range p) in
      let whole : sum (map (λ c. a) (range p)) ≡ p * a = sum_const a (range p) ∙ ap (λ (k : ℕ). k * a) (length_range p) in
      omega arith

  -- a factor p moves into the power; at the empty list both sides are 0
  shift : (losses : List ℕ) → p * (sum losses * p ^ (length losses - 1)) ≡ sum losses * p ^ length losses
  shift [] = rw (sum_nil, zero-mul) (mul-zero p)
  shift (d ∷ losses) = rw (suc-sub-suc, sub-zero, pow-succ') (mul_left_comm p (sum (d ∷ losses)) (p ^ length losses))

  -- the sum of the losses leaves no less than the luckless lists
  sum_bound : (losses : List ℕ) → p ^ length losses ≤ luckless p losses + sum losses * p ^ (length losses - 1)
  unfolding luckless
  sum_bound [] = rw pow-zero (omega arith)
  sum_bound (d ∷ losses) =
      let n : ℕ = length losses in
      let s : ℕ = luckless p losses in
      let ih : p * p ^ n ≤ p * (s + sum losses * p ^ (n - 1)) = mul-le-mul_left p (sum_bound losses) in
      let part : p * s ≤ (p - d + d) * s = mul-le-mul_right s (omega arith) in
      let lost : d * s ≤ d * p ^ n = mul-le-mul_left d (luckless_le losses) in
      rw (pow-succ', suc-sub-suc, sub-zero, sum_cons) (omega (arith, ih, part, lost, shift losses))

pub losses_multiply : LossesMultiply
unfolding Doomed luckless
losses_multiply p [] test q = rw (split_none p test, q, pow-zero) (le_refl 1)
losses_multiply p (d ∷ losses) test q =
    rw (split_at_first p (length losses) test, pow-succ')
    (tally p (luckless p losses) (p ^ length losses) d q.0 (λ c. passing p (length losses) (λ cs. test (c ∷ cs))) q.1
    (λ c l. by_luck p (q.0 c) (passing p (length losses) (λ cs. test (c ∷ cs))) (luckless p losses) (p ^ length losses)
    (at_most_all p (length losses) (λ cs. test (c ∷ cs)))
    (λ e. losses_multiply p losses (λ cs. test (c ∷ cs)) (q.2 c l e))))

pub losses_add : LossesAdd
losses_add p losses test q = omega (arith, losses_multiply p losses test q, sum_bound p losses)
