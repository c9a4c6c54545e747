-- The list of all coin lists, and the laws of counting over it.
-- Assumes nothing.
use Prim.Native.Nat.{ℕ, zero, suc, ◌+◌, ◌*◌, ◌^◌, ◌≤◌, ◌<◌, zero-le}
use mathlib.Core.Path.{◌≡◌, refl, sym, ap, ap₂, ◌∙◌}
use mathlib.Core.Bool.{Bool, true, false, ◌&&◌}
use mathlib.Core.List.{List, [], ◌∷◌, ◌++◌, map}
use native.Mathlib.Nat.{le_trans, le_of_eq, pow-zero, pow-succ', suc_inj, zero-add, suc-add, add-zero, one-mul}
use native.Mathlib.Omega.{arith}
use lib.Dec.{eqb}
use borrow.Author.Tests.{eq-eqb}
use Rattle.lists.specs.Each.{All}
use Rattle.lists.specs.Count.{sum, one_if, count, range}
use Rattle.lists.proofs.Each.{all_weaken, all_map, all_flat_map}
use Rattle.lists.proofs.Map.{map_map}
use Rattle.lists.proofs.Count.{sum_nil, sum_cons, count_nil, count_cons, sum_same, sum_le, sum_scale, sum_const, sum_flat_map, count_sum}
use Rattle.lists.proofs.Count.{count_map, count_flat_map, count_same, count_le, count_or, count_none, count_every, count_below, length_range, all_range}
use Rattle.counting.specs.Coins.{CoinList, coin_lists, passing, same}
use Rattle.counting.specs.Theorems.{OnlyCoinLists, EachOnce, Total, SplitAtFirst, SplitAfter, Monotone, Union, EveryOne, Blocks}

pub coin_cons : (p n c : ℕ) (cs : List ℕ) → c < p → CoinList p n cs → CoinList p (suc n) (c ∷ cs)
coin_cons p n c cs l h = (ap suc h.0, (l, h.1))

-- THE LIST OF ALL COIN LISTS
pub only_coin_lists : OnlyCoinLists
unfolding coin_lists
only_coin_lists p zero = ((refl, tt), tt)
only_coin_lists p (suc n) =
    all_flat_map (CoinList p (suc n)) (λ c. map (λ cs. c ∷ cs) (coin_lists p n)) (range p)
    (all_weaken (range p) (with_first (only_coin_lists p n)) (all_range p))
  where
    with_first : All (CoinList p n) (coin_lists p n) → (c : ℕ) → c < p → All (CoinList p (suc n)) (map (λ cs. c ∷ cs) (coin_lists p n))
    with_first h c l = all_map (CoinList p (suc n)) (λ cs. c ∷ cs) (coin_lists p n) (all_weaken (coin_lists p n) (λ cs q. coin_cons p n c cs l q) h)

pub split_at_first : SplitAtFirst
unfolding coin_lists
split_at_first p n test =
    count_flat_map (λ c. map (λ cs. c ∷ cs) (coin_lists p n)) test (range p)
    ∙ sum_same (λ c. c < p) (λ c. count test (map (λ cs. c ∷ cs) (coin_lists p n))) (λ c. passing p n (λ cs. test (c ∷ cs)))
    (λ c l. count_map (λ cs. c ∷ cs) test (coin_lists p n)) (range p) (all_range p)

pub split_none : (p : ℕ) (test : List ℕ → Bool) → passing p 0 test ≡ one_if (test [])
unfolding coin_lists
split_none p test = count_cons test [] [] ∙ ap (λ (k : ℕ). one_if (test []) + k) (count_nil test) ∙ add-zero (one_if (test []))

pub split_after : SplitAfter
unfolding coin_lists
split_after p zero n test = rw zero-add (sym (sum_cons (passing p n test) [] ∙ ap (λ (k : ℕ). passing p n test + k) sum_nil ∙ add-zero (passing p n test)))
split_after p (suc m) n test =
    rw suc-add
    (split_at_first p (m + n) test
    ∙ sum_same (λ c. c < p) (λ c. passing p (m + n) (λ cs. test (c ∷ cs))) (λ c. sum (map (after c) (coin_lists p m)))
    (λ c l. split_after p m n (λ cs. test (c ∷ cs))) (range p) (all_range p)
    ∙ sum_same (λ c. c < p) (λ c. sum (map (after c) (coin_lists p m))) (λ c. sum (map whole (map (λ us. c ∷ us) (coin_lists p m))))
    (λ c l. ap sum (sym (map_map (λ us. c ∷ us) whole (coin_lists p m)))) (range p) (all_range p)
    ∙ sym (sum_flat_map (λ c. map (λ us. c ∷ us) (coin_lists p m)) whole (range p)))
  where
    whole : List ℕ → ℕ
    whole us = passing p n (λ vs. test (us ++ vs))

    after : ℕ → List ℕ → ℕ
    after c us = passing p n (λ vs. test (c ∷ us ++ vs))

-- the lists that begin with c and go on as cs
begins : (p n : ℕ) (c : ℕ) (cs : List ℕ) (d : ℕ) → passing p n (same cs) ≡ 1 → passing p n (λ ds. same (c ∷ cs) (d ∷ ds)) ≡ one_if (eqb c d)
unfolding same
begins p n c cs d h = go (eqb c d)
  where
    go : (b : Bool) → count (λ ds. b && same cs ds) (coin_lists p n) ≡ one_if b
    go true = h
    go false = count_none (coin_lists p n)

pub same_refl : (cs : List ℕ) → same cs cs ≡ true
unfolding same
same_refl [] = refl
same_refl (c ∷ cs) = ap₂ (λ (a b : Bool). a && b) (eq-eqb c c refl) (same_refl cs)

pub each_once : EachOnce
unfolding same
each_once p zero [] h = split_none p (same [])
each_once p zero (c ∷ cs) h = absurd (omega arith)
each_once p (suc n) [] h = absurd (omega arith)
each_once p (suc n) (c ∷ cs) h =
    split_at_first p n (same (c ∷ cs))
    ∙ sum_same (λ d. d < p) (λ d. passing p n (λ ds. same (c ∷ cs) (d ∷ ds))) (λ d. one_if (eqb c d))
    (λ d l. begins p n c cs d (each_once p n cs (suc_inj h.0, h.1.1))) (range p) (all_range p)
    ∙ sym (count_sum (eqb c) (range p)) ∙ count_below c p h.1.0

-- COUNTING
every_list : (p n : ℕ) → passing p n (λ cs. true) ≡ p ^ n
every_list p zero = split_none p (λ cs. true) ∙ sym (pow-zero p)
every_list p (suc n) =
    split_at_first p n (λ cs. true)
    ∙ sum_same (λ c. c < p) (λ c. passing p n (λ cs. true)) (λ c. p ^ n) (λ c l. every_list p n) (range p) (all_range p)
    ∙ sum_const (p ^ n) (range p) ∙ ap (λ (k : ℕ). k * p ^ n) (length_range p) ∙ sym (pow-succ' p n)

pub total : Total
total p n = sym (count_every (coin_lists p n)) ∙ every_list p n

pub monotone : Monotone
monotone p n f g h = count_le (CoinList p n) f g h (coin_lists p n) (only_coin_lists p n)

pub agree : (p n : ℕ) (f g : List ℕ → Bool) → ((cs : List ℕ) → CoinList p n cs → f cs ≡ g cs) → passing p n f ≡ passing p n g
agree p n f g h = count_same (CoinList p n) f g h (coin_lists p n) (only_coin_lists p n)

pub union : Union
union p n f g = count_or f g (coin_lists p n)

pub every_one : EveryOne
every_one p n f h = agree p n f (λ cs. true) h ∙ every_list p n

pub at_most_all : (p n : ℕ) (f : List ℕ → Bool) → passing p n f ≤ p ^ n
at_most_all p n f = le_trans (monotone p n f (λ cs. true) (λ cs l e. refl)) (le_of_eq (every_list p n))

pub blocks : Blocks
blocks p m n b first test passed few =
    le_trans (le_of_eq (split_after p m n test))
    (le_trans (sum_le (CoinList p m) rest (λ us. one_if (first us) * b) (λ us h. each us h (first us) refl) (coin_lists p m) (only_coin_lists p m))
    (le_of_eq (sum_scale b (λ us. one_if (first us)) (coin_lists p m) ∙ ap (λ (k : ℕ). k * b) (sym (count_sum first (coin_lists p m))))))
  where
    rest : List ℕ → ℕ
    rest us = passing p n (λ vs. test (us ++ vs))

    refused : (us vs : List ℕ) → CoinList p m us → CoinList p n vs → first us ≡ false → test (us ++ vs) ≡ true → false ≡ true
    refused us vs h k e t = sym e ∙ passed us vs h k t

    each : (us : List ℕ) → CoinList p m us → (t : Bool) → first us ≡ t → rest us ≤ one_if t * b
    each us h true e = le_trans (few us h e) (le_of_eq (sym (one-mul b)))
    each us h false e =
        le_trans (monotone p n (λ vs. test (us ++ vs)) (λ vs. false) (λ vs k t. refused us vs h k e t))
        (le_trans (le_of_eq (count_none (coin_lists p n))) zero-le)
