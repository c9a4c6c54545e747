-- What this crate proves.
-- Assumes nothing.
use Rattle.std.specs.Prelude.{ℕ, suc, ◌+◌, ◌-◌, ◌*◌, ◌^◌, ◌≤◌, ◌≡◌, Bool, true, ◌||◌, List, ◌∷◌, ◌++◌, map, length}
use Rattle.lists.specs.Each.{All}
use Rattle.lists.specs.Count.{sum, count, range}
use Rattle.counting.specs.Coins.{CoinList, coin_lists, passing, same}
use Rattle.counting.specs.Doomed.{Doomed, Fails, luckless}
use Rattle.counting.specs.Process.{Move, run, Keeps}

-- THE LIST OF ALL COIN LISTS: it has nothing else, each of them once, p^n in all
abbrev pub OnlyCoinLists : Type 0
OnlyCoinLists = (p n : ℕ) → All (CoinList p n) (coin_lists p n)

abbrev pub EachOnce : Type 0
EachOnce = (p n : ℕ) (cs : List ℕ) → CoinList p n cs → count (same cs) (coin_lists p n) ≡ 1

abbrev pub Total : Type 0
Total = (p n : ℕ) → length (coin_lists p n) ≡ p ^ n

-- COUNTING
abbrev pub SplitAtFirst : Type 0
SplitAtFirst =
    (p n : ℕ) (test : List ℕ → Bool)
    → passing p (suc n) test ≡ sum (map (λ c. passing p n (λ cs. test (c ∷ cs))) (range p))

abbrev pub SplitAfter : Type 0
SplitAfter =
    (p m n : ℕ) (test : List ℕ → Bool)
    → passing p (m + n) test ≡ sum (map (λ us. passing p n (λ vs. test (us ++ vs))) (coin_lists p m))

abbrev pub Monotone : Type 0
Monotone =
    (p n : ℕ) (f g : List ℕ → Bool) → ((cs : List ℕ) → CoinList p n cs → f cs ≡ true → g cs ≡ true) → passing p n f ≤ passing p n g

abbrev pub Union : Type 0
Union = (p n : ℕ) (f g : List ℕ → Bool) → passing p n (λ cs. f cs || g cs) ≤ passing p n f + passing p n g

abbrev pub EveryOne : Type 0
EveryOne = (p n : ℕ) (f : List ℕ → Bool) → ((cs : List ℕ) → CoinList p n cs → f cs ≡ true) → passing p n f ≡ p ^ n

-- one block of coins after another: what passes has passed `first` on its first m coins, and whatever those were, at most b of the lists of the
-- next n coins pass
abbrev pub Blocks : Type 0
Blocks =
    (p m n b : ℕ) (first test : List ℕ → Bool)
    → ((us vs : List ℕ) → CoinList p m us → CoinList p n vs → test (us ++ vs) ≡ true → first us ≡ true)
    → ((us : List ℕ) → CoinList p m us → first us ≡ true → passing p n (λ vs. test (us ++ vs)) ≤ b)
    → passing p (m + n) test ≤ passing p m first * b

-- SOUNDNESS: losses over rounds add up
abbrev pub LossesAdd : Type 0
LossesAdd =
    (p : ℕ) (losses : List ℕ) (test : List ℕ → Bool) → Doomed p losses Fails test
    → passing p (length losses) test ≤ sum losses * p ^ (length losses - 1)

-- and the sharp form: what passes met a lucky value
abbrev pub LossesMultiply : Type 0
LossesMultiply =
    (p : ℕ) (losses : List ℕ) (test : List ℕ → Bool) → Doomed p losses Fails test
    → passing p (length losses) test + luckless p losses ≤ p ^ length losses

-- stages follow one another, with their losses listed
abbrev pub Stages : Type 1
Stages =
    (p : ℕ) (ds es : List ℕ) (Between After : (List ℕ → Bool) → Type 0) (test : List ℕ → Bool)
    → Doomed p ds Between test → ((rest : List ℕ → Bool) → Between rest → Doomed p es After rest) → Doomed p (ds ++ es) After test

-- a process whose moves keep a bad state bad is doomed from one, however many silent moves it makes
abbrev pub SilentMoves : Type 1
SilentMoves =
    (X : Type 0) (move : X → Move X) (p : ℕ) (Bad : List ℕ → X → Type 0)
    → ((losses : List ℕ) (x : X) → Bad losses x → Keeps p Bad losses (move x))
    → (n : ℕ) (losses : List ℕ) (x : X) → Bad losses x → Doomed p losses Fails (run move n x)

-- all that this crate states; `proved` in `proofs/Proved` inhabits it
pub record Theorems : Type 1 where
  pub only_coin_lists : OnlyCoinLists
  pub each_once : EachOnce
  pub total : Total
  pub split_at_first : SplitAtFirst
  pub split_after : SplitAfter
  pub monotone : Monotone
  pub union : Union
  pub every_one : EveryOne
  pub blocks : Blocks
  pub losses_add : LossesAdd
  pub losses_multiply : LossesMultiply
  pub stages : Stages
  pub silent_moves : SilentMoves
