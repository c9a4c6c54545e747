-- 11 and 12: what no refusal says, and what is tried after them; and the same of 1 to 9, 11 and 12.
-- Assumes nothing.
use Prim.Native.Nat.{ℕ}
use mathlib.Core.Path.{◌≡◌, refl, ap, ◌∙◌}
use mathlib.Core.List.{List}
use lib.Dec.{eqb}
use lib.ListN.{length}
use borrow.Author.Tests.{eq-eqb, eqb-true}
use Rattle.counting.specs.Coins.{CoinList}
use Rattle.refusal.specs.Order.{need, first}
use Rattle.refusal.proofs.Order.{need_none, need_more, first_more}
use Rattle.circuit.specs.Circuit.{prime_of, coin_count}
use Rattle.circuit.specs.Legal.{all_below, lists_cause}
use Rattle.circuit.specs.Sized.{LegalCircuit}
use Rattle.circuit.proofs.Layers.{all_below_lem, below_all}
use Rattle.circuit.proofs.Loading.{legal_lists}
use Rattle.protocol.specs.Check.{need_coins, Counted}

module _ (c cs : List ℕ) (rest : ℕ) where
  -- the coins of a coin list are not refused, and no others are let through
  pub coins_taken : CoinList (prime_of c) (coin_count c) cs → need_coins c cs rest ≡ rest
  coins_taken v = rw (eq-eqb (length cs) (coin_count c) v.0, below_all (prime_of c) cs v.1) refl

  pub coin_list : need_coins c cs rest ≡ 0 → CoinList (prime_of c) (coin_count c) cs
  coin_list e =
      let number = need_none (eqb (length cs) (coin_count c)) 10 _ e in
      let small = need_none (all_below (prime_of c) cs) 11 _ number.1 in
      (eqb-true (length cs) (coin_count c) number.0, all_below_lem (prime_of c) cs small.0)

  -- the rest is tried after them
  pub coins_more : first (need_coins c cs 0) rest ≡ need_coins c cs rest
  coins_more =
      let number = eqb (length cs) (coin_count c) in
      let small = all_below (prime_of c) cs in
      need_more number 10 (need small 12 0) rest ∙ ap (need number 11) (need_more small 11 0 rest)

-- 1 to 9, 11 and 12, with which an operation on a coin list begins: the rest is tried after them
pub by_rest : (c input cs : List ℕ) (rest : ℕ)
    → first (first (lists_cause c input) (need_coins c cs 0)) rest ≡ first (lists_cause c input) (need_coins c cs rest)
by_rest c input cs rest = first_more (lists_cause c input) (need_coins c cs 0) rest ∙ ap (first (lists_cause c input)) (coins_more c cs rest)

-- what none of them says
pub its_circuit : {c input cs : List ℕ} → Counted c input cs → LegalCircuit c
its_circuit {c} {input} h = (legal_lists c input h.lists).circuit
