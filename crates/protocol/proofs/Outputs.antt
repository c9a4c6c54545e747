-- 21 and 13: what no refusal says, and what is tried after them; and the start of a walk from a false list. Two lists that differ have different
-- extensions at the point of the coins before any message, but for at most one value of each of these coins.
-- Assumes nothing.
use Prim.Native.Nat.{ℕ, zero, suc, ◌^◌}
use mathlib.Core.Path.{◌≡◌, refl, sym, ap, ◌∙◌}
use mathlib.Core.Logic.{◌⊎◌, inl, inr}
use mathlib.Core.Bool.{Bool, true, false}
use mathlib.Core.List.{List, [], ◌∷◌, ◌++◌}
use native.Mathlib.Omega.{arith}
use lib.Dec.{eqb}
use lib.ListN.{length, replicate}
use borrow.Author.Tests.{eq-eqb, eqb-true}
use Rattle.primes.specs.Prime.{Prime}
use Rattle.algebra.specs.Numbers.{words}
use Rattle.counting.specs.Coins.{CoinList}
use Rattle.counting.specs.Doomed.{Doomed, Fails}
use Rattle.counting.proofs.Coins.{coin_cons}
use Rattle.counting.proofs.Doomed.{doomed_coin}
use Rattle.multilinear.specs.Extension.{extension, fold}
use Rattle.multilinear.specs.Apart.{Apart}
use Rattle.multilinear.proofs.Apart.{stay_apart, apart_at_none, first_fixed_on_words}
use Rattle.refusal.specs.Order.{need, first}
use Rattle.refusal.proofs.Order.{need_none, need_more}
use Rattle.circuit.specs.Circuit.{prime_of, output_exponent}
use Rattle.circuit.specs.Legal.{all_below}
use Rattle.circuit.specs.Theorems.{OutputList}
use Rattle.circuit.proofs.Layers.{all_below_lem, below_all}
use Rattle.walk.specs.Game.{passes}
use Rattle.protocol.specs.Check.{need_outputs}

module _ (c ys : List ℕ) where
  -- 2^k_0 residues are not refused, and no others are let through
  pub outputs_taken : (rest : ℕ) → OutputList c ys → need_outputs c ys rest ≡ rest
  outputs_taken rest o = rw (eq-eqb (length ys) (2 ^ output_exponent c) o.size, below_all (prime_of c) ys o.residues) refl

  pub output_list : (rest : ℕ) → need_outputs c ys rest ≡ 0 → OutputList c ys × (rest ≡ 0)
  output_list rest e =
      let number = need_none (eqb (length ys) (2 ^ output_exponent c)) 20 _ e in
      let small = need_none (all_below (prime_of c) ys) 12 _ number.1 in
      (record { size = eqb-true (length ys) (2 ^ output_exponent c) number.0; residues = all_below_lem (prime_of c) ys small.0 }, small.1)

  -- the rest is tried after them
  pub outputs_more : (more rest : ℕ) → first (need_outputs c ys more) rest ≡ need_outputs c ys (first more rest)
  outputs_more more rest =
      let number = eqb (length ys) (2 ^ output_exponent c) in
      let small = all_below (prime_of c) ys in
      need_more number 20 (need small 13 more) rest ∙ ap (need number 21) (need_more small 12 more rest)

  -- any other list is refused, whatever comes after
  abbrev pub Unfit : Type 0
  Unfit = (rest : ℕ) → passes (need_outputs c ys rest) ≡ false

  pub outputs_decided : OutputList c ys ⊎ Unfit
  outputs_decided = go (eqb (length ys) (2 ^ output_exponent c)) (all_below (prime_of c) ys) refl refl
    where
      go : (number small : Bool) → eqb (length ys) (2 ^ output_exponent c) ≡ number → all_below (prime_of c) ys ≡ small → OutputList c ys ⊎ Unfit
      go true true e f = inl (record { size = eqb-true (length ys) (2 ^ output_exponent c) e; residues = all_below_lem (prime_of c) ys f })
      go true false e f = inr (λ rest. rw (e, f) refl)
      go false small e f = inr (λ rest. rw e refl)

-- COINS BEFORE ANY MESSAGE: what is doomed where the two extensions differ is doomed before these coins too, and each of them loses one
pub first_coins : (p : ℕ) → Prime p → (k : ℕ) (vs ws losses : List ℕ) (test : List ℕ → Bool) → Apart p k vs ws
    → ((us : List ℕ) → CoinList p k us → ¬ (extension (words p) vs us ≡ extension (words p) ws us) → Doomed p losses Fails (λ cs. test (us ++ cs)))
    → Doomed p (replicate k 1 ++ losses) Fails test
first_coins p prime zero vs ws losses test t then = then [] (refl, tt) (apart_at_none p vs ws t)
first_coins p prime (suc k) vs ws losses test t then =
    let w = stay_apart p prime k vs ws t in
    let two = prime.two_le in
    let fixed : (c : ℕ) (us xs : List ℕ) → length us ≡ k → length xs ≡ 2 ^ suc k → extension (words p) xs (c ∷ us) ≡ extension (words p) (fold (words p) c xs) us =
    λ c us xs n e. first_fixed_on_words p (omega arith) xs c us (e ∙ ap (λ (m : ℕ). 2 ^ suc m) (sym n)) in
    doomed_coin p 1 (replicate k 1 ++ losses) Fails test w.0 w.1
    (λ c l u. first_coins p prime k (fold (words p) c vs) (fold (words p) c ws) losses (λ cs. test (c ∷ cs)) (w.2 c u)
    (λ us v differ. then (c ∷ us) (coin_cons p k c us l v)
    (λ q. differ (sym (fixed c us vs v.0 t.long) ∙ q ∙ fixed c us ws v.0 t.long'))))
